use Rattle.std.proofs.{Common.{ap, sym, ◌∙◌}, lemmas.Result.{on_ok_weaker, on_err_weaker}}
use Rattle.nfs_ranges.specs.{Intervals.with_range, Blocks.{flat, spliced}}
use Rattle.nfs_ranges.proofs.BlockLemmas.{blocks_are}
use Rattle.nfs_ranges.proofs.edits.Intervals.set.Goals as goal

pub edit_to_set-edit-requires-clause-blocks : goal.edit_to_set-edit-requires-clause-blocks
edit_to_set-edit-requires-clause-blocks c =
    rw c.deref.ensures.value (blocks_are c.self.inside.blocks.items c.args.self.now c.self.invariant c.self.view_is c.requires.canonical)

pub returns-clause-ok : goal.returns-clause-ok
returns-clause-ok c =
    on_ok_weaker c.carry_out.result (λ made.
    made
    ∙ ap (spliced c.edit_to_set-edit.result) (sym c.deref.ensures.value)
    ∙ c.edit_to_set-edit.ensures.spliced
    ∙ ap (λ bs. with_range (record { kind = c.args.kind; first = c.args.first; last = c.args.last }) (flat bs)) c.deref.ensures.value
    ∙ ap (with_range (record { kind = c.args.kind; first = c.args.first; last = c.args.last })) c.self.view_is) c.carry_out.ensures.ok

pub returns-clause-err : goal.returns-clause-err
returns-clause-err c = on_err_weaker c.carry_out.result (λ same. ap flat same ∙ c.self.view_is) c.carry_out.ensures.err
