use Rattle.std.proofs.Common.{◌∙◌, ◌+◌, ◌≤◌, sym, ap, subst, drop}
use Rattle.std.specs.Prelude.{find}
use Rattle.nfs_ranges.specs.{Clashes.hits, Blocks.flat}
use Rattle.nfs_ranges.proofs.{BlockLemmas.got_canonical, ClashLemmas.{find_front, find_behind, at_block, none_later}}
use Rattle.nfs_ranges.proofs.edits.first_in.Goals as goal

pub first_of_block-requires : goal.first_of_block-requires
first_of_block-requires c =
    (got_canonical c.args.blocks.now c.loop-b.b-index c.b-item.result c.requires c.loop-b-test.true c.b-item.is)

pub returns-in-Some : goal.returns-in-Some
returns-in-Some c =
    let h = hits c.args.kind c.args.first c.args.last in
    find_front h c.b-item.result (flat (drop (c.loop-b.b-index + 1) c.args.blocks.now)) c.in-Some.x
    (sym c.in-Some.is ∙ c.first_of_block.ensures)
    ∙ ap (find h) (sym (at_block c.args.blocks.now c.loop-b.b-index c.b-item.result c.loop-b-test.true c.b-item.is))
    ∙ c.loop-b.invariant

pub returns-then-last-last_end : goal.returns-then-last-last_end
returns-then-last-last_end c =
    let h = hits c.args.kind c.args.first c.args.last in
    sym (none_later c.args.kind c.args.first c.args.last c.args.blocks.now c.loop-b.b-index c.b-item.result c.requires c.loop-b-test.true c.b-item.is
    (subst (λ n. c.args.last ≤ n) c.last_end.ensures c.if-last-last_end.true) (sym c.in_default.is ∙ c.first_of_block.ensures))
    ∙ c.loop-b.invariant

pub loop-b-preserved : goal.loop-b-preserved
loop-b-preserved c =
    let h = hits c.args.kind c.args.first c.args.last in
    sym (ap (find h) (at_block c.args.blocks.now c.loop-b.b-index c.b-item.result c.loop-b-test.true c.b-item.is)
    ∙ find_behind h c.b-item.result (flat (drop (c.loop-b.b-index + 1) c.args.blocks.now))
    (sym c.in_default.is ∙ c.first_of_block.ensures))
    ∙ c.loop-b.invariant
