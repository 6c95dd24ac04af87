use Rattle.std.proofs.{Common.{◌≡◌, sym, subst, false}, lemmas.Bool.OnFalse_at}
use Rattle.nfs_ranges.specs.{Clashes.has_write, Owners.{IsSpan, IsSpanOf}, Blocks.flat}
use Rattle.nfs_ranges.proofs.BlockLemmas.{blocks_are}
use Rattle.nfs_ranges.proofs.edits.Intervals.span.Goals as goal

pub span_of-first-requires : goal.span_of-first-requires
span_of-first-requires c = rw c.deref.ensures.value (blocks_are c.self.inside.blocks.items c.args.self.now c.self.invariant c.self.view_is c.requires.canonical)

pub returns : goal.returns
returns c =
    subst (IsSpanOf (record { first = c.span_of-first.result.0; last = c.span_of-first.result.1; writes = c.args.writes })) c.self.view_is (record {
      span = subst (λ bs. IsSpan c.span_of-first.result.0 c.span_of-first.result.1 (flat bs)) c.deref.ensures.value c.span_of-first.ensures;
      read = λ e. subst (λ xs. has_write xs ≡ false) (sym c.self.view_is) (OnFalse_at e c.requires.read);
    })
