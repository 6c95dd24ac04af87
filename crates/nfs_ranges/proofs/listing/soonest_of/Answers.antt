use Rattle.std.proofs.{Common.{take, sym, arith}, lemmas.List.take_all, lemmas.List.Elements.{All-more, All-weaker, All-same}}
use Rattle.nfs_ranges.specs.Listing.{Yields}
use Rattle.nfs_ranges.proofs.listing.soonest_of.Goals as goal

pub loop-held-preserved : goal.loop-held-preserved
loop-held-preserved c = (
  All-more (Yields c.args.wish.now c.sooner-told.result) c.args.locks.now c.loop-held.held-index _ c.loop-held-test.true
      (All-weaker (Yields c.args.wish.now c.loop-held.told) (Yields c.args.wish.now c.sooner-told.result) c.sooner-told.ensures.others
      (take c.loop-held.held-index c.args.locks.now) c.loop-held.invariant.0) c.sooner-told.ensures.this,
  λ h yields. c.sooner-told.ensures.others h (c.loop-held.invariant.1 h yields),
)

pub returns-clause-these : goal.returns-clause-these
returns-clause-these c =
    All-same (Yields c.args.wish.now c.loop-held.told) c.args.locks.now (take c.loop-held.held-index c.args.locks.now)
    (sym (take_all c.loop-held.held-index c.args.locks.now (omega arith))) c.loop-held.invariant.0

pub returns-clause-others : goal.returns-clause-others
returns-clause-others c = c.loop-held.invariant.1
