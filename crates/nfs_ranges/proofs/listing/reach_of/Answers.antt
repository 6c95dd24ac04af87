use Rattle.std.proofs.{Common.{take, sym, arith}, lemmas.List.take_all, lemmas.List.Elements.{All-more, All-weaker, All-same}}
use Rattle.nfs_ranges.specs.Listing.{IsReached}
use Rattle.nfs_ranges.proofs.listing.reach_of.Goals as goal

pub loop-held-preserved : goal.loop-held-preserved
loop-held-preserved c =
    All-more (IsReached c.with-reach.result) c.args.locks.now c.loop-held.held-index _ c.loop-held-test.true
    (All-weaker (IsReached c.loop-held.reach) (IsReached c.with-reach.result) c.with-reach.ensures.others (take c.loop-held.held-index c.args.locks.now) c.loop-held.invariant)
    c.with-reach.ensures.this

pub returns : goal.returns
returns c =
    All-same (IsReached c.loop-held.reach) c.args.locks.now (take c.loop-held.held-index c.args.locks.now)
    (sym (take_all c.loop-held.held-index c.args.locks.now (omega arith))) c.loop-held.invariant
