use Rattle.std.proofs.Common.{◌∙◌, sym}
use Rattle.nfs_ranges.proofs.ClashLemmas.{none_further}
use Rattle.nfs_ranges.proofs.edits.first_of.Goals as goal

pub returns-then-last-x : goal.returns-then-last-x
returns-then-last-x c =
    sym (none_further c.args.kind c.args.first c.args.last c.loop-x.x-index c.args.intervals.now _ c.requires c.loop-x-test.true c.if-last-x.true) ∙
    c.loop-x.invariant
