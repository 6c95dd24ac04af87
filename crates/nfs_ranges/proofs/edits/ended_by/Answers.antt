use Rattle.std.proofs.{Common.{rules, of_calls}, lemmas.Fn.always_returns_same}
use Rattle.nfs_ranges.specs.Edits.{ends_by}
use Rattle.nfs_ranges.proofs.PlaceLemmas.{lead_point, parted_by}
use Rattle.nfs_ranges.proofs.edits.ended_by.Goals as goal

pub returns : goal.returns
returns c =
    let point = c.partition_point.ensures.partitioned (ends_by c.args.byte) (always_returns_same _ _ _ (λ a r f k. search (rules, of_calls)))
    (parted_by c.args.byte c.args.intervals.now c.requires) in
    lead_point (ends_by c.args.byte) c.args.intervals.now c.partition_point.result c.partition_point.ensures.bound point
