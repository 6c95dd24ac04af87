use Rattle.std.proofs.{Common.{rules, of_calls}, lemmas.Fn.always_returns_same}
use Rattle.nfs_ranges.specs.Edits.{ends_before}
use Rattle.nfs_ranges.proofs.PlaceLemmas.{lead_point, parted_before}
use Rattle.nfs_ranges.proofs.edits.ended_before.Goals as goal

pub returns-clause-place : goal.returns-clause-place
returns-clause-place c =
    let point = c.partition_point.ensures.partitioned (ends_before c.args.byte) (always_returns_same _ _ _ (λ a r f k. search (rules, of_calls)))
    (parted_before c.args.byte c.args.intervals.now c.requires) in
    lead_point (ends_before c.args.byte) c.args.intervals.now c.partition_point.result c.partition_point.ensures.bound point
