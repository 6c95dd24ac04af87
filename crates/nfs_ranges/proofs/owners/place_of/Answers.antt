use Rattle.std.proofs.{Common.{rules, of_calls}, lemmas.Fn.always_returns_same}
use Rattle.nfs_ranges.specs.Groups.{is_below}
use Rattle.nfs_ranges.proofs.{KeptLemmas.owners_parted, PlaceLemmas.lead_point}
use Rattle.nfs_ranges.proofs.owners.place_of.Goals as goal

pub returns-clause-place : goal.returns-clause-place
returns-clause-place c =
    let point = c.partition_point.ensures.partitioned (is_below c.args.number) (always_returns_same _ _ _ (λ a r f k. search (rules, of_calls)))
    (owners_parted c.args.number c.args.owners.now c.requires) in
    lead_point (is_below c.args.number) c.args.owners.now c.partition_point.result c.partition_point.ensures.bound point
