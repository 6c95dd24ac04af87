use Rattle.std.proofs.{Common.{◌≡◌, ◌-◌, min, length, ◌∙◌, rules, of_calls, arith}, lemmas.Fn.always_returns_same}
use Rattle.nfs_ranges.specs.{Edits.lead, Groups.are_below}
use Rattle.nfs_ranges.proofs.{BlockLemmas.spot_is, GroupLemmas.groups_parted, PlaceLemmas.lead_point}
use Rattle.nfs_ranges.proofs.groups.group_of.Goals as goal

pub returns : goal.returns
returns c =
    let point = c.partition_point.ensures.partitioned (are_below c.args.number) (always_returns_same _ _ _ (λ a r f k. search (rules, of_calls)))
    (groups_parted c.args.number c.args.groups.now c.requires) in
    let before = lead_point (are_below c.args.number) c.args.groups.now c.partition_point.result c.partition_point.ensures.bound point in
    let least : c.min.result ≡ min (lead (are_below c.args.number) c.args.groups.now) (length c.args.groups.now - 1) =
    omega (arith, c.min.ensures, before, c.saturating_sub.ensures) in
    least ∙ spot_is (are_below c.args.number) c.args.groups.now
