use Rattle.std.proofs.{Common.{rules, of_calls, nat_lt}, lemmas.Fn.always_returns_same}
use Rattle.nfs_ranges.specs.Blocks.{ends_whole}
use Rattle.nfs_ranges.proofs.{BlockLemmas.blocks_parted, PlaceLemmas.lead_point, RiseLemmas.before_lower}
use Rattle.nfs_ranges.proofs.blocks.block_before.Goals as goal

pub returns-clause-place : goal.returns-clause-place
returns-clause-place c =
    let point = c.partition_point.ensures.partitioned (ends_whole c.args.byte) (always_returns_same _ _ _ (λ a r f k. search (rules, of_calls)))
    (blocks_parted (λ n. nat_lt n c.args.byte) (before_lower c.args.byte) c.args.blocks.now c.requires) in
    lead_point (ends_whole c.args.byte) c.args.blocks.now c.partition_point.result c.partition_point.ensures.bound point
