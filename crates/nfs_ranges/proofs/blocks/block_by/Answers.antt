use Rattle.std.proofs.{Common.{rules, of_calls, nat_le}, lemmas.Fn.always_returns_same}
use Rattle.nfs_ranges.specs.Blocks.{ends_whole_by}
use Rattle.nfs_ranges.proofs.{BlockLemmas.blocks_parted, PlaceLemmas.lead_point, RiseLemmas.by_lower}
use Rattle.nfs_ranges.proofs.blocks.block_by.Goals as goal

pub returns : goal.returns
returns c =
    let point = c.partition_point.ensures.partitioned (ends_whole_by c.args.byte) (always_returns_same _ _ _ (λ a r f k. search (rules, of_calls)))
    (blocks_parted (λ n. nat_le n c.args.byte) (by_lower c.args.byte) c.args.blocks.now c.requires) in
    lead_point (ends_whole_by c.args.byte) c.args.blocks.now c.partition_point.result c.partition_point.ensures.bound point
