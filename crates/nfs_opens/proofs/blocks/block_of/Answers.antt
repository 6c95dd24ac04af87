use Rattle.std.proofs.{Common.{rules, of_calls}, lemmas.Fn.always_returns_same}
use Rattle.nfs_ranges.proofs.PlaceLemmas.{lead_point}
use Rattle.nfs_opens.specs.Blocks.{passes}
use Rattle.nfs_opens.proofs.BlockLemmas.{parted_by, blocks_parted}
use Rattle.nfs_opens.proofs.blocks.block_of.Goals as goal

pub returns-clause-place : goal.returns-clause-place
returns-clause-place g c =
    let p = g.S.Search.before c.args.of.now in
    lead_point (passes p) c.args.blocks.now c.partition_point.result c.partition_point.ensures.bound
    (c.partition_point.ensures.partitioned (passes p) (always_returns_same _ _ _ (λ a r f k. search (rules, of_calls)))
    (parted_by (passes p) c.args.blocks.now (blocks_parted p c.args.blocks.now c.requires.some c.requires.parted)))
