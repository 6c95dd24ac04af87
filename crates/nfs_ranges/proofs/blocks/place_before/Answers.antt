use Rattle.std.proofs.Common.{◌≡◌, ◌-◌, min, nat_lt, length, ap, ◌∙◌, arith}
use Rattle.nfs_ranges.specs.{Edits.{lead, ends_before}, Blocks.ends_whole}
use Rattle.nfs_ranges.proofs.{BlockLemmas.{block_canonical, placed_at, spot_is}, RiseLemmas.before_lower}
use Rattle.nfs_ranges.proofs.blocks.place_before.Goals as goal

pub ended_before-requires : goal.ended_before-requires
ended_before-requires c = rw c.intervals_at.ensures (block_canonical c.args.blocks.now c.min-block.result c.requires)

pub returns-clause-place : goal.returns-clause-place
returns-clause-place c =
    let least : c.min-block.result ≡ min (lead (ends_whole c.args.byte) c.args.blocks.now) (length c.args.blocks.now - 1) =
    omega (arith, c.min-block.ensures, c.block_before.ensures.place, c.saturating_sub.ensures) in
    placed_at (λ n. nat_lt n c.args.byte) (before_lower c.args.byte) c.ended_before.result c.min-block.result c.args.blocks.now c.requires least
    (c.ended_before.ensures.place ∙ ap (lead (ends_before c.args.byte)) c.intervals_at.ensures)

pub returns-clause-block : goal.returns-clause-block
returns-clause-block c =
    let least : c.min-block.result ≡ min (lead (ends_whole c.args.byte) c.args.blocks.now) (length c.args.blocks.now - 1) =
    omega (arith, c.min-block.ensures, c.block_before.ensures.place, c.saturating_sub.ensures) in
    least ∙ spot_is (ends_whole c.args.byte) c.args.blocks.now
