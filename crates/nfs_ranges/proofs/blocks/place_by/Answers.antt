use Rattle.std.proofs.Common.{◌≡◌, ◌-◌, min, nat_le, length, ap, ◌∙◌, arith}
use Rattle.nfs_ranges.specs.{Edits.{lead, ends_by}, Blocks.ends_whole_by}
use Rattle.nfs_ranges.proofs.{BlockLemmas.{block_canonical, placed_at, spot_is}, RiseLemmas.by_lower}
use Rattle.nfs_ranges.proofs.blocks.place_by.Goals as goal

pub ended_by-requires : goal.ended_by-requires
ended_by-requires c = rw c.intervals_at.ensures (block_canonical c.args.blocks.now c.min-block.result c.requires)

pub returns-clause-place : goal.returns-clause-place
returns-clause-place c =
    let least : c.min-block.result ≡ min (lead (ends_whole_by c.args.byte) c.args.blocks.now) (length c.args.blocks.now - 1) =
    omega (arith, c.min-block.ensures, c.block_by.ensures, c.saturating_sub.ensures) in
    placed_at (λ n. nat_le n c.args.byte) (by_lower c.args.byte) c.ended_by.result c.min-block.result c.args.blocks.now c.requires least
    (c.ended_by.ensures ∙ ap (lead (ends_by c.args.byte)) c.intervals_at.ensures)

pub returns-clause-block : goal.returns-clause-block
returns-clause-block c =
    let least : c.min-block.result ≡ min (lead (ends_whole_by c.args.byte) c.args.blocks.now) (length c.args.blocks.now - 1) =
    omega (arith, c.min-block.ensures, c.block_by.ensures, c.saturating_sub.ensures) in
    least ∙ spot_is (ends_whole_by c.args.byte) c.args.blocks.now
