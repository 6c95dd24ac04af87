use Rattle.std.proofs.Common.{arith}
use Rattle.nfs_ranges.proofs.BlockLemmas.{three_parts}
use Rattle.nfs_ranges.proofs.blocks.parts_of.Goals as goal

pub returns : goal.returns
returns c =
    rw c.of-2.ensures (three_parts c.args.intervals.items c.cut.new.intervals.items c.cut-2.new.intervals.items c.in_ok-middle.middle c.in_ok-right.right _ _
    c.in_ok-right.ensures.rest c.in_ok-right.ensures.block.0 c.in_ok-right.ensures.block.1 c.in_ok-middle.ensures.rest c.in_ok-middle.ensures.block.0
    c.in_ok-middle.ensures.block.1 (omega arith))
