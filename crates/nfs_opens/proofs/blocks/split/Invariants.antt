use Rattle.std.proofs.Common.{◌≡◌, ◌≤◌, ◌+◌, ◌++◌, ◌/◌, length, reverse}
use Rattle.std.specs.Prelude.{vec_capacity}
use Rattle.nfs_opens.proofs.blocks.split.Given as goal

abbrev pub invariant-loop-items : goal.invariant-loop-items
invariant-loop-items g l =
    (l.items.items ++ reverse l.tail.items ≡ l.initial.items.items)
    × (length l.items.items + length l.tail.items ≡ g.T.InBlocks.MOST)
    × (g.T.InBlocks.MOST / 2 ≤ length l.items.items)
    × (vec_capacity l.items ≡ vec_capacity l.initial.items)
    × (g.T.InBlocks.MOST ≤ vec_capacity l.tail)

abbrev pub decreases-loop-items : goal.decreases-loop-items
decreases-loop-items g l = length l.items.items
