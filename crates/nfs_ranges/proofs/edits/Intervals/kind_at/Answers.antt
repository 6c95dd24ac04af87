use Rattle.nfs_ranges.proofs.BlockLemmas.{blocks_are}
use Rattle.nfs_ranges.proofs.edits.Intervals.kind_at.Goals as goal

pub kind_in-requires : goal.kind_in-requires
kind_in-requires c = rw c.deref.ensures.value (blocks_are c.self.inside.blocks.items c.args.self.now c.self.invariant c.self.view_is c.requires)
