use Rattle.nfs_ranges.proofs.BlockLemmas.{blocks_are}
use Rattle.nfs_ranges.proofs.edits.Intervals.first_hit.Goals as goal

pub hit_in-requires : goal.hit_in-requires
hit_in-requires c = rw c.deref.ensures.value (blocks_are c.self.inside.blocks.items c.args.self.now c.self.invariant c.self.view_is c.requires)
