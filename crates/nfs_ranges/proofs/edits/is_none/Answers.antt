use Rattle.std.proofs.Common.{◌∙◌}
use Rattle.nfs_ranges.proofs.BlockLemmas.{no_flat}
use Rattle.nfs_ranges.proofs.edits.is_none.Goals as goal

pub returns : goal.returns
returns c = c.is_empty.ensures ∙ no_flat c.args.blocks.now c.requires
