use Rattle.std.proofs.Common.{ap, ◌∙◌}
use Rattle.nfs_ranges.specs.{Owners.is_empty, Blocks.flat}
use Rattle.nfs_ranges.proofs.edits.Intervals.is_empty.Goals as goal

pub is_none-requires : goal.is_none-requires
is_none-requires c = rw c.deref.ensures.value c.self.invariant

pub returns : goal.returns
returns c = c.is_none.ensures ∙ ap (λ bs. is_empty (flat bs)) c.deref.ensures.value ∙ ap is_empty c.self.view_is
