use Rattle.std.proofs.Common.{◌≡◌}
use Rattle.nfs_names.specs.{State.state_of, ReadDir.entry_of}
use Rattle.nfs_names.proofs.Entering.{Going}
use Rattle.nfs_names.proofs.listing.put_entries.Given as goal

abbrev pub invariant-loop-entry : goal.invariant-loop-entry
invariant-loop-entry l =
    Going l.store.tree (entry_of (state_of l.store) l.initial.wanted) l.initial.out l.out l.initial.room l.room l.initial.listing l.listing
    × (l.objects ≡ l.store.tree.objects) × (l.wanted ≡ l.initial.wanted)
