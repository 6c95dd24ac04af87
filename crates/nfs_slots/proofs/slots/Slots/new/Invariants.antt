use Rattle.std.proofs.Common.{◌≡◌, map}
use Rattle.std.specs.Prelude.{All, replicate}
use Rattle.nfs_slots.specs.{Slot.unused_slot, Buffers.{state_of, IsWithinRoom}}
use Rattle.nfs_slots.proofs.slots.Slots.new.Given as goal

abbrev pub invariant-loop : goal.invariant-loop
invariant-loop l = record {
  made : map state_of l.slots.items ≡ replicate l.counter unused_slot;
  room : All (IsWithinRoom l.size l.request) l.slots.items;
}
