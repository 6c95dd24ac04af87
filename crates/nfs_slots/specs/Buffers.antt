-- How a slot is kept: in buffers with room that was reserved.
use Rattle.std.specs.Prelude.{ℕ, ◌≤◌, length, vec_capacity}
use Rattle.nfs_slots.specs.{Slot.SlotState, declared.slot.Slot.Slot}

-- what a slot's buffers stand for
abbrev pub state_of : Slot → SlotState
state_of s = record { number = s.number; used = s.used; uid = s.uid; args = s.args.items; reply = s.reply.items }

-- a reply of size bytes and arguments of request bytes fit with no more memory
abbrev pub HasRoom : ℕ → ℕ → Slot → Type 0
HasRoom size request s = (size ≤ vec_capacity s.reply) × (request ≤ vec_capacity s.args)

-- the slot has the room that it reserved, and keeps no more than that
abbrev pub IsWithinRoom : ℕ → ℕ → Slot → Type 0
IsWithinRoom size request s = HasRoom size request s × (length s.reply.items ≤ size) × (length s.args.items ≤ request)
