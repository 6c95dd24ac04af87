-- What every table of slots keeps, and what its calls answer.
use Rattle.std.specs.{Prelude.{ℕ, ◌≤◌, List, [], replicate, length, slice_get}, Option.option_map_or}
use Rattle.nfs_xdr.specs.{Limits.most_record, declared.status.Status.Status}
use Rattle.nfs_xdr.specs.declared.status.Status.TheVariants as status
use Rattle.nfs_slots.specs.{Slot.{SlotState, unused_slot, kept}, declared.slot.Verdict.Verdict}
use Rattle.nfs_slots.specs.declared.slot.Verdict.TheVariants.{Fresh, Again, FalseRetry, Misordered, NoSlot}

-- the slots of a session, and the most bytes of a reply and of arguments that each keeps
pub record SlotTable : Type 0 where
  pub slots : List SlotState
  pub size : ℕ
  pub request : ℕ

-- the most slots of a session (this server's profile)
abbrev pub most_slots : ℕ
most_slots = 16

-- what each keeps is of a request, and of a reply, no longer than a record
abbrev pub IsKept : (size request : ℕ) → Type 0
IsKept size request = (size ≤ most_record) × (request ≤ most_record)

abbrev pub unused : ℕ → ℕ → ℕ → SlotTable
unused count size request = record { slots = replicate count unused_slot; size = size; request = request }

-- no slot keeps a reply or arguments of more bytes than the table has room for
pub record IsBounded (t : SlotTable) : Type 0 where
  pub reply : (slot : ℕ) → length (kept t.slots slot) ≤ t.size
  pub args : (slot : ℕ) → length (option_map_or (λ s. s.args) (slice_get t.slots slot) []) ≤ t.request

-- the status that a verdict is answered with: a new request, and one that is repeated, are not refused
abbrev pub verdict_status : Verdict → Status
verdict_status Fresh = status.Nfs4Ok
verdict_status Again = status.Nfs4Ok
verdict_status FalseRetry = status.SeqFalseRetry
verdict_status Misordered = status.SeqMisordered
verdict_status NoSlot = status.BadSlot
