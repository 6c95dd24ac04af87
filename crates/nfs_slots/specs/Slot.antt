-- A slot of a session, and what it says of a request's number (RFC 8881 section 2.10.6.1).
use Rattle.std.specs.Prelude.{ℕ, ◌==◌, Bool, true, false, not, ◌&&◌, if◌then◌else◌, List, [], bytes_eq, slice_get, slice_set}
use Rattle.std.specs.Option.{option_map_or}
use Rattle.nfs_xdr.specs.Numbers.{next_number}
use Rattle.nfs_slots.specs.{declared.slot.Verdict.Verdict, declared.slot.Verdict.TheVariants.{Fresh, Again, FalseRetry, Misordered, NoSlot}}

-- a slot: the number of its last request, whether it took one, and of that request the caller, the argument bytes that a repeat is compared by, and the
-- reply
pub record SlotState : Type 0 where
  pub number : ℕ
  pub used : Bool
  pub uid : ℕ
  pub args : List ℕ
  pub reply : List ℕ

-- a slot that took no request
abbrev pub unused_slot : SlotState
unused_slot = record { number = 0; used = false; uid = 0; args = []; reply = [] }

-- so 0 is misordered on a slot that took no request
abbrev pub judge_slot : SlotState → ℕ → ℕ → List ℕ → Verdict
judge_slot s number uid args =
    if number == next_number s.number then Fresh
    else if not (s.used && (number == s.number)) then Misordered
    else if (uid == s.uid) && bytes_eq args s.args then Again
    else FalseRetry

-- the slots of a session are a list, from slot 0 on
abbrev pub judge : List SlotState → ℕ → ℕ → ℕ → List ℕ → Verdict
judge slots slot number uid args = option_map_or (λ s. judge_slot s number uid args) (slice_get slots slot) NoSlot

-- the slot takes the request in the place of its last one, and every other slot stays as it was
abbrev pub keep : List SlotState → ℕ → ℕ → ℕ → List ℕ → List ℕ → List SlotState
keep slots slot number uid args reply = slice_set slots slot (record { number = number; used = true; uid = uid; args = args; reply = reply })

-- the reply that a slot keeps
abbrev pub kept : List SlotState → ℕ → List ℕ
kept slots slot = option_map_or (λ s. s.reply) (slice_get slots slot) []
