-- What SEQUENCE makes of a number, on a slot whose last request may have been given up (RFC 8881 section 2.10.6.1).
use Rattle.std.specs.Prelude.{◌≡◌, ℕ, true, Some, None, slice_get}
use Rattle.nfs_xdr.specs.{Caller.Caller, Checks.first_fault, declared.status.Status.TheVariants.SeqFalseRetry}
use Rattle.nfs_xdr.specs.Numbers.{next_number}
use Rattle.nfs_compound.specs.{declared.session_args.Sequence.Sequence, Request.Request}
use Rattle.nfs_slots.specs.Slot.{SlotState}
use Rattle.nfs_sessions.specs.{Id.id_of, Sessions.{Session, session_at}}
use Rattle.nfs_exec.specs.{Step.Machine.Machine, Step.Sequence.{Refuses, Runs, compared, sequenced, slot_checks, fresh_checks}}

-- the slot that a SEQUENCE names
pub record IsOn (m : Machine) (s : Sequence) (session : Session) (x : SlotState) : Type 0 where
  pub found : session_at m.sessions (id_of s.sessionid) ≡ Some session
  pub slot : slice_get session.slots s.slotid ≡ Some x

-- The number behind the slot's last one runs, whatever became of the reply to that: only what the slots and the sizes of the session do not allow is refused.
abbrev pub NextNumberRuns : Type 0
NextNumberRuns =
    (m : Machine) (r : Request) (who : Caller) (size : ℕ) (s : Sequence) (session : Session) (x : SlotState)
    → IsOn m s session x → s.sequenceid ≡ next_number x.number
    → first_fault (slot_checks s session.channel) ≡ None → first_fault (fresh_checks r size session.channel) ≡ None
    → sequenced m r who size s ≡ Runs session.channel

-- The slot took another request under the number: of another user, or with other bytes to be compared.
pub record TookAnother (m : Machine) (r : Request) (who : Caller) (s : Sequence) : Type 0 where
  pub session : Session
  pub slot : SlotState
  pub on : IsOn m s session slot
  pub used : slot.used ≡ true
  pub number : slot.number ≡ s.sequenceid
  pub another : slot.uid ≡ who.uid → slot.args ≡ compared r → ⊥

-- what is refused as a false retry is one
abbrev pub FalseRetriesAreTrue : Type 0
FalseRetriesAreTrue =
    (m : Machine) (r : Request) (who : Caller) (size : ℕ) (s : Sequence) → sequenced m r who size s ≡ Refuses SeqFalseRetry → TookAnother m r who s
