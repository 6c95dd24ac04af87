-- SEQUENCE (RFC 8881 sections 2.10.6.1 and 18.46): what it comes to, before anything is run.
use Rattle.std.specs.Prelude.{ℕ, ◌+◌, ◌-◌, nat_lt, nat_le, Bool, List, [], ◌∷◌, ◌++◌, length, take, drop, Result, Ok, Err, ok_or}
use Rattle.nfs_xdr.specs.{Spelling.padding, declared.status.Status.Status}
use Rattle.nfs_xdr.specs.declared.status.Status.TheVariants.{BadSession, BadSlot, BadHighSlot, SeqMisordered, SeqFalseRetry, ReqTooBig, TooManyOps}
use Rattle.nfs_xdr.specs.Caller.{Caller}
use Rattle.nfs_compound.specs.{declared.channel_attrs.ChannelAttrs.ChannelAttrs, declared.session_args.Sequence.Sequence, Request.Request}
use Rattle.nfs_results.specs.declared.res.SequenceOk.{SequenceOk}
use Rattle.nfs_slots.specs.{Slot.{judge, kept}, declared.slot.Verdict.Verdict, declared.slot.Verdict.TheVariants.{Fresh, Again, FalseRetry, Misordered, NoSlot}}
use Rattle.nfs_sessions.specs.{Id.id_of, Sessions.{Session, session_at}}
use Rattle.nfs_opens.specs.Steps.{in_order, ◌>>=◌, ◌>>◌}
use Rattle.nfs_exec.specs.Step.Machine.{Machine, or_refused}

-- Where sa_highest_slotid stands in the arguments of a compound that SEQUENCE begins: behind the tag, its padding and 40 bytes, which are the length of
-- the tag (4), the minor version (4), the count (4), SEQUENCE's number (4), the session (16), the number (4) and the slot (4).
abbrev pub highest_at : Request → ℕ
highest_at r = length r.tag + padding (length r.tag) + 40

-- What a repeat is compared by: the argument bytes but for the four of sa_highest_slotid. That field says how many slots the client has in use as it sends,
-- and nothing of what is asked; a client that sends a call again may give another one.
abbrev pub compared : Request → List ℕ
compared r = take (highest_at r) r.bytes ++ drop (highest_at r + 4) r.bytes

-- It is refused; or the request is a repeat, and the reply that its slot keeps is the answer; or the request is new, and
-- runs in a session of this channel.
pub data Sequenced : Type 0 where
  Refuses : Status → Sequenced
  Repeats : (reply : List ℕ) → Sequenced
  Runs : ChannelAttrs → Sequenced

-- the slot that is named, and the highest one that the client has in use
abbrev pub slot_checks : Sequence → ChannelAttrs → List (Bool × Status)
slot_checks s c = (nat_le c.maxrequests s.slotid, BadSlot) ∷ (nat_le c.maxrequests s.highest_slotid, BadHighSlot) ∷ []

-- of a new request, the size of its record in bytes, and how many operations it declares
abbrev pub fresh_checks : Request → (size : ℕ) → ChannelAttrs → List (Bool × Status)
fresh_checks r size c = (nat_lt c.maxrequestsize size, ReqTooBig) ∷ (nat_lt c.maxoperations r.declared, TooManyOps) ∷ []

-- by what the slot says of the number, of the caller and of what is compared
abbrev pub by_slot : Request → (size : ℕ) → Sequence → Session → Verdict → Result Sequenced Status
by_slot r size s session NoSlot = Err BadSlot
by_slot r size s session Misordered = Err SeqMisordered
by_slot r size s session FalseRetry = Err SeqFalseRetry
by_slot r size s session Again = Ok (Repeats (kept session.slots s.slotid))
by_slot r size s session Fresh = do
  in_order (fresh_checks r size session.channel)
  Ok (Runs session.channel)

-- what a SEQUENCE of a caller comes to, in a record of so many bytes
abbrev pub sequenced : Machine → Request → Caller → (size : ℕ) → Sequence → Sequenced
sequenced m r who size s = or_refused Refuses (do
  session ← ok_or (session_at m.sessions (id_of s.sessionid)) BadSession
  in_order (slot_checks s session.channel)
  by_slot r size s session (judge session.slots s.slotid s.sequenceid who.uid (compared r)))

-- its result, where the request runs: the session's last slot, twice, and no flag
abbrev pub sequence_ok : Sequence → ChannelAttrs → SequenceOk
sequence_ok s c = record {
  sessionid = s.sessionid;
  sequenceid = s.sequenceid;
  slotid = s.slotid;
  highest_slotid = c.maxrequests - 1;
  target_highest_slotid = c.maxrequests - 1;
  status_flags = 0;
}
