-- SEQUENCE: what the code's judgement comes to.
use Rattle.std.proofs.Common.{◌≡◌, ℕ, Option, Some, None, refl}
use Rattle.nfs_xdr.specs.{Caller.Caller, declared.status.Status.Status}
use Rattle.nfs_compound.specs.{Request.Request, declared.session_args.Sequence.Sequence}
use Rattle.nfs_slots.specs.{Slot.judge, declared.slot.Verdict.TheVariants.Fresh}
use Rattle.nfs_sessions.specs.Sessions.{Session}
use Rattle.nfs_exec.specs.{Step.Sequence.{compared, Refuses}, Step.Parts.{by_session, slot_fault, fresh_fault}}

-- a new request is refused
pub refuses_fresh : (r : Request) (who : Caller) (size : ℕ) (s : Sequence) (o : Option Session) (x : Session) (status : Status) →
    Some x ≡ o → slot_fault s x.channel ≡ None →
    judge x.slots s.slotid s.sequenceid who.uid (compared r) ≡ Fresh → fresh_fault r size x.channel ≡ Some status →
    Refuses status ≡ by_session r who size s o
refuses_fresh r who size s None x status found none fresh fault = absurd cc
refuses_fresh r who size s (Some session) x status found none fresh fault =
    let same : session ≡ x = cc in rw (same, none, fresh, fault) refl
