use Rattle.std.proofs.Common.{sym, ◌∙◌, ap}
use Rattle.std.specs.Prelude.{List, ℕ}
use Rattle.nfs_xdr.specs.Caller.{caller}
use Rattle.nfs_slots.specs.Slot.{judge}
use Rattle.nfs_sessions.specs.{Id.id_of, Sessions.session_at}
use Rattle.nfs_exec.specs.Step.Parts.{slot_fault, fresh_fault}
use Rattle.nfs_exec.proofs.Step.Judging.{refuses_fresh}
use Rattle.nfs_exec.proofs.sequence.judge.Goals as goal

pub returns-in-Some-fresh_fault-clause-verdict : goal.returns-in-Some-fresh_fault-clause-verdict
returns-in-Some-fresh_fault-clause-verdict c =
    refuses_fresh c.args.args.now (caller c.args.who.now) c.args.size c.args.asked.now
    (session_at c.args.sessions.now (id_of c.args.asked.now.sessionid)) c.in-Some.session.now c.in-Some-fresh_fault.status
    (rw c.from_bytes-id.ensures.read at c.in-Some.ensures.found)
    (ap (slot_fault c.args.asked.now) (sym c.channel-channel.ensures.channel) ∙ sym c.slot_fault.ensures ∙ c.in_default-slot_fault.is)
    (sym (c.in-Fresh.ensures
    ∙ ap (λ (args : List ℕ). judge c.in-Some.session.now.slots c.args.asked.now.slotid c.args.asked.now.sequenceid c.args.who.now.uid args)
    c.compared.ensures))
    (ap (fresh_fault c.args.args.now c.args.size) (sym c.channel-channel.ensures.channel) ∙ sym c.fresh_fault.ensures ∙ c.in-Some-fresh_fault.is)
