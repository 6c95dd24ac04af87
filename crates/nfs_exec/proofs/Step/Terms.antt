-- What proofs call parts of definitions by.
use Rattle.std.specs.{Prelude.{ℕ, Bool, ◌==◌, nat_le, List, [], ◌∷◌, count_by, Option, None, Result, Ok, is_some, if◌then◌else◌}, List.list_any, Option.option_map_or}
use Rattle.nfs_xdr.specs.declared.status.Status.{Status}
use Rattle.nfs_xdr.specs.declared.status.Status.TheVariants.{CompleteAlready, TooSmall, NoSpc, ServerFault}
use Rattle.nfs_xdr.specs.Caller.{Caller}
use Rattle.nfs_compound.specs.{declared.channel_attrs.ChannelAttrs.ChannelAttrs, declared.op.Item.Item, declared.session_args.Sequence.Sequence, Request.Request}
use Rattle.nfs_compound.specs.declared.session_args.CreateSession.{CreateSession}
use Rattle.nfs_results.specs.declared.res.Res.TheVariants as Res
use Rattle.nfs_names.specs.{declared.context.Context.Context, declared.node.Node.Node, Context.begins}
use Rattle.nfs_lease.specs.Renewals.{Book, has_run_out, without_lease}
use Rattle.nfs_clients.specs.{Roster.{Roster, client_at, without}, CreateSession.leaving, Marks.{has_reclaimed, with_reclaimed}}
use Rattle.nfs_opens.specs.Steps.{◌>>◌}
use Rattle.nfs_sessions.specs.{Id.id_of, Channel.is_too_small, Sessions.{SessionTable, last_counter, outlasts}}
use Rattle.nfs_exec.specs.{Step.Machine.{Machine, MachineOutcome, with_result, with_refusal, or_refused}, Step.Run.{Ran, run}, Step.Compound.begun}
use Rattle.nfs_exec.specs.{Step.Sequence.{Sequenced, Refuses}, Step.CreateSession.kept_refusal}

abbrev pub has_session : SessionTable → ℕ → Bool
has_session t client = list_any (λ s. s.client == client) t.sessions

-- a client goes with its lease
abbrev pub client_ended : Machine → ℕ → MachineOutcome
client_ended m client = with_result (record m { clients = without m.clients client; leases = without_lease m.leases client }) Res.DestroyClientId

abbrev pub leases_kept : ℕ → Book → ℕ → Book
leases_kept lease b now = λ client. if has_run_out lease b now client then None else b client

-- what is behind SEQUENCE runs for the session's client, in what the channel lets pass
abbrev pub run_in : Machine → Request → Caller → ℕ → Option ℕ → Sequence → ChannelAttrs → List Item → Ran
run_in m r who now choice s c more = run c.maxresponsesize (begun r s c) now choice m (begins (id_of s.sessionid).client who) more

abbrev pub is_client : Roster → ℕ → Bool
is_client t client = is_some (client_at t client)

abbrev pub or_with_refusal : Machine → ℕ → Result MachineOutcome Status → MachineOutcome
or_with_refusal m operation v = or_refused (with_refusal m operation) v

abbrev pub or_refuses : Result Sequenced Status → Sequenced
or_refuses v = or_refused Refuses v

-- what is asked for of a session
abbrev pub session_checks : Machine → CreateSession → List (Bool × Status)
session_checks m c =
    (is_too_small c.fore_chan_attrs, TooSmall)
    ∷ (nat_le m.sessions.most (count_by (outlasts (leaving m.clients c.clientid)) m.sessions.sessions), NoSpc)
    ∷ (m.sessions.last == last_counter, ServerFault)
    ∷ []

abbrev pub or_kept_refusal : Machine → CreateSession → Result MachineOutcome Status → MachineOutcome
or_kept_refusal m c v = or_refused (kept_refusal m c) v

-- an operation is refused with its fault, if it has one, and else comes to an outcome
abbrev pub by_fault : Machine → ℕ → Option Status → MachineOutcome → MachineOutcome
by_fault m operation fault o = option_map_or (with_refusal m operation) fault o

-- RECLAIM_COMPLETE of the current filehandle's file system, and of all
abbrev pub of_one : Machine → Result Node Status → MachineOutcome
of_one m v = or_with_refusal m 58 (v >> Ok (with_result m Res.ReclaimComplete))

abbrev pub of_all : Machine → Context → MachineOutcome
of_all m x =
    if has_reclaimed m.clients x.client then with_refusal m 58 CompleteAlready
    else with_result (record m { clients = with_reclaimed m.clients x.client }) Res.ReclaimComplete
