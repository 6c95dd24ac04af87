-- A compound (RFC 8881 sections 2.3, 2.10.6.4 and 16.2): what it answers, and the machine behind it.
use Rattle.std.specs.{Prelude.{◌+◌, ℕ, ◌==◌, Bool, List, [], ◌∷◌, ◌++◌, length, Option, if◌then◌else◌}, Option.option_map_or}
use Rattle.nfs_xdr.specs.{declared.status.Status.Status, declared.status.Status.TheVariants.{Nfs4Ok, MinorVersMismatch, NotSupp}, Caller.Caller}
use Rattle.nfs_compound.specs.{declared.channel_attrs.ChannelAttrs.ChannelAttrs, declared.op.Item.Item, declared.op.Item.TheVariants.Operation, declared.session_args.Sequence.Sequence}
use Rattle.nfs_compound.specs.{OpNum.op_number, Request.{Request, item_number}}
use Rattle.nfs_compound.specs.declared.op_num.OpNum.TheVariants as Num
use Rattle.nfs_compound.specs.declared.op.Op.TheVariants as Op
use Rattle.nfs_results.specs.declared.res.Res.TheVariants as Res
use Rattle.nfs_results.specs.Results.{spell_result, spell_compound_head}
use Rattle.nfs_names.specs.Context.{begins}
use Rattle.nfs_lease.specs.Renewals.{with_renewal}
use Rattle.nfs_sessions.specs.{Channel.rpc_head, Id.id_of, Sessions.keep}
use Rattle.nfs_exec.specs.{Step.Machine.{Machine, MachineOutcome, with_result, with_refusal, or_with_delay}, Step.Place.place_fault}
use Rattle.nfs_exec.specs.{Step.ExchangeId.exchange_id, Step.CreateSession.create_session, Step.Destroy.{destroy_session, destroy_client}}
use Rattle.nfs_exec.specs.Step.Sequence.{Sequenced, Refuses, Repeats, Runs, compared, sequenced, sequence_ok}
use Rattle.nfs_exec.specs.Step.Run.{Ran, run, finished, only, follow, is_here, behind_here}

-- The bytes of the result of a compound, from its status on, and the machine behind it.
pub record Answered : Type 0 where
  pub text : List ℕ
  pub machine : Machine

abbrev pub answers : Request → Ran → Answered
answers r ran = record { text = spell_compound_head ran.status r.tag ran.count ++ ran.results; machine = ran.machine }

-- a compound of which no operation is run
abbrev pub bare : Request → Status → Machine → Answered
bare r status m = answers r (record (finished m) { status = status })

-- Outside a session one operation stands alone, and may want memory; no other item is run there.
abbrev pub carried_out : Machine → Caller → ℕ → Bool → Item → MachineOutcome
carried_out m who now refused (Operation (Op.ExchangeId e)) = or_with_delay refused m (op_number Num.ExchangeId) (exchange_id m who now e)
carried_out m who now refused (Operation (Op.CreateSession c)) = create_session m who now refused c
carried_out m who now refused (Operation (Op.DestroySession sessionid)) = destroy_session m sessionid
carried_out m who now refused (Operation (Op.DestroyClientId client)) = destroy_client m client
carried_out m who now refused item = with_refusal m (item_number item) NotSupp

-- an item outside a session, of so many declared
abbrev pub first_item : Machine → ℕ → Caller → ℕ → Bool → Item → MachineOutcome
first_item m declared who now refused item =
    option_map_or (with_refusal m (item_number item)) (place_fault declared item) (carried_out m who now refused item)

-- the lease of the session's client is renewed
abbrev pub renewed : Machine → ℕ → Sequence → Machine
renewed m now s = record m { leases = with_renewal m.leases (id_of s.sessionid).client now }

-- the bytes of a reply with SEQUENCE's result, its RPC head and the head of its compound among them
abbrev pub begun : Request → Sequence → ChannelAttrs → ℕ
begun r s c = rpc_head + length (spell_compound_head Nfs4Ok r.tag 0) + length (spell_result (Res.Sequence (sequence_ok s c)))

-- SEQUENCE answers, and what is behind it runs for the session's client, in what the channel lets pass
abbrev pub runs_behind : Machine → Request → Caller → ℕ → Option ℕ → Sequence → ChannelAttrs → List Item → Ran
runs_behind m r who now choice s c more = follow (with_result m (Res.Sequence (sequence_ok s c)))
    (run c.maxresponsesize (begun r s c) now (behind_here choice) m (begins (id_of s.sessionid).client who) more)

-- the slot keeps the whole answer
abbrev pub keeps : Request → Caller → Sequence → Answered → Answered
keeps r who s a =
    record a { machine = record a.machine { sessions = keep a.machine.sessions (id_of s.sessionid) s.slotid s.sequenceid who.uid (compared r) a.text } }

-- a refusal and a repeat change nothing
abbrev pub in_session : Machine → Request → Caller → ℕ → Option ℕ → Sequence → List Item → Sequenced → Answered
in_session m r who now choice s more (Refuses status) = answers r (only (with_refusal m (op_number Num.Sequence) status))
in_session m r who now choice s more (Repeats reply) = record { text = reply; machine = m }
in_session m r who now choice s more (Runs c) = keeps r who s (answers r (runs_behind (renewed m now s) r who now choice s c more))

abbrev pub by_first : Machine → Request → Caller → (size now : ℕ) → Option ℕ → List Item → Answered
by_first m r who size now choice [] = bare r Nfs4Ok m
by_first m r who size now choice (Operation (Op.Sequence s) ∷ more) = in_session m r who now choice s more (sequenced m r who size s)
by_first m r who size now choice (item ∷ more) = answers r (only (first_item m r.declared who now (is_here choice) item))

-- The answer to a request of a caller, in a record of so many bytes, at a moment, with the place, if any, at which memory
-- was refused. The minor version is looked at first, and no operation of another one is.
abbrev pub compound : Machine → Request → Caller → (size now : ℕ) → Option ℕ → Answered
compound m r who size now choice = if r.minor == 1 then by_first m r who size now choice r.left else bare r MinorVersMismatch m
