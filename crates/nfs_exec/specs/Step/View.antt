-- What the code's tables and answers say.
use Rattle.std.specs.Prelude.{◌≡◌, ℕ, ◌+◌, ◌^◌, ◌<◌, ◌≤◌, ◌==◌, length, not, Option, if◌then◌else◌, List, IsTrue, ◌||◌, ◌&&◌}
use Rattle.nfs_xdr.specs.{declared.status.Status.Status, SheetState.{SheetState, Puts}, Caller.Caller, Limits.opaque_limit, Tables.In}
use Rattle.nfs_compound.specs.{declared.channel_attrs.ChannelAttrs.ChannelAttrs, declared.op.Item.Item, declared.op.Item.TheVariants.{Operation, Fault}, Request.{Request, IsRequest}}
use Rattle.nfs_compound.specs.{declared.session_args.Sequence.Sequence, declared.op_num.OpNum.TheVariants.SetAttr, OpNum.op_number}
use Rattle.nfs_results.specs.{declared.res.Res.Res, Parts.is_legal, Refusals.can_refuse, ResultCodec.{IsBounded, HasArrays}, Results.spell_result}
use Rattle.nfs_names.specs.{declared.context.Context.Context, State.state_of, StoreInvariants.IsStore, Ending.staying}
use Rattle.nfs_lease.specs.Renewals.{Book, without_lease}
use Rattle.nfs_clients.specs.{Roster.without, declared.exchange_id.Exchanged.Exchanged}
use Rattle.nfs_sessions.specs.{SessionTables.IsGranted, Channel.rpc_head}
use Rattle.nfs_sessions.specs.Sessions as sessions
use Rattle.nfs_exec.specs.{declared.tables.Tables.Tables, declared.sequence.Sequenced.{Sequenced as Code}}
use Rattle.nfs_exec.specs.{Step.Machine.{Machine, IsMachine, MachineOutcome, machine_of}, Step.Behind.Step, Step.Compound.{answers, runs_behind, in_session, Answered}}
use Rattle.nfs_exec.specs.{Step.Run.Ran, Step.Parts.{without_any_sessions, without_any_lease, without_any_opens}}
use Rattle.nfs_exec.specs.Step.Sequence.{Sequenced, Refuses, Repeats, Runs}
use Rattle.nfs_exec.specs.declared.sequence.Sequenced.TheVariants as code
use Rattle.nfs_exec.specs.declared.run.Ran as code_run

-- The request was just opened.
pub record IsOpened (r : Request) : Type 0 where
  pub bytes : List ℕ
  pub request : IsRequest bytes r

-- room for what stands behind the head of a reply of 70,000 bytes
abbrev pub HasReplyRoom : SheetState → Type 0
HasReplyRoom sheet = length sheet.bytes + 69976 ≤ sheet.room

-- room for the largest result outside a session, EXCHANGE_ID's
abbrev pub HasLoneRoom : SheetState → Type 0
HasLoneRoom sheet = length sheet.bytes + 2096 ≤ sheet.room

-- The answer was put on the sheet, and its machine was left.
pub record Answers (answered : Answered) (old new : SheetState) (left : Machine) : Type 0 where
  pub put : Puts old new answered.text
  pub machine : left ≡ answered.machine

-- a reply can bear the fault: SETATTR's says more, and with any status but OP_ILLEGAL's own
abbrev pub CanBear : Item → Type 0
CanBear (Operation op) = Unit {0}
CanBear (Fault number status) = IsTrue ((number == op_number SetAttr && is_legal status) || can_refuse number status)

-- a result that can be put, and is as short as that of an operation that has no largest size of its own
abbrev pub IsSmall : Res → Type 0
IsSmall r = IsBounded r × (HasArrays r → length (spell_result r) ≤ 64)

abbrev pub sequenced_of : Code → Sequenced
sequenced_of (code.Refuses status) = Refuses status
sequenced_of (code.Repeats reply) = Repeats reply.now
sequenced_of (code.Runs channel) = Runs channel

-- The operation was run: its result stands on the sheet, its status was returned, and the machine behind it was left.
pub record Does (o : MachineOutcome) (returned : Status) (left : Machine) (old new : SheetState) : Type 0 where
  pub status : returned ≡ o.status
  pub machine : left ≡ o.machine
  pub put : Puts old new o.result

-- An operation behind SEQUENCE was run: its result stands on the sheet, its status was returned, and the machine and the context
-- behind it were left.
pub record Steps (s : Step) (returned : Status) (left : Machine) (behind : Context) (old new : SheetState) : Type 0 where
  pub status : returned ≡ s.outcome.status
  pub machine : left ≡ s.outcome.machine
  pub context : behind ≡ s.context
  pub put : Puts old new s.outcome.result

-- The operations were run: their results stand on the sheet, the machine behind them is this one, and what was returned of
-- them is so.
pub record RunsTo (ran : Ran) (done : code_run.Ran) (left : Machine) (old new : SheetState) : Type 0 where
  pub status : done.status ≡ ran.status
  pub count : done.count ≡ ran.count
  pub machine : left ≡ ran.machine
  pub put : Puts old new ran.results

-- What running a compound in a session of this channel stands on.
pub record MayRun (m : Machine) (r : Request) (s : Sequence) (channel : ChannelAttrs) (now : ℕ) (sheet : SheetState) : Type 0 where
  pub sessionid : length s.sessionid ≡ 16
  pub bears : (i : Item) → In i r.left → CanBear i
  pub few : length r.left ≤ 64
  pub tag : length r.tag ≤ opaque_limit
  pub granted : IsGranted channel
  pub moment : now < 2 ^ 63
  pub store : IsStore m.store
  pub room : HasReplyRoom sheet

-- It was run: for some choice the answer was put, within what the channel lets pass. `behind` is what is left of the compound.
pub record RanIn (m : Machine) (r : Request) (who : Caller) (now : ℕ) (s : Sequence) (channel : ChannelAttrs) (left : Machine) (behind : Request)
    (old new : SheetState) : Type 0 where
  pub answer : (choice : Option ℕ) × Answers (answers r (runs_behind m r who now choice s channel r.left)) old new left
  pub fits : length new.bytes + rpc_head ≤ length old.bytes + channel.maxresponsesize
  pub same : behind ≡ record r { left = behind.left }
  pub store : IsStore left.store

-- A new request ran in a session of this channel: for some choice its answer was put, and this machine was left.
abbrev pub RunsNew : Machine → Request → Caller → (now : ℕ) → Sequence → ChannelAttrs → (left : Machine) → (old new : SheetState) → Type 0
RunsNew m r who now s channel left old new = (choice : Option ℕ) × Answers (in_session m r who now choice s r.left (Runs channel)) old new left

-- a client goes with its sessions, its lease, its opens and its locks
abbrev pub without_client : Machine → ℕ → Machine
without_client m client = record {
  clients = without m.clients client;
  sessions = sessions.without_client m.sessions client;
  leases = without_lease m.leases client;
  store = staying (λ c. not (c == client)) m.store;
  owner = m.owner;
}

-- who leaves for another record, if anybody, goes with its sessions, its lease, its opens and its locks
abbrev pub without_left : Machine → Option ℕ → Machine
without_left m o = record m { sessions = without_any_sessions m.sessions o; leases = without_any_lease m.leases o; store = without_any_opens m.store o }

-- the lease that an EXCHANGE_ID made first stands where its record was added, in place of the one that was replaced; else it is taken back
abbrev pub settled : Book → ℕ → Exchanged → Book
settled b next x = if x.added then without_any_lease b x.replaced else without_lease b next

-- What holds of the tables between two records.
pub record AreTables (t : Tables) : Type 0 where
  pub machine : IsMachine (machine_of t)
  pub store : IsStore (state_of t.store)
