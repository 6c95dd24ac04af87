-- Laws of compounds and of expiry, over the definitions alone.
use Rattle.std.specs.{Prelude.{◌≡◌, ◌≤◌, ℕ, ◌+◌, ◌-◌, ◌^◌, ◌==◌, Bool, false, ◌&&◌, List, [], ◌∷◌, Option, Some, None, if◌then◌else◌}, Option.option_map_or}
use Rattle.nfs_xdr.specs.{declared.status.Status.Status, Caller.Caller}
use Rattle.nfs_compound.specs.{OpNum.op_number, declared.session_args.Sequence.Sequence, declared.op.Item.Item, declared.op.Item.TheVariants.Operation}
use Rattle.nfs_compound.specs.Request.{Request}
use Rattle.nfs_compound.specs.declared.op_num.OpNum.TheVariants as Num
use Rattle.nfs_compound.specs.declared.op.Op.TheVariants as Op
use Rattle.nfs_names.specs.{declared.start.Start.Start}
use Rattle.nfs_lease.specs.Renewals.{has_run_out}
use Rattle.nfs_sessions.specs.{declared.id.SessionId.SessionId, Id.id_of, Laws.is_id}
use Rattle.nfs_exec.specs.{Step.Machine.{Machine, starts, with_refusal}, Step.Sequence.{Sequenced, Refuses, Repeats, Runs, sequenced}}
use Rattle.nfs_exec.specs.{Step.Run.only, Step.Compound.{answers, compound}, Step.Expiry.expired}

-- The request begins with this SEQUENCE, which comes to this.
pub record Begins (m : Machine) (r : Request) (who : Caller) (size : ℕ) (s : Sequence) (v : Sequenced) : Type 0 where
  pub more : List Item
  pub minor : r.minor ≡ 1
  pub list : r.left ≡ Operation (Op.Sequence s) ∷ more
  pub verdict : sequenced m r who size s ≡ v

-- A repeat is answered with the reply that its slot keeps, runs nothing and changes nothing, wherever memory is refused.
abbrev pub RepeatsChangeNothing : Type 0
RepeatsChangeNothing = (m : Machine) (r : Request) (who : Caller) (size now : ℕ) (choice : Option ℕ) (s : Sequence) (reply : List ℕ)
    → Begins m r who size s (Repeats reply)
    → compound m r who size now choice ≡ record { text = reply; machine = m }

-- A SEQUENCE that is refused is the only result, and changes nothing: its slot stays as it was, and no lease is renewed.
abbrev pub RefusalsChangeNothing : Type 0
RefusalsChangeNothing = (m : Machine) (r : Request) (who : Caller) (size now : ℕ) (choice : Option ℕ) (s : Sequence) (status : Status)
    → Begins m r who size s (Refuses status)
    → compound m r who size now choice ≡ answers r (only (with_refusal m (op_number Num.Sequence) status))

-- Expiry at two moments is expiry at the later.
abbrev pub ExpiresOnce : Type 0
ExpiresOnce = (m : Machine) (first later : ℕ) → first ≤ later → expired later (expired first m) ≡ expired later m

-- Behind a record, whose compound comes behind the expiry of its moment, expiry at the same moment finds nothing: no lease has run out.
abbrev pub ExpiryFindsNothing : Type 0
ExpiryFindsNothing = (m : Machine) (r : Request) (who : Caller) (size now : ℕ) (choice : Option ℕ) (client : ℕ)
    → (let left = (compound (expired now m) r who size now choice).machine in has_run_out left.store.lease left.leases now client ≡ false)

-- What comes to a server: a moment at which leases run out; or a request of a caller, in a record of so many bytes, at a moment,
-- with the place, if any, at which memory was refused.
pub data MachineEvent : Type 0 where
  Expires : (now : ℕ) → MachineEvent
  Asks : (r : Request) (who : Caller) (size now : ℕ) (choice : Option ℕ) → MachineEvent

abbrev pub stepped : Machine → MachineEvent → Machine
stepped m (Expires now) = expired now m
stepped m (Asks r who size now choice) = (compound m r who size now choice).machine

abbrev pub all_stepped : Machine → List MachineEvent → Machine
all_stepped m [] = m
all_stepped m (e ∷ more) = all_stepped (stepped m e) more

-- the SEQUENCE, where it comes to a run
abbrev pub if_runs : Sequence → Sequenced → Option Sequence
if_runs s (Runs channel) = Some s
if_runs s verdict = None

abbrev pub first_runs : Machine → Request → Caller → ℕ → List Item → Option Sequence
first_runs m r who size (Operation (Op.Sequence s) ∷ more) = if_runs s (sequenced m r who size s)
first_runs m r who size items = None

-- The SEQUENCE behind which an event runs operations: those of a request that is new on its slot. A repeat, what is refused
-- and what stands outside a session run behind none.
abbrev pub ran : Machine → MachineEvent → Option Sequence
ran m (Expires now) = None
ran m (Asks r who size now choice) = if r.minor == 1 then first_runs m r who size r.left else None

abbrev pub is_on : SessionId → ℕ → Sequence → Bool
is_on id slot s = is_id id (id_of s.sessionid) && (s.slotid == slot)

-- how many of the events run on a slot of a session
abbrev pub runs_on : SessionId → ℕ → Machine → List MachineEvent → ℕ
runs_on id slot m [] = 0
runs_on id slot m (e ∷ more) = (if option_map_or (is_on id slot) (ran m e) false then 1 else 0) + runs_on id slot (stepped m e) more

-- the same session, slot and number
pub record IsSame (s t : Sequence) : Type 0 where
  pub session : id_of s.sessionid ≡ id_of t.sessionid
  pub slot : s.slotid ≡ t.slotid
  pub number : s.sequenceid ≡ t.sequenceid

-- a machine that a server reaches from its start on
pub record IsReached (m : Machine) : Type 0 where
  pub start : Start
  pub events : List MachineEvent
  pub machine : m ≡ all_stepped (starts start) events

-- Where a request ran, one of the same session, slot and number runs again only behind 2^32 - 1 others that ran on that slot,
-- whatever else comes between, the end of the session too.
abbrev pub NeverRunsAgain : Type 0
NeverRunsAgain =
    (m : Machine) (first : MachineEvent) (between : List MachineEvent) (again : MachineEvent) (s t : Sequence)
    → IsReached m → ran m first ≡ Some s → ran (all_stepped (stepped m first) between) again ≡ Some t → IsSame s t
    → 2 ^ 32 - 1 ≤ runs_on (id_of s.sessionid) s.slotid (stepped m first) between
