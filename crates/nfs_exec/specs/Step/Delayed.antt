-- Memory refused at a place of a compound (RFC 8881 sections 2.3, 2.10.6 and 15.1.1.3): it makes no difference, or the operation there
-- answers so, with NFS4ERR_DELAY or NFS4ERR_NOSPC, and what is left is as if the compound ended in front of it.
use Rattle.std.specs.Prelude.{◌≡◌, ◌⊎◌, ℕ, suc, ◌≤◌, ◌||◌, Bool, true, false, List, ◌++◌, take, slice_get, Option, Some, None}
use Rattle.nfs_xdr.specs.{declared.status.Status.Status, declared.status.Status.TheVariants.{Nfs4Ok, Delay}, Tables.In, Caller.Caller}
use Rattle.nfs_compound.specs.{declared.op.Op.Op, declared.op.Item.Item, declared.op.Item.TheVariants.{Operation, Fault}, Request.{Request, item_number}, Arguments.arguments}
use Rattle.nfs_compound.specs.declared.session_args.Sequence.{Sequence}
use Rattle.nfs_results.specs.Results.{refusal, spell_result, spell_compound_head}
use Rattle.nfs_names.specs.{declared.start.Start.Start, declared.context.Context.Context, State.State, Outcome.{lacks, is_delay}}
use Rattle.nfs_names.specs.Operation as names
use Rattle.nfs_files.specs.Operation as files
use Rattle.nfs_exec.specs.{Step.Machine.{Machine, starts}, Step.Sequence.{Refuses, sequenced}, Step.Compound.{Answered, first_item, keeps, compound}}
use Rattle.nfs_exec.specs.{Step.Laws.{MachineEvent, Asks, all_stepped, first_runs}, Runs.Ops.{RanOp, ops_by}}

-- What may want memory: the operations on the tree and on open files that are said to, and the two that make clients and sessions.
abbrev pub grows : State → Context → Item → Bool
grows s x (Operation (Op.ExchangeId e)) = true
grows s x (Operation (Op.CreateSession c)) = true
grows s x (Operation op) = names.grows s x op || files.grows s x op
grows s x (Fault number status) = false

-- the status with which an item is refused then
abbrev pub lacks_at : State → Item → Status
lacks_at s (Operation op) = lacks s (arguments op).op
lacks_at s (Fault number status) = Delay

-- The same request with its operations from a place on left out: it declares no more of them, and its bytes are its own.
pub record IsCut (place : ℕ) (r cut : Request) : Type 0 where
  pub tag : cut.tag ≡ r.tag
  pub minor : cut.minor ≡ r.minor
  pub declared : cut.declared ≤ r.declared
  pub left : cut.left ≡ take place r.left

-- The slot of the SEQUENCE behind which a request runs keeps the request and its answer; outside a session nothing does.
abbrev pub kept_by : Request → Caller → Option Sequence → Answered → Answered
kept_by r who None a = a
kept_by r who (Some s) a = keeps r who s a

-- what a compound answers with NFS4_OK of its first operations, so many of them
abbrev pub with_ok : Request → (count : ℕ) → List ℕ → Machine → Answered
with_ok r count results left = record { text = spell_compound_head Nfs4Ok r.tag count ++ results; machine = left }

-- The operation at the place answers that it was refused memory. Those before it were run, with these results, and left this machine: the compound answers
-- with their results and that refusal; the request that is cut there, in a record that is no longer and with memory, answers with their
-- results alone; and either leaves that machine, in which its slot keeps its own request and answer. With memory the operation itself answers
-- NFS4_OK: the request that is cut behind it does.
pub record IsDelayed (m : Machine) (r : Request) (who : Caller) (size now place : ℕ) : Type 0 where
  pub item : Item
  pub stands : slice_get r.left place ≡ Some item
  pub results : List ℕ
  pub left : Machine
  pub context : Context
  pub wants : grows left.store context item ≡ true
  pub answer : compound m r who size now (Some place) ≡ kept_by r who (first_runs m r who size r.left) (record {
    text = spell_compound_head (lacks_at left.store item) r.tag (suc place) ++ (results ++ spell_result (refusal (item_number item) (lacks_at left.store item)));
    machine = left;
  })
  pub cut : (c : Request) (shorter : ℕ) → IsCut place r c → shorter ≤ size
      → compound m c who shorter now None
      ≡ kept_by c who (first_runs m r who size r.left) (with_ok r place results left)
  pub more : List ℕ
  pub behind : Machine
  pub would : (c : Request) (shorter : ℕ) → IsCut (suc place) r c → shorter ≤ size
      → compound m c who shorter now None
      ≡ kept_by c who (first_runs m r who size r.left) (with_ok r (suc place) (results ++ more) behind)
  -- outside a session the machine is as it was
  pub alone : first_runs m r who size r.left ≡ None → left ≡ m

-- Memory refused at a place makes no difference, or delays the operation that stands there, in every machine.
abbrev pub DelayIsACut : Type 0
DelayIsACut = (m : Machine) (r : Request) (who : Caller) (size now place : ℕ)
    → (compound m r who size now (Some place) ≡ compound m r who size now None) ⊎ IsDelayed m r who size now place

-- With memory no operation of a request answers NFS4ERR_DELAY, neither behind its SEQUENCE nor alone outside a session; and SEQUENCE does not. What cannot be
-- read is no operation.
pub record IsNotDelayed (m : Machine) (r : Request) (who : Caller) (size now : ℕ) : Type 0 where
  pub behind : (d : RanOp) (op : Op) → In d (ops_by m (Asks r who size now None)) → d.item ≡ Operation op → is_delay d.status ≡ false
  pub alone : (op : Op) → is_delay (first_item m r.declared who now false (Operation op)).status ≡ false
  pub first : (s : Sequence) (status : Status) → sequenced m r who size s ≡ Refuses status → is_delay status ≡ false

-- in every machine that events reach, though memory may have been refused before
abbrev pub NothingDelays : Type 0
NothingDelays = (start : Start) (events : List MachineEvent) (r : Request) (who : Caller) (size now : ℕ)
    → IsNotDelayed (all_stepped (starts start) events) r who size now
