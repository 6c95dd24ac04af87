-- The operations that a compound runs behind its SEQUENCE, one by one (RFC 8881 section 2.3). That they are those of `run` is a law (OpsAreRun).
use Rattle.std.specs.Prelude.{◌≡◌, ℕ, suc, ◌+◌, ◌==◌, Bool, true, false, List, [], ◌∷◌, ◌++◌, length, flat_map, Option, Some, if◌then◌else◌}
use Rattle.nfs_xdr.specs.{declared.status.Status.Status, declared.status.Status.TheVariants.Nfs4Ok, Caller.Caller}
use Rattle.nfs_compound.specs.{declared.channel_attrs.ChannelAttrs.ChannelAttrs, declared.op.Item.Item, declared.op.Item.TheVariants.Operation, Request.Request, declared.session_args.Sequence.Sequence}
use Rattle.nfs_compound.specs.declared.op.Op.TheVariants as Op
use Rattle.nfs_results.specs.declared.res.Res.TheVariants as Res
use Rattle.nfs_results.specs.Results.{spell_result, spell_compound_head}
use Rattle.nfs_sessions.specs.Id.{id_of}
use Rattle.nfs_names.specs.{declared.context.Context.Context, Context.begins, Outcome.is_ok}
use Rattle.nfs_exec.specs.{Step.Machine.Machine, Step.Sequence.{Sequenced, Runs, sequenced, sequence_ok}, Step.Behind.Step}
use Rattle.nfs_exec.specs.{Step.Run.{Ran, run, in_room, is_here, behind_here}, Step.Compound.{begun, renewed, compound}}
use Rattle.nfs_exec.specs.Step.Laws.{MachineEvent, Expires, Asks, ran}

-- an operation that was run: how many bytes the reply may have, how many it has so far, and whether memory was refused to it; the machine and the context before it, its
-- status and the bytes of its result, and the machine behind it
pub record RanOp : Type 0 where
  pub limit : ℕ
  pub sofar : ℕ
  pub refused : Bool
  pub before : Machine
  pub context : Context
  pub item : Item
  pub status : Status
  pub result : List ℕ
  pub behind : Machine

abbrev pub done : (limit sofar : ℕ) → (refused : Bool) → Machine → Context → Item → Step → RanOp
done limit sofar refused m x item s = record {
  limit = limit;
  sofar = sofar;
  refused = refused;
  before = m;
  context = x;
  item = item;
  status = s.outcome.status;
  result = s.outcome.result;
  behind = s.outcome.machine;
}

-- they stop at the first that answers another status than NFS4_OK
abbrev pub ops : (limit sofar now : ℕ) → Option ℕ → Machine → Context → List Item → List RanOp
ops limit sofar now choice m x [] = []
ops limit sofar now choice m x (item ∷ more) =
    let s = in_room limit sofar now (is_here choice) m x item in
    done limit sofar (is_here choice) m x item s
    ∷ (if is_ok s.outcome.status
    then ops limit (sofar + length s.outcome.result) now (behind_here choice) s.outcome.machine s.context more else [])

-- the machine that they leave
abbrev pub left_by : Machine → List RanOp → Machine
left_by m [] = m
left_by m (d ∷ more) = left_by d.behind more

-- each begins where the one before it ended
abbrev pub AreChained : Machine → List RanOp → Type 0
AreChained m [] = Unit {0}
AreChained m (d ∷ more) = (d.before ≡ m) × AreChained d.behind more

-- They are the first of the items: all of them, or those up to the first that answered another status than NFS4_OK.
abbrev pub AreOf : List Item → List RanOp → Type 0
AreOf [] ds = ds ≡ []
AreOf (item ∷ more) [] = ⊥
AreOf (item ∷ more) (d ∷ ds) = (d.item ≡ item) × (is_ok d.status ≡ true → AreOf more ds) × (is_ok d.status ≡ false → ds ≡ [])

-- that status, or NFS4_OK
abbrev pub last_status : List RanOp → Status
last_status [] = Nfs4Ok
last_status (d ∷ more) = if is_ok d.status then last_status more else d.status

-- their results, one after the other
abbrev pub results_of : List RanOp → List ℕ
results_of ds = flat_map (λ d. d.result) ds

-- what a run comes to is what its operations come to
pub record IsRunOf (m : Machine) (items : List Item) (r : Ran) (ds : List RanOp) : Type 0 where
  pub machine : r.machine ≡ left_by m ds
  pub count : r.count ≡ length ds
  pub chained : AreChained m ds
  pub first : AreOf items ds
  pub status : r.status ≡ last_status ds
  pub results : r.results ≡ results_of ds

abbrev pub OpsAreRun : Type 0
OpsAreRun = (limit sofar now : ℕ) (choice : Option ℕ) (m : Machine) (x : Context) (items : List Item)
    → IsRunOf m items (run limit sofar now choice m x items) (ops limit sofar now choice m x items)

-- a repeat and a refusal run none
abbrev pub ops_in : Machine → Request → Caller → ℕ → Option ℕ → Sequence → List Item → Sequenced → List RanOp
ops_in m r who now choice s more (Runs c) =
    ops c.maxresponsesize (begun r s c) now (behind_here choice) (renewed m now s) (begins (id_of s.sessionid).client who) more
ops_in m r who now choice s more verdict = []

abbrev pub ops_of : Machine → Request → Caller → (size now : ℕ) → Option ℕ → List Item → List RanOp
ops_of m r who size now choice (Operation (Op.Sequence s) ∷ more) = ops_in m r who now choice s more (sequenced m r who size s)
ops_of m r who size now choice items = []

-- the machine that a run in a session begins with is the one whose client's lease was renewed, and this one is behind it
abbrev pub OpsAreRunIn : Type 0
OpsAreRunIn = (m : Machine) (r : Request) (who : Caller) (now : ℕ) (choice : Option ℕ) (s : Sequence) (c : ChannelAttrs) (more : List Item)
    → IsRunOf (renewed m now s) more
    (run c.maxresponsesize (begun r s c) now (behind_here choice) (renewed m now s) (begins (id_of s.sessionid).client who) more)
    (ops_in m r who now choice s more (Runs c))

-- those that an event runs
abbrev pub ops_by : Machine → MachineEvent → List RanOp
ops_by m (Expires now) = []
ops_by m (Asks r who size now choice) = if r.minor == 1 then ops_of m r who size now choice r.left else []

-- The answer to a request whose SEQUENCE comes to a run: NFS4_OK of SEQUENCE, and what these operations answer, one after the other.
abbrev pub AnswersAreTheirs : Type 0
AnswersAreTheirs = (m : Machine) (r : Request) (who : Caller) (size now : ℕ) (choice : Option ℕ) (s : Sequence) → ran m (Asks r who size now choice) ≡ Some s
    → (c : ChannelAttrs) × (let ds = ops_by m (Asks r who size now choice) in
    (compound m r who size now choice).text
    ≡ spell_compound_head (last_status ds) r.tag (suc (length ds)) ++ (spell_result (Res.Sequence (sequence_ok s c)) ++ results_of ds))
