-- A name that was said stays, and one that is gone stays gone, through whatever records come.
use Rattle.std.proofs.Common.{◌≡◌, ℕ, ◌+◌, Bool, true, false, cond, eqb, List, [], ◌∷◌, ◌++◌, length, Option, Some, None, refl, sym, ◌∙◌, ap, subst, inl, inr}
use Rattle.std.proofs.lemmas.{Bool.false≢true, Option.same_Some}
use Rattle.std.specs.{Prelude.option_map, Option.option_map_or}
use Rattle.nfs_xdr.specs.{Caller.Caller, declared.status.Status.TheVariants.{MinorVersMismatch, NoEnt, RepTooBig}}
use Rattle.nfs_xdr.proofs.Lists.{some_or_none}
use Rattle.nfs_compound.specs.{declared.op.Item.Item, declared.op.Item.TheVariants.Operation, Request.Request, declared.session_args.Sequence.Sequence}
use Rattle.nfs_compound.specs.declared.op.Op.TheVariants as Op
use Rattle.nfs_compound.specs.declared.op_num.OpNum.TheVariants as Num
use Rattle.nfs_compound.specs.OpNum.{op_number}
use Rattle.nfs_sessions.specs.Id.{id_of}
use Rattle.nfs_tree.specs.{declared.row.Row.Row, Files.{Files, entry, object_named}}
use Rattle.nfs_names.specs.{declared.start.Start.Start, declared.context.Context.Context, Checks.saved_object, Context.begins, Outcome.is_ok}
use Rattle.nfs_names.specs.State as store
use Rattle.nfs_names.specs.State.{State}
use Rattle.nfs_files.proofs.ChangesTold.{some_same}
use Rattle.nfs_exec.specs.Step.{Machine.Machine, Run.{in_room, is_here, behind_here}, Parts.without_any_opens}
use Rattle.nfs_exec.specs.{Step.Sequence.{Sequenced, sequenced}, Step.Compound.{first_item, renewed, begun, bare, in_session, by_first}}
use Rattle.nfs_exec.specs.Step.Laws.{MachineEvent, Expires, Asks, stepped}
use Rattle.nfs_exec.specs.Runs.Ops.{RanOp, done, ops, ops_in, ops_of as ops_first, ops_by, left_by, AreChained}
use Rattle.nfs_exec.specs.Step.Sequence as sequence
use Rattle.nfs_exec.proofs.{Runs.{KeptByRuns.{Is, whole_room}, OpsRun.are_run, WhatWasDone.IsRun}, Step.AloneKeeps.holds_whoever}
use Rattle.nfs_serve.specs.{Step.{ServerState, new_state}}
use Rattle.nfs_promises.specs.{Network.Endpoint.Arrival, Runs.Points.{state_after, reached, before, asked_by, ops_of}, Names.NameStays.{Name, IsDone}}
use Rattle.nfs_promises.specs.Names.NameStays.{finds_none, MakesIt, ByCreate, ByOpen, ByLink, ByRename, TakesIt, next_of, Leaves}
use Rattle.nfs_promises.specs.Names.NameStays.{Says, Creates, Opens, Finds, Links, Renames, Denies, Removes, RenamesIt, Misses, HoldsWhile, AllSpare}
use Rattle.nfs_promises.specs.Names.NameStays.{HoldsThrough, HoldsFrom, row_of, LeadsBefore, NameStays, MissesBefore, GoneStays}
use Rattle.nfs_exec.proofs.Runs.OneRun.{by_item}
use Rattle.nfs_promises.specs.Answers.{Asked.{Seeks, InCurrent, InSaved, NamedOf, Left, Kept}, Reasons.Reason}
use Rattle.nfs_promises.proofs.{Answers.NameReasons.lookup_blames, Runs.StatusTold.{is_told, done_ok, names_ok}}
use Rattle.nfs_promises.proofs.{Runs.Points.{left, next_is, IsSound, whole_before, sound_next, sound_all, sound_new}, Names.NameRows.{run_rows, kept_rows, gone_rows, entry_at}}
use Rattle.nfs_promises.proofs.Runs.Seats.{LedTo, OpenedTo, led_on, by_name, did}
pub use Rattle.nfs_promises.proofs.Runs.Seats.{ran_as}

-- Operations that were run one after the other: each hands its context on to the next one.

pub record RunsTo (d : RanOp) (next : Option Context) : Type 0 where
  pub run : IsRun d
  pub hands : (y : Context) → next ≡ Some y → y ≡ (ran_as d run d.item).context
  pub stops : is_ok d.status ≡ false → next ≡ None

abbrev pub AreLinked : List RanOp → Type 0
AreLinked [] = Unit {0}
AreLinked (d ∷ more) = RunsTo d (next_of more) × AreLinked more

next_ops : (limit sofar now : ℕ) (choice : Option ℕ) (m : Machine) (x y : Context) (items : List Item) → next_of (ops limit sofar now choice m x items) ≡ Some y → y ≡ x
next_ops limit sofar now choice m x y [] e = absurd cc
next_ops limit sofar now choice m x y (i ∷ more) e = let same : Some x ≡ Some y = e in cc

next_if : (b : Bool) (ds : List RanOp) (x : Context) → ((y : Context) → next_of ds ≡ Some y → y ≡ x) → (y : Context) → next_of (cond b ds []) ≡ Some y → y ≡ x
next_if true ds x each y e = each y e
next_if false ds x each y e = absurd cc

linked_if : (b : Bool) (ds : List RanOp) → AreLinked ds → AreLinked (cond b ds [])
linked_if true ds are = are
linked_if false ds are = tt

ops_linked : (limit sofar now : ℕ) (choice : Option ℕ) (m : Machine) (x : Context) (items : List Item) → Is m → AreLinked (ops limit sofar now choice m x items)
ops_linked limit sofar now choice m x [] is = tt
ops_linked limit sofar now choice m x (i ∷ more) is =
    let s = in_room limit sofar now (is_here choice) m x i in
    let rest = ops limit (sofar + length s.outcome.result) now (behind_here choice) s.outcome.machine s.context more in (
      record {
        run = record { limit = limit; sofar = sofar; now = now; refused = is_here choice; whole = is; is = refl };
        hands = next_if (is_ok s.outcome.status) rest s.context (λ y e.
            next_ops limit (sofar + length s.outcome.result) now (behind_here choice) s.outcome.machine s.context y more e);
        stops = λ failed. ap (λ ok. next_of (cond ok rest [])) failed;
      },
      linked_if (is_ok s.outcome.status) rest
          (ops_linked limit (sofar + length s.outcome.result) now (behind_here choice) s.outcome.machine s.context more (whole_room limit sofar now (is_here choice) m x i is)),
    )

-- An event runs such operations, and leaves the rows that they leave.

abbrev pub rows : Machine → List Row
rows m = m.store.tree.rows

pub record Runs (m behind : Machine) (ds : List RanOp) : Type 0 where
  pub outset : Machine
  pub first : rows outset ≡ rows m
  pub chained : AreChained outset ds
  pub linked : AreLinked ds
  pub last : rows behind ≡ rows (left_by outset ds)

runs_none : (m behind : Machine) → rows behind ≡ rows m → Runs m behind []
runs_none m behind same = record { outset = m; first = refl; chained = tt; linked = tt; last = same }

alone_rows : (s : store.State) (o : Option ℕ) (rs : List Row) → s.tree.rows ≡ rs → (without_any_opens s o).tree.rows ≡ rs
alone_rows s None rs is = is
alone_rows s (Some gone) rs is = is

session_runs : (m : Machine) (r : Request) (who : Caller) (now : ℕ) (choice : Option ℕ) (s : Sequence) (more : List Item) (v : Sequenced) → Is m
    → Runs m (in_session m r who now choice s more v).machine (ops_in m r who now choice s more v)
session_runs m r who now choice s more (sequence.Refuses status) is = runs_none m m refl
session_runs m r who now choice s more (sequence.Repeats reply) is = runs_none m m refl
session_runs m r who now choice s more (sequence.Runs c) is =
    let x = begins (id_of s.sessionid).client who in
    let ran = are_run c.maxresponsesize (begun r s c) now (behind_here choice) (renewed m now s) x more in
    record {
      outset = renewed m now s;
      first = refl;
      chained = ran.chained;
      linked = ops_linked c.maxresponsesize (begun r s c) now (behind_here choice) (renewed m now s) x more is;
      last = ap rows ran.machine;
    }

first_ran : (m : Machine) (r : Request) (who : Caller) (size now : ℕ) (choice : Option ℕ) (items : List Item) → Is m
    → Runs m (by_first m r who size now choice items).machine (ops_first m r who size now choice items)
first_ran m r who size now choice [] is = runs_none m m refl
first_ran m r who size now choice (Operation (Op.Sequence s) ∷ more) is = session_runs m r who now choice s more (sequenced m r who size s) is
first_ran m r who size now choice (item ∷ more) is =
    runs_none m (first_item m r.declared who now (is_here choice) item).machine
    (holds_whoever (λ s. s.tree.rows ≡ rows m) (λ s o same. alone_rows s o (rows m) same) m r.declared who now (is_here choice) item refl)

event_runs : (m : Machine) (e : MachineEvent) → Is m → Runs m (stepped m e) (ops_by m e)
event_runs m (Expires now) is = runs_none m (stepped m (Expires now)) refl
event_runs m (Asks r who size now choice) is = go (eqb r.minor 1)
  where
    go : (v : Bool) → Runs m (cond v (by_first m r who size now choice r.left) (bare r MinorVersMismatch m)).machine (cond v (ops_first m r who size now choice r.left) [])
    go true = first_ran m r who size now choice r.left is
    go false = runs_none m m refl

pub asked_runs : (m : Machine) (o : Option MachineEvent) → Is m → Runs m (left m o) (option_map_or (ops_by m) o [])
asked_runs m None is = runs_none m m refl
asked_runs m (Some e) is = event_runs m e is

-- and from one of them on
pub linked_at : (front : List RanOp) (d : RanOp) (back : List RanOp) → AreLinked (front ++ d ∷ back) → RunsTo d (next_of back) × AreLinked back
linked_at [] d back linked = linked
linked_at (f ∷ front) d back linked = linked_at front d back linked.1

chained_at : (m : Machine) (front : List RanOp) (d : RanOp) (back : List RanOp) → AreChained m (front ++ d ∷ back) → AreChained d.behind back
chained_at m [] d back chained = chained.1
chained_at m (f ∷ front) d back chained = chained_at f.behind front d back chained.1

left_at : (m : Machine) (front : List RanOp) (d : RanOp) (back : List RanOp) → left_by m (front ++ d ∷ back) ≡ left_by d.behind back
left_at m [] d back = refl
left_at m (f ∷ front) d back = left_at f.behind front d back

-- What stands in the rows before an operation says something of it, and stands behind it too if the operation spares it.

module _ (Stands : List Row → Type 0) (Before : RanOp → Option Context → Type 0) (Spares : RanOp → Type 0) where
  pub record IsKept : Type 0 where
    pub before : (d : RanOp) (next : Option Context) → RunsTo d next → Stands (rows d.before) → Before d next
    pub behind : (d : RanOp) → IsRun d → Stands (rows d.before) → Spares d → Stands (rows d.behind)

  walk : IsKept → (m : Machine) (ds : List RanOp) → AreChained m ds → AreLinked ds → Stands (rows m)
      → HoldsWhile Before Spares ds × (AllSpare Spares ds → Stands (rows (left_by m ds)))
  walk kept m [] chained linked stands = (tt, λ all. stands)
  walk kept m (d ∷ more) chained linked stands =
      let here : Stands (rows d.before) = subst (λ (m : Machine). Stands (rows m)) (sym chained.0) stands in
      let next : Spares d → HoldsWhile Before Spares more × (AllSpare Spares more → Stands (rows (left_by d.behind more))) =
      λ spares. walk kept d.behind more chained.1 linked.1 (kept.behind d linked.0.run here spares) in (
        (kept.before d (next_of more) linked.0 here, λ spares. (next spares).0),
        λ all. (next (all d (inl refl))).1 (λ e there. all e (inr there)),
      )

  through : IsKept → (s : ServerState) (records : List Arrival) → IsSound s → Stands (rows s.machine) → HoldsThrough Before Spares s records
  through kept s [] sound stands = tt
  through kept s (c ∷ more) sound stands =
      let runs = asked_runs (before s c) (asked_by s c) (whole_before s c sound.whole) in
      let did = walk kept runs.outset (ops_of s c) runs.chained runs.linked (subst Stands (sym runs.first) stands) in (
        did.0,
        λ all. through kept (state_after s c) more (sound_next s c sound)
            (subst Stands (sym (ap (λ (s : ServerState). rows s.machine) (next_is s c) ∙ runs.last)) (did.1 all)),
      )

  pub from : IsKept → (s : ServerState) (c : Arrival) (front : List RanOp) (d : RanOp) (back : List RanOp) → IsSound s → ops_of s c ≡ front ++ d ∷ back → Stands (rows d.behind)
      → HoldsFrom Before Spares s c back
  from kept s c front d back sound same stands =
      let runs = asked_runs (before s c) (asked_by s c) (whole_before s c sound.whole) in
      let linked = linked_at front d back (subst AreLinked same runs.linked) in
      let chained = chained_at runs.outset front d back (subst (AreChained runs.outset) same runs.chained) in
      let did = walk kept d.behind back chained linked.1 stands in (
        did.0,
        λ all more. through kept (state_after s c) more (sound_next s c sound)
            (subst Stands (sym (ap (λ (s : ServerState). rows s.machine) (next_is s c) ∙ (runs.last ∙ ap rows (ap (left_by runs.outset) same ∙ left_at runs.outset front d back))))
            (did.1 all)),
      )

-- the operation itself was run
pub runs_at : (s : ServerState) (c : Arrival) (front : List RanOp) (d : RanOp) (back : List RanOp) → IsSound s → ops_of s c ≡ front ++ d ∷ back → RunsTo d (next_of back)
runs_at s c front d back sound same =
    (linked_at front d back (subst AreLinked same (asked_runs (before s c) (asked_by s c) (whole_before s c sound.whole)).linked)).0

pub sound_at : (start : Start) (earlier : List Arrival) → IsSound (reached start earlier)
sound_at start earlier = sound_all (new_state start) earlier (sound_new start)

-- A name that was said.

-- what a LOOKUP of the directory's name comes to
looked_up : (d : RanOp) (r : IsRun d) (directory : ℕ) (name : List ℕ) → d.item ≡ Operation (Op.Lookup name) → d.context.current ≡ Some directory → IsDone Num.Lookup d.result
    → LedTo name d.before.store.tree d.context (ran_as d r (Operation (Op.Lookup name))).context
looked_up d r directory name item at is =
    let found = did d r (Operation (Op.Lookup name)) item (done_ok d r Num.Lookup is) in
    subst (λ (s : State). LedTo name s.tree d.context (ran_as d r (Operation (Op.Lookup name))).context) found.0 found.1

seen : (d : RanOp) (next : Option Context) (k : Name) → RunsTo d next → d.item ≡ Operation (Op.Lookup k.name) → d.context.current ≡ Some k.directory
    → IsDone Num.Lookup d.result → (y : Context) → next ≡ Some y → y.current ≡ object_named d.before.store.tree k.directory k.name
seen d next k to item at is y here =
    ap (λ (y : Context). y.current) (to.hands y here ∙ ap (λ i. (ran_as d to.run i).context) item)
    ∙ led_on k.name d.before.store.tree d.context _ k.directory at (looked_up d to.run k.directory k.name item at is)

-- a LOOKUP of what is there has no reason to be answered NFS4ERR_NOENT
not_missing : (s : State) (x : Context) (name : List ℕ) (directory n : ℕ) → x.current ≡ Some directory → object_named s.tree directory name ≡ Some n
    → Reason s x (Operation (Op.Lookup name)) NoEnt → ⊥
not_missing s x name directory n at named (inl missing) = by missing.directory missing.name missing.seeks missing.gone
  where
    by : (d : ℕ) (called : List ℕ) → Seeks x (Operation (Op.Lookup name)) d called → object_named s.tree d called ≡ None → ⊥
    by d called (InCurrent here is) gone =
        let one = same_Some d directory (sym here ∙ at) in
        let bad : None ≡ Some n = sym gone ∙ (ap (λ e. object_named s.tree e called) one ∙ (ap (object_named s.tree directory) (sym (same_Some name called is)) ∙ named)) in
        absurd cc
    by d called (InSaved a saved is old kept same) gone = absurd cc
not_missing s x name directory n at named (inr nameless) = by nameless.number nameless.of
  where
    by : (m : ℕ) → NamedOf x (Operation (Op.Lookup name)) m → ⊥
    by m (Left on here) = false≢true on
    by m (Kept called saved is kept same) = absurd cc

pub missed : (d : RanOp) → IsRun d → (directory : ℕ) (name : List ℕ) (n : ℕ) → d.item ≡ Operation (Op.Lookup name) → d.context.current ≡ Some directory
    → object_named d.before.store.tree directory name ≡ Some n → d.result ≡ finds_none → ⊥
missed d r directory name n item at named told =
    let s = d.before.store in
    let i : Item = Operation (Op.Lookup name) in
    not_missing s d.context name directory n at named (by_item (λ status text t. status ≡ NoEnt → Reason s d.context i NoEnt) d r i item
    (λ e. absurd (let bad : RepTooBig ≡ NoEnt = e in cc))
    (λ e. subst (Reason s d.context i) e ((lookup_blames s r.whole d.context name).refused (ap is_ok e))) (is_told d r (op_number Num.Lookup) NoEnt told))

none_seen : (d : RanOp) → IsRun d → (directory : ℕ) (name : List ℕ) → d.item ≡ Operation (Op.Lookup name) → d.context.current ≡ Some directory
    → entry (rows d.before) directory name ≡ None → IsDone Num.Lookup d.result → ⊥
none_seen d r directory name item at gone is =
    let led = looked_up d r directory name item at is in
    let bad : Some led.object ≡ None = sym led.to ∙ (led_on name d.before.store.tree d.context _ directory at led ∙ ap (option_map (λ (r : Row). r.object)) gone) in
    absurd cc

-- a LOOKUP makes no name
makes_nothing : (d : RanOp) (directory : ℕ) (name called : List ℕ) → d.item ≡ Operation (Op.Lookup called) → MakesIt directory name d → ⊥
makes_nothing d directory name called item (ByCreate a is new at done) = (let bad : Operation (Op.Lookup called) ≡ Operation (Op.Create a) = sym item ∙ is in cc)
makes_nothing d directory name called item (ByOpen a is claim at done) = (let bad : Operation (Op.Lookup called) ≡ Operation (Op.Open a) = sym item ∙ is in cc)
makes_nothing d directory name called item (ByLink is at done) = (let bad : Operation (Op.Lookup called) ≡ Operation (Op.Link name) = sym item ∙ is in cc)
makes_nothing d directory name called item (ByRename a is new at done) = (let bad : Operation (Op.Lookup called) ≡ Operation (Op.Rename a) = sym item ∙ is in cc)

abbrev Stands : Name → ℕ → List Row → Type 0
Stands k cookie rs = entry rs k.directory k.name ≡ Some (row_of k cookie)

name_kept : (k : Name) (cookie : ℕ) → IsKept (Stands k cookie) (LeadsBefore k cookie) (λ d. TakesIt k.directory k.name d → ⊥)
name_kept k cookie = record {
  before = λ d next to stands. (let named : object_named d.before.store.tree k.directory k.name ≡ Some k.object = ap (option_map (λ (r : Row). r.object)) stands in record {
    stands = stands;
    found = λ item at told. missed d to.run k.directory k.name k.object item at named told;
    there = λ item at is y here. seen d next k to item at is y here ∙ named;
  });
  behind = λ d run stands spares.
      kept_rows d.before.store.tree (rows d.behind) d.context d.item d.result k.directory k.name (row_of k cookie) (run_rows d run) stands spares;
}

-- a name that leads to the object has a row
row_is : (k : Name) (r : Row) → r.directory ≡ k.directory → r.name ≡ k.name → r.object ≡ k.object → r ≡ row_of k r.cookie
row_is k r directory name object =
    ap (λ d. record { directory = d; name = r.name; object = r.object; cookie = r.cookie }) directory
    ∙ (ap (λ n. record { directory = k.directory; name = n; object = r.object; cookie = r.cookie }) name
    ∙ ap (λ o. record { directory = k.directory; name = k.name; object = o; cookie = r.cookie }) object)

pub stands_by : (k : Name) (t : Files) → object_named t k.directory k.name ≡ Some k.object → (cookie : ℕ) × Stands k cookie t.rows
stands_by k t e = go (entry t.rows k.directory k.name) refl e
  where
    go : (o : Option Row) → entry t.rows k.directory k.name ≡ o → option_map (λ (r : Row). r.object) o ≡ Some k.object → (cookie : ℕ) × Stands k cookie t.rows
    go None at e = absurd cc
    go (Some r) at e =
        let parts = entry_at t.rows k.directory k.name r at in
        (r.cookie, at ∙ ap (λ (r : Row). Some r) (row_is k r parts.0 parts.1 (same_Some r.object k.object e)))

-- a name that leads to the current object leads to that of the context that is handed on
led_there : (k : Name) (d : RanOp) (next : Option Context) (i : Item) (to : RunsTo d next) → d.item ≡ i → d.context.current ≡ Some k.directory → Leaves next k.object
    → LedTo k.name d.behind.store.tree d.context (ran_as d to.run i).context → object_named d.behind.store.tree k.directory k.name ≡ Some k.object
led_there k d next i to item at leaves led =
    sym (led_on k.name d.behind.store.tree d.context _ k.directory at led)
    ∙ (ap (λ (y : Context). y.current) (sym (to.hands leaves.0 leaves.1 ∙ ap (λ i. (ran_as d to.run i).context) item)) ∙ leaves.2)

pub says_leads : (k : Name) (d : RanOp) (next : Option Context) → RunsTo d next → Says k d next → object_named d.behind.store.tree k.directory k.name ≡ Some k.object
says_leads k d next to (Creates a item name at is leaves) =
    led_there k d next (Operation (Op.Create a)) to item at leaves
    (subst (λ name. LedTo name d.behind.store.tree d.context (ran_as d to.run (Operation (Op.Create a))).context) name (did d to.run (Operation (Op.Create a)) item (done_ok d to.run Num.Create is)))
says_leads k d next to (Opens a item claim at n names leaves) =
    led_there k d next (Operation (Op.Open a)) to item at leaves
    (let y = (ran_as d to.run (Operation (Op.Open a))).context in
    by_name k.name d.behind.store.tree d.context y
    (subst (λ claim. OpenedTo claim d.behind.store.tree d.context y) claim (did d to.run (Operation (Op.Open a)) item (names_ok d to.run Num.Open n names))))
says_leads k d next to (Finds item at is leaves) =
    led_there k d next (Operation (Op.Lookup k.name)) to item at leaves (did d to.run (Operation (Op.Lookup k.name)) item (done_ok d to.run Num.Lookup is)).1
says_leads k d next to (Links item at saved is) =
    let linked = (did d to.run (Operation (Op.Link k.name)) item (done_ok d to.run Num.Link is)).1 in
    ap (λ e. object_named d.behind.store.tree e k.name) (some_same d.context.current k.directory linked.directory at linked.from)
    ∙ (linked.leads ∙ (sym linked.saved ∙ saved))
says_leads k d next to (Renames a item name at source saved from is) =
    let renamed = (did d to.run (Operation (Op.Rename a)) item (done_ok d to.run Num.Rename is)).1 in
    let t = d.behind.store.tree in
    ap (object_named t k.directory) (sym name)
    ∙ (ap (λ e. object_named t e a.newname) (some_same d.context.current k.directory renamed.target at renamed.to)
    ∙ renamed.leads k.object
    (ap (λ e. object_named d.before.store.tree e a.oldname) (some_same (saved_object d.context.saved) renamed.source source renamed.from saved) ∙ from))

pub name_stays : NameStays
name_stays start earlier c k front d back same says =
    let s = reached start earlier in
    let sound = sound_at start earlier in
    let to = runs_at s c front d back sound same in
    let row = stands_by k d.behind.store.tree (says_leads k d (next_of back) to says) in (
      row.0,
      from (Stands k row.0) (LeadsBefore k row.0) (λ d. TakesIt k.directory k.name d → ⊥) (name_kept k row.0) s c front d back sound same row.1,
    )

-- A name that is gone.

abbrev IsGone : ℕ → List ℕ → List Row → Type 0
IsGone directory name rs = entry rs directory name ≡ None

gone_kept : (directory : ℕ) (name : List ℕ) → IsKept (IsGone directory name) (λ d next. MissesBefore directory name d) (λ d. MakesIt directory name d → ⊥)
gone_kept directory name = record {
  before = λ d next to gone. record { gone = gone; missed = λ item at is. none_seen d to.run directory name item at gone is };
  behind = λ d run gone spares. gone_rows d.before.store.tree (rows d.behind) d.context d.item d.result directory name (run_rows d run) gone spares;
}

denies_gone : (directory : ℕ) (name : List ℕ) (d : RanOp) → IsRun d → Denies directory name d → IsGone directory name (rows d.behind)
denies_gone directory name d r (Removes item at is) =
    let removed = (did d r (Operation (Op.Remove name)) item (done_ok d r Num.Remove is)).1 in
    subst (λ e. IsGone e name (rows d.behind)) (some_same d.context.current removed.directory directory removed.from at) removed.gone
denies_gone directory name d r (RenamesIt a item old saved target at differ is) =
    let renamed = (did d r (Operation (Op.Rename a)) item (done_ok d r Num.Rename is)).1 in
    let t = d.before.store.tree in
    let from = some_same (saved_object d.context.saved) renamed.source directory renamed.from saved in
    let to = some_same d.context.current target renamed.target at renamed.to in
    subst (λ e. IsGone e name (rows d.behind)) from (subst (λ n. IsGone renamed.source n (rows d.behind)) old (renamed.gone (λ same.
    differ (ap (λ e. object_named t e name) (sym from)
    ∙ (ap (object_named t renamed.source) (sym old) ∙ (same ∙ ap (λ e. object_named t e a.newname) (sym to)))))))
denies_gone directory name d r (Misses item at told) = elim (some_or_none (entry (rows d.before) directory name)) [
  | inl some ↦ absurd (missed d r directory name some.0.object item at (ap (option_map (λ (r : Row). r.object)) some.1) told)
  | inr none ↦ (gone_kept directory name).behind d r none (λ makes. makes_nothing d directory name name item makes)
]

pub gone_stays : GoneStays
gone_stays start earlier c directory name front d back same denies =
    let s = reached start earlier in
    let sound = sound_at start earlier in
    let to = runs_at s c front d back sound same in
    from (IsGone directory name) (λ d next. MissesBefore directory name d) (λ d. MakesIt directory name d → ⊥) (gone_kept directory name) s c front d back sound same
    (denies_gone directory name d to.run denies)
