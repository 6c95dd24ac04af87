-- What one operation behind a SEQUENCE leaves as it is.
use Rattle.std.proofs.Common.{◌≡◌, ℕ, Bool, true, false, eqb, ltb, List, [], ◌∷◌, ◌+◌, ◌≤◌, length, Option, Some, None, Result, Ok, Err, refl, ◌∙◌}
use Rattle.std.proofs.{Common.{ap, subst, sym, arith, inl, inr}, lemmas.Bool.cases_Bool, lemmas.List.length-append}
use Rattle.std.specs.{Prelude.{IsTrue, IsSomeAnd, ◌||◌}, Option.{ForSome, option_map_or}}
use Rattle.nfs_xdr.specs.{declared.status.Status.Status, declared.status.Status.TheVariants.{Nfs4Ok, NoFileHandle, Stale}, SheetState.{SheetState, Puts}}
use Rattle.nfs_compound.specs.{declared.op.Item.Item, declared.op.Item.TheVariants.Operation, declared.op.Op.Op}
use Rattle.nfs_results.specs.{Largest.largest, declared.res.Res.Res, Results.{spell_result, status_of_result, head}, Refusals.can_refuse}
use Rattle.nfs_results.proofs.Lengths.{length_head}
use Rattle.nfs_tree.specs.{declared.object.Object.Object, Files.object_at}
use Rattle.nfs_names.specs.{State.{State, time_at}, declared.context.Context.Context, declared.node.Node.Node, Checks.{current, node_at, node_as}}
use Rattle.nfs_names.specs.{Comes.{Comes, MayCome}, Outcome.{Outcome as OfStore, is_lack, is_ok}}
use Rattle.nfs_names.specs.Operation as names
use Rattle.nfs_files.specs.Operation as files
use Rattle.nfs_clients.specs.Marks.{has_reclaimed}
use Rattle.nfs_lease.specs.Renewals.{Book}
use Rattle.nfs_sessions.specs.Sessions.{SessionTable}
use Rattle.nfs_exec.specs.{Step.Machine.{Machine, MachineOutcome, with_result}, Step.Place.status_behind}
use Rattle.nfs_exec.specs.Step.ReclaimComplete.{reclaim_complete}
use Rattle.nfs_exec.specs.{Step.Behind.{Step, step, on_store, otherwise, refused_step}, Step.View.Steps}
use Rattle.nfs_exec.specs.Step.Run.{Ran, run, in_room, follow, is_here, behind_here, reserve}
use Rattle.nfs_exec.proofs.Step.Terms.{of_one, of_all}

-- What it answers can be put, and is short.

held_bears : (s : State) (o : Option ℕ) (status : Status) → node_at s o ≡ Err status → IsTrue (eqb 58 34 || can_refuse 58 status)
held_bears s None status e = (let same : NoFileHandle ≡ status = cc in subst (λ u. IsTrue (eqb 58 34 || can_refuse 58 u)) same refl)
held_bears s (Some n) status e = go (object_at s.tree n) e
  where
    go : (o : Option Object) → node_as n o ≡ Err status → IsTrue (eqb 58 34 || can_refuse 58 status)
    go None e = (let same : Stale ≡ status = cc in subst (λ u. IsTrue (eqb 58 34 || can_refuse 58 u)) same refl)
    go (Some object) e = absurd cc

pub current_bears : (s : State) (x : Context) (status : Status) → current s x ≡ Err status → IsTrue (eqb 58 34 || can_refuse 58 status)
unfolding current
current_bears s x status e = held_bears s x.current status e

pub reclaimed_short : length (spell_result Res.ReclaimComplete) ≤ 12
reclaimed_short = omega (arith, length-append (head 58 Nfs4Ok) [], length_head 58 Nfs4Ok)

-- what nothing carries out is refused
pub other_stays : (m : Machine) (x : Context) (op : Op) → ((one : Bool) → op ≡ Op.ReclaimComplete one → ⊥)
    → otherwise m x (Operation op) ≡ refused_step m x (Operation op) (status_behind (Operation op))
other_stays m x (Op.ReclaimComplete one) other = absurd (other one refl)
other_stays m x op other = refl

-- What it comes to, by whose operation it is.

pub step_of_names : (m : Machine) (x : Context) (now : ℕ) (refused : Bool) (i : Item) (o : OfStore)
    → names.comes_to refused m.store x (time_at m.store now) i ≡ Some o → step m x now refused i ≡ on_store m o
step_of_names m x now refused i o e =
    ap (λ v. option_map_or (on_store m) v (option_map_or (on_store m)
    (files.comes_to refused m.store x (time_at m.store now) i) (otherwise m x i))) e

pub step_of_none : (m : Machine) (x : Context) (now : ℕ) (refused : Bool) (i : Item) → names.comes_to refused m.store x (time_at m.store now) i ≡ None
    → files.comes_to refused m.store x (time_at m.store now) i ≡ None → step m x now refused i ≡ otherwise m x i
step_of_none m x now refused i none other =
    ap (λ v. option_map_or (on_store m) v (option_map_or (on_store m)
    (files.comes_to refused m.store x (time_at m.store now) i) (otherwise m x i))) none
    ∙ ap (λ v. option_map_or (on_store m) v (otherwise m x i)) other

pub step_of_files : (m : Machine) (x : Context) (now : ℕ) (refused : Bool) (i : Item) (o : OfStore)
    → names.comes_to refused m.store x (time_at m.store now) i ≡ None → files.comes_to refused m.store x (time_at m.store now) i ≡ Some o
    → step m x now refused i ≡ on_store m o
step_of_files m x now refused i o none e =
    ap (λ v. option_map_or (on_store m) v (option_map_or (on_store m)
    (files.comes_to refused m.store x (time_at m.store now) i) (otherwise m x i))) none
    ∙ ap (λ v. option_map_or (on_store m) v (otherwise m x i)) e

by_either : (P : Step → Type 0) (v w : Option OfStore) (f g : OfStore → Step) (e : Step) → ForSome v (λ o. P (f o)) → ForSome w (λ o. P (g o))
    → (v ≡ None → w ≡ None → P e) → P (option_map_or f v (option_map_or g w e))
by_either P (Some o) w f g e named filed none = named o refl
by_either P None (Some o) f g e named filed none = filed o refl
by_either P None None f g e named filed none = none refl refl

pub by_step : (P : Step → Type 0) (m : Machine) (x : Context) (now : ℕ) (refused : Bool) (i : Item)
    → ForSome (names.comes_to refused m.store x (time_at m.store now) i) (λ o. P (on_store m o))
    → ForSome (files.comes_to refused m.store x (time_at m.store now) i) (λ o. P (on_store m o))
    → (names.comes_to refused m.store x (time_at m.store now) i ≡ None → files.comes_to refused m.store x (time_at m.store now) i ≡ None → P (otherwise m x i))
    → P (step m x now refused i)
by_step P m x now refused i =
    by_either P (names.comes_to refused m.store x (time_at m.store now) i) (files.comes_to refused m.store x (time_at m.store now) i)
    (on_store m) (on_store m) (otherwise m x i)

-- What holds of a machine whatever its store is, and whether its clients have reclaimed, holds behind the operations.

pub record IsKeptByEach (P : Machine → Type 0) : Type 0 where
  pub stored : (m : Machine) (s : _) → P m → P (record m { store = s })
  pub reclaimed : (m : Machine) (x : Context) → P m → P (of_all m x).machine

pub kept_step : (P : Machine → Type 0) → IsKeptByEach P
    → (m : Machine) (x : Context) (now : ℕ) (refused : Bool) (i : Item) → P m → P (step m x now refused i).outcome.machine
kept_step P keeps m x now refused i is =
    by_step (λ s. P s.outcome.machine) m x now refused i (λ o e. keeps.stored m o.state is) (λ o e. keeps.stored m o.state is) (λ none other. by_item i)
  where
    one : (found : Result Node Status) → P (of_one m found).machine
    one (Ok d) = is
    one (Err status) = is

    reclaim : (one_fs : Bool) → P (reclaim_complete m x one_fs).machine
    reclaim true = one (current m.store x)
    reclaim false = keeps.reclaimed m x is

    by_item : (i : Item) → P (otherwise m x i).outcome.machine
    by_item (Operation (Op.ReclaimComplete one_fs)) = reclaim one_fs
    by_item i = is

pub follow_kept : (P : Machine → Type 0) (o : MachineOutcome) (rest : Ran) → P o.machine → P rest.machine → P (follow o rest).machine
follow_kept P o rest one more = elim (cases_Bool (is_ok o.status)) [ inl ok ↦ rw ok more | inr bad ↦ rw bad one ]

pub kept_run : (P : Machine → Type 0) → IsKeptByEach P → (limit sofar now : ℕ) (choice : Option ℕ) (m : Machine) (x : Context) (items : List Item)
    → P m → P (run limit sofar now choice m x items).machine
kept_run P keeps limit sofar now choice m x [] is = is
kept_run P keeps limit sofar now choice m x (i ∷ more) is =
    let s = in_room limit sofar now (is_here choice) m x i in
    let one : P s.outcome.machine = elim (cases_Bool (ltb limit (sofar + largest i + reserve)))
    [ inl big ↦ rw big is | inr fits ↦ rw fits (kept_step P keeps m x now (is_here choice) i is) ] in
    follow_kept P s.outcome (run limit (sofar + length s.outcome.result) now (behind_here choice) s.outcome.machine s.context more) one
    (kept_run P keeps limit (sofar + length s.outcome.result) now (behind_here choice) s.outcome.machine s.context more one)

-- Neither leases nor sessions change.

keeps_leases : (b : Book) → IsKeptByEach (λ m. m.leases ≡ b)
keeps_leases b = record {
  stored = λ m s is. is;
  reclaimed = λ m x is. elim (cases_Bool (has_reclaimed m.clients x.client)) [ inl again ↦ rw again is | inr once ↦ rw once is ];
}

keeps_sessions : (t : SessionTable) → IsKeptByEach (λ m. m.sessions ≡ t)
keeps_sessions t = record {
  stored = λ m s is. is;
  reclaimed = λ m x is. elim (cases_Bool (has_reclaimed m.clients x.client)) [ inl again ↦ rw again is | inr once ↦ rw once is ];
}

pub run_leases : (limit sofar now : ℕ) (choice : Option ℕ) (m : Machine) (x : Context) (items : List Item)
    → (run limit sofar now choice m x items).machine.leases ≡ m.leases
run_leases limit sofar now choice m x items = kept_run (λ k. k.leases ≡ m.leases) (keeps_leases m.leases) limit sofar now choice m x items refl

pub run_sessions : (limit sofar now : ℕ) (choice : Option ℕ) (m : Machine) (x : Context) (items : List Item)
    → (run limit sofar now choice m x items).machine.sessions ≡ m.sessions
run_sessions limit sofar now choice m x items = kept_run (λ k. k.sessions ≡ m.sessions) (keeps_sessions m.sessions) limit sofar now choice m x items refl

-- What was run, by whose operation it was.

pub other_context : (m : Machine) (x : Context) (i : Item) → x ≡ (otherwise m x i).context
other_context m x (Operation (Op.ReclaimComplete one)) = refl
other_context m x i = refl

-- of what was tried on names
pub none_named : (m : Machine) (x : Context) (now : ℕ) (i : Item) (old new : SheetState) (r : Option Status) (store : State) (behind : Context)
    → MayCome (λ refused. names.comes_to refused m.store x (time_at m.store now) i) m.store x old new r store behind → r ≡ None
    → ((refused : Bool) → names.comes_to refused m.store x (time_at m.store now) i ≡ None) × (new ≡ old) × (store ≡ m.store) × (behind ≡ x)
none_named m x now i old new r store behind came none =
    subst (λ r. MayCome (λ refused. names.comes_to refused m.store x (time_at m.store now) i) m.store x old new r store behind) none came

some_and : {A : Type 0} (P : A → Type 0) (v : Option A) → IsSomeAnd v P → (a : A) × (v ≡ Some a) × P a
some_and P None h = absurd h
some_and P (Some a) h = (a, refl, h)

pub named_steps : (m : Machine) (x : Context) (now : ℕ) (i : Item) (old new : SheetState) (r : Option Status) (s : Status) (store : State) (behind : Context)
    → MayCome (λ refused. names.comes_to refused m.store x (time_at m.store now) i) m.store x old new r store behind → r ≡ Some s
    → Steps (step m x now (is_lack s) i) s (record m { store = store }) behind old new
named_steps m x now i old new r s store behind came is =
    let found = some_and (λ o. Comes o old new s store behind) (names.comes_to (is_lack s) m.store x (time_at m.store now) i)
    (subst (λ r. MayCome (λ refused. names.comes_to refused m.store x (time_at m.store now) i) m.store x old new r store behind) is came) in
    subst (λ t. Steps t s (record m { store = store }) behind old new) (sym (step_of_names m x now (is_lack s) i found.0 found.1)) (record {
      status = found.2.status;
      machine = ap (λ (t : State). record m { store = t }) found.2.state;
      context = found.2.context;
      put = found.2.put;
    })

-- what was tried on files behind it came as from the same state
same_start : (m : Machine) (x : Context) (now : ℕ) (i : Item) (old mid new : SheetState) (between store : State) (y behind : Context) (q : Option Status)
    → mid ≡ old → between ≡ m.store → y ≡ x
    → MayCome (λ refused. files.comes_to refused between y (time_at between now) i) between y mid new q store behind
    → MayCome (λ refused. files.comes_to refused m.store x (time_at m.store now) i) m.store x old new q store behind
same_start m x now i old mid new between store y behind q sheet state context came =
    subst (λ t. MayCome (λ refused. files.comes_to refused t x (time_at t now) i) t x old new q store behind) state
    (subst (λ z. MayCome (λ refused. files.comes_to refused between z (time_at between now) i) between z old new q store behind) context
    (subst (λ sh. MayCome (λ refused. files.comes_to refused between y (time_at between now) i) between y sh new q store behind) sheet came))

-- an operation on open files was run
pub file_steps : (m : Machine) (x : Context) (now : ℕ) (i : Item) (old mid new : SheetState) (between store : State) (y behind : Context)
    (q : Option Status) (s : Status)
    → ((refused : Bool) → names.comes_to refused m.store x (time_at m.store now) i ≡ None) × (mid ≡ old) × (between ≡ m.store) × (y ≡ x)
    → MayCome (λ refused. files.comes_to refused between y (time_at between now) i) between y mid new q store behind → q ≡ Some s
    → Steps (step m x now (is_lack s) i) s (record m { store = store }) behind old new
file_steps m x now i old mid new between store y behind q s none came is =
    let found = some_and (λ o. Comes o old new s store behind) (files.comes_to (is_lack s) m.store x (time_at m.store now) i)
    (same_start m x now i old mid new between store y behind (Some s) none.1 none.2 none.3
    (subst (λ q. MayCome (λ refused. files.comes_to refused between y (time_at between now) i) between y mid new q store behind) is came)) in
    subst (λ t. Steps t s (record m { store = store }) behind old new) (sym (step_of_files m x now (is_lack s) i found.0 (none.0 (is_lack s)) found.1)) (record {
      status = found.2.status;
      machine = ap (λ (t : State). record m { store = t }) found.2.state;
      context = found.2.context;
      put = found.2.put;
    })

-- an operation that is not on the store was run
pub other_steps : (m before left : Machine) (x : Context) (now : ℕ) (i : Item) (old mid late new : SheetState) (between store : State) (y behind : Context)
    (q : Option Status) (r : Res) (s : Status)
    → ((refused : Bool) → names.comes_to refused m.store x (time_at m.store now) i ≡ None) × (mid ≡ old) × (between ≡ m.store) × (y ≡ x)
    → MayCome (λ refused. files.comes_to refused between y (time_at between now) i) between y mid late q store behind → q ≡ None
    → before ≡ record m { store = store } → with_result left r ≡ (otherwise before behind i).outcome → s ≡ status_of_result r
    → Puts late new (spell_result r) → Steps (step m x now (is_lack s) i) s left behind old new
other_steps m before left x now i old mid late new between store y behind q r s none came is start done status put =
    let other = same_start m x now i old mid late between store y behind None none.1 none.2 none.3
    (subst (λ q. MayCome (λ refused. files.comes_to refused between y (time_at between now) i) between y mid late q store behind) is came) in
    let same : before ≡ m = start ∙ ap (λ (t : State). record m { store = t }) other.2 in
    let out : with_result left r ≡ (otherwise m x i).outcome =
    done ∙ ap (λ (k : Machine). (otherwise k behind i).outcome) same ∙ ap (λ (z : Context). (otherwise m z i).outcome) other.3 in
    subst (λ t. Steps t s left behind old new) (sym (step_of_none m x now (is_lack s) i (none.0 (is_lack s)) (other.0 (is_lack s)))) (record {
      status = status ∙ ap (λ (o : MachineOutcome). o.status) out;
      machine = ap (λ (o : MachineOutcome). o.machine) out;
      context = other.3 ∙ other_context m x i;
      put = subst (λ (text : List ℕ). Puts old new text) (ap (λ (o : MachineOutcome). o.result) out) (subst (λ sh. Puts sh new (spell_result r)) other.1 put);
    })
