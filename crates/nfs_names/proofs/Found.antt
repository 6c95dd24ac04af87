-- What is known of an object that was found under a filehandle, and of what passed its checks.
use Rattle.std.proofs.Common.{◌≡◌, ℕ, ◌≤◌, Bool, true, false, cond, List, [], ◌∷◌, ◌++◌, length, Option, Some, None, refl, sym, ◌∙◌, ap, subst, arith}
use Rattle.std.proofs.lemmas.Bool.{and_from, ltb-false, lt-ltb, le-leb}
use Rattle.std.specs.{Prelude.{Result, Ok, Err, is_some, nat_lt, nat_le, ◌==◌, ◌&&◌}, Option.option_map_or}
use Rattle.nfs_xdr.specs.{Checks.{first_fault, judged}, declared.status.Status.Status}
use Rattle.nfs_tree.specs.{declared.object.Object.Object, declared.stored.Stored.Stored, declared.stored.Size.Size, Stored.{content_of, size_of}, Object.is_directory}
use Rattle.nfs_tree.specs.Files.{Files, most_name, is_name, stored_in, data_at, size_at, object_at, is_there, is_directory_at}
pub use Rattle.nfs_opens.proofs.CallLaws.{came, ok_is}
use Rattle.nfs_names.specs.{declared.context.Context.Context, declared.node.Node.Node, declared.node.Pair.Pair, State.State, Outcome.{passed, checked}}
use Rattle.nfs_names.specs.{Checks.{node_as, node_at, saved_object, current, both}, Fronts.sized}

passed_ok : {A : Type 0} (b a : A) (o : Option Status) → passed b o ≡ Ok a → (b ≡ a) × (o ≡ None)
passed_ok b a None e = (cc, refl)
passed_ok b a (Some status) e = absurd cc

-- what passed its checks was found
pub checked_ok : {A : Type 0} (v : Result A Status) (checks : A → List (Bool × Status)) (a : A)
    → checked v checks ≡ Ok a → (v ≡ Ok a) × (first_fault (checks a) ≡ None)
checked_ok (Err status) checks a e = absurd cc
checked_ok (Ok b) checks a e =
    let p = passed_ok b a (first_fault (checks b)) e in
    (ap Ok p.0, ap (λ c. first_fault (checks c)) (sym p.0) ∙ p.1)

-- the object is the tree's
pub record IsHeld (t : Files) (d : Node) : Type 0 where
  pub there : is_there t d.number ≡ true
  pub directory : is_directory_at t d.number ≡ is_directory d.object.kind
  pub object : object_at t d.number ≡ Some d.object

is_held : (t : Files) (d : Node) → object_at t d.number ≡ Some d.object → IsHeld t d
is_held t d e = by_stored (stored_in t.objects d.number) refl
  where
    by_stored : (o : Option Stored) → stored_in t.objects d.number ≡ o → IsHeld t d
    by_stored None h = absurd (let bad : None ≡ Some d.object = rw h at e in cc)
    by_stored (Some w) h =
        let found : Some w.object ≡ Some d.object = rw h at e in
        let same : w.object ≡ d.object = cc in
        record {
          there = ap is_some h;
          directory = ap (λ o. option_map_or (λ (s : Stored). is_directory s.object.kind) o false) h ∙ ap (λ (o : Object). is_directory o.kind) same;
          object = e;
        }

node_by : (t : Files) (n : ℕ) (o : Option Object) (d : Node) → object_at t n ≡ o → node_as n o ≡ Ok d → IsHeld t d
node_by t n None d is e = absurd cc
node_by t n (Some o) d is e =
    let same : record { number = n; object = o } ≡ d = cc in
    is_held t d (ap (λ (h : Node). object_at t h.number) (sym same) ∙ is ∙ ap (λ (h : Node). Some h.object) same)

node_is : (s : State) (o : Option ℕ) (d : Node) → node_at s o ≡ Ok d → IsHeld s.tree d
node_is s None d e = absurd cc
node_is s (Some n) d e = node_by s.tree n (object_at s.tree n) d refl e

pub current_is : (s : State) (x : Context) (d : Node) → current s x ≡ Ok d → IsHeld s.tree d
unfolding current
current_is s x d e = node_is s x.current d e

pub both_is : (s : State) (x : Context) (p : Pair) → both s x ≡ Ok p → IsHeld s.tree p.current × IsHeld s.tree p.saved
unfolding both
both_is s x p e =
    let d = came (current s x) _ p e in
    let o = came (node_at s (saved_object x.saved)) _ p d.then in
    let same : record { current = d.found; saved = o.found } ≡ p = ok_is refl o.then in (
      subst (λ (p : Pair). IsHeld s.tree p.current) same (current_is s x d.found d.is),
      subst (λ (p : Pair). IsHeld s.tree p.saved) same (node_is s (saved_object x.saved) o.found o.is),
    )

-- an object that was found with its size, and why it was not
pub sized_ok : (s : State) (v : Result Node Status) (p : Node × Size) → sized s v ≡ Ok p → (v ≡ Ok p.0) × (p.1 ≡ size_at s.tree p.0.number)
sized_ok s (Err status) p e = absurd cc
sized_ok s (Ok d) p e =
    let same : (d, size_at s.tree d.number) ≡ p = ok_is refl e in (
      ap (λ (q : Node × Size). let found : Result Node Status = Ok q.0 in found) same,
      sym (ap (λ (q : Node × Size). q.1) same) ∙ ap (λ (q : Node × Size). size_at s.tree q.0.number) same,
    )

pub sized_err : (s : State) (v : Result Node Status) (status : Status) → sized s v ≡ Err status → v ≡ Err status
sized_err s (Ok d) status e = absurd cc
sized_err s (Err other) status e = (let same : other ≡ status = cc in ap Err same)

-- an object's size has its bytes
pub size_bytes : (t : Files) (n : ℕ) → (size_at t n).bytes ≡ length (data_at t n)
size_bytes t n = by_stored (stored_in t.objects n)
  where
    by_stored : (o : Option Stored)
        → (option_map_or (λ (s : Stored). size_of (content_of s)) o (record { bytes = 0; pages = 0 })).bytes ≡ length (option_map_or (λ (s : Stored). s.bytes) o [])
    by_stored None = refl
    by_stored (Some s) = refl

-- neither empty nor longer than so many bytes
pub short_list : (most : ℕ) (xs : List ℕ) → (length xs == 0) ≡ false → nat_lt most (length xs) ≡ false → nat_lt 0 (length xs) && nat_le (length xs) most ≡ true
short_list most [] e h = absurd cc
short_list most (b ∷ xs) e h =
    let le : length (b ∷ xs) ≤ most = ltb-false _ _ h in
    and_from (nat_lt 0 (length (b ∷ xs))) (nat_le (length (b ∷ xs)) most) (lt-ltb 0 (length (b ∷ xs)) (omega arith)) (le-leb (length (b ∷ xs)) most le)

-- a name that passed is one that a row can have
pub short_name : (name : List ℕ) → (length name == 0) ≡ false → nat_lt most_name (length name) ≡ false → is_name name ≡ true
short_name name e h = short_list most_name name e h

-- the fault of a judge, and that it judged all well
pub judged_err : (o : Option Status) (f : Status) → judged o ≡ Err f → o ≡ Some f
judged_err None f e = absurd cc
judged_err (Some g) f e = cc

pub judged_ok : (o : Option Status) (u : Unit {0}) → judged o ≡ Ok u → o ≡ None
judged_ok None u e = refl
judged_ok (Some g) u e = absurd cc

-- a check that fails stops what was found
pub stopped : {A : Type 0} (v : Result A Status) (checks : A → List (Bool × Status)) (a : A) (f : Status)
    → v ≡ Ok a → first_fault (checks a) ≡ Some f → checked v checks ≡ Err f
stopped v checks a f is some = ap (λ v. checked v checks) is ∙ ap (passed a) some

-- faults behind a name's
abbrev pub or_fault : Option Status → Option Status → Option Status
or_fault None rest = rest
or_fault (Some f) rest = Some f

pub first_append : (checks more : List (Bool × Status)) → first_fault (checks ++ more) ≡ or_fault (first_fault checks) (first_fault more)
first_append [] more = refl
first_append (check ∷ checks) more = by_test check.0 (first_append checks more)
  where
    by_test : (b : Bool) → first_fault (checks ++ more) ≡ or_fault (first_fault checks) (first_fault more)
        → cond b (Some check.1) (first_fault (checks ++ more)) ≡ or_fault (cond b (Some check.1) (first_fault checks)) (first_fault more)
    by_test true rest = refl
    by_test false rest = rest

pub append_none : (checks more : List (Bool × Status)) → first_fault checks ≡ None → first_fault (checks ++ more) ≡ first_fault more
append_none checks more e = first_append checks more ∙ ap (λ o. or_fault o (first_fault more)) e
