-- OPEN: where its own checks pass, the tree refuses nothing; and what the code looks at in their place.
use Rattle.std.proofs.Common.{◌≡◌, ℕ, Bool, true, false, cond, not, Option, Some, None, refl, ◌∙◌, ap, subst, arith}
use Rattle.std.proofs.lemmas.Bool.{and_parts, le-ltb, not-false, false≢true}
use Rattle.std.proofs.lemmas.List.{length-replicate}
use Rattle.std.specs.{Prelude.{Ok, Err, is_some, nat_lt, option_map, unwrap_or}, Option.option_map_or}
use Rattle.nfs_xdr.specs.{Checks.first_fault, declared.status.Status.TheVariants.Inval}
use Rattle.nfs_xdr.proofs.Checks.{all_passed}
use Rattle.nfs_compound.specs.{declared.open_args.Open.Open, declared.open_args.OpenClaim.OpenClaim}
use Rattle.nfs_compound.specs.declared.open_args.OpenClaim.TheVariants.{Null, Previous, DelegateCur, DelegatePrev, Fh, DelegCurFh, DelegPrevFh}
use Rattle.nfs_tree.specs.{declared.object.FileType.FileType, declared.row.Row.Row, declared.stored.Stored.Stored, Object.{is_directory, is_regular}}
use Rattle.nfs_tree.specs.{Files.{Files, is_name, stored_in, is_there, is_directory_at, can_change, entry, has_name, object_named}, Calls.is_regular_at}
use Rattle.nfs_tree.specs.{TreeInvariants.IsTree, Create.create_checks}
use Rattle.nfs_tree.specs.declared.object.FileType.TheVariants as Kind
use Rattle.nfs_names.specs.{declared.context.Context.Context, declared.node.Node.Node, declared.making.Making.Making, State.State, Outcome.{mapped, checked}}
use Rattle.nfs_names.specs.{Checks.{node_at, current}, Create.attributes_in, Faults.by_tree, StoreInvariants.IsStore}
use Rattle.nfs_names.proofs.{Rows.tree_passes, Found.{IsHeld, current_is, checked_ok, came, ok_is, short_name}}
use Rattle.nfs_files.specs.{declared.opening.Found.Found, declared.opening.Found.TheVariants.{There, Absent}}
use Rattle.nfs_files.specs.{Open.{makes, name_of, there_checks, cuts}, OpenParts.{argument_checks, place_checks, absent_checks, found_by}}
use Rattle.nfs_files.specs.{Open.{last_checks, new_of, room_checks}, OpenParts.{tree_fault, can_enter}}
use Rattle.nfs_files.specs.OpenParts.{by_name, by_handle, by_claim, asked_for}
use Rattle.nfs_files.specs.OpenParts as part
use Rattle.nfs_files.proofs.{Opened.{shared_same, rooms_free}, Passing.mapped_came, OpenAnswers.asked_regular}

-- a file that is there, and is no directory
file_there : (o : Option Stored) → option_map_or (λ (s : Stored). is_regular s.object.kind) o false ≡ true
    → (is_some o ≡ true) × (option_map_or (λ (s : Stored). is_directory s.object.kind) o false ≡ false)
file_there None e = absurd (false≢true e)
file_there (Some s) e = (refl, by_kind s.object.kind e)
  where
    by_kind : (k : FileType) → is_regular k ≡ true → is_directory k ≡ false
    by_kind Kind.Regular e = refl
    by_kind Kind.Directory e = absurd (false≢true e)
    by_kind Kind.Link e = absurd (false≢true e)

cut_free : (t : Files) (o : Open) (place : ℕ) (f : Node) (cut : Bool) → is_regular_at t f.number ≡ true
    → first_fault (room_checks t (There place f cut)) ≡ None → tree_fault t o (There place f cut) ≡ None
cut_free t o place f false file can = refl
cut_free t o place f true file can =
    let n = f.number in
    let parts = file_there (stored_in t.objects n) file in
    let there : not (is_there t n) ≡ false = ap not parts.0 in
    let directory : is_directory_at t n ≡ false = parts.1 in
    let regular : not (is_regular_at t n) ≡ false = ap not file in
    let small : nat_lt t.limits.bytes 0 ≡ false = le-ltb t.limits.bytes 0 (omega arith) in
    let counted : not (can_change t n) ≡ false = (all_passed (room_checks t (There place f true)) can).0 in
    rw (there, directory, regular, small, counted) refl

-- what is to be made stands in a directory that is there, under a name that is free
pub record IsFree (s : State) (x : Context) (o : Open) (m : Making) : Type 0 where
  pub place : IsHeld s.tree m.place
  pub named : first_fault (place_checks x (name_of o.claim) m.place) ≡ None
  pub free : object_named s.tree m.place.number (name_of o.claim) ≡ None
  pub wanted : first_fault (absent_checks x o m) ≡ None

absent_found : (x : Context) (o : Open) (k m : Making) → mapped Absent (checked (Ok k) (absent_checks x o)) ≡ Ok (Absent m)
    → (k ≡ m) × (first_fault (absent_checks x o m) ≡ None)
absent_found x o k m e =
    let c = mapped_came Absent (checked (Ok k) (absent_checks x o)) (Absent m) e in
    let then : Absent c.found ≡ Absent m = c.same in
    let same : c.found ≡ m = cc in
    let found = checked_ok (Ok k) (absent_checks x o) m (c.is ∙ ap Ok same) in
    (ok_is refl found.0, found.1)

found_absent : (s : State) (x : Context) (o : Open) (k m : Making) (n : Option ℕ)
    → found_by s x o k n ≡ Ok (Absent m) → (k ≡ m) × (n ≡ None) × (first_fault (absent_checks x o m) ≡ None)
found_absent s x o k m (Some n) e =
    let c = mapped_came (λ f. There k.place.number f (cuts o k.wanted)) (checked (node_at s (Some n)) (there_checks s.tree x o)) (Absent m) e in
    let bad : There k.place.number c.found (cuts o k.wanted) ≡ Absent m = c.same in
    absurd cc
found_absent s x o k m None e = let found = absent_found x o k m e in (found.0, refl, found.1)

named_absent : (s : State) (x : Context) (o : Open) (d : Node) (m : Making) → IsHeld s.tree d → by_name s x o (name_of o.claim) d ≡ Ok (Absent m)
    → IsFree s x o m
named_absent s x o d m is e =
    let name = name_of o.claim in
    let p = came (checked (Ok d) (place_checks x name)) _ (Absent m) e in
    let w = came (attributes_in (makes o.openhow).attributes) _ (Absent m) p.then in
    let k : Making = record { place = p.found; wanted = w.found } in
    let found = found_absent s x o k m (object_named s.tree p.found.number name) w.then in
    let at : (m : Making) → Type 0 = λ m. (IsHeld s.tree m.place) × (first_fault (place_checks x name m.place) ≡ None) × (object_named s.tree m.place.number name ≡ None) in
    let placed = checked_ok (Ok d) (place_checks x name) p.found p.is in
    let all : at m = subst at found.0 (subst (IsHeld s.tree) (ok_is refl placed.0) is, placed.1, found.1) in
    record { place = all.0; named = all.1; free = all.2; wanted = found.2 }

handle_absent : (s : State) (x : Context) (o : Open) (b : Bool) (d : Node) (m : Making) → cond b (Err Inval) (by_handle s.tree x o d) ≡ Ok (Absent m) → ⊥
handle_absent s x o true d m e = absurd cc
handle_absent s x o false d m e =
    let c = mapped_came (λ f. There f.number f false) (checked (Ok d) (there_checks s.tree x o)) (Absent m) e in
    let bad : There c.found.number c.found false ≡ Absent m = c.same in
    absurd cc

claimed_absent : (s : State) (x : Context) (o : Open) (claim : OpenClaim) (d : Node) (m : Making) → o.claim ≡ claim → IsHeld s.tree d
    → by_claim s x o claim d ≡ Ok (Absent m) → IsFree s x o m
claimed_absent s x o (Null name) d m is here e =
    named_absent s x o d m here (ap (λ claim. by_name s x o (name_of claim) d) is ∙ e)
claimed_absent s x o Fh d m is here e = absurd (handle_absent s x o (makes o.openhow).creates d m e)
claimed_absent s x o (Previous type) d m is here e = absurd cc
claimed_absent s x o (DelegateCur id file) d m is here e = absurd cc
claimed_absent s x o (DelegatePrev file) d m is here e = absurd cc
claimed_absent s x o (DelegCurFh id) d m is here e = absurd cc
claimed_absent s x o DelegPrevFh d m is here e = absurd cc

asked_absent : (s : State) (x : Context) (o : Open) (m : Making) → asked_for s x o ≡ Ok (Absent m) → IsFree s x o m
unfolding asked_for
asked_absent s x o m e =
    let c = came (checked (current s x) (argument_checks o)) (by_claim s x o o.claim) (Absent m) e in
    let is = current_is s x c.found (checked_ok (current s x) (argument_checks o) c.found c.is).0 in
    claimed_absent s x o o.claim c.found m refl is c.then

no_entry : (k : Option Row) → option_map (λ (r : Row). r.object) k ≡ None → is_some k ≡ false
no_entry None e = refl
no_entry (Some r) e = absurd cc

-- of a file that is made the tree looks at its size, and at want of room or of a count
made_rooms : (s : State) (x : Context) (o : Open) (m : Making) → IsFree s x o m
    → first_fault (by_tree (create_checks s.tree m.place.number (name_of o.claim) (new_of o m.wanted))) ≡ first_fault (room_checks s.tree (Absent m))
made_rooms s x o m is =
    let t = s.tree in
    let d = m.place.number in
    let name = name_of o.claim in
    let places = all_passed (place_checks x name m.place) is.named in
    let there : not (is_there t d) ≡ false = ap not is.place.there in
    let directory : not (is_directory_at t d) ≡ false = ap not is.place.directory ∙ places.0 in
    let short : not (is_name name) ≡ false = ap not (short_name name places.1.1.0 places.1.1.1.0) in
    let free : has_name t d name ≡ false = no_entry (entry t.rows d name) is.free in
    let long = length-replicate {A = ℕ} (unwrap_or m.wanted.size 0) 0 in
    rw (there, directory, short, free, long) refl

-- what the code looks at last decides like what is to be looked at
pub last_same : (s : State) (x : Context) (o : Open) (found : Found) → IsTree s.tree → IsStore s
    → first_fault (last_checks s x o found) ≡ first_fault (part.last_checks s x o found)
last_same s x o found tree is =
    let shared = shared_same s x o found tree is in
    rw (shared.0, shared.1) refl

pub tree_free : (s : State) (x : Context) (o : Open) (found : Found) → asked_for s x o ≡ Ok found
    → first_fault (last_checks s x o found) ≡ None → tree_fault s.tree o found ≡ None
tree_free s x o (There place f cut) v e = cut_free s.tree o place f cut (asked_regular s x o place f cut v) (rooms_free s x o (There place f cut) e)
tree_free s x o (Absent m) v e =
    tree_passes (create_checks s.tree m.place.number (name_of o.claim) (new_of o m.wanted))
    (made_rooms s x o m (asked_absent s x o m v) ∙ rooms_free s x o (Absent m) e)

-- a directory in which a file may be made can change once more
pub may_change : (s : State) (x : Context) (o : Open) (found : Found) → first_fault (last_checks s x o found) ≡ None → can_enter s.tree found ≡ true
may_change s x o (There place f cut) e = refl
may_change s x o (Absent m) e =
    let checks = all_passed (room_checks s.tree (Absent m)) (rooms_free s x o (Absent m) e) in
    (and_parts _ _ (not-false _ checks.1.1.0)).0
