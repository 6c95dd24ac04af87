-- OPEN: the results that it may have, and what it leaves.
use Rattle.std.proofs.Common.{◌≡◌, ℕ, ◌+◌, ◌≤◌, Bool, true, false, cond, List, [], ◌∷◌, ◌++◌, length, Option, Some, None, refl, sym, ◌∙◌, ap, subst, arith}
use Rattle.std.proofs.{lemmas.Bool.{eqb-true, eq-eqb, false≢true}, lemmas.List.length-append}
use Rattle.std.specs.{Prelude.{◌==◌, Result, Ok, Err}, Option.option_map_or}
use Rattle.nfs_xdr.specs.{Checks.first_fault, Tables.{In, IsRising}, Spelling.{number, hyper}, declared.time.Time.Time, declared.status.Status.Status}
use Rattle.nfs_xdr.proofs.{Checks.all_passed, Lists.{find_in, none_in, last_in}, Tables.in_once, Putting.{length_number, length_hyper}}
use Rattle.nfs_xdr.specs.declared.status.Status.TheVariants as S
use Rattle.nfs_compound.specs.declared.op_num.OpNum.TheVariants as Num
use Rattle.nfs_compound.specs.{declared.open_args.Open.Open, declared.open_args.OpenClaim.OpenClaim}
use Rattle.nfs_compound.specs.declared.open_args.OpenClaim.TheVariants.{Null, Previous, DelegateCur, DelegatePrev, Fh, DelegCurFh, DelegPrevFh}
use Rattle.nfs_compound.specs.declared.op.Item.TheVariants.{Operation}
use Rattle.nfs_compound.specs.declared.op.Op.TheVariants as Op
use Rattle.nfs_tree.specs.{declared.stored.Stored.Stored, Object.is_regular, Files.{Files, root, stored_in, object_named, with_entries_changed}}
use Rattle.nfs_tree.specs.{Calls.is_regular_at, Create.new_object, Bytes.{with_size, with_resized}, Stored.content_of, TreeInvariants.IsTree}
use Rattle.nfs_opens.specs.{declared.stateid.StateId.StateId, Opening.opens}
use Rattle.nfs_names.specs.{declared.context.Context.Context, declared.node.Node.Node, declared.making.Making.Making, State.State, Outcome.{mapped, checked}}
use Rattle.nfs_names.specs.{Checks.{node_at, current}, Create.attributes_in}
use Rattle.nfs_attrs.specs.Mask.{mask_of}
use Rattle.nfs_names.proofs.{Bounds.IsAnswer, NameLaws.{node_refuses, current_refuses, wanted_refuses}, Found.{IsHeld, current_is, checked_ok, came, ok_is}}
use Rattle.nfs_names.proofs.StoreInvariants.{regular_same}
use Rattle.nfs_names.proofs.Refusing.{Refuses, refusal_by, all_refuse, refuses_checked, refuses_mapped, refuses_then, err_refuses, ok_refuses, answers_with}
use Rattle.nfs_names.proofs.Masks.{few_words}
use Rattle.nfs_files.specs.{declared.opening.Found.Found, declared.opening.Found.TheVariants.{There, Absent}, StateIds.wire_id, Bytes.{file_checks, behind_sets}}
use Rattle.nfs_files.specs.{Open.{makes, there_checks, cuts}, OpenParts.{argument_checks, place_checks, absent_checks, found_by}}
use Rattle.nfs_files.specs.Open.{file_of, asking, last_checks, new_of, made_sets, tree_of, set_of, open_file}
use Rattle.nfs_files.specs.OpenParts.{by_name, by_handle, by_claim, asked_for}
use Rattle.nfs_files.proofs.{Passing.mapped_came, Seats.by_bool, SetRows.file_regular, Keeping.kind_bytes}
use Rattle.nfs_files.proofs.InSteps as in_steps

-- refusals
found_by_refuses : (s : State) (x : Context) (o : Open) (m : Making) (n : Option ℕ) → Refuses (found_by s x o m n)
found_by_refuses s x o m None =
    refuses_mapped Absent (checked (Ok m) (absent_checks x o)) (refuses_checked (Ok m) (absent_checks x o) (ok_refuses m) (λ m. refl))
found_by_refuses s x o m (Some n) =
    refuses_mapped (λ f. There m.place.number f (cuts o m.wanted)) (checked (node_at s (Some n)) (there_checks s.tree x o))
    (refuses_checked (node_at s (Some n)) (there_checks s.tree x o) (node_refuses s (Some n)) (λ f. refl))

name_refuses : (s : State) (x : Context) (o : Open) (name : List ℕ) (d : Node) → Refuses (by_name s x o name d)
name_refuses s x o name d =
    refuses_then (checked (Ok d) (place_checks x name)) _ (refuses_checked (Ok d) (place_checks x name) (ok_refuses d) (λ d. refl)) (λ d.
    refuses_then (attributes_in (makes o.openhow).attributes) _ (wanted_refuses (makes o.openhow).attributes) (λ w.
    found_by_refuses s x o (record { place = d; wanted = w }) (object_named s.tree d.number name)))

handle_refuses : (s : State) (x : Context) (o : Open) (d : Node) → Refuses (by_handle s.tree x o d)
handle_refuses s x o d =
    refuses_mapped (λ f. There f.number f false) (checked (Ok d) (there_checks s.tree x o))
    (refuses_checked (Ok d) (there_checks s.tree x o) (ok_refuses d) (λ f. refl))

claim_refuses : (s : State) (x : Context) (o : Open) (claim : OpenClaim) (d : Node) → Refuses (by_claim s x o claim d)
claim_refuses s x o (Null name) d = name_refuses s x o name d
claim_refuses s x o Fh d =
    by_bool (makes o.openhow).creates (Err S.Inval) (by_handle s.tree x o d) (err_refuses S.Inval (refusal_by S.Inval refl)) (handle_refuses s x o d)
claim_refuses s x o (Previous type) d = err_refuses S.NoGrace (refusal_by S.NoGrace refl)
claim_refuses s x o (DelegateCur id file) d = err_refuses S.NotSupp (refusal_by S.NotSupp refl)
claim_refuses s x o (DelegatePrev file) d = err_refuses S.NotSupp (refusal_by S.NotSupp refl)
claim_refuses s x o (DelegCurFh id) d = err_refuses S.NotSupp (refusal_by S.NotSupp refl)
claim_refuses s x o DelegPrevFh d = err_refuses S.NotSupp (refusal_by S.NotSupp refl)

pub asked_refuses : (s : State) (x : Context) (o : Open) → Refuses (asked_for s x o)
unfolding asked_for
asked_refuses s x o =
    refuses_then (checked (current s x) (argument_checks o)) (by_claim s x o o.claim)
    (refuses_checked (current s x) (argument_checks o) (current_refuses s x) (λ d. refl)) (claim_refuses s x o o.claim)

last_refuse : (s : State) (x : Context) (o : Open) (found : Found) → all_refuse (last_checks s x o found) ≡ true
last_refuse s x o (There place f cut) = refl
last_refuse s x o (Absent m) = refl

pub open_refuses : (s : State) (x : Context) (o : Open) → Refuses (checked (asked_for s x o) (last_checks s x o))
open_refuses s x o = refuses_checked (asked_for s x o) (last_checks s x o) (asked_refuses s x o) (last_refuse s x o)

-- results
set_few : (o : Open) (found : Found) → length (set_of o found) ≤ 3
set_few o (There place f true) = omega arith
set_few o (There place f false) = omega arith
set_few o (Absent m) =
    let mask = mask_of (makes o.openhow).attributes.attrmask in
    let few = few_words mask.words in
    let three : length mask.words ≡ 3 = refl in
    omega (arith, three)

pub wire_length : (id : StateId) → length (wire_id id).other ≡ 12
wire_length id = omega (arith, length-append (number id.instance) (hyper id.number), length_number id.instance, length_hyper id.number)

pub may_open : (s : State) (x : Context) (now : Time) (o : Open) → IsAnswer (Operation (Op.Open o)) (open_file s x now o).result
may_open s x now o =
    rw (in_steps.open_is s x now o)
    (answers_with (IsAnswer (Operation (Op.Open o))) s x Num.Open _ _
    (open_refuses s x o)
    (λ status h. record { may = (refl, rw (h.done, h.legal) refl, tt); arrays = tt })
    (λ found. record { may = (refl, tt, set_few o found); arrays = wire_length (opens s.opens (asking x o (file_of s.tree found))).id }))

-- what is there is a file
there_regular : (s : State) (x : Context) (o : Open) (f : Node) → IsHeld s.tree f
    → first_fault (there_checks s.tree x o f) ≡ None → is_regular_at s.tree f.number ≡ true
there_regular s x o f is e =
    let checks = all_passed (there_checks s.tree x o f) e in
    let file : first_fault (file_checks f) ≡ None = rw (checks.1.0, checks.1.1.0) refl in
    file_regular s.tree f is file

-- what was found passed its checks
there_found : (s : State) (x : Context) (o : Open) (v : Result Node Status) (to : Node → Found) (place : ℕ) (f : Node) (cut : Bool)
    → ((g : Node) → to g ≡ There place f cut → g ≡ f)
    → mapped to (checked v (there_checks s.tree x o)) ≡ Ok (There place f cut) → (v ≡ Ok f) × (first_fault (there_checks s.tree x o f) ≡ None)
there_found s x o v to place f cut same e =
    let c = mapped_came to (checked v (there_checks s.tree x o)) (There place f cut) e in
    checked_ok v (there_checks s.tree x o) f (c.is ∙ ap Ok (same c.found c.same))

found_regular : (s : State) (x : Context) (o : Open) (m : Making) (n : Option ℕ) (place : ℕ) (f : Node) (cut : Bool)
    → found_by s x o m n ≡ Ok (There place f cut) → is_regular_at s.tree f.number ≡ true
unfolding current
found_regular s x o m None place f cut e = by_absent (checked (Ok m) (absent_checks x o)) e
  where
    by_absent : (v : Result Making Status) → mapped Absent v ≡ Ok (There place f cut) → is_regular_at s.tree f.number ≡ true
    by_absent (Err status) e = absurd cc
    by_absent (Ok m) e = absurd cc
found_regular s x o m (Some n) place f cut e =
    let found = there_found s x o (node_at s (Some n)) (λ f. There m.place.number f (cuts o m.wanted)) place f cut (λ g e. cc) e in
    there_regular s x o f (current_is s (record x { current = Some n }) f found.0) found.1

named_regular : (s : State) (x : Context) (o : Open) (name : List ℕ) (d : Node) (place : ℕ) (f : Node) (cut : Bool)
    → by_name s x o name d ≡ Ok (There place f cut) → is_regular_at s.tree f.number ≡ true
named_regular s x o name d place f cut e =
    let p = came (checked (Ok d) (place_checks x name)) _ (There place f cut) e in
    let w = came (attributes_in (makes o.openhow).attributes) _ (There place f cut) p.then in
    found_regular s x o (record { place = p.found; wanted = w.found }) (object_named s.tree p.found.number name) place f cut w.then

handle_regular : (s : State) (x : Context) (o : Open) (b : Bool) (d : Node) (place : ℕ) (f : Node) (cut : Bool) → IsHeld s.tree d
    → cond b (Err S.Inval) (by_handle s.tree x o d) ≡ Ok (There place f cut) → is_regular_at s.tree f.number ≡ true
handle_regular s x o true d place f cut is e = absurd cc
handle_regular s x o false d place f cut is e =
    let found = there_found s x o (Ok d) (λ f. There f.number f false) place f cut (λ g e. cc) e in
    there_regular s x o f (subst (IsHeld s.tree) (ok_is refl found.0) is) found.1

claim_regular : (s : State) (x : Context) (o : Open) (claim : OpenClaim) (d : Node) (place : ℕ) (f : Node) (cut : Bool) → IsHeld s.tree d
    → by_claim s x o claim d ≡ Ok (There place f cut) → is_regular_at s.tree f.number ≡ true
claim_regular s x o (Null name) d place f cut is e = named_regular s x o name d place f cut e
claim_regular s x o Fh d place f cut is e = handle_regular s x o (makes o.openhow).creates d place f cut is e
claim_regular s x o (Previous type) d place f cut is e = absurd cc
claim_regular s x o (DelegateCur id file) d place f cut is e = absurd cc
claim_regular s x o (DelegatePrev file) d place f cut is e = absurd cc
claim_regular s x o (DelegCurFh id) d place f cut is e = absurd cc
claim_regular s x o DelegPrevFh d place f cut is e = absurd cc

pub asked_regular : (s : State) (x : Context) (o : Open) (place : ℕ) (f : Node) (cut : Bool)
    → asked_for s x o ≡ Ok (There place f cut) → is_regular_at s.tree f.number ≡ true
unfolding asked_for
asked_regular s x o place f cut e =
    let c = came (checked (current s x) (argument_checks o)) (by_claim s x o o.claim) (There place f cut) e in
    let is = current_is s x c.found (checked_ok (current s x) (argument_checks o) c.found c.is).0 in
    claim_regular s x o o.claim c.found place f cut is c.then

-- what is made is one
number_regular : (xs : List Stored) (made : Stored) (low high : ℕ) → IsRising (λ s. s.number) low xs high → In made xs → is_regular made.object.kind ≡ true
    → (o : Option Stored) → stored_in xs made.number ≡ o → option_map_or (λ (s : Stored). is_regular s.object.kind) o false ≡ true
number_regular xs made low high rising there regular None e =
    absurd (false≢true (sym (none_in (λ (s : Stored). s.number == made.number) xs made e there) ∙ eq-eqb made.number made.number refl))
number_regular xs made low high rising there regular (Some s) e =
    let at = find_in (λ (s : Stored). s.number == made.number) xs s e in
    let one : s ≡ made = in_once (λ (s : Stored). s.number) low high xs s made rising at.0 there (eqb-true _ _ at.1) in
    ap (λ (s : Stored). is_regular s.object.kind) one ∙ regular

made_regular : (t : Files) (x : Context) (now : Time) (o : Open) (m : Making)
    → IsTree (tree_of t x now o (Absent m)) → is_regular_at (tree_of t x now o (Absent m)) (t.last_object + 1) ≡ true
made_regular t x now o m is =
    let objects = with_entries_changed m.place.number now t.objects in
    let made : Stored = record {
      number = t.last_object + 1;
      object = new_object now (new_of o m.wanted) (made_sets t x now o m);
      bytes = (new_of o m.wanted).bytes;
      pages = (new_of o m.wanted).pages;
    } in
    number_regular (objects ++ made ∷ []) made root (t.last_object + 1 + 1) is.objects (last_in objects made) refl _ refl

cut_regular : (t : Files) (x : Context) (now : Time) (o : Open) (place : ℕ) (f : Node) (cut : Bool)
    → is_regular_at t f.number ≡ true → is_regular_at (tree_of t x now o (There place f cut)) f.number ≡ true
cut_regular t x now o place f true e =
    regular_same (with_resized t f.number 0 (behind_sets t x f) now) t f.number (kind_bytes t.objects f.number f.number now (behind_sets t x f) (λ k. with_size (content_of k) 0)) ∙ e
cut_regular t x now o place f false e = e

-- the file that is opened, in the tree that OPEN leaves
pub file_regular_behind : (s : State) (x : Context) (now : Time) (o : Open) (found : Found) → asked_for s x o ≡ Ok found → IsTree (tree_of s.tree x now o found)
    → is_regular_at (tree_of s.tree x now o found) (file_of s.tree found) ≡ true
file_regular_behind s x now o (There place f cut) v is = cut_regular s.tree x now o place f cut (asked_regular s x o place f cut v)
file_regular_behind s x now o (Absent m) v is = made_regular s.tree x now o m is
