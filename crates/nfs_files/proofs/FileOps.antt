-- A file is as its image says, through each operation.
use Rattle.std.proofs.Common.{◌≡◌, ℕ, ◌+◌, Bool, true, false, cond, List, [], Option, Some, None, refl, sym, ◌∙◌, ap, subst, arith, inl, inr}
use Rattle.std.proofs.lemmas.Bool.{cases_Bool, cases_eq, eq-eqb, ne_eqb, not-false, false≢true}
use Rattle.std.specs.{Prelude.{◌==◌, ◌&&◌, Result, Ok, Err, is_some, option_map, unwrap_or, map, replicate, if◌then◌else◌}, Option.{option_map_or, ForSome}}
use Rattle.nfs_xdr.specs.{declared.time.Time.Time, declared.status.Status.Status, declared.status.Status.TheVariants.{Inval, NoSpc, Delay}}
use Rattle.nfs_xdr.proofs.{Checks.all_passed, Lists.{find_push_none, find_push_other}}
use Rattle.nfs_compound.specs.{Arguments.arguments, declared.lock_args.LockU.LockU, declared.file_args.Write.Write, declared.file_args.SetAttr.SetAttr}
use Rattle.nfs_compound.specs.{declared.open_args.Open.Open, declared.open_args.Close.Close, declared.open_args.OpenHow.OpenHow}
use Rattle.nfs_compound.specs.declared.open_args.OpenHow.TheVariants.{NoCreate, Create}
use Rattle.nfs_compound.specs.{declared.open_args.CreateHow.TheVariants.{Unchecked, Guarded, Exclusive, Exclusive41}, declared.open_args.OpenClaim.OpenClaim}
use Rattle.nfs_compound.specs.declared.open_args.OpenClaim.TheVariants.{Null, Previous, DelegateCur, DelegatePrev, Fh, DelegCurFh, DelegPrevFh}
use Rattle.nfs_compound.specs.{declared.open_args.OpenDowngrade.OpenDowngrade, declared.stateid.Stateid.Stateid, declared.op_num.OpNum.OpNum, OpNum.op_number}
use Rattle.nfs_compound.specs.{declared.op.Op.Op, declared.op.Item.Item, declared.op.Item.TheVariants.{Operation, Fault}}
use Rattle.nfs_compound.specs.declared.lock_args.Lock as locks
use Rattle.nfs_compound.specs.declared.op_num.OpNum.TheVariants as Num
use Rattle.nfs_results.specs.Results.{status_of_result, refusal}
use Rattle.nfs_ranges.specs.declared.Held.{Held}
use Rattle.nfs_tree.specs.{declared.object.Object.Object, declared.stored.Stored.Stored, declared.sets.Sets.Sets, Object.{is_directory, modified, no_sets}}
use Rattle.nfs_tree.specs.Files.{Files, stored_in, object_at, is_there, is_directory_at, object_named, change_at, with_entries_changed}
use Rattle.nfs_tree.specs.{Bytes.{has_bytes, with_size, with_bytes, with_resized}, Stored.content_of, Create.{new_file, with_new, new_object}}
use Rattle.nfs_tree.proofs.Objects.{keeps_changed, stored_map}
use Rattle.nfs_attrs.specs.declared.wanted.Wanted.{Wanted}
use Rattle.nfs_opens.specs.Closing as closing
use Rattle.nfs_opens.specs.Locking as locking
use Rattle.nfs_names.specs.{declared.context.Context.Context, declared.node.Node.Node, declared.making.Making.Making, State.State, Ending.with_opens}
use Rattle.nfs_names.specs.{Outcome.{Outcome, answers, checked, refuses, is_ok}, Checks.{node_as, node_at, current}, Create.attributes_in}
use Rattle.nfs_names.specs.Operation as names
use Rattle.nfs_names.proofs.{Found.{IsHeld, came, ok_is, checked_ok, current_is}, NameLaws.current_refuses, Ones.{by_delay, is_lacked, each_of}}
use Rattle.nfs_names.proofs.{Refusing.{IsRefusal, Refuses, refuses_checked}, Effected.kept_item}
use Rattle.nfs_names.proofs.Effects as names_effects
use Rattle.nfs_names.proofs.Faulted.{status_of_refusal}
use Rattle.nfs_files.specs.{declared.opening.Found.Found, declared.opening.Found.TheVariants.{There, Absent}, declared.setting.Setting.Setting, Parts.writable}
use Rattle.nfs_files.specs.{Operation.grows, Close.close, FreeStateid.free_stateid, LockU.lock_u}
use Rattle.nfs_files.specs.{Open.{makes, access_of, there_checks, cuts}, OpenDowngrade.open_downgrade}
use Rattle.nfs_files.specs.OpenParts.{place_checks, absent_checks, by_handle}
use Rattle.nfs_files.specs.{TestStateid.test_stateid, Bytes.behind_sets}
use Rattle.nfs_files.specs.FileImage.{Image, unwritten, written_over, cut_to, size_in, new_size, old_size, asks_empty, claimed, is_number, left_of}
use Rattle.nfs_files.specs.Parts as parts
use Rattle.nfs_files.specs.Lock as of_lock
use Rattle.nfs_files.specs.OpenParts as open_parts
use Rattle.nfs_files.specs.Open as of_open
use Rattle.nfs_files.specs.SetAttrParts as set_parts
use Rattle.nfs_files.specs.SetAttr as of_set
use Rattle.nfs_files.specs.Write as of_write
use Rattle.nfs_files.proofs.Terms.{tested}
use Rattle.nfs_files.proofs.{Outcomes.{one, comes_to, one_or_delay}, OpenAnswers.open_refuses, OpensMoved.{by_close, by_free, by_downgrade, by_lock, by_unlock}}
use Rattle.nfs_files.proofs.{Passing.{if_passed_ok, mapped_came}, Seats.writable_refuses, SetAnswers.asked_refuses, WrittenOps.{current_number, writable_at}}
use Rattle.nfs_files.proofs.FileImages.{IsOf, Has, unwritten_is, has_new, has_changed, has_written, has_resized, has_unused, has_effect}
use Rattle.nfs_files.proofs.InSteps.{write_is, set_attr_is, commit_is, test_is, read_is}
use Rattle.nfs_files.proofs.InSteps as in_steps

-- what is left behind an outcome of this status
abbrev pub Left : ℕ → Image → State → Context → Item → (ok : Bool) → State → Type 0
Left n img s x i ok left = Has n (cond ok (left_of n img s.tree x i) img) left.tree

abbrev LeftBy : ℕ → Image → State → Context → Item → Outcome → Type 0
LeftBy n img s x i o = Left n img s x i (is_ok (status_of_result o.result)) o.state

pub same_if : (n : ℕ) (img : Image) (t : Files) (b : Bool) → Has n img t → Has n (cond b img img) t
same_if n img t true is = is
same_if n img t false is = is

pub by_granted : {A : Type 0} (P : Outcome → Type 0) (s : State) (x : Context) (op : OpNum) (v : Result A Status) (f : A → Outcome)
    → Refuses v → ((status : Status) → IsRefusal status → P (refuses s x op status)) → ((a : A) → v ≡ Ok a → P (f a)) → P (answers s x op v f)
by_granted P s x op (Err status) f all refused each = refused status (all.each status refl)
by_granted P s x op (Ok a) f all refused each = each a refl

found : {A : Type 0} (P : State → Type 0) (s : State) (x : Context) (op : OpNum) (v : Result A Status) (f : A → Outcome)
    → P s → ((a : A) → v ≡ Ok a → P (f a).state) → P (answers s x op v f).state
found P s x op (Err status) f same each = same
found P s x op (Ok a) f same each = each a refl

refused_left : (n : ℕ) (img : Image) (s : State) (x : Context) (i : Item) (op : OpNum) (status : Status) → is_ok status ≡ false → Has n img s.tree
    → LeftBy n img s x i (refuses s x op status)
refused_left n img s x i op status fails is =
    let not_ok : is_ok (status_of_result (refusal (op_number op) status)) ≡ false = ap is_ok (status_of_refusal (op_number op) status) ∙ fails in
    rw not_ok is

-- WRITE
written_left : (n : ℕ) (img : Image) (s : State) (x : Context) (now : Time) (w : Write) (d : Node) → current s x ≡ Ok d → Has n img s.tree
    → Has n (if is_number n x.current then written_over img w.offset w.bytes else img) (of_write.with_bytes s.tree x w d now)
written_left n img s x now w d at is =
    subst (λ (o : Option ℕ). Has n (if is_number n o then written_over img w.offset w.bytes else img) (of_write.with_bytes s.tree x w d now)) (sym (current_number s x d at))
    (elim (cases_Bool (has_bytes w.bytes)) [
      | inl some ↦ rw some (has_written n img s.tree d.number w.offset w.bytes (behind_sets s.tree x d) now is)
      | inr empty ↦ rw empty (same_if n img s.tree (d.number == n) is)
    ])

write_left : (n : ℕ) (img : Image) (s : State) (x : Context) (now : Time) (w : Write) → Has n img s.tree → LeftBy n img s x (Operation (Op.Write w)) (of_write.write s x now w)
write_left n img s x now w is =
    rw (write_is s x now w)
    (by_granted (LeftBy n img s x (Operation (Op.Write w))) s x Num.Write (checked (writable s x w.stateid (current s x)) (of_write.last_checks s w)) (parts.was_written s x now w)
    (refuses_checked (writable s x w.stateid (current s x)) (of_write.last_checks s w) (writable_refuses s x w.stateid (current s x) (current_refuses s x)) (λ d. refl))
    (λ status refuses. refused_left n img s x (Operation (Op.Write w)) Num.Write status refuses.done is)
    (λ d granted. written_left n img s x now w d
    (writable_at s x w.stateid d (checked_ok (writable s x w.stateid (current s x)) (of_write.last_checks s w) d granted).0) is))

-- SETATTR
pub record IsSetting (s : State) (x : Context) (a : SetAttr) (m : Setting) : Type 0 where
  pub at : x.current ≡ Some m.node.number
  pub reads : attributes_in a.obj_attributes ≡ Ok m.wanted

pub setting_is : (s : State) (x : Context) (a : SetAttr) (m : Setting) → set_parts.asked_for s x a ≡ Ok m → IsSetting s x a m
unfolding set_parts.asked_for
setting_is s x a m e =
    let p = if_passed_ok (set_parts.setting s x a) (set_parts.sized s x a.stateid) m e in
    let d = came (current s x) _ m p.0 in
    let w = came (attributes_in a.obj_attributes) _ m d.then in
    let k : Setting = record { node = d.found; wanted = w.found } in
    let same : k ≡ m = ok_is refl (checked_ok (Ok k) (set_parts.owner_checks s x) m w.then).0 in
    record {
      at = current_number s x d.found d.is ∙ ap (λ (m : Setting). Some m.node.number) same;
      reads = w.is ∙ ap (λ (m : Setting). Ok m.wanted) same;
    }

sized_left : (n : ℕ) (img : Image) (t : Files) (x : Context) (d : Node) (now : Time) (wanted : Wanted) (size : Option ℕ) → Has n img t
    → Has n (if d.number == n then cut_to img size else img) (of_set.with_set t x d now wanted size)
sized_left n img t x d now wanted (Some size) is = has_resized n img t d.number size (of_set.settled_sets t x d now wanted) now is
sized_left n img t x d now wanted None is = same_if n img (of_set.with_set t x d now wanted None) (d.number == n) (elim (cases_Bool (of_set.gives_some wanted)) [
  | inl some ↦ rw some (has_changed n img t d.number (of_set.settled_sets t x d now wanted) now is)
  | inr nothing ↦ rw nothing is
])

set_left : (n : ℕ) (img : Image) (s : State) (x : Context) (now : Time) (a : SetAttr) (m : Setting) → IsSetting s x a m → Has n img s.tree
    → Has n (if is_number n x.current then cut_to img (size_in (attributes_in a.obj_attributes)) else img) (of_set.with_set s.tree x m.node now m.wanted m.wanted.size)
set_left n img s x now a m is has =
    subst (λ (o : Option ℕ). Has n (if is_number n o then cut_to img (size_in (attributes_in a.obj_attributes)) else img)
    (of_set.with_set s.tree x m.node now m.wanted m.wanted.size)) (sym is.at)
    (subst (λ (v : Result Wanted Status). Has n (if m.node.number == n then cut_to img (size_in v) else img)
    (of_set.with_set s.tree x m.node now m.wanted m.wanted.size)) (sym is.reads)
    (sized_left n img s.tree x m.node now m.wanted m.wanted.size has))

set_attr_left : (n : ℕ) (img : Image) (s : State) (x : Context) (now : Time) (a : SetAttr) → Has n img s.tree
    → LeftBy n img s x (Operation (Op.SetAttr a)) (of_set.set_attr s x now a)
set_attr_left n img s x now a is =
    rw (set_attr_is s x now a)
    (by_granted (LeftBy n img s x (Operation (Op.SetAttr a))) s x Num.SetAttr (checked (set_parts.asked_for s x a) (set_parts.last_checks s)) (set_parts.was_set s x now a)
    (refuses_checked (set_parts.asked_for s x a) (set_parts.last_checks s) (asked_refuses s x a) (λ m. refl))
    (λ status refuses. refused_left n img s x (Operation (Op.SetAttr a)) Num.SetAttr status refuses.done is)
    (λ m granted. set_left n img s x now a m (setting_is s x a m (checked_ok (set_parts.asked_for s x a) (set_parts.last_checks s) m granted).0) is))

-- OPEN: what it comes upon, by what its claim names

and_swap : (a b : Bool) → a && b ≡ b && a
and_swap true true = refl
and_swap true false = refl
and_swap false true = refl
and_swap false false = refl

cuts_are : (how : OpenHow) (writes : Bool) (wanted : Wanted) → attributes_in (makes how).attributes ≡ Ok wanted
    → (option_map_or (λ size. size == 0) (old_size how) false && writes) ≡ ((makes how).cuts && (option_map_or (λ n. n == 0) wanted.size false && writes))
cuts_are NoCreate writes wanted e = refl
cuts_are (Create (Unchecked a)) writes wanted e = ap (λ (v : Result Wanted Status). option_map_or (λ size. size == 0) (size_in v) false && writes) e
cuts_are (Create (Guarded a)) writes wanted e = refl
cuts_are (Create (Exclusive v)) writes wanted e = refl
cuts_are (Create (Exclusive41 v a)) writes wanted e = refl

number_by : (n : ℕ) (d : Node) (o : Option Object) → node_as n o ≡ Ok d → Some n ≡ Some d.number
number_by n d None e = absurd cc
number_by n d (Some o) e = let same : record { number = n; object = o } ≡ d = cc in ap (λ (h : Node). Some h.number) same

held_at : (s : State) (x : Context) (k : ℕ) (d : Node) → node_at s (Some k) ≡ Ok d → IsHeld s.tree d
unfolding current
held_at s x k d e = current_is s (record x { current = Some k }) d e

found_there : (s : State) (x : Context) (o : Open) (m : Making) (k : Option ℕ) (place : ℕ) (f : Node) (cut : Bool)
    → open_parts.found_by s x o m k ≡ Ok (There place f cut) → (k ≡ Some f.number) × (cuts o m.wanted ≡ cut) × (m.place.number ≡ place) × IsHeld s.tree f
found_there s x o m None place f cut e =
    let c = mapped_came Absent (checked (Ok m) (absent_checks x o)) (There place f cut) e in
    let bad : Absent c.found ≡ There place f cut = c.same in
    absurd cc
found_there s x o m (Some k) place f cut e =
    let c = mapped_came (λ f. There m.place.number f (cuts o m.wanted)) (checked (node_at s (Some k)) (there_checks s.tree x o)) (There place f cut) e in
    let same : There m.place.number c.found (cuts o m.wanted) ≡ There place f cut = c.same in
    let node : c.found ≡ f = cc in
    let cut : cuts o m.wanted ≡ cut = cc in
    let at = (checked_ok (node_at s (Some k)) (there_checks s.tree x o) c.found c.is).0 in
    (number_by k c.found (object_at s.tree k) at ∙ ap (λ (d : Node). Some d.number) node, cut, cc, subst (IsHeld s.tree) node (held_at s x k c.found at))

found_absent : (s : State) (x : Context) (o : Open) (m : Making) (k : Option ℕ) (made : Making)
    → open_parts.found_by s x o m k ≡ Ok (Absent made) → (k ≡ None) × (m ≡ made)
found_absent s x o m None made e =
    let c = mapped_came Absent (checked (Ok m) (absent_checks x o)) (Absent made) e in
    let same : Absent c.found ≡ Absent made = c.same in
    let found : c.found ≡ made = cc in
    (refl, ok_is refl (checked_ok (Ok m) (absent_checks x o) c.found c.is).0 ∙ found)
found_absent s x o m (Some k) made e =
    let c = mapped_came (λ f. There m.place.number f (cuts o m.wanted)) (checked (node_at s (Some k)) (there_checks s.tree x o)) (Absent made) e in
    let bad : There m.place.number c.found (cuts o m.wanted) ≡ Absent made = c.same in
    absurd cc

-- an object that is there, and whether it is cut
pub record IsThere (s : State) (x : Context) (o : Open) (d : ℕ) (g : Node) (cut : Bool) : Type 0 where
  pub place : x.current ≡ Some d
  pub there : is_there s.tree d ≡ true
  pub directory : cut ≡ true → is_directory_at s.tree d ≡ true
  pub empties : (n : ℕ) → (is_number n (claimed s.tree x.current o.claim) && asks_empty o) ≡ (cut && (g.number == n))
  pub held : IsHeld s.tree g

-- or none, and what the new one is to be
pub record IsAbsent (s : State) (x : Context) (o : Open) (m : Making) : Type 0 where
  pub place : x.current ≡ Some m.place.number
  pub there : is_there s.tree m.place.number ≡ true
  pub none : claimed s.tree x.current o.claim ≡ None
  pub reads : attributes_in (makes o.openhow).attributes ≡ Ok m.wanted
  pub held : IsHeld s.tree m.place

abbrev pub Is : State → Context → Open → Found → Type 0
Is s x o (There place g cut) = IsThere s x o place g cut
Is s x o (Absent m) = IsAbsent s x o m

claim_at : (s : State) (x : Context) (o : Open) (claim : OpenClaim) (d : Node) → current s x ≡ Ok d → o.claim ≡ claim
    → claimed s.tree x.current o.claim ≡ claimed s.tree (Some d.number) claim
claim_at s x o claim d at is =
    ap (λ (k : Option ℕ). claimed s.tree k o.claim) (current_number s x d at) ∙ ap (λ (c : OpenClaim). claimed s.tree (Some d.number) c) is

named_is : (s : State) (x : Context) (o : Open) (name : List ℕ) (d : Node) (f : Found) → current s x ≡ Ok d → o.claim ≡ Null name
    → open_parts.by_name s x o name d ≡ Ok f → Is s x o f
named_is s x o name d f at is e =
    let p = came (checked (Ok d) (place_checks x name)) _ f e in
    let w = came (attributes_in (makes o.openhow).attributes) _ f p.then in
    let same : d ≡ p.found = ok_is refl (checked_ok (Ok d) (place_checks x name) p.found p.is).0 in
    let names : claimed s.tree x.current o.claim ≡ object_named s.tree p.found.number name =
    claim_at s x o (Null name) d at is ∙ ap (λ (d : Node). object_named s.tree d.number name) same in
    let at_place : x.current ≡ Some p.found.number = current_number s x d at ∙ ap (λ (d : Node). Some d.number) same in
    let directory : is_directory_at s.tree p.found.number ≡ true =
    subst (λ (d : Node). is_directory_at s.tree d.number ≡ is_directory d.object.kind) same (current_is s x d at).directory
    ∙ not-false (is_directory p.found.object.kind) (all_passed (place_checks x name p.found) (checked_ok (Ok d) (place_checks x name) p.found p.is).1).0 in
    let there : is_there s.tree p.found.number ≡ true = subst (λ (d : Node). is_there s.tree d.number ≡ true) same (current_is s x d at).there in
    go p.found w.found f at_place (subst (IsHeld s.tree) same (current_is s x d at)) there directory names w.is w.then
  where
    go : (place : Node) (wanted : Wanted) (f : Found) → x.current ≡ Some place.number → IsHeld s.tree place → is_there s.tree place.number ≡ true → is_directory_at s.tree place.number ≡ true → claimed s.tree x.current o.claim ≡ object_named s.tree place.number name
        → attributes_in (makes o.openhow).attributes ≡ Ok wanted
        → open_parts.found_by s x o (record { place = place; wanted = wanted }) (object_named s.tree place.number name) ≡ Ok f → Is s x o f
    go place wanted (There k g cut) at_place held there directory names reads e =
        let it = found_there s x o (record { place = place; wanted = wanted }) (object_named s.tree place.number name) k g cut e in
        let asks : asks_empty o ≡ cut = cuts_are o.openhow (access_of o).writes wanted reads ∙ it.1 in
        record {
          place = at_place ∙ ap (λ (n : ℕ). Some n) it.2;
          there = subst (λ (n : ℕ). is_there s.tree n ≡ true) it.2 there;
          directory = λ cuts. subst (λ (n : ℕ). is_directory_at s.tree n ≡ true) it.2 directory;
          empties = λ n. ap (λ (k : Option ℕ). is_number n k && asks_empty o) (names ∙ it.0)
              ∙ (ap (λ (b : Bool). (g.number == n) && b) asks ∙ and_swap (g.number == n) cut);
          held = it.3;
        }
    go place wanted (Absent m) at_place held there directory names reads e =
        let it = found_absent s x o (record { place = place; wanted = wanted }) (object_named s.tree place.number name) m e in
        record {
          place = at_place ∙ ap (λ (m : Making). Some m.place.number) it.1;
          there = subst (λ (m : Making). is_there s.tree m.place.number ≡ true) it.1 there;
          none = names ∙ it.0;
          reads = reads ∙ ap (λ (m : Making). Ok m.wanted) it.1;
          held = subst (λ (m : Making). IsHeld s.tree m.place) it.1 held;
        }

handle_is : (s : State) (x : Context) (o : Open) (b : Bool) (d : Node) (f : Found) → current s x ≡ Ok d → o.claim ≡ Fh
    → cond b (Err Inval) (by_handle s.tree x o d) ≡ Ok f → Is s x o f
handle_is s x o true d f at is e = absurd cc
handle_is s x o false d (There place g cut) at is e =
    let c = mapped_came (λ f. There f.number f false) (checked (Ok d) (there_checks s.tree x o)) (There place g cut) e in
    let same : There c.found.number c.found false ≡ There place g cut = c.same in
    let none : false ≡ cut = cc in
    let here : c.found.number ≡ place = cc in
    let it : c.found ≡ g = cc in
    let node : d ≡ c.found = ok_is refl (checked_ok (Ok d) (there_checks s.tree x o) c.found c.is).0 in
    record {
      place = current_number s x d at ∙ (ap (λ (d : Node). Some d.number) node ∙ ap (λ (n : ℕ). Some n) here);
      there = subst (λ (n : ℕ). is_there s.tree n ≡ true) (ap (λ (d : Node). d.number) node ∙ here) (current_is s x d at).there;
      directory = λ cuts. absurd (false≢true (none ∙ cuts));
      empties = λ n. ap (λ (k : Option ℕ). is_number n k && asks_empty o) (claim_at s x o Fh d at is) ∙ ap (λ (b : Bool). b && (g.number == n)) none;
      held = subst (IsHeld s.tree) (node ∙ it) (current_is s x d at);
    }
handle_is s x o false d (Absent m) at is e =
    let c = mapped_came (λ f. There f.number f false) (checked (Ok d) (there_checks s.tree x o)) (Absent m) e in
    let bad : There c.found.number c.found false ≡ Absent m = c.same in
    absurd cc

claim_is : (s : State) (x : Context) (o : Open) (claim : OpenClaim) (d : Node) (f : Found) → current s x ≡ Ok d → o.claim ≡ claim
    → open_parts.by_claim s x o claim d ≡ Ok f → Is s x o f
claim_is s x o (Null name) d f at is e = named_is s x o name d f at is e
claim_is s x o Fh d f at is e = handle_is s x o (makes o.openhow).creates d f at is e
claim_is s x o (Previous type) d f at is e = absurd cc
claim_is s x o (DelegateCur id file) d f at is e = absurd cc
claim_is s x o (DelegatePrev file) d f at is e = absurd cc
claim_is s x o (DelegCurFh id) d f at is e = absurd cc
claim_is s x o DelegPrevFh d f at is e = absurd cc

pub open_is : (s : State) (x : Context) (o : Open) (f : Found) → open_parts.asked_for s x o ≡ Ok f → Is s x o f
unfolding open_parts.asked_for
open_is s x o f e =
    let c = came (checked (current s x) (open_parts.argument_checks o)) (open_parts.by_claim s x o o.claim) f e in
    claim_is s x o o.claim c.found f (checked_ok (current s x) (open_parts.argument_checks o) c.found c.is).0 refl c.then

-- what it leaves

cut_left : (n : ℕ) (img : Image) (t : Files) (g : ℕ) (sets : Sets) (now : Time) (cut : Bool) → Has n img t
    → Has n (if cut && (g == n) then cut_to img (Some 0) else img) (if cut then with_resized t g 0 sets now else t)
cut_left n img t g sets now true is = has_resized n img t g 0 sets now is
cut_left n img t g sets now false is = is

opened_left : (n : ℕ) (img : Image) (s : State) (x : Context) (now : Time) (o : Open) (f : Found) → Is s x o f → Has n img s.tree
    → Has n (if is_number n (claimed s.tree x.current o.claim) && asks_empty o then cut_to img (Some 0) else img) (of_open.tree_of s.tree x now o f)
opened_left n img s x now o (There place g cut) it is =
    subst (λ (b : Bool). Has n (if b then cut_to img (Some 0) else img) (if cut then with_resized s.tree g.number 0 (behind_sets s.tree x g) now else s.tree)) (sym (it.empties n))
    (cut_left n img s.tree g.number (behind_sets s.tree x g) now cut is)
opened_left n img s x now o (Absent m) it is =
    subst (λ (k : Option ℕ). Has n (if is_number n k && asks_empty o then cut_to img (Some 0) else img)
    (with_new s.tree m.place.number (of_open.name_of o.claim) (of_open.new_of o m.wanted) (of_open.made_sets s.tree x now o m) now)) (sym it.none)
    (has_new n img s.tree m.place.number (of_open.name_of o.claim) (of_open.new_of o m.wanted) (of_open.made_sets s.tree x now o m) now is)

open_left : (n : ℕ) (img : Image) (s : State) (x : Context) (now : Time) (o : Open) → Has n img s.tree → LeftBy n img s x (Operation (Op.Open o)) (of_open.open_file s x now o)
open_left n img s x now o is =
    rw (in_steps.open_is s x now o)
    (by_granted (LeftBy n img s x (Operation (Op.Open o))) s x Num.Open (checked (open_parts.asked_for s x o) (of_open.last_checks s x o)) (of_open.opened s x now o)
    (open_refuses s x o)
    (λ status refuses. refused_left n img s x (Operation (Op.Open o)) Num.Open status refuses.done is)
    (λ f granted. opened_left n img s x now o f (open_is s x o f (checked_ok (open_parts.asked_for s x o) (of_open.last_checks s x o) f granted).0) is))

-- those that leave the bytes
close_left : (n : ℕ) (img : Image) (s : State) (x : Context) (a : Close) → Has n img s.tree → Has n img (close s x a).state.tree
close_left n img s x a is = by_close (λ o. Has n img o.state.tree) s x a (λ status. is) (λ t did judged granted its.
    has_unused n img (with_opens s (closing.without_open s.opens t.id.number)) t.file is)

lock_left : (n : ℕ) (img : Image) (s : State) (x : Context) (a : locks.Lock) → Has n img s.tree → Has n img (of_lock.lock s x a).state.tree
lock_left n img s x a is = by_lock (λ o. Has n img o.state.tree) s x a (λ status. is) (λ h. is) (λ m did judged granted locked. is)

unlock_left : (n : ℕ) (img : Image) (s : State) (x : Context) (a : LockU) → Has n img s.tree → Has n img (lock_u s x a).state.tree
unlock_left n img s x a is = by_unlock (λ o. Has n img o.state.tree) s x a (λ status. is) (λ m did judged granted unlocked. is)

free_left : (n : ℕ) (img : Image) (s : State) (x : Context) (given : Stateid) → Has n img s.tree → Has n img (free_stateid s x given).state.tree
free_left n img s x given is = by_free (λ o. Has n img o.state.tree) s x given (λ status. is) (λ id did freed. is)

downgrade_left : (n : ℕ) (img : Image) (s : State) (x : Context) (a : OpenDowngrade) → Has n img s.tree → Has n img (open_downgrade s x a).state.tree
downgrade_left n img s x a is = by_downgrade (λ o. Has n img o.state.tree) s x a (λ status. is) (λ t did narrowed. is)

tested_left : (n : ℕ) (img : Image) (s : State) (x : Context) (o : Option Held) → Has n img s.tree → Has n img (tested s x o).state.tree
tested_left n img s x None is = is
tested_left n img s x (Some h) is = is

one_left : (n : ℕ) (img : Image) (s : State) (x : Context) (now : Time) (op : Op) → Has n img s.tree → LeftBy n img s x (Operation op) (one s x now op)
unfolding test_stateid
one_left n img s x now (Op.Close a) is = same_if n img _ (is_ok (status_of_result (one s x now (Op.Close a)).result)) (close_left n img s x a is)
one_left n img s x now (Op.Commit a) is =
    same_if n img _ (is_ok (status_of_result (one s x now (Op.Commit a)).result)) (rw (commit_is s x) (found (λ s. Has n img s.tree) s x Num.Commit _ _ is (λ d e. is)))
one_left n img s x now (Op.FreeStateid given) is = same_if n img _ (is_ok (status_of_result (one s x now (Op.FreeStateid given)).result)) (free_left n img s x given is)
one_left n img s x now (Op.Lock a) is = same_if n img _ (is_ok (status_of_result (one s x now (Op.Lock a)).result)) (lock_left n img s x a is)
one_left n img s x now (Op.LockT a) is = same_if n img _ (is_ok (status_of_result (one s x now (Op.LockT a)).result))
    (rw (test_is s x a) (found (λ s. Has n img s.tree) s x Num.LockT _ _ is (λ w e. tested_left n img s x (locking.test_lock s.opens a.owner.owner w) is)))
one_left n img s x now (Op.LockU a) is = same_if n img _ (is_ok (status_of_result (one s x now (Op.LockU a)).result)) (unlock_left n img s x a is)
one_left n img s x now (Op.Open a) is = open_left n img s x now a is
one_left n img s x now (Op.OpenDowngrade a) is = same_if n img _ (is_ok (status_of_result (one s x now (Op.OpenDowngrade a)).result)) (downgrade_left n img s x a is)
one_left n img s x now (Op.Read a) is =
    same_if n img _ (is_ok (status_of_result (one s x now (Op.Read a)).result)) (rw (read_is s x a) (found (λ s. Has n img s.tree) s x Num.Read _ _ is (λ d e. is)))
one_left n img s x now (Op.SetAttr a) is = set_attr_left n img s x now a is
one_left n img s x now (Op.TestStateid given) is = is
one_left n img s x now (Op.Write a) is = write_left n img s x now a is
one_left n img s x now op is = same_if n img s.tree (is_ok (status_of_result (one s x now op).result)) is

pub file_left : (n : ℕ) (img : Image) (refused : Bool) (s : State) (x : Context) (now : Time) (i : Item) → Has n img s.tree → LeftBy n img s x i (comes_to refused s x now i)
file_left n img refused s x now (Operation op) is =
    by_delay (LeftBy n img s x (Operation op)) (grows s x op && refused) s x (arguments op).op (one s x now op)
    (is_lacked (λ f. LeftBy n img s x (Operation op) (refuses s x (arguments op).op f)) s (arguments op).op
    (refused_left n img s x (Operation op) (arguments op).op Delay refl is) (refused_left n img s x (Operation op) (arguments op).op NoSpc refl is)) (one_left n img s x now op is)
file_left n img refused s x now (Fault k status) is =
    same_if n img s.tree (is_ok (status_of_result (comes_to refused s x now (Fault k status)).result)) is

-- what is done to names
pub names_left : (n : ℕ) (img : Image) (refused : Bool) (s : State) (x : Context) (now : Time) (i : Item) → Has n img s.tree
    → ForSome (names.comes_to refused s x now i) (λ o. Has n img o.state.tree)
names_left n img refused s x now i is = each_of (λ o. Has n img o.state.tree) (names.comes_to refused s x now i)
    (kept_item (λ s x. Has n img s.tree) (names_effects.of_states (λ s. Has n img s.tree) (λ s e fits is. has_effect n img s e is)) refused s x now i is)

-- A file that an OPEN made.

there_map : (f : Stored → Stored) (n : ℕ) (xs : List Stored) → ((s : Stored) → (f s).number ≡ s.number) → is_some (stored_in (map f xs) n) ≡ is_some (stored_in xs n)
there_map f n xs number = ap is_some (stored_map xs f n number) ∙ same (stored_in xs n)
  where
    same : (o : Option Stored) → is_some (option_map f o) ≡ is_some o
    same None = refl
    same (Some s) = refl

none_there : (o : Option Stored) → is_some o ≡ false → o ≡ None
none_there None e = refl
none_there (Some s) e = absurd (false≢true (sym e))

cut_there : (n : ℕ) (t : Files) (g : ℕ) (sets : Sets) (now : Time) (cut : Bool) → is_there (if cut then with_resized t g 0 sets now else t) n ≡ is_there t n
cut_there n t g sets now true =
    there_map (λ (s : Stored). if s.number == g then with_bytes now sets (with_size (content_of s) 0) s else s) n t.objects
    (λ s. elim (s.number == g) as (λ v. (cond v (with_bytes now sets (with_size (content_of s) 0) s) s).number ≡ s.number) [ true ↦ refl | false ↦ refl ])
cut_there n t g sets now false = refl

new_there : (n : ℕ) (t : Files) (d : ℕ) (name : List ℕ) (size : ℕ) (verifier : Option (List ℕ)) (sets : Sets) (now : Time) → is_there t n ≡ false
    → is_there (with_new t d name (new_file size verifier) sets now) n ≡ true → Has n (unwritten size) (with_new t d name (new_file size verifier) sets now)
new_there n t d name size verifier sets now free there = elim (cases_eq (t.last_object + 1) n) [
  | inl same ↦ (let found = find_push_none (λ (s : Stored). s.number == n) (with_entries_changed d now t.objects) made gone (eq-eqb (t.last_object + 1) n same) in record {
    given = omega arith;
    holds = λ k e. (let is : Some made ≡ Some k = sym found ∙ e in
        let one : made ≡ k = cc in subst (λ (k : Stored). IsOf (unwritten size) k.bytes) one (unwritten_is size));
  })
  | inr differ ↦ absurd (false≢true (sym (ap is_some (find_push_other (λ (s : Stored). s.number == n) (with_entries_changed d now t.objects) made
      (ne_eqb (t.last_object + 1) n differ)) ∙ before) ∙ there))
]
  where
    made : Stored
    made = record { number = t.last_object + 1; object = new_object now (new_file size verifier) sets; bytes = replicate size 0; pages = [] }

    before : is_some (stored_in (with_entries_changed d now t.objects) n) ≡ false
    before = there_map (change_at d now (modified now no_sets)) n t.objects (keeps_changed d now (modified now no_sets) []).number ∙ free

    gone : stored_in (with_entries_changed d now t.objects) n ≡ None
    gone = none_there (stored_in (with_entries_changed d now t.objects) n) before

abbrev MadeBy : ℕ → State → Open → Outcome → Type 0
MadeBy n s o out = is_there s.tree n ≡ false → is_there out.state.tree n ≡ true → Has n (unwritten (unwrap_or (new_size o.openhow) 0)) out.state.tree

opened_made : (n : ℕ) (s : State) (x : Context) (now : Time) (o : Open) (f : Found) → Is s x o f → MadeBy n s o (of_open.opened s x now o f)
opened_made n s x now o (There place g cut) it free there = absurd (false≢true (sym (cut_there n s.tree g.number (behind_sets s.tree x g) now cut ∙ free) ∙ there))
opened_made n s x now o (Absent m) it free there =
    subst (λ (v : Result Wanted Status). Has n (unwritten (unwrap_or (size_in v) 0))
    (with_new s.tree m.place.number (of_open.name_of o.claim) (of_open.new_of o m.wanted) (of_open.made_sets s.tree x now o m) now)) (sym it.reads)
    (new_there n s.tree m.place.number (of_open.name_of o.claim) (unwrap_or m.wanted.size 0) (makes o.openhow).verifier (of_open.made_sets s.tree x now o m) now free there)

pub open_made : (n : ℕ) (refused : Bool) (s : State) (x : Context) (now : Time) (o : Open) → MadeBy n s o (one_or_delay refused s x now (Op.Open o))
open_made n refused s x now o =
    by_delay (MadeBy n s o) (grows s x (Op.Open o) && refused) s x Num.Open (of_open.open_file s x now o)
    (λ free there. absurd (false≢true (sym free ∙ there)))
    (rw (in_steps.open_is s x now o) (by_granted (MadeBy n s o) s x Num.Open (checked (open_parts.asked_for s x o) (of_open.last_checks s x o)) (of_open.opened s x now o)
    (open_refuses s x o) (λ status refuses free there. absurd (false≢true (sym free ∙ there)))
    (λ f granted. opened_made n s x now o f (open_is s x o f (checked_ok (open_parts.asked_for s x o) (of_open.last_checks s x o) f granted).0))))
