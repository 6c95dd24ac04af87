-- The mode, owner and group that an object was made with, and what operations have left of them since, are those that it has.
use Rattle.std.proofs.Common.{◌≡◌, ◌≢◌, ℕ, ◌+◌, Bool, true, false, cond, not, List, [], ◌∷◌, ◌++◌, map, Option, Some, None, refl, sym, ◌∙◌, ap, subst, arith, inl, inr}
use Rattle.std.proofs.lemmas.Bool.{cases_Bool, cases_eq, eq-eqb, ne_eqb, and_right, false≢true}
use Rattle.std.specs.Prelude.{◌==◌, ◌||◌, ◌&&◌, option_map, is_some, unwrap_or, if◌then◌else◌, Result, Ok, Err}
use Rattle.nfs_xdr.specs.{Caller.Caller, declared.time.Time.Time, declared.status.Status.Status, declared.status.Status.TheVariants.RepTooBig, Tables.In}
use Rattle.nfs_xdr.proofs.Lists.{find_push_none, find_push_other}
use Rattle.nfs_compound.specs.{Request.item_number, declared.file_args.SetAttr.SetAttr, declared.name_args.Create.Create, declared.op.Item.Item}
use Rattle.nfs_compound.specs.{declared.op.Item.TheVariants.Operation, declared.op_num.OpNum.OpNum, declared.open_args.Open.Open, declared.file_args.Write.Write}
use Rattle.nfs_compound.specs.{declared.name_args.CreateType.CreateType, declared.name_args.CreateType.TheVariants.{Symlink, Block, Character, Other}, OpNum.op_number}
use Rattle.nfs_compound.specs.declared.op.Op.TheVariants as Op
use Rattle.nfs_compound.specs.declared.op_num.OpNum.TheVariants as Num
use Rattle.nfs_results.specs.Results.{status_of_result}
use Rattle.nfs_tree.specs.{declared.object.Object.Object, declared.sets.Sets.Sets, declared.stored.Stored.Stored, Stored.content_of, Object.{is_directory, is_regular, modified, no_sets}}
use Rattle.nfs_tree.specs.Files.{Files, root, stored_in, object_at, is_there, change_at, with_entries_changed}
use Rattle.nfs_tree.specs.{declared.limits.Limits.Limits, declared.profile.Profile.Profile, declared.profile.Profile.TheVariants.{Exact, Unix}}
use Rattle.nfs_tree.specs.{Create.{New, with_new, new_object, new_directory, new_tree}, Bytes.{has_bytes, Content, with_text, with_size, with_bytes, with_resized, with_sets}}
use Rattle.nfs_tree.proofs.Objects.{keeps_changed, stored_map}
use Rattle.nfs_attrs.specs.{declared.wanted.Wanted.Wanted, SetId.{settled, mode_behind, mode_if, made_in}}
use Rattle.nfs_names.specs.{declared.context.Context.Context, declared.node.Node.Node, declared.start.Start.Start, Checks.current}
use Rattle.nfs_names.specs.{Create.{attributes_in, new_of, plain_mode, create}, Outcome.{Outcome, is_ok, checked, answers, lacks, refuses}, State.{moment, time_at}}
use Rattle.nfs_names.specs.Create as creating
use Rattle.nfs_names.specs.State as store
use Rattle.nfs_names.proofs.{Faulted.{status_of_refusal, lacks_fail}, Found.{IsHeld, ok_is, checked_ok, current_is}, NameLaws.{by_create, current_refuses}, Ones.by_delay}
use Rattle.nfs_names.proofs.Refusing.{IsRefusal, Refuses, refuses_checked}
use Rattle.nfs_files.specs.{Parts.writable, Bytes.behind_sets, FileImage.{is_number, asks_empty}, Open.{makes, open_file}, Operation.grows, SetAttr.set_attr}
use Rattle.nfs_files.specs.OpenParts as open_parts
use Rattle.nfs_files.specs.Open as of_open
use Rattle.nfs_files.specs.Parts as parts
use Rattle.nfs_files.specs.SetAttrParts as set_parts
use Rattle.nfs_files.specs.SetAttr as of_set
use Rattle.nfs_files.specs.Write as of_write
use Rattle.nfs_files.proofs.{ChangesTold.some_same, FileOps.setting_is, OpenAnswers.open_refuses, Seats.writable_refuses, SetAnswers.asked_refuses}
use Rattle.nfs_files.proofs.{OpenedTrees.{LeftBy, Same, Emptied, Made, opened_tree, set_held}, WrittenOps.{by_found, current_number, writable_at}}
use Rattle.nfs_exec.specs.{Step.Behind.refused_step, Runs.Ops.RanOp}
use Rattle.nfs_exec.proofs.Runs.OneRun.{IsRun, by_item, by_run}
use Rattle.nfs_serve.specs.Step.{new_state}
use Rattle.nfs_promises.specs.{Network.Endpoint.Arrival, Runs.Points.{reached, ops_of}, Permission.Permitted.{Rights, rights_of, rights_at}}
use Rattle.nfs_promises.specs.Permission.RightsTold.{Subject, with_given, with_wanted, with_cleared, rights_left, rights_after, HasRights}
use Rattle.nfs_promises.specs.Permission.RightsTold.{user_rights, MakesWith, ByCreate, ByOpen, RightsAreTold, RootIsTold}
use Rattle.nfs_promises.proofs.Permission.RightsKept.{Known, known_of, Are, Have, map_to, new_have, staying_have, is_quiet, names_item, quiet_item}
use Rattle.nfs_promises.proofs.Runs.{LaterRecords.{op_keeps, all_keeps, first_there}, LimitsKept.profile_kept}
use Rattle.nfs_promises.proofs.Runs.{Points.{sound_new, sound_all}, Followed.{Follows, through, from}}
use Rattle.nfs_files.proofs.InSteps as in_steps

-- The object, with these rights.

abbrev pub known : Subject → Rights → Known
known k r = record { rights = r; regular = k.regular; profile = k.profile }

abbrev pub Holds : Subject → Rights → Files → Type 0
Holds k r t = Have k.number (known k r) t

-- What is looked at of it is what it has.
node_known : (n : ℕ) (r : Known) (t : Files) (d : Node) → Have n r t → IsHeld t d → d.number ≡ n → known_of r.profile d.object ≡ r
node_known n r t d is held at = go (stored_in t.objects n) refl (subst (λ j. object_at t j ≡ Some d.object) at held.object)
  where
    go : (o : Option Stored) → stored_in t.objects n ≡ o → option_map (λ (s : Stored). s.object) (stored_in t.objects n) ≡ Some d.object → known_of r.profile d.object ≡ r
    go None none there = absurd (let bad : None ≡ Some d.object = sym (ap (option_map (λ (s : Stored). s.object)) none) ∙ there in cc)
    go (Some s) some there =
        let same : s.object ≡ d.object = (let one : Some s.object ≡ Some d.object = sym (ap (option_map (λ (s : Stored). s.object)) some) ∙ there in cc) in
        ap (λ (o : Object). known_of r.profile o) (sym same) ∙ is.rights s some

settled_same : (k : Subject) (r : Rights) (t : Files) (d : Node) (who : Caller) (w : Wanted) → Holds k r t → IsHeld t d → d.number ≡ k.number
    → settled t.profile (is_regular d.object.kind) d.object.mode d.object.group who w ≡ settled k.profile k.regular r.mode r.group who w
settled_same k r t d who w is held at =
    ap (λ p. settled p (is_regular d.object.kind) d.object.mode d.object.group who w) is.profile
    ∙ ap (λ (q : Known). settled q.profile q.regular q.rights.mode q.rights.group who w) (node_known k.number (known k r) t d is held at)

behind_same : (k : Subject) (r : Rights) (t : Files) (d : Node) (who : Caller) → Holds k r t → IsHeld t d → d.number ≡ k.number
    → mode_behind t.profile d.object.mode who ≡ mode_behind k.profile r.mode who
behind_same k r t d who is held at =
    ap (λ p. mode_behind p d.object.mode who) is.profile
    ∙ ap (λ (q : Known). mode_behind q.profile q.rights.mode who) (node_known k.number (known k r) t d is held at)

-- one object changes
set_at : (k : Subject) (m : ℕ) (r q : Rights) (f : Stored → Stored) (xs : List Stored) → ((s : Stored) → (f s).number ≡ s.number)
    → ((s : Stored) → s.number ≡ m → m ≡ k.number → known_of k.profile s.object ≡ known k r → known_of k.profile (f s).object ≡ known k q)
    → ((s : Stored) → s.number ≢ m → f s ≡ s) → Are k.number (known k r) xs → Are k.number (known k (cond (m == k.number) q r)) (map f xs)
set_at k m r q f xs number set other is = elim (cases_eq m k.number) [
  | inl same ↦ subst (λ b. Are k.number (known k (cond b q r)) (map f xs)) (sym (eq-eqb m k.number same))
      (map_to k.number (known k r) (known k q) f xs number (λ s at has. set s (at ∙ sym same) same has) is)
  | inr apart ↦ subst (λ b. Are k.number (known k (cond b q r)) (map f xs)) (sym (ne_eqb m k.number apart))
      (map_to k.number (known k r) (known k r) f xs number
      (λ s at has. ap (λ (s : Stored). known_of k.profile s.object) (other s (λ here. apart (sym here ∙ at))) ∙ has) is)
]

abbrev given_by : Subject → Rights → Caller → Wanted → Rights
given_by k r who w = with_given r (settled k.profile k.regular r.mode r.group who w)

abbrev changes : Files → Node → Caller → Wanted → Wanted
changes t d who w = settled t.profile (is_regular d.object.kind) d.object.mode d.object.group who w

-- what a SETATTR makes of what is known
known_given : (k : Subject) (r : Rights) (t : Files) (d : Node) (who : Caller) (w : Wanted) (o : Object) → Holds k r t → IsHeld t d → d.number ≡ k.number
    → known_of k.profile o ≡ known k r → record (known_of k.profile o) { rights = with_given (rights_of o) (changes t d who w) } ≡ known k (given_by k r who w)
known_given k r t d who w o is held at has =
    ap (λ (q : Known). record q { rights = with_given q.rights (changes t d who w) }) has
    ∙ ap (λ (w : Wanted). known k (with_given r w)) (settled_same k r t d who w is held at)

sized_set : (k : Subject) (r : Rights) (t : Files) (x : Context) (d : Node) (size : ℕ) (w : Wanted) (now : Time) → IsHeld t d → Holds k r t
    → Holds k (cond (d.number == k.number) (given_by k r x.who w) r) (with_resized t d.number size (of_set.settled_sets t x d now w) now)
sized_set k r t x d size w now held is =
    let sets = of_set.settled_sets t x d now w in
    record {
      given = is.given;
      profile = is.profile;
      rights = set_at k d.number r (given_by k r x.who w) (λ (s : Stored). if s.number == d.number then with_bytes now sets (with_size (content_of s) size) s else s) t.objects
          (λ s. elim (s.number == d.number) as (λ v. (cond v (with_bytes now sets (with_size (content_of s) size) s) s).number ≡ s.number) [ true ↦ refl | false ↦ refl ])
          (λ s here at has. rw (eq-eqb s.number d.number here) (known_given k r t d x.who w s.object is held at has))
          (λ s apart. rw (ne_eqb s.number d.number apart) refl) is.rights;
    }

changed_set : (k : Subject) (r : Rights) (t : Files) (x : Context) (d : Node) (w : Wanted) (now : Time) → IsHeld t d → Holds k r t
    → Holds k (cond (d.number == k.number) (given_by k r x.who w) r) (with_sets t d.number (of_set.settled_sets t x d now w) now)
changed_set k r t x d w now held is =
    let sets = of_set.settled_sets t x d now w in
    record {
      given = is.given;
      profile = is.profile;
      rights = set_at k d.number r (given_by k r x.who w) (change_at d.number now sets) t.objects (keeps_changed d.number now sets []).number
          (λ s here at has. rw (eq-eqb s.number d.number here) (known_given k r t d x.who w s.object is held at has))
          (λ s apart. rw (ne_eqb s.number d.number apart) refl) is.rights;
    }

-- a change of bytes
bytes_set : (k : Subject) (r : Rights) (t : Files) (x : Context) (d : Node) (bytes : Stored → Content) (now : Time) → IsHeld t d → Holds k r t
    → Are k.number (known k (cond (d.number == k.number) (with_cleared k x.who r) r))
    (map (λ (s : Stored). if s.number == d.number then with_bytes now (behind_sets t x d) (bytes s) s else s) t.objects)
bytes_set k r t x d bytes now held is =
    let sets = behind_sets t x d in
    set_at k d.number r (with_cleared k x.who r) (λ (s : Stored). if s.number == d.number then with_bytes now sets (bytes s) s else s) t.objects
    (λ s. elim (s.number == d.number) as (λ v. (cond v (with_bytes now sets (bytes s) s) s).number ≡ s.number) [ true ↦ refl | false ↦ refl ])
    (λ s here at has. rw (eq-eqb s.number d.number here)
    (ap (λ (q : Known). record q { rights = record q.rights { mode = unwrap_or (mode_behind t.profile d.object.mode x.who) q.rights.mode } }) has
    ∙ ap (λ (o : Option ℕ). known k (record r { mode = unwrap_or o r.mode })) (behind_same k r t d x.who is held at)))
    (λ s apart. rw (ne_eqb s.number d.number apart) refl) is.rights

-- nothing given sets nothing
none_given : {A : Type 0} (o : Option A) → is_some o ≡ false → o ≡ None
none_given None e = refl
none_given (Some a) e = absurd (false≢true (sym e))

some_of_six : (a b c d e f : Bool) → a || b || c || d || e || f ≡ false → (a ≡ false) × (b ≡ false) × (c ≡ false) × (d ≡ false)
some_of_six false false false false e f is = (refl, refl, refl, refl)
some_of_six true b c d e f is = absurd (false≢true (sym is))
some_of_six false true c d e f is = absurd (false≢true (sym is))
some_of_six false false true d e f is = absurd (false≢true (sym is))
some_of_six false false false true e f is = absurd (false≢true (sym is))

given_none : (k : Subject) (r : Rights) (who : Caller) (w : Wanted) → of_set.gives_some w ≡ false → given_by k r who w ≡ r
given_none k r who w e =
    let none = some_of_six (is_some w.size) (is_some w.mode) (is_some w.owner) (is_some w.group) (is_some w.access) (is_some w.modify) e in
    by k.profile (none_given w.size none.0) (none_given w.mode none.1) (none_given w.owner none.2) (none_given w.group none.3)
  where
    plain : (v : Wanted) → v.mode ≡ None → v.owner ≡ None → v.group ≡ None → with_given r v ≡ r
    plain v mode owner group =
        ap (λ m. record { mode = unwrap_or m r.mode; owner = unwrap_or v.owner r.owner; group = unwrap_or v.group r.group }) mode
        ∙ (ap (λ o. record { mode = r.mode; owner = unwrap_or o r.owner; group = unwrap_or v.group r.group }) owner
        ∙ ap (λ g. record { mode = r.mode; owner = r.owner; group = unwrap_or g r.group }) group)

    uncleared : (regular b : Bool) → mode_if (regular && (false || false || false && b)) None r.mode ≡ None
    uncleared true b = refl
    uncleared false b = refl

    by : (p : Profile) → w.size ≡ None → w.mode ≡ None → w.owner ≡ None → w.group ≡ None → with_given r (settled p k.regular r.mode r.group who w) ≡ r
    by Exact size mode owner group = plain w mode owner group
    by Unix size mode owner group = plain (settled Unix k.regular r.mode r.group who w)
        (rw (size, mode, owner, group) (uncleared k.regular (not (who.uid == 0)))) owner group

either_same : (b : Bool) (r q : Rights) → q ≡ r → cond b q r ≡ r
either_same true r q same = same
either_same false r q same = refl

with_set_have : (k : Subject) (r : Rights) (t : Files) (x : Context) (d : Node) (w : Wanted) (now : Time) (size : Option ℕ) → IsHeld t d → Holds k r t
    → Holds k (cond (d.number == k.number) (given_by k r x.who w) r) (of_set.with_set t x d now w size)
with_set_have k r t x d w now (Some size) held is = sized_set k r t x d size w now held is
with_set_have k r t x d w now None held is = elim (cases_Bool (of_set.gives_some w)) [
  | inl some ↦ rw some (changed_set k r t x d w now held is)
  | inr nothing ↦ rw nothing (subst (λ q. Holds k q t) (sym (either_same (d.number == k.number) r (given_by k r x.who w) (given_none k r x.who w nothing))) is)
]

set_left : (k : Subject) (m : ℕ) (r : Rights) (t : Files) (x : Context) (a : SetAttr) (w : Wanted) → x.current ≡ Some m → attributes_in a.obj_attributes ≡ Ok w
    → rights_left k r t x (Operation (Op.SetAttr a)) ≡ cond (m == k.number) (given_by k r x.who w) r
set_left k m r t x a w at given =
    ap (λ o. cond (is_number k.number o) (with_wanted k x.who r (attributes_in a.obj_attributes)) r) at
    ∙ ap (λ v. cond (m == k.number) (with_wanted k x.who r v) r) given

abbrev pub Leaves : Subject → Rights → Rights → Status → store.State → Type 0
Leaves k r q status u = Holds k (cond (is_ok status) q r) u.tree

refused_have : (k : Subject) (r q : Rights) (status : Status) (u : store.State) → is_ok status ≡ false → Holds k r u.tree → Leaves k r q status u
refused_have k r q status u absent is = subst (λ b. Holds k (cond b q r) u.tree) (sym absent) is

by_refusal : {A : Type 0} (P : Outcome → Type 0) (s : store.State) (x : Context) (op : OpNum) (v : Result A Status) (f : A → Outcome) → Refuses v
    → ((status : Status) → IsRefusal status → P (refuses s x op status)) → ((a : A) → v ≡ Ok a → P (f a)) → P (answers s x op v f)
by_refusal P s x op (Err status) f all refused done = refused status (all.each status refl)
by_refusal P s x op (Ok a) f all refused done = done a refl

set_have : (k : Subject) (r : Rights) (s : store.State) (x : Context) (now : Time) (a : SetAttr) → Holds k r s.tree
    → (let o = set_attr s x now a in Leaves k r (rights_left k r s.tree x (Operation (Op.SetAttr a))) (status_of_result o.result) o.state)
set_have k r s x now a is =
    rw (in_steps.set_attr_is s x now a)
    (let q = rights_left k r s.tree x (Operation (Op.SetAttr a)) in
    by_refusal (λ o. Leaves k r q (status_of_result o.result) o.state) s x Num.SetAttr (checked (set_parts.asked_for s x a) (set_parts.last_checks s)) (set_parts.was_set s x now a)
    (refuses_checked (set_parts.asked_for s x a) (set_parts.last_checks s) (asked_refuses s x a) (λ m. refl))
    (λ status refusal. refused_have k r q _ s (ap is_ok (status_of_refusal (op_number Num.SetAttr) status) ∙ refusal.done) is) (λ m e.
    (let asked = (checked_ok (set_parts.asked_for s x a) (set_parts.last_checks s) m e).0 in
    let its = setting_is s x a m asked in
    subst (λ q. Holds k q (of_set.with_set s.tree x m.node now m.wanted m.wanted.size)) (sym (set_left k m.node.number r s.tree x a m.wanted its.at its.reads))
    (with_set_have k r s.tree x m.node m.wanted now m.wanted.size (set_held s x a m asked) is))))

-- WRITE

both_true : (b c : Bool) → c ≡ true → b && c ≡ b
both_true true c e = e
both_true false c e = refl

written_have : (k : Subject) (r : Rights) (s : store.State) (x : Context) (now : Time) (w : Write) (d : Node) → current s x ≡ Ok d → Holds k r s.tree
    → Holds k (rights_left k r s.tree x (Operation (Op.Write w))) (of_write.with_bytes s.tree x w d now)
written_have k r s x now w d at is =
    let q = with_cleared k x.who r in
    let here : is_number k.number x.current ≡ (d.number == k.number) = ap (is_number k.number) (current_number s x d at) in
    let held = current_is s x d at in
    elim (cases_Bool (has_bytes w.bytes)) [
      | inl some ↦ subst (λ b. Holds k (cond b q r) (of_write.with_bytes s.tree x w d now))
          (sym (both_true (is_number k.number x.current) (has_bytes w.bytes) some ∙ here))
          (rw some (record {
            given = is.given;
            profile = is.profile;
            rights = bytes_set k r s.tree x d (λ s. with_text (content_of s) w.offset w.bytes) now held is;
          }))
      | inr empty ↦ subst (λ b. Holds k (cond b q r) (of_write.with_bytes s.tree x w d now)) (sym (and_right (is_number k.number x.current) (has_bytes w.bytes) empty))
          (rw empty is)
    ]

write_have : (k : Subject) (r : Rights) (s : store.State) (x : Context) (now : Time) (w : Write) → Holds k r s.tree
    → (let o = of_write.write s x now w in Leaves k r (rights_left k r s.tree x (Operation (Op.Write w))) (status_of_result o.result) o.state)
write_have k r s x now w is =
    rw (in_steps.write_is s x now w)
    (let q = rights_left k r s.tree x (Operation (Op.Write w)) in
    by_refusal (λ o. Leaves k r q (status_of_result o.result) o.state) s x Num.Write (checked (writable s x w.stateid (current s x)) (of_write.last_checks s w)) (parts.was_written s x now w)
    (refuses_checked (writable s x w.stateid (current s x)) (of_write.last_checks s w) (writable_refuses s x w.stateid (current s x) (current_refuses s x)) (λ d. refl))
    (λ status refusal. refused_have k r q _ s (ap is_ok (status_of_refusal (op_number Num.Write) status) ∙ refusal.done) is) (λ d e.
    written_have k r s x now w d (writable_at s x w.stateid d (checked_ok (writable s x w.stateid (current s x)) (of_write.last_checks s w) d e).0) is))

-- OPEN

opened_have : (k : Subject) (r : Rights) (s : store.State) (x : Context) (now : Time) (o : Open) (u : Files) → LeftBy s x now o u → Holds k r s.tree
    → Holds k (rights_left k r s.tree x (Operation (Op.Open o))) u
opened_have k r s x now o u (Same same empties) is =
    subst (λ b. Holds k (cond b (with_cleared k x.who r) r) u) (sym (empties k.number)) (subst (Holds k r) (sym same) is)
opened_have k r s x now o u (Emptied g held empties same) is =
    subst (λ b. Holds k (cond b (with_cleared k x.who r) r) u) (sym (empties k.number))
    (subst (Holds k (cond (g.number == k.number) (with_cleared k x.who r) r)) (sym same)
    (record { given = is.given; profile = is.profile; rights = bytes_set k r s.tree x g (λ s. with_size (content_of s) 0) now held is }))
opened_have k r s x now o u (Made m held at none reads same) is =
    subst (λ (n : Option ℕ). Holds k (cond (is_number k.number n && asks_empty o) (with_cleared k x.who r) r) u) (sym none)
    (subst (Holds k r) (sym same)
    (new_have k.number (known k r) s.tree m.place.number (of_open.name_of o.claim) (of_open.new_of o m.wanted) (of_open.made_sets s.tree x now o m) now is))

open_have : (k : Subject) (r : Rights) (s : store.State) (x : Context) (now : Time) (o : Open) → Holds k r s.tree
    → (let did = open_file s x now o in Leaves k r (rights_left k r s.tree x (Operation (Op.Open o))) (status_of_result did.result) did.state)
open_have k r s x now o is =
    rw (in_steps.open_is s x now o)
    (let q = rights_left k r s.tree x (Operation (Op.Open o)) in
    by_refusal (λ o. Leaves k r q (status_of_result o.result) o.state) s x Num.Open (checked (open_parts.asked_for s x o) (of_open.last_checks s x o)) (of_open.opened s x now o)
    (open_refuses s x o)
    (λ status refusal. refused_have k r q _ s (ap is_ok (status_of_refusal (op_number Num.Open) status) ∙ refusal.done) is) (λ f e.
    opened_have k r s x now o _ (opened_tree s x now o f (checked_ok (open_parts.asked_for s x o) (of_open.last_checks s x o) f e).0) is))

-- An operation that was run.

run_quiet : (k : Subject) (r : Rights) (d : RanOp) → IsRun d → is_quiet d.item ≡ true → Holds k r d.before.store.tree → Holds k r d.behind.store.tree
run_quiet k r d run quiet is =
    by_run (λ status text s. Holds k r s.tree) d run is (names_item k.number (known k r) run.refused d.before.store d.context (time_at d.before.store run.now) d.item is)
    (quiet_item k.number (known k r) run.refused d.before.store d.context (time_at d.before.store run.now) d.item quiet is) (λ other. is)

same_left : (k : Subject) (r : Rights) (b : Bool) (t : Files) → Holds k r t → Holds k (cond b r r) t
same_left k r true t is = is
same_left k r false t is = is

-- one that asks for memory has no effect without
run_set : (k : Subject) (r : Rights) (d : RanOp) (op : _) → IsRun d → Holds k r d.before.store.tree → d.item ≡ Operation op
    → Leaves k r (rights_left k r d.before.store.tree d.context (Operation op)) (refused_step d.before d.context (Operation op) RepTooBig).outcome.status d.before.store
run_set k r d op run is same =
    refused_have k r (rights_left k r d.before.store.tree d.context (Operation op)) (refused_step d.before d.context (Operation op) RepTooBig).outcome.status d.before.store
    (ap is_ok (status_of_refusal (item_number (Operation op)) RepTooBig)) is

pub run_have : (k : Subject) (r : Rights) (d : RanOp) → IsRun d → Holds k r d.before.store.tree → (i : Item) → d.item ≡ i
    → Leaves k r (rights_left k r d.before.store.tree d.context i) d.status d.behind.store
run_have k r d run is (Operation (Op.SetAttr a)) same =
    by_item (λ status text u. Leaves k r (rights_left k r d.before.store.tree d.context (Operation (Op.SetAttr a))) status u) d run (Operation (Op.SetAttr a)) same
    (run_set k r d (Op.SetAttr a) run is same)
    (set_have k r d.before.store d.context (time_at d.before.store run.now) a is)
run_have k r d run is (Operation (Op.Write a)) same =
    (let q = rights_left k r d.before.store.tree d.context (Operation (Op.Write a)) in
    by_item (λ status text u. Leaves k r q status u) d run (Operation (Op.Write a)) same
    (run_set k r d (Op.Write a) run is same)
    (by_delay (λ o. Leaves k r q (status_of_result o.result) o.state) (grows d.before.store d.context (Op.Write a) && run.refused) d.before.store d.context Num.Write
    (of_write.write d.before.store d.context (time_at d.before.store run.now) a)
    (refused_have k r q (lacks d.before.store Num.Write) d.before.store (lacks_fail d.before.store Num.Write) is)
    (write_have k r d.before.store d.context (time_at d.before.store run.now) a is)))
run_have k r d run is (Operation (Op.Open a)) same =
    (let q = rights_left k r d.before.store.tree d.context (Operation (Op.Open a)) in
    by_item (λ status text u. Leaves k r q status u) d run (Operation (Op.Open a)) same
    (run_set k r d (Op.Open a) run is same)
    (by_delay (λ o. Leaves k r q (status_of_result o.result) o.state) run.refused d.before.store d.context Num.Open
    (open_file d.before.store d.context (time_at d.before.store run.now) a) is
    (open_have k r d.before.store d.context (time_at d.before.store run.now) a is)))
run_have k r d run is i same = same_left k r (is_ok d.status) d.behind.store.tree (run_quiet k r d run (ap is_quiet same ∙ refl) is)

-- What made it.

none_there : (t : Files) (n : ℕ) → is_there t n ≡ false → stored_in t.objects n ≡ None
none_there t n absent = go (stored_in t.objects n) absent
  where
    go : (o : Option Stored) → is_some o ≡ false → o ≡ None
    go None e = refl
    go (Some k) e = absurd (false≢true (sym e))

not_there : (o : Option Stored) → o ≡ None → is_some o ≡ true → ⊥
not_there o none some = absurd (false≢true (ap is_some (sym none) ∙ some))

still_none : (n d : ℕ) (now : Time) (t : Files) → stored_in t.objects n ≡ None → stored_in (with_entries_changed d now t.objects) n ≡ None
still_none n d now t none =
    stored_map t.objects (change_at d now (modified now no_sets)) n (keeps_changed d now (modified now no_sets) []).number
    ∙ ap (option_map (change_at d now (modified now no_sets))) none

new_made : (n : ℕ) (t : Files) (d : ℕ) (name : List ℕ) (new : New) (sets : Sets) (now : Time) (r : Known) → is_there t n ≡ false
    → is_there (with_new t d name new sets now) n ≡ true → t.profile ≡ r.profile → known_of r.profile (new_object now new sets) ≡ r → Have n r (with_new t d name new sets now)
new_made n t d name new sets now r absent there profile has =
    let xs = with_entries_changed d now t.objects in
    let made : Stored = record { number = t.last_object + 1; object = new_object now new sets; bytes = new.bytes; pages = new.pages } in
    let none : stored_in xs n ≡ None = still_none n d now t (none_there t n absent) in
    elim (cases_eq (t.last_object + 1) n) [
      | inl same ↦ record {
        given = omega (arith, same);
        profile = profile;
        rights = λ k e. (let found : Some made ≡ Some k =
            sym (find_push_none (λ (s : Stored). s.number == n) xs made none (eq-eqb (t.last_object + 1) n same)) ∙ e in
            let is : made ≡ k = cc in
            ap (λ (k : Stored). known_of r.profile k.object) (sym is) ∙ has);
      }
      | inr other ↦ absurd (not_there (stored_in (xs ++ made ∷ []) n)
          (find_push_other (λ (s : Stored). s.number == n) xs made (ne_eqb (t.last_object + 1) n other) ∙ none) there)
    ]

abbrev IsMade : Subject → Rights → store.State → Type 0
IsMade k r u = is_there u.tree k.number ≡ true → Holds k r u.tree

-- what the place gives
made_same : (k : Subject) (s : store.State) (d : Node) (place : ℕ) (q : Rights) (who : Caller) (directory : Bool) (plain : ℕ) (w : Wanted)
    → s.tree.profile ≡ k.profile → IsHeld s.tree d → d.number ≡ place → rights_at s.tree place ≡ Some q
    → made_in s.tree.profile d.object.mode d.object.group who directory plain w ≡ made_in k.profile q.mode q.group who directory plain w
made_same k s d place q who directory plain w profile held at has =
    ap (λ p. made_in p d.object.mode d.object.group who directory plain w) profile
    ∙ ap (λ (q : Rights). made_in k.profile q.mode q.group who directory plain w) (go (stored_in s.tree.objects place)
    (subst (λ j. object_at s.tree j ≡ Some d.object) at held.object) has)
  where
    go : (o : Option Stored) → option_map (λ (s : Stored). s.object) o ≡ Some d.object → option_map (λ (s : Stored). rights_of s.object) o ≡ Some q → rights_of d.object ≡ q
    go None there has = absurd cc
    go (Some s) there has = (let one : s.object ≡ d.object = cc in let same : rights_of s.object ≡ q = cc in ap rights_of (sym one) ∙ same)

not_regular : (type : CreateType) → is_regular (new_of type).kind ≡ false
not_regular (Symlink text) = refl
not_regular (Block device) = refl
not_regular (Character device) = refl
not_regular (Other type) = refl

create_made : (k : Subject) (s : store.State) (x : Context) (now : Time) (c : Create) (w : Wanted) (place : ℕ) (q : Rights) → s.tree.profile ≡ k.profile → k.regular ≡ false
    → is_there s.tree k.number ≡ false → attributes_in c.createattrs ≡ Ok w → x.current ≡ Some place → rights_at s.tree place ≡ Some q
    → (let plain = plain_mode (new_of c.objtype) in
    IsMade k (with_given (user_rights plain x.who) (made_in k.profile q.mode q.group x.who (is_directory (new_of c.objtype).kind) plain w)) (create s x now c).state)
create_made k s x now c w place q profile kind absent is at has =
    let new = new_of c.objtype in
    let plain = plain_mode new in
    let r = with_given (user_rights plain x.who) (made_in k.profile q.mode q.group x.who (is_directory new.kind) plain w) in
    by_create (λ o. IsMade k r o.state) s x now c (λ f refusal there. absurd (false≢true (sym absent ∙ there))) (λ d wanted found placed read row there.
    (let given : wanted ≡ w = ok_is refl (sym read ∙ is) in
    let here : d.number ≡ place = some_same x.current d.number place (current_number s x d found) at in
    let made : Wanted → Wanted = λ w. made_in s.tree.profile d.object.mode d.object.group x.who (is_directory new.kind) plain w in
    new_made k.number s.tree d.number c.objname new (creating.made_sets s x now d new wanted) now (known k r) absent there profile
    (ap (λ (w : Wanted). record { rights = with_given (user_rights plain x.who) (made w); regular = is_regular new.kind; profile = k.profile }) given
    ∙ (ap (λ (v : Wanted). record { rights = with_given (user_rights plain x.who) v; regular = is_regular new.kind; profile = k.profile })
    (made_same k s d place q x.who (is_directory new.kind) plain w profile (current_is s x d found) here has)
    ∙ ap (λ (b : Bool). record { rights = r; regular = b; profile = k.profile }) (not_regular c.objtype ∙ sym kind)))))

emptied_there : (n : ℕ) (t : Files) (g : ℕ) (sets : Sets) (now : Time) → stored_in t.objects n ≡ None
    → stored_in (with_resized t g 0 sets now).objects n ≡ None
emptied_there n t g sets now none =
    stored_map t.objects (λ (s : Stored). if s.number == g then with_bytes now sets (with_size (content_of s) 0) s else s) n
    (λ s. elim (s.number == g) as (λ v. (cond v (with_bytes now sets (with_size (content_of s) 0) s) s).number ≡ s.number) [ true ↦ refl | false ↦ refl ])
    ∙ ap (option_map (λ (s : Stored). if s.number == g then with_bytes now sets (with_size (content_of s) 0) s else s)) none

open_found : (k : Subject) (s : store.State) (x : Context) (now : Time) (o : Open) (w : Wanted) (place : ℕ) (q : Rights) (u : Files) → s.tree.profile ≡ k.profile → k.regular ≡ true
    → is_there s.tree k.number ≡ false → attributes_in (makes o.openhow).attributes ≡ Ok w → x.current ≡ Some place → rights_at s.tree place ≡ Some q → LeftBy s x now o u
    → is_there u k.number ≡ true → Holds k (with_given (user_rights 420 x.who) (made_in k.profile q.mode q.group x.who false 420 w)) u
open_found k s x now o w place q u profile kind absent is at has (Same same empties) there =
    absurd (false≢true (sym absent ∙ (ap (λ t. is_there t k.number) (sym same) ∙ there)))
open_found k s x now o w place q u profile kind absent is at has (Emptied g held empties same) there =
    absurd (not_there (stored_in (with_resized s.tree g.number 0 (behind_sets s.tree x g) now).objects k.number)
    (emptied_there k.number s.tree g.number (behind_sets s.tree x g) now (none_there s.tree k.number absent)) (ap (λ t. is_there t k.number) (sym same) ∙ there))
open_found k s x now o w place q u profile kind absent is at has (Made m held stands none reads same) there =
    let given : m.wanted ≡ w = ok_is refl (sym reads ∙ is) in
    let here : m.place.number ≡ place = some_same x.current m.place.number place stands at in
    let r = with_given (user_rights 420 x.who) (made_in k.profile q.mode q.group x.who false 420 w) in
    let made : Wanted → Wanted = λ w. made_in s.tree.profile m.place.object.mode m.place.object.group x.who false 420 w in
    subst (Holds k r) (sym same)
    (new_made k.number s.tree m.place.number (of_open.name_of o.claim) (of_open.new_of o m.wanted) (of_open.made_sets s.tree x now o m) now (known k r) absent
    (ap (λ t. is_there t k.number) (sym same) ∙ there) profile
    (ap (λ (w : Wanted). record { rights = with_given (user_rights 420 x.who) (made w); regular = true; profile = k.profile }) given
    ∙ (ap (λ (v : Wanted). record { rights = with_given (user_rights 420 x.who) v; regular = true; profile = k.profile })
    (made_same k s m.place place q x.who false 420 w profile held here has)
    ∙ ap (λ (b : Bool). record { rights = r; regular = b; profile = k.profile }) (sym kind))))

open_made : (k : Subject) (s : store.State) (x : Context) (now : Time) (o : Open) (w : Wanted) (place : ℕ) (q : Rights) → s.tree.profile ≡ k.profile → k.regular ≡ true
    → is_there s.tree k.number ≡ false → attributes_in (makes o.openhow).attributes ≡ Ok w → x.current ≡ Some place → rights_at s.tree place ≡ Some q
    → IsMade k (with_given (user_rights 420 x.who) (made_in k.profile q.mode q.group x.who false 420 w)) (open_file s x now o).state
open_made k s x now o w place q profile kind absent is at has =
    let r = with_given (user_rights 420 x.who) (made_in k.profile q.mode q.group x.who false 420 w) in
    rw (in_steps.open_is s x now o)
    (by_found (λ o. IsMade k r o.state) s x Num.Open (checked (open_parts.asked_for s x o) (of_open.last_checks s x o)) (of_open.opened s x now o)
    (λ status there. absurd (false≢true (sym absent ∙ there)))
    (λ f e there. open_found k s x now o w place q _ profile kind absent is at has
    (opened_tree s x now o f (checked_ok (open_parts.asked_for s x o) (of_open.last_checks s x o) f e).0) there))

run_made : (k : Subject) (r : Rights) (d : RanOp) → IsRun d → d.before.store.tree.profile ≡ k.profile → MakesWith k r d → is_there d.before.store.tree k.number ≡ false
    → is_there d.behind.store.tree k.number ≡ true → Holds k r d.behind.store.tree
run_made k r d run profile (ByCreate a w place q item given at has kind is) absent there =
    let plain = plain_mode (new_of a.objtype) in
    let v = with_given (user_rights plain d.context.who) (made_in k.profile q.mode q.group d.context.who (is_directory (new_of a.objtype).kind) plain w) in
    subst (λ r. Holds k r d.behind.store.tree) (sym is) (by_item (λ status text u. IsMade k v u) d run (Operation (Op.Create a)) item
    (λ there. absurd (false≢true (sym absent ∙ there)))
    (by_delay (λ o. IsMade k v o.state) run.refused d.before.store d.context Num.Create (create d.before.store d.context (time_at d.before.store run.now) a)
    (λ there. absurd (false≢true (sym absent ∙ there)))
    (create_made k d.before.store d.context (time_at d.before.store run.now) a w place q profile kind absent given at has)) there)
run_made k r d run profile (ByOpen a w place q item given at has kind is) absent there =
    let v = with_given (user_rights 420 d.context.who) (made_in k.profile q.mode q.group d.context.who false 420 w) in
    subst (λ r. Holds k r d.behind.store.tree) (sym is) (by_item (λ status text u. IsMade k v u) d run (Operation (Op.Open a)) item
    (λ there. absurd (false≢true (sym absent ∙ there)))
    (by_delay (λ o. IsMade k v o.state) run.refused d.before.store d.context Num.Open (open_file d.before.store d.context (time_at d.before.store run.now) a)
    (λ there. absurd (false≢true (sym absent ∙ there)))
    (open_made k d.before.store d.context (time_at d.before.store run.now) a w place q profile kind absent given at has)) there)

-- Records.

has_rights : (k : Subject) (r : Rights) (d : RanOp) → Holds k r d.before.store.tree → HasRights k.number r d
has_rights k r d is q e = go (stored_in d.before.store.tree.objects k.number) refl e
  where
    go : (o : Option Stored) → stored_in d.before.store.tree.objects k.number ≡ o → option_map (λ (s : Stored). rights_of s.object) o ≡ Some q → q ≡ r
    go None there same = absurd cc
    go (Some s) there same = (let has : rights_of s.object ≡ q = cc in sym has ∙ ap (λ (q : Known). q.rights) (is.rights s there))

follows : (k : Subject) → Follows (HasRights k.number) (rights_after k) (λ r s. Holds k r s.tree)
follows k = record {
  run = λ r d run is. (has_rights k r d is, run_have k r d run is d.item refl);
  end = λ r stays s is. staying_have k.number (known k r) stays s is;
}

-- the profile is that of the start
pub profile_here : (start : Start) (earlier : List Arrival) (c : Arrival) (d : RanOp) → In d (ops_of (reached start earlier) c) → d.before.store.tree.profile ≡ start.profile
profile_here start earlier c d there =
    let held = profile_kept start.profile in
    let P : store.State → Type 0 = λ s. s.tree.profile ≡ start.profile in
    op_keeps P held (reached start earlier) c (sound_all (new_state start) earlier (sound_new start))
    (all_keeps P held (new_state start) earlier (sound_new start) refl) d there

pub rights_are_told : RightsAreTold
rights_are_told start earlier c front d back k r same profile making absent there =
    from (HasRights k.number) (rights_after k) (λ r s. Holds k r s.tree) (follows k) start earlier c front d back r same
    (λ run. run_made k r d run (profile_here start earlier c d (first_there (reached start earlier) c front d back same) ∙ sym profile) making absent there)

root_has : (mode : ℕ) (now : Time) (limits : Limits) (profile : Profile)
    → Have root (record { rights = record { mode = mode; owner = 0; group = 0 }; regular = false; profile = profile }) (new_tree mode now limits profile)
root_has mode now limits profile = record {
  given = omega arith;
  profile = refl;
  rights = λ k e. (let one : record { number = root; object = new_object now new_directory (record no_sets { mode = Some mode }); bytes = []; pages = [] } ≡ k = cc in
      ap (λ (k : Stored). known_of profile k.object) (sym one));
}

pub root_is_told : RootIsTold
root_is_told start records =
    let k : Subject = record { number = root; regular = false; profile = start.profile } in
    through (HasRights root) (rights_after k) (λ r s. Holds k r s.tree) (follows k) (record { mode = start.mode; owner = 0; group = 0 }) (new_state start) records
    (sound_new start) (root_has start.mode (moment 0) start.limits start.profile)
