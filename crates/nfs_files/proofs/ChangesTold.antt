-- What an operation reports of a directory's change is so, and one that changes an object raises its change.
use Rattle.std.proofs.Common.{◌≡◌, ◌≢◌, inl, inr, ℕ, ◌+◌, ◌<◌, Bool, true, false, List, Option, Some, None, refl, sym, ◌∙◌, ap, subst, arith}
use Rattle.std.proofs.lemmas.Bool.{cases_Bool, and_parts, eqb-true, not-false, false≢true}
use Rattle.std.specs.{Prelude.{◌==◌, ◌&&◌, ◌||◌, Result, Ok, option_map, unwrap_or, is_some, if◌then◌else◌}, Option.option_map_or}
use Rattle.nfs_xdr.specs.{Checks.first_fault, declared.status.Status.Status, declared.time.Time.Time}
use Rattle.nfs_xdr.proofs.Checks.{all_passed}
use Rattle.nfs_compound.specs.{declared.name_args.Create.Create, declared.name_args.Rename.Rename, declared.open_args.Open.Open, declared.file_args.Write.Write}
use Rattle.nfs_compound.specs.declared.file_args.SetAttr.{SetAttr}
use Rattle.nfs_compound.specs.declared.op.Op.TheVariants as Op
use Rattle.nfs_compound.specs.declared.op_num.OpNum.TheVariants as Num
use Rattle.nfs_results.specs.{declared.res.ChangeInfo.ChangeInfo, declared.res.CreateOk.CreateOk, declared.res.OpenOk.OpenOk, declared.res.RenameOk.RenameOk}
use Rattle.nfs_results.specs.Results.{spell_result, status_of_result}
use Rattle.nfs_results.specs.declared.res.Res.TheVariants as Res
use Rattle.nfs_tree.specs.{declared.object.FileType.FileType, declared.object.FileType.TheVariants.{Regular, Directory, Link}, declared.stored.Stored.Stored}
use Rattle.nfs_tree.specs.{declared.row.Row.Row, declared.sets.Sets.Sets, Object.{is_directory, is_regular}}
use Rattle.nfs_tree.specs.Files.{Files, root, stored_in, is_there, is_directory_at, change_of, entry, has_name, has_entries, number_named, object_named, raised}
use Rattle.nfs_tree.specs.Files.{unraised}
use Rattle.nfs_tree.specs.{Bytes.{has_bytes, with_text, with_size, with_written, with_resized, with_sets}, Stored.content_of, Calls.is_regular_at, Create.with_new}
use Rattle.nfs_tree.specs.Names.{Move, link_checks, rename_checks, moves, replaced_object, is_unlike, is_in_the_way, with_link, without_name, with_moved}
use Rattle.nfs_tree.specs.TreeInvariants.{IsTree}
use Rattle.nfs_tree.proofs.{Objects.stored_within, Trees.{remove_granted, has_one, apart}, Moved.{move_granted, touched_source, touched_target}}
use Rattle.nfs_attrs.specs.{declared.wanted.Wanted.Wanted, Mask.{mask_of, trimmed_words}}
use Rattle.nfs_opens.specs.Opening.{opens}
use Rattle.nfs_names.specs.{declared.context.Context.Context, declared.context.Saved.Saved, declared.node.Node.Node, State.{with_tree, without_unused}}
use Rattle.nfs_names.specs.{Checks.{node_at, current, both, saved_object}, Create.{attributes_in, change_info, new_of, made_sets, create}, Link.link}
use Rattle.nfs_names.specs.{Outcome.{Outcome, checked, is_ok}, Remove.remove, Rename.{move_of, rename, without_replaced}}
use Rattle.nfs_names.specs.State as store
use Rattle.nfs_names.proofs.{Found.{came, ok_is, checked_ok, current_is}, NameLaws.{current_refuses, by_create, by_link, by_remove, by_rename}, Ones.by_delay, Faulted.lacks_fail}
use Rattle.nfs_names.proofs.Refusing.{refuses_checked}
use Rattle.nfs_files.specs.{declared.opening.Found.Found, declared.opening.Found.TheVariants.{There, Absent}, Operation.grows, StateIds.wire_id, Parts.writable}
use Rattle.nfs_files.specs.{FileImage.{claimed, is_number, asks_empty}, Bytes.behind_sets}
use Rattle.nfs_files.specs.OpenParts as open_parts
use Rattle.nfs_files.specs.Open as of_open
use Rattle.nfs_files.specs.SetAttrParts as set_parts
use Rattle.nfs_files.specs.SetAttr as of_set
use Rattle.nfs_files.specs.Parts as parts
use Rattle.nfs_files.specs.Write as of_write
use Rattle.nfs_files.proofs.{OpenAnswers.{open_refuses, asked_regular}, Outcomes.one_or_delay, Seats.writable_refuses, SetAnswers.asked_refuses}
use Rattle.nfs_files.proofs.WrittenOps.{current_number, writable_at}
use Rattle.nfs_files.proofs.ChangesAt.{At, at_now, change_is, at_here, bytes_here, bytes_other, unused_at, new_at, link_at, without_at, source_at, target_at}
use Rattle.nfs_files.proofs.FileOps.{by_granted, Is, open_is, setting_is}
use Rattle.nfs_files.proofs.InSteps.{write_is, set_attr_is}
use Rattle.nfs_files.proofs.InSteps as in_steps

-- What was reported of two trees.

pub record Theirs (n : ℕ) (t u : Files) (info : ChangeInfo) : Type 0 where
  pub atomic : info.atomic ≡ true
  pub before : info.before ≡ change_of t n
  pub after : info.after ≡ change_of u n

was_raised : (n : ℕ) (t u : Files) → At n u.objects (change_of t n + 1) → Theirs n t u (change_info (raised t n))
was_raised n t u at = record { atomic = refl; before = refl; after = sym (change_is u n (change_of t n + 1) at) }

pub some_same : (o : Option ℕ) (m n : ℕ) → o ≡ Some m → o ≡ Some n → m ≡ n
some_same o m n e f = (let same : Some m ≡ Some n = sym e ∙ f in cc)

raises : (k : ℕ) → k < k + 1
raises k = omega arith

-- what an operation in a directory comes to, if it was answered NFS4_OK
abbrev pub Done : (Outcome → Type 0) → Outcome → Type 0
Done P o = is_ok (status_of_result o.result) ≡ true → P o

same_info : (m n : ℕ) (t u : Files) (info : ChangeInfo) → m ≡ n → Theirs m t u info → Theirs n t u info
same_info m n t u info same is = subst (λ (k : ℕ). Theirs k t u info) same is

-- CREATE
abbrev pub CreateTells : ℕ → Files → Outcome → Type 0
CreateTells n t o = (k : CreateOk) × (spell_result o.result ≡ spell_result (Res.Create k)) × Theirs n t o.state.tree k.cinfo × (k.cinfo.before < k.cinfo.after)

pub create_tells : (n : ℕ) (s : store.State) (x : Context) (now : Time) (a : Create) → x.current ≡ Some n → Done (CreateTells n s.tree) (create s x now a)
create_tells n s x now a at =
    by_create (Done (CreateTells n s.tree)) s x now a (λ f h ok. absurd (false≢true (sym h.done ∙ ok))) (λ d wanted there placed read row ok.
    (let new = new_of a.objtype in
    let u : Files = with_new s.tree d.number a.objname new (made_sets s x now d new wanted) now in
    let changed = change_of s.tree d.number in (
      record { cinfo = change_info (raised s.tree d.number); attrset = trimmed_words (mask_of a.createattrs.attrmask) },
      refl,
      same_info d.number n s.tree u (change_info (raised s.tree d.number)) (some_same x.current d.number n (current_number s x d there) at)
          (was_raised d.number s.tree u (new_at s.tree d.number a.objname new (made_sets s x now d new wanted) now changed (at_now s.tree d.number (current_is s x d there).there))),
      raises changed,
    )))

-- REMOVE
abbrev pub RemoveTells : ℕ → Files → Outcome → Type 0
RemoveTells n t o = (info : ChangeInfo) × (spell_result o.result ≡ spell_result (Res.Remove info)) × Theirs n t o.state.tree info × (info.before < info.after)

pub remove_tells : (n : ℕ) (s : store.State) (x : Context) (now : Time) (name : List ℕ) → x.current ≡ Some n → Done (RemoveTells n s.tree) (remove s x now name)
remove_tells n s x now name at =
    by_remove (Done (RemoveTells n s.tree)) s x now name (λ f h ok. absurd (false≢true (sym h.done ∙ ok))) (λ d there placed row ok.
    (let t : Files = s.tree in
    let gone = number_named t d.number name in
    let granted = remove_granted t d.number name row in
    let other : gone ≢ d.number = apart t d.number gone (has_one t d.number name granted.0) granted.1 in
    let less : store.State = with_tree s (without_name t d.number name now) in
    let u : Files = (without_unused less gone).tree in
    let changed = change_of t d.number in (
      change_info (raised t d.number),
      refl,
      same_info d.number n t u (change_info (raised t d.number)) (some_same x.current d.number n (current_number s x d there) at)
          (was_raised d.number t u (unused_at d.number gone less (changed + 1) other
          (without_at t d.number name now changed other (at_now t d.number (current_is s x d there).there)))),
      raises changed,
    )))

-- LINK and RENAME: the saved object is looked at as the current one is.

saved_as : (s : store.State) (x : Context) (e : Node) → node_at s (saved_object x.saved) ≡ Ok e → current s (record x { current = saved_object x.saved }) ≡ Ok e
unfolding current
saved_as s x e there = there

abbrev pub LinkTells : ℕ → Files → Outcome → Type 0
LinkTells n t o = (info : ChangeInfo) × (spell_result o.result ≡ spell_result (Res.Link info)) × Theirs n t o.state.tree info × (info.before < info.after)

pub link_tells : (n : ℕ) (s : store.State) (x : Context) (now : Time) (name : List ℕ) → x.current ≡ Some n → Done (LinkTells n s.tree) (link s x now name)
unfolding both
link_tells n s x now name at =
    by_link (Done (LinkTells n s.tree)) s x now name (λ f h ok. absurd (false≢true (sym h.done ∙ ok))) (λ p there placed row ok.
    (let t : Files = s.tree in
    let d = p.current.number in
    let first = came (current s x) _ p there in
    let second = came (node_at s (saved_object x.saved)) _ p first.then in
    let same : record { current = first.found; saved = second.found } ≡ p = ok_is refl second.then in
    let is : current s x ≡ Ok p.current = first.is ∙ ap (λ q. Ok q.current) same in
    let checks = all_passed (link_checks t p.saved.number d name) row in
    let other : p.saved.number ≢ d = λ equal. false≢true (sym checks.1.1.0 ∙ (ap (is_directory_at t) equal ∙ not-false _ checks.1.0)) in
    let u : Files = with_link t p.saved.number d name now in
    let changed = change_of t d in (
      change_info (raised t d),
      refl,
      same_info d n t u (change_info (raised t d)) (some_same x.current d n (current_number s x p.current is) at)
          (was_raised d t u (link_at t p.saved.number d name now changed other (at_now t d (current_is s x p.current is).there))),
      raises changed,
    )))

-- RENAME
abbrev pub RenameTells : (from n : ℕ) → Files → Outcome → Type 0
RenameTells from n t o =
    (k : RenameOk) × (spell_result o.result ≡ spell_result (Res.Rename k)) × Theirs from t o.state.tree k.source_cinfo × Theirs n t o.state.tree k.target_cinfo

stayed : (n : ℕ) (t : Files) → Theirs n t t (change_info (unraised t n))
stayed n t = record { atomic = refl; before = refl; after = refl }

-- what is replaced is neither of the two directories, each of which has an entry
or_clear : (b c e : Bool) → b && (c || e) ≡ false → b ≡ true → e ≡ false
or_clear true true e is here = absurd (false≢true (sym is))
or_clear true false e is here = is
or_clear false c e is here = absurd (false≢true here)

named_none : (o : Option Row) → is_some o ≡ false → unwrap_or (option_map (λ (r : Row). r.object) o) 0 ≡ 0
named_none None e = refl
named_none (Some r) e = absurd (false≢true (sym e))

not_replaced : (t : Files) (m : Move) (d : ℕ) → IsTree t → is_there t d ≡ true → (has_name t m.target m.name ≡ true → has_entries t.rows d ≡ true)
    → is_in_the_way t m ≡ false → replaced_object t m ≢ d
not_replaced t m d tree there some clear = elim (cases_Bool (has_name t m.target m.name)) [
  | inl taken ↦ apart t d (replaced_object t m) (some taken)
      (or_clear (has_name t m.target m.name) (is_unlike t m) (has_entries t.rows (replaced_object t m)) clear taken)
  | inr free ↦ λ same. (let within = stored_within root (t.last_object + 1) t.objects d tree.objects there in
      let low = within.0 in
      let zero : 0 ≡ d = sym (named_none (entry t.rows m.target m.name) free) ∙ same in
      omega arith)
]

replaced_at : (n : ℕ) (s : store.State) (o : Option ℕ) (change : ℕ) → unwrap_or o 0 ≢ n → At n s.tree.objects change → At n (without_replaced s o).tree.objects change
replaced_at n s None change other at = at
replaced_at n s (Some r) change other at = unused_at n r s change other at

-- the tree behind a move
abbrev behind : store.State → Move → Time → Files
behind s m now = (without_replaced (with_tree s (with_moved s.tree m now)) (object_named s.tree m.target m.name)).tree

record AreRaised (s : store.State) (m : Move) (now : Time) : Type 0 where
  pub source : Theirs m.source s.tree (behind s m now) (change_info (raised s.tree m.source))
  pub target : Theirs m.target s.tree (behind s m now) (change_info (raised s.tree m.target))

are_raised : (s : store.State) (m : Move) (now : Time) → IsTree s.tree → is_there s.tree m.source ≡ true → is_there s.tree m.target ≡ true
    → first_fault (rename_checks s.tree m) ≡ None → moves s.tree m ≡ true → AreRaised s m now
are_raised s m now tree from to row is =
    let t : Files = s.tree in
    let checks = all_passed (rename_checks t m) row in
    let old : has_name t m.source m.old ≡ true = not-false _ checks.1.1.1.0 in
    let clear : is_in_the_way t m ≡ false = sym (ap (λ (b : Bool). b && is_in_the_way t m) is) ∙ checks.1.1.1.1.1.1.0 in
    let not_source = not_replaced t m m.source tree from (λ taken. has_one t m.source m.old old) clear in
    let not_target = not_replaced t m m.target tree to (λ taken. has_one t m.target m.name taken) clear in
    let granted = move_granted t m row is in
    let moved : store.State = with_tree s (with_moved t m now) in
    record {
      source = was_raised m.source t (behind s m now) (replaced_at m.source moved (object_named t m.target m.name) (change_of t m.source + 1) not_source
          (source_at t m now (change_of t m.source) not_source (touched_source t m tree granted) (at_now t m.source from)));
      target = was_raised m.target t (behind s m now) (replaced_at m.target moved (object_named t m.target m.name) (change_of t m.target + 1) not_target
          (target_at t m now (change_of t m.target) not_target (touched_target t m tree granted) (at_now t m.target to)));
    }

pub rename_tells : (from : Saved) (n : ℕ) (s : store.State) (x : Context) (now : Time) (a : Rename) → IsTree s.tree → x.saved ≡ Some from → x.current ≡ Some n
    → Done (RenameTells from.object n s.tree) (rename s x now a)
unfolding both
rename_tells from n s x now a tree kept at =
    by_rename (Done (RenameTells from.object n s.tree)) s x now a (λ f h ok. absurd (false≢true (sym h.done ∙ ok))) (λ p there row ok.
    (let t : Files = s.tree in
    let first = came (current s x) _ p there in
    let second = came (node_at s (saved_object x.saved)) _ p first.then in
    let same : record { current = first.found; saved = second.found } ≡ p = ok_is refl second.then in
    let is : current s x ≡ Ok p.current = first.is ∙ ap (λ q. Ok q.current) same in
    let y : Context = record x { current = saved_object x.saved } in
    let was : current s y ≡ Ok p.saved = saved_as s x second.found second.is ∙ ap (λ q. Ok q.saved) same in
    let source : p.saved.number ≡ from.object = some_same y.current p.saved.number from.object (current_number s y p.saved was) (ap saved_object kept) in
    let target : p.current.number ≡ n = some_same x.current p.current.number n (current_number s x p.current is) at in
    let m : Move = move_of a p in
    elim (cases_Bool (moves t m)) [
      | inl moving ↦ rw moving (
        record { source_cinfo = change_info (raised t m.source); target_cinfo = change_info (raised t m.target) },
        refl,
        same_info m.source from.object t (behind s m now) (change_info (raised t m.source)) source
            (are_raised s m now tree (current_is s y p.saved was).there (current_is s x p.current is).there row moving).source,
        same_info m.target n t (behind s m now) (change_info (raised t m.target)) target
            (are_raised s m now tree (current_is s y p.saved was).there (current_is s x p.current is).there row moving).target,
      )
      | inr still ↦ rw still (
        record { source_cinfo = change_info (unraised t m.source); target_cinfo = change_info (unraised t m.target) },
        refl,
        same_info m.source from.object t t (change_info (unraised t m.source)) source (stayed m.source t),
        same_info m.target n t t (change_info (unraised t m.target)) target (stayed m.target t),
      )
    ]))

-- OPEN
abbrev pub OpenTells : ℕ → Files → Outcome → Type 0
OpenTells n t o = (k : OpenOk) × (spell_result o.result ≡ spell_result (Res.Open k)) × Theirs n t o.state.tree k.cinfo

kinds_apart : (k : FileType) → is_regular k ≡ true → is_directory k ≡ true → ⊥
kinds_apart Regular regular directory = false≢true directory
kinds_apart Directory regular directory = false≢true regular
kinds_apart Link regular directory = false≢true regular

objects_apart : (o : Option Stored) → option_map_or (λ (s : Stored). is_regular s.object.kind) o false ≡ true
    → option_map_or (λ (s : Stored). is_directory s.object.kind) o false ≡ true → ⊥
objects_apart None regular directory = false≢true regular
objects_apart (Some s) regular directory = kinds_apart s.object.kind regular directory

apart_from : (t : Files) (m n : ℕ) → is_regular_at t m ≡ true → is_directory_at t n ≡ true → m ≢ n
apart_from t m n regular directory same = objects_apart (stored_in t.objects n) (subst (λ (k : ℕ). is_regular_at t k ≡ true) same regular) directory

cut_info : (t : Files) (place g : ℕ) (sets : Sets) (now : Time) (cut : Bool) → is_there t place ≡ true → (cut ≡ true → g ≢ place)
    → Theirs place t (if cut then with_resized t g 0 sets now else t) (change_info (unraised t place))
cut_info t place g sets now false there other = stayed place t
cut_info t place g sets now true there other = record {
  atomic = refl;
  before = refl;
  after = sym (change_is (with_resized t g 0 sets now) place (change_of t place)
      (bytes_other place g now sets (λ s. with_size (content_of s) 0) t.objects (change_of t place) (other refl) (at_now t place there)));
}

opened_info : (s : store.State) (x : Context) (now : Time) (a : Open) (f : Found) (n : ℕ) → open_parts.asked_for s x a ≡ Ok f → Is s x a f → x.current ≡ Some n
    → Theirs n s.tree (of_open.tree_of s.tree x now a f) (of_open.info_of s.tree f)
opened_info s x now a (There place g cut) n e is at =
    same_info place n s.tree (of_open.tree_of s.tree x now a (There place g cut)) (change_info (unraised s.tree place)) (some_same x.current place n is.place at)
    (cut_info s.tree place g.number (behind_sets s.tree x g) now cut is.there (λ cuts. apart_from s.tree g.number place (asked_regular s x a place g cut e) (is.directory cuts)))
opened_info s x now a (Absent m) n e is at =
    let d = m.place.number in
    let new = of_open.new_of a m.wanted in
    let sets = of_open.made_sets s.tree x now a m in
    let u : Files = with_new s.tree d (of_open.name_of a.claim) new sets now in
    same_info d n s.tree u (change_info (raised s.tree d)) (some_same x.current d n is.place at)
    (was_raised d s.tree u (new_at s.tree d (of_open.name_of a.claim) new sets now (change_of s.tree d) (at_now s.tree d is.there)))

pub open_tells : (n : ℕ) (refused : Bool) (s : store.State) (x : Context) (now : Time) (a : Open) → x.current ≡ Some n
    → Done (OpenTells n s.tree) (one_or_delay refused s x now (Op.Open a))
open_tells n refused s x now a at =
    by_delay (Done (OpenTells n s.tree)) (grows s x (Op.Open a) && refused) s x Num.Open (of_open.open_file s x now a) (λ ok. absurd (false≢true ok))
    (rw (in_steps.open_is s x now a) (by_granted (Done (OpenTells n s.tree)) s x Num.Open (checked (open_parts.asked_for s x a) (of_open.last_checks s x a)) (of_open.opened s x now a)
    (open_refuses s x a) (λ status refuses ok. absurd (false≢true (sym refuses.done ∙ ok)))
    (λ f granted ok. (let e = (checked_ok (open_parts.asked_for s x a) (of_open.last_checks s x a) f granted).0 in (
      record { stateid = wire_id (opens s.opens (of_open.asking x a (of_open.file_of s.tree f))).id; cinfo = of_open.info_of s.tree f; rflags = of_open.result_flags s.tree.profile; attrset = of_open.set_of a f },
      refl,
      opened_info s x now a f n e (open_is s x a f e) at,
    )))))

-- What raises a change.

abbrev pub Raises : ℕ → Files → Files → Type 0
Raises n t u = change_of t n < change_of u n

goes_up : (n : ℕ) (t u : Files) → At n u.objects (change_of t n + 1) → Raises n t u
goes_up n t u at = subst (λ (k : ℕ). change_of t n < k) (sym (change_is u n (change_of t n + 1) at)) (raises (change_of t n))

-- WRITE
written_raises : (n : ℕ) (s : store.State) (x : Context) (now : Time) (w : Write) (d : Node) → d.number ≡ n → is_there s.tree n ≡ true → has_bytes w.bytes ≡ true
    → Raises n s.tree (of_write.with_bytes s.tree x w d now)
written_raises n s x now w d same there some =
    rw (some, same) (goes_up n s.tree (with_written s.tree n w.offset w.bytes (behind_sets s.tree x d) now)
    (bytes_here n now (behind_sets s.tree x d) (λ s. with_text (content_of s) w.offset w.bytes) s.tree.objects (change_of s.tree n) (at_now s.tree n there)))

pub write_raises : (n : ℕ) (refused : Bool) (s : store.State) (x : Context) (now : Time) (w : Write) → x.current ≡ Some n → is_there s.tree n ≡ true → has_bytes w.bytes ≡ true
    → Done (λ o. Raises n s.tree o.state.tree) (one_or_delay refused s x now (Op.Write w))
write_raises n refused s x now w at there some =
    by_delay (Done (λ o. Raises n s.tree o.state.tree)) (grows s x (Op.Write w) && refused) s x Num.Write (of_write.write s x now w)
    (λ ok. absurd (false≢true (sym (lacks_fail s Num.Write) ∙ ok)))
    (rw (write_is s x now w) (by_granted (Done (λ o. Raises n s.tree o.state.tree)) s x Num.Write (checked (writable s x w.stateid (current s x)) (of_write.last_checks s w)) (parts.was_written s x now w)
    (refuses_checked (writable s x w.stateid (current s x)) (of_write.last_checks s w) (writable_refuses s x w.stateid (current s x) (current_refuses s x)) (λ d. refl))
    (λ status refuses ok. absurd (false≢true (sym refuses.done ∙ ok)))
    (λ d granted ok. (let here = writable_at s x w.stateid d (checked_ok (writable s x w.stateid (current s x)) (of_write.last_checks s w) d granted).0 in
    written_raises n s x now w d (some_same x.current d.number n (current_number s x d here) at) there some))))

-- SETATTR
set_raises : (t : Files) (x : Context) (d : Node) (now : Time) (wanted : Wanted) (size : Option ℕ) → is_there t d.number ≡ true → of_set.gives_some wanted ≡ true
    → Raises d.number t (of_set.with_set t x d now wanted size)
set_raises t x d now wanted (Some size) there some =
    goes_up d.number t (with_resized t d.number size (of_set.settled_sets t x d now wanted) now)
    (bytes_here d.number now (of_set.settled_sets t x d now wanted) (λ s. with_size (content_of s) size) t.objects (change_of t d.number) (at_now t d.number there))
set_raises t x d now wanted None there some =
    rw some (goes_up d.number t (with_sets t d.number (of_set.settled_sets t x d now wanted) now)
    (at_here d.number now (of_set.settled_sets t x d now wanted) t.objects (change_of t d.number) (at_now t d.number there)))

pub ok_same : (v : Result Wanted Status) (a b : Wanted) → v ≡ Ok a → v ≡ Ok b → a ≡ b
ok_same v a b e f = (let same : Ok a ≡ Ok b = sym e ∙ f in cc)

pub set_attr_raises : (n : ℕ) (s : store.State) (x : Context) (now : Time) (a : SetAttr) (wanted : Wanted) → x.current ≡ Some n → is_there s.tree n ≡ true
    → attributes_in a.obj_attributes ≡ Ok wanted → of_set.gives_some wanted ≡ true → Done (λ o. Raises n s.tree o.state.tree) (of_set.set_attr s x now a)
set_attr_raises n s x now a wanted at there reads some =
    rw (set_attr_is s x now a)
    (by_granted (Done (λ o. Raises n s.tree o.state.tree)) s x Num.SetAttr (checked (set_parts.asked_for s x a) (set_parts.last_checks s)) (set_parts.was_set s x now a)
    (refuses_checked (set_parts.asked_for s x a) (set_parts.last_checks s) (asked_refuses s x a) (λ m. refl))
    (λ status refuses ok. absurd (false≢true (sym refuses.done ∙ ok)))
    (λ m granted ok. (let is = setting_is s x a m (checked_ok (set_parts.asked_for s x a) (set_parts.last_checks s) m granted).0 in
    let same : m.node.number ≡ n = some_same x.current m.node.number n is.at at in
    let wants : wanted ≡ m.wanted = ok_same (attributes_in a.obj_attributes) wanted m.wanted reads is.reads in
    subst (λ (k : ℕ). Raises k s.tree (of_set.with_set s.tree x m.node now m.wanted m.wanted.size)) same
    (set_raises s.tree x m.node now m.wanted m.wanted.size (ap (is_there s.tree) same ∙ there) (subst (λ (w : Wanted). of_set.gives_some w ≡ true) wants some)))))

-- OPEN
opened_raises : (n : ℕ) (s : store.State) (x : Context) (now : Time) (a : Open) (f : Found) → Is s x a f → is_there s.tree n ≡ true
    → is_number n (claimed s.tree x.current a.claim) && asks_empty a ≡ true → Raises n s.tree (of_open.tree_of s.tree x now a f)
opened_raises n s x now a (There place g cut) is there empties =
    let both = and_parts cut (g.number == n) (sym (is.empties n) ∙ empties) in
    let same : g.number ≡ n = eqb-true g.number n both.1 in
    rw (both.0, same) (goes_up n s.tree (with_resized s.tree n 0 (behind_sets s.tree x g) now)
    (bytes_here n now (behind_sets s.tree x g) (λ s. with_size (content_of s) 0) s.tree.objects (change_of s.tree n) (at_now s.tree n there)))
opened_raises n s x now a (Absent m) is there empties =
    absurd (false≢true (sym (ap (λ (k : Option ℕ). is_number n k && asks_empty a) is.none) ∙ empties))

pub open_raises : (n : ℕ) (refused : Bool) (s : store.State) (x : Context) (now : Time) (a : Open) → is_there s.tree n ≡ true
    → is_number n (claimed s.tree x.current a.claim) && asks_empty a ≡ true → Done (λ o. Raises n s.tree o.state.tree) (one_or_delay refused s x now (Op.Open a))
open_raises n refused s x now a there empties =
    by_delay (Done (λ o. Raises n s.tree o.state.tree)) (grows s x (Op.Open a) && refused) s x Num.Open (of_open.open_file s x now a) (λ ok. absurd (false≢true ok))
    (rw (in_steps.open_is s x now a) (by_granted (Done (λ o. Raises n s.tree o.state.tree)) s x Num.Open (checked (open_parts.asked_for s x a) (of_open.last_checks s x a)) (of_open.opened s x now a)
    (open_refuses s x a) (λ status refuses ok. absurd (false≢true (sym refuses.done ∙ ok)))
    (λ f granted ok. opened_raises n s x now a f (open_is s x a f (checked_ok (open_parts.asked_for s x a) (of_open.last_checks s x a) f granted).0) there empties)))
