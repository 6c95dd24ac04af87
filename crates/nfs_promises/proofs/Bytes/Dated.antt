-- What an operation changes gets its moment as a time, and is counted.
use Rattle.std.proofs.Common.{◌≡◌, inl, inr, ℕ, Bool, true, false, cond, not, List, [], ◌∷◌, ◌++◌, map, length, Option, Some, None, refl, sym, ◌∙◌, ap, subst}
use Rattle.std.proofs.lemmas.Bool.{cases_Bool, eq-eqb, eqb-true, lt-ltb, false≢true}
use Rattle.std.specs.Prelude.{◌==◌, ◌&&◌, filter, Ok, option_map, if◌then◌else◌}
use Rattle.nfs_xdr.specs.declared.time.Time.{Time}
use Rattle.nfs_xdr.proofs.Lists.{find_in, find_past, find_out, find_push_some}
use Rattle.nfs_compound.specs.{declared.name_args.Create.Create, declared.open_args.Open.Open, declared.file_args.Write.Write, declared.file_args.SetAttr.SetAttr}
use Rattle.nfs_compound.specs.{declared.op.Item.Item, declared.op.Item.TheVariants.Operation}
use Rattle.nfs_compound.specs.declared.op.Op.TheVariants as Op
use Rattle.nfs_compound.specs.declared.op_num.OpNum.TheVariants as Num
use Rattle.nfs_tree.specs.{declared.object.Object.Object, declared.sets.Sets.Sets, declared.stored.Stored.Stored, Stored.content_of, Object.{modified, no_sets}}
use Rattle.nfs_tree.specs.Files.{Files, next_count, stored_in, change_of, change_at, with_changed, with_entries_changed, with_links_changed, number_named}
use Rattle.nfs_tree.specs.{Create.with_new, Bytes.{has_bytes, Content, with_text, with_size, with_bytes, with_written}, Names.{with_link, without_name}}
use Rattle.nfs_tree.proofs.Objects.{keeps_changed, stored_map}
use Rattle.nfs_attrs.specs.declared.wanted.Wanted.{Wanted}
use Rattle.nfs_names.specs.{declared.context.Context.Context, declared.node.Node.Node, Checks.{node_at, current, both, saved_object}, Create.{attributes_in, new_of, made_sets, create}}
use Rattle.nfs_names.specs.{Link.link, Outcome.{Outcome, checked, is_ok}, Remove.remove, State.{with_tree, is_used, without_unused, time_at}}
use Rattle.nfs_names.specs.State as store
use Rattle.nfs_names.specs.Operation as names
use Rattle.nfs_names.proofs.{Found.{came, ok_is, checked_ok, current_is}, NameLaws.{current_refuses, by_create, by_link, by_remove}, Ones.by_delay, Faulted.lacks_fail, Refusing.refuses_checked}
use Rattle.nfs_files.specs.{Operation.grows, Parts.writable, FileImage.{claimed, is_number, asks_empty}, Bytes.behind_sets}
use Rattle.nfs_files.specs.OpenParts as open_parts
use Rattle.nfs_files.specs.Open as of_open
use Rattle.nfs_files.specs.SetAttrParts as set_parts
use Rattle.nfs_files.specs.SetAttr as of_set
use Rattle.nfs_files.specs.Parts as parts
use Rattle.nfs_files.specs.Write as of_write
use Rattle.nfs_files.proofs.{OpenAnswers.open_refuses, Outcomes.one_or_delay, Seats.writable_refuses, SetAnswers.asked_refuses}
use Rattle.nfs_files.proofs.WrittenOps.{current_number, writable_at}
use Rattle.nfs_files.proofs.{ChangesAt.{at_here, at_now}, ChangesTold.{Done, some_same, ok_same}, FileOps.{by_granted, open_is, setting_is}, InSteps.{write_is, set_attr_is}, OpenTrees.emptied_is}
use Rattle.nfs_files.proofs.InSteps as in_steps
use Rattle.nfs_exec.specs.Runs.Ops.{RanOp}
use Rattle.nfs_exec.proofs.Runs.OneRun.{IsRun, by_ok}
use Rattle.nfs_promises.specs.Bytes.{TimesRise.SetsNothing, ChangeSeen.Changes}
use Rattle.nfs_promises.specs.Bytes.ChangeSeen as seen

-- What is there under a number.

abbrev pub Each : ℕ → (Object → Type 0) → List Stored → Type 0
Each n P xs = (k : Stored) → stored_in xs n ≡ Some k → P k.object

abbrev Any : Object → Type 0
Any o = Unit {0}

abbrev Stamped : Time → Object → Type 0
Stamped now o = o.metadata ≡ now

abbrev Modified : Time → Object → Type 0
Modified now o = (o.metadata ≡ now) × (o.modify ≡ now)

each_map : (n : ℕ) (P Q : Object → Type 0) (f : Stored → Stored) (xs : List Stored) → ((s : Stored) → (f s).number ≡ s.number)
    → ((s : Stored) → s.number ≡ n → P s.object → Q (f s).object) → Each n P xs → Each n Q (map f xs)
each_map n P Q f xs number each all k e = go (stored_in xs n) refl (sym (stored_map xs f n number) ∙ e)
  where
    go : (o : Option Stored) → stored_in xs n ≡ o → option_map f o ≡ Some k → Q k.object
    go None there e = absurd cc
    go (Some s) there e =
        let is : f s ≡ k = cc in
        subst (λ (k : Stored). Q k.object) is (each s (eqb-true s.number n (find_in (λ (s : Stored). s.number == n) xs s there).1) (all s there))

each_here : (n : ℕ) (now : Time) (sets : Sets) (xs : List Stored) → Each n (Stamped now) (with_changed n now sets xs)
each_here n now sets xs =
    each_map n Any (Stamped now) (change_at n now sets) xs (keeps_changed n now sets []).number (λ s here any. rw (eq-eqb s.number n here) refl) (λ k e. tt)

entries_here : (n : ℕ) (now : Time) (xs : List Stored) → Each n (Modified now) (with_entries_changed n now xs)
entries_here n now xs =
    each_map n Any (Modified now) (change_at n now (modified now no_sets)) xs (keeps_changed n now (modified now no_sets) []).number
    (λ s here any. rw (eq-eqb s.number n here) (refl, refl)) (λ k e. tt)

links_kept : (n m : ℕ) (now : Time) (xs : List Stored) → Each n (Modified now) xs → Each n (Modified now) (with_links_changed m now xs)
links_kept n m now xs is =
    each_map n (Modified now) (Modified now) (change_at m now no_sets) xs (keeps_changed m now no_sets []).number
    (λ s here both. elim (cases_Bool (s.number == m)) [ inl changed ↦ rw changed (refl, both.1) | inr other ↦ rw other both ]) is

bytes_number : (m : ℕ) (now : Time) (sets : Sets) (bytes : Stored → Content) (s : Stored) → (if s.number == m then with_bytes now sets (bytes s) s else s).number ≡ s.number
bytes_number m now sets bytes s = elim (s.number == m) as (λ v. (cond v (with_bytes now sets (bytes s) s) s).number ≡ s.number) [ true ↦ refl | false ↦ refl ]

bytes_stamped : (n : ℕ) (now : Time) (sets : Sets) (bytes : Stored → Content) (xs : List Stored)
    → Each n (Stamped now) (map (λ (s : Stored). if s.number == n then with_bytes now sets (bytes s) s else s) xs)
bytes_stamped n now sets bytes xs =
    each_map n Any (Stamped now) (λ (s : Stored). if s.number == n then with_bytes now sets (bytes s) s else s) xs (bytes_number n now sets bytes)
    (λ s here any. rw (eq-eqb s.number n here) refl) (λ k e. tt)

bytes_modified : (n : ℕ) (t : Files) (x : Context) (d : Node) (now : Time) (bytes : Stored → Content) (xs : List Stored)
    → Each n (Modified now) (map (λ (s : Stored). if s.number == n then with_bytes now (behind_sets t x d) (bytes s) s else s) xs)
bytes_modified n t x d now bytes xs =
    each_map n Any (Modified now) (λ (s : Stored). if s.number == n then with_bytes now (behind_sets t x d) (bytes s) s else s) xs
    (bytes_number n now (behind_sets t x d) bytes) (λ s here any. rw (eq-eqb s.number n here) (refl, refl)) (λ k e. tt)

each_push : (n : ℕ) (P : Object → Type 0) (xs : List Stored) (x w : Stored) → stored_in xs n ≡ Some w → Each n P xs → Each n P (xs ++ x ∷ [])
each_push n P xs x w there all k e =
    let is : w ≡ k = (let same : Some w ≡ Some k = sym (find_push_some (λ (s : Stored). s.number == n) xs x w there) ∙ e in cc) in
    subst (λ (k : Stored). P k.object) is (all w there)

pub each_rest : (n : ℕ) (P : Object → Type 0) (p : ℕ → Bool) (xs : List Stored) → Each n P xs → Each n P (filter (λ (s : Stored). p s.number) xs)
each_rest n P p xs all k e = elim (cases_Bool (p n)) [
  | inl stays ↦ all k (sym (find_past (λ (s : Stored). s.number == n) (λ s. p s.number) xs (λ s e. ap p (eqb-true s.number n e) ∙ stays)) ∙ e)
  | inr goes ↦ absurd (let none : None ≡ Some k =
      sym (find_out (λ (s : Stored). s.number == n) (λ s. p s.number) xs (λ s e. ap p (eqb-true s.number n e) ∙ goes)) ∙ e in cc)
]

-- A tree behind a change: it is counted, and the object has the time.

pub record Dated (n : ℕ) (P : Object → Type 0) (t u : Files) : Type 0 where
  pub counted : u.changes ≡ next_count t.changes
  pub each : Each n P u.objects

unused_dated : (n m : ℕ) (P : Object → Type 0) (t : Files) (s : store.State) → Dated n P t s.tree → Dated n P t (without_unused s m).tree
unused_dated n m P t s is = elim (cases_Bool (is_used s m)) [
  | inl stays ↦ rw stays is
  | inr goes ↦ rw goes (record { counted = is.counted; each = each_rest n P (λ k. not (k == m)) s.tree.objects is.each })
]

abbrev Dates : ℕ → (Object → Type 0) → Files → Outcome → Type 0
Dates n P t o = Dated n P t o.state.tree

-- CREATE, REMOVE and LINK, of their directory
create_dates : (n : ℕ) (s : store.State) (x : Context) (now : Time) (a : Create) → x.current ≡ Some n → Done (Dates n (Modified now) s.tree) (create s x now a)
create_dates n s x now a at =
    by_create (Done (Dates n (Modified now) s.tree)) s x now a (λ f h ok. absurd (false≢true (sym h.done ∙ ok))) (λ d wanted there placed read row ok.
    (let t : Files = s.tree in
    let new = new_of a.objtype in
    let is = at_here d.number now (modified now no_sets) t.objects (change_of t d.number) (at_now t d.number (current_is s x d there).there) in
    subst (λ (k : ℕ). Dated k (Modified now) t (with_new t d.number a.objname new (made_sets s x now d new wanted) now))
    (some_same x.current d.number n (current_number s x d there) at)
    (record {
      counted = refl;
      each = each_push d.number (Modified now) (with_entries_changed d.number now t.objects) _ is.object is.there (entries_here d.number now t.objects);
    })))

remove_dates : (n : ℕ) (s : store.State) (x : Context) (now : Time) (name : List ℕ) → x.current ≡ Some n → Done (Dates n (Modified now) s.tree) (remove s x now name)
remove_dates n s x now name at =
    by_remove (Done (Dates n (Modified now) s.tree)) s x now name (λ f h ok. absurd (false≢true (sym h.done ∙ ok))) (λ d there placed row ok.
    (let t : Files = s.tree in
    let gone = number_named t d.number name in
    subst (λ (k : ℕ). Dated k (Modified now) t (without_unused (with_tree s (without_name t d.number name now)) gone).tree)
    (some_same x.current d.number n (current_number s x d there) at)
    (unused_dated d.number gone (Modified now) t (with_tree s (without_name t d.number name now)) (record {
      counted = refl;
      each = links_kept d.number gone now (with_entries_changed d.number now t.objects) (entries_here d.number now t.objects);
    }))))

link_dates : (n : ℕ) (s : store.State) (x : Context) (now : Time) (name : List ℕ) → x.current ≡ Some n → Done (Dates n (Modified now) s.tree) (link s x now name)
unfolding both
link_dates n s x now name at =
    by_link (Done (Dates n (Modified now) s.tree)) s x now name (λ f h ok. absurd (false≢true (sym h.done ∙ ok))) (λ p there placed row ok.
    (let t : Files = s.tree in
    let d = p.current.number in
    let first = came (current s x) _ p there in
    let second = came (node_at s (saved_object x.saved)) _ p first.then in
    let same : record { current = first.found; saved = second.found } ≡ p = ok_is refl second.then in
    let is : current s x ≡ Ok p.current = first.is ∙ ap (λ q. Ok q.current) same in
    subst (λ (k : ℕ). Dated k (Modified now) t (with_link t p.saved.number d name now)) (some_same x.current d n (current_number s x p.current is) at) (record {
      counted = refl;
      each = links_kept d p.saved.number now (with_entries_changed d now t.objects) (entries_here d now t.objects);
    })))

-- WRITE
write_dates : (n : ℕ) (refused : Bool) (s : store.State) (x : Context) (now : Time) (w : Write) → x.current ≡ Some n → has_bytes w.bytes ≡ true
    → Done (Dates n (Modified now) s.tree) (one_or_delay refused s x now (Op.Write w))
write_dates n refused s x now w at some =
    by_delay (Done (Dates n (Modified now) s.tree)) (grows s x (Op.Write w) && refused) s x Num.Write (of_write.write s x now w)
    (λ ok. absurd (false≢true (sym (lacks_fail s Num.Write) ∙ ok)))
    (rw (write_is s x now w) (by_granted (Done (Dates n (Modified now) s.tree)) s x Num.Write (checked (writable s x w.stateid (current s x)) (of_write.last_checks s w))
    (parts.was_written s x now w)
    (refuses_checked (writable s x w.stateid (current s x)) (of_write.last_checks s w) (writable_refuses s x w.stateid (current s x) (current_refuses s x)) (λ d. refl))
    (λ status refuses ok. absurd (false≢true (sym refuses.done ∙ ok)))
    (λ d granted ok. (let here = writable_at s x w.stateid d (checked_ok (writable s x w.stateid (current s x)) (of_write.last_checks s w) d granted).0 in
    rw some (subst (λ (k : ℕ). Dated k (Modified now) s.tree (with_written s.tree d.number w.offset w.bytes (behind_sets s.tree x d) now))
    (some_same x.current d.number n (current_number s x d here) at)
    (record { counted = refl; each = bytes_modified d.number s.tree x d now (λ s. with_text (content_of s) w.offset w.bytes) s.tree.objects }))))))

-- SETATTR
set_dated : (t : Files) (x : Context) (d : Node) (now : Time) (wanted : Wanted) (size : Option ℕ) → of_set.gives_some wanted ≡ true
    → Dated d.number (Stamped now) t (of_set.with_set t x d now wanted size)
set_dated t x d now wanted (Some size) some =
    record { counted = refl; each = bytes_stamped d.number now (of_set.settled_sets t x d now wanted) (λ s. with_size (content_of s) size) t.objects }
set_dated t x d now wanted None some =
    rw some (record { counted = refl; each = each_here d.number now (of_set.settled_sets t x d now wanted) t.objects })

set_attr_dates : (n : ℕ) (s : store.State) (x : Context) (now : Time) (a : SetAttr) (wanted : Wanted) → x.current ≡ Some n
    → attributes_in a.obj_attributes ≡ Ok wanted → of_set.gives_some wanted ≡ true → Done (Dates n (Stamped now) s.tree) (of_set.set_attr s x now a)
set_attr_dates n s x now a wanted at reads some =
    rw (set_attr_is s x now a)
    (by_granted (Done (Dates n (Stamped now) s.tree)) s x Num.SetAttr (checked (set_parts.asked_for s x a) (set_parts.last_checks s)) (set_parts.was_set s x now a)
    (refuses_checked (set_parts.asked_for s x a) (set_parts.last_checks s) (asked_refuses s x a) (λ m. refl))
    (λ status refuses ok. absurd (false≢true (sym refuses.done ∙ ok)))
    (λ m granted ok. (let is = setting_is s x a m (checked_ok (set_parts.asked_for s x a) (set_parts.last_checks s) m granted).0 in
    let wants : wanted ≡ m.wanted = ok_same (attributes_in a.obj_attributes) wanted m.wanted reads is.reads in
    subst (λ (k : ℕ). Dated k (Stamped now) s.tree (of_set.with_set s.tree x m.node now m.wanted m.wanted.size)) (some_same x.current m.node.number n is.at at)
    (set_dated s.tree x m.node now m.wanted m.wanted.size (subst (λ (w : Wanted). of_set.gives_some w ≡ true) wants some)))))

-- OPEN of a file that is emptied
open_dates : (n : ℕ) (refused : Bool) (s : store.State) (x : Context) (now : Time) (a : Open)
    → is_number n (claimed s.tree x.current a.claim) && asks_empty a ≡ true → Done (Dates n (Modified now) s.tree) (one_or_delay refused s x now (Op.Open a))
open_dates n refused s x now a empties =
    by_delay (Done (Dates n (Modified now) s.tree)) (grows s x (Op.Open a) && refused) s x Num.Open (of_open.open_file s x now a) (λ ok. absurd (false≢true ok))
    (rw (in_steps.open_is s x now a) (by_granted (Done (Dates n (Modified now) s.tree)) s x Num.Open (checked (open_parts.asked_for s x a) (of_open.last_checks s x a))
    (of_open.opened s x now a) (open_refuses s x a) (λ status refuses ok. absurd (false≢true (sym refuses.done ∙ ok)))
    (λ f granted ok. (let it = emptied_is n s x now a f (open_is s x a f (checked_ok (open_parts.asked_for s x a) (of_open.last_checks s x a) f granted).0) empties in
    subst (λ (u : Files). Dated n (Modified now) s.tree u) (sym it.1)
    (record { counted = refl; each = bytes_modified n s.tree x it.0 now (λ s. with_size (content_of s) 0) s.tree.objects })))))

-- An operation that was run.

abbrev now_of : (d : RanOp) → IsRun d → Time
now_of d r = time_at d.before.store r.now

abbrev pub sets : Item → Bool
sets (Operation (Op.SetAttr a)) = true
sets i = false

module _ (n : ℕ) (d : RanOp) (r : IsRun d) (ok : is_ok d.status ≡ true) where
  pub modifies : Changes n d → SetsNothing d → Dated n (Modified (now_of d r)) d.before.store.tree d.behind.store.tree
  modifies (seen.Writes a item at some) plain = by_ok (λ result left. Dated n (Modified (now_of d r)) d.before.store.tree left.tree) d r (Operation (Op.Write a)) item ok
      (write_dates n r.refused d.before.store d.context (now_of d r) a at (lt-ltb 0 (length a.bytes) some))
  modifies (seen.Sets a wanted item at reads some) plain = absurd (plain a item)
  modifies (seen.Empties a item empties) plain = by_ok (λ result left. Dated n (Modified (now_of d r)) d.before.store.tree left.tree) d r (Operation (Op.Open a)) item ok
      (open_dates n r.refused d.before.store d.context (now_of d r) a empties)
  modifies (seen.Creates a item at) plain = by_ok (λ result left. Dated n (Modified (now_of d r)) d.before.store.tree left.tree) d r (Operation (Op.Create a)) item ok
      (by_delay (Done (Dates n (Modified (now_of d r)) d.before.store.tree)) (names.grows d.before.store d.context (Op.Create a) && r.refused) d.before.store d.context Num.Create
      (create d.before.store d.context (now_of d r) a) (λ ok. absurd (false≢true ok)) (create_dates n d.before.store d.context (now_of d r) a at))
  modifies (seen.Links name item at) plain = by_ok (λ result left. Dated n (Modified (now_of d r)) d.before.store.tree left.tree) d r (Operation (Op.Link name)) item ok
      (by_delay (Done (Dates n (Modified (now_of d r)) d.before.store.tree)) (names.grows d.before.store d.context (Op.Link name) && r.refused) d.before.store d.context Num.Link
      (link d.before.store d.context (now_of d r) name) (λ ok. absurd (false≢true ok)) (link_dates n d.before.store d.context (now_of d r) name at))
  modifies (seen.Removes name item at) plain = by_ok (λ result left. Dated n (Modified (now_of d r)) d.before.store.tree left.tree) d r (Operation (Op.Remove name)) item ok
      (remove_dates n d.before.store d.context (now_of d r) name at)

  plain_of : (i : Item) → d.item ≡ i → sets i ≡ false → SetsNothing d
  plain_of i is other a item = false≢true (sym other ∙ (ap sets (sym is) ∙ ap sets item))

  stamped_too : Dated n (Modified (now_of d r)) d.before.store.tree d.behind.store.tree → Dated n (Stamped (now_of d r)) d.before.store.tree d.behind.store.tree
  stamped_too is = record { counted = is.counted; each = λ k e. (is.each k e).0 }

  pub stamps : Changes n d → Dated n (Stamped (now_of d r)) d.before.store.tree d.behind.store.tree
  stamps (seen.Writes a item at some) = stamped_too (modifies (seen.Writes a item at some) (plain_of (Operation (Op.Write a)) item refl))
  stamps (seen.Sets a wanted item at reads some) = by_ok (λ result left. Dated n (Stamped (now_of d r)) d.before.store.tree left.tree) d r (Operation (Op.SetAttr a)) item ok
      (set_attr_dates n d.before.store d.context (now_of d r) a wanted at reads some)
  stamps (seen.Empties a item empties) = stamped_too (modifies (seen.Empties a item empties) (plain_of (Operation (Op.Open a)) item refl))
  stamps (seen.Creates a item at) = stamped_too (modifies (seen.Creates a item at) (plain_of (Operation (Op.Create a)) item refl))
  stamps (seen.Links name item at) = stamped_too (modifies (seen.Links name item at) (plain_of (Operation (Op.Link name)) item refl))
  stamps (seen.Removes name item at) = stamped_too (modifies (seen.Removes name item at) (plain_of (Operation (Op.Remove name)) item refl))
