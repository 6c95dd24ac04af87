-- The change attribute tells, through whatever records come.
use Rattle.std.proofs.Common.{◌≡◌, ◌≢◌, ◌⊎◌, inl, inr, ℕ, ◌+◌, ◌<◌, ◌≤◌, Bool, true, false, cond, not, List, [], ◌∷◌, ◌++◌, map, length, take, drop, Option, Some, None, refl, sym, ◌∙◌, ap, subst, arith}
use Rattle.std.proofs.lemmas.Bool.{cases_Bool, cases_eq, eq-eqb, ne_eqb, eqb-true, false≢true}
use Rattle.std.specs.{Prelude.{◌==◌, nat_le, filter, option_map, is_some, if◌then◌else◌, Ok}, Option.{ForSome, option_map_or}}
use Rattle.nfs_xdr.specs.declared.{time.Time.Time, status.Status.TheVariants.RepTooBig}
use Rattle.nfs_compound.specs.{declared.file_args.Read.Read, declared.op.Item.Item, declared.op.Item.TheVariants.Operation}
use Rattle.nfs_compound.specs.declared.op_num.OpNum.TheVariants as Num
use Rattle.nfs_results.specs.{Largest.given, Results.{spell_result, done_head}}
use Rattle.nfs_results.specs.declared.res.Res.TheVariants as Res
use Rattle.nfs_names.specs.{Checks.{node_as, node_at, current}, Ending.{with_opens, table_staying, staying}, Outcome.checked, Rename.without_replaced}
use Rattle.nfs_names.specs.{State.{with_tree, is_used, without_unused, time_at}, declared.{context.Context.Context, node.Node.Node}}
use Rattle.nfs_names.proofs.{Found.{ok_is, checked_ok}, Ones.each_of, Effects.{Makes, Links, Removes, Moves}}
use Rattle.nfs_files.specs.{Bytes.{file_checks, reading, may_use}, Parts.readable}
use Rattle.nfs_files.specs.Read as of_read
use Rattle.nfs_files.proofs.{Passing.if_passed_ok, WrittenOps.by_found, WrittenTold.short, Effects.{Names, Writes, Resizes, Changes, Closes}}
use Rattle.nfs_xdr.proofs.Lists.{find_in, find_past, find_out, find_push_other}
use Rattle.nfs_compound.specs.declared.op.Op.TheVariants as Op
use Rattle.nfs_tree.specs.{declared.{row.Row.Row, sets.Sets.Sets, stored.Stored.Stored}, Stored.content_of, Object.{modified, no_sets}, Files.{Files, root, stored_in, is_there}}
use Rattle.nfs_tree.specs.Files.{change_of, change_at, with_changed, with_entries_changed, with_links_changed, without_entry, object_named, number_named}
use Rattle.nfs_tree.specs.Create.{New, with_new, new_object}
use Rattle.nfs_tree.specs.Names.{with_link, without_name, forget, Move, moves, replaced_object, touched_object, with_both_changed, with_moved}
use Rattle.nfs_tree.specs.{Calls.rename_fault, Bytes.{Content, with_text, with_size, with_bytes, with_written, with_resized, with_sets}, TreeInvariants.IsTree}
use Rattle.nfs_tree.proofs.{Objects.{keeps_changed, stored_map, stored_within}, Moved.move_granted, Trees.entry_names}
use Rattle.nfs_opens.specs.{TableInvariants.IsTable, Closing.without_open}
use Rattle.nfs_names.specs.State as store
use Rattle.nfs_names.specs.Operation as names
use Rattle.nfs_names.proofs.Sound as names_sound
use Rattle.nfs_names.proofs.Effects as names_effects
use Rattle.nfs_names.proofs.Effected as names_effected
use Rattle.nfs_files.proofs.Effects as files_effects
use Rattle.nfs_files.proofs.Effected as files_effected
use Rattle.nfs_files.proofs.Sound as files_sound
use Rattle.nfs_files.proofs.Outcomes as files
use Rattle.nfs_exec.specs.{Step.Machine.Machine, Runs.Ops.RanOp}
use Rattle.nfs_promises.proofs.{Bytes.SameRows.{SameRows, rows_are, rows_on, rows_push, rows_without, rows_moved}, Runs.AttributesTold.change_in}
use Rattle.nfs_promises.proofs.Runs.{LaterRecords.{op_done, first_there, later_keeps, later_done}, Points.{IsSound, sound_all, sound_new}}
use Rattle.nfs_exec.proofs.{Runs.KeptByRuns.Is, Runs.OneRun.{IsRun, by_item, by_run}, Runs.OneWalk.IsKept}
use Rattle.nfs_serve.specs.{Step.new_state}
use Rattle.nfs_promises.specs.{Runs.Points.reached, Bytes.ChangeTells.{Tells, ChangeTells, ReadsOf, ReadsAreAlike, ChangeIsTold}}
use Rattle.nfs_files.proofs.InSteps as in_steps

-- What is there under a number was there, and has a greater change, or is the same, and then this holds.

pub record Was (n : ℕ) (xs : List Stored) (now : Stored) (Same : Type 0) : Type 0 where
  pub was : Stored
  pub there : stored_in xs n ≡ Some was
  pub either : (was.object.change < now.object.change) ⊎ ((now ≡ was) × Same)

joined : (a b c : Stored) (S T U : Type 0) → (S → T → U) → (a.object.change < b.object.change) ⊎ ((b ≡ a) × S)
    → (b.object.change < c.object.change) ⊎ ((c ≡ b) × T) → (a.object.change < c.object.change) ⊎ ((c ≡ a) × U)
joined a b c S T U both (inl less) (inl more) = inl (omega arith)
joined a b c S T U both (inl less) (inr also) = inl (subst (λ (k : Stored). a.object.change < k.object.change) (sym also.0) less)
joined a b c S T U both (inr same) (inl more) = inl (subst (λ (k : Stored). k.object.change < c.object.change) same.0 more)
joined a b c S T U both (inr same) (inr also) = inr (also.0 ∙ same.0, both same.1 also.1)

was_after : (n : ℕ) (xs ys : List Stored) (now : Stored) (S T U : Type 0) → (S → T → U) → Was n ys now T → ((s : Stored) → stored_in ys n ≡ Some s → Was n xs s S) → Was n xs now U
was_after n xs ys now S T U both late early =
    let first = early late.was late.there in
    record { was = first.was; there = first.there; either = joined first.was late.was now S T U both first.either late.either }

by_map : (n : ℕ) (f : Stored → Stored) (xs : List Stored) (Same : Type 0) → ((s : Stored) → (f s).number ≡ s.number)
    → ((s : Stored) → s.number ≡ n → (s.object.change < (f s).object.change) ⊎ ((f s ≡ s) × Same))
    → (now : Stored) → stored_in (map f xs) n ≡ Some now → Was n xs now Same
by_map n f xs Same number each now e = go (stored_in xs n) refl (sym (stored_map xs f n number) ∙ e)
  where
    go : (o : Option Stored) → stored_in xs n ≡ o → option_map f o ≡ Some now → Was n xs now Same
    go None there e = absurd cc
    go (Some s) there e =
        let is : f s ≡ now = cc in
        let at = find_in (λ (s : Stored). s.number == n) xs s there in
        record {
          was = s;
          there = there;
          either = subst (λ (k : Stored). (s.object.change < k.object.change) ⊎ ((k ≡ s) × Same)) is (each s (eqb-true s.number n at.1));
        }

changed_or : (m n : ℕ) (now : Time) (sets : Sets) (Same : Type 0) → (m ≢ n → Same) → (s : Stored) → s.number ≡ n
    → (s.object.change < (change_at m now sets s).object.change) ⊎ ((change_at m now sets s ≡ s) × Same)
changed_or m n now sets Same other s at = elim (cases_eq s.number m) [
  | inl here ↦ rw (eq-eqb s.number m here) (inl (omega arith))
  | inr apart ↦ rw (ne_eqb s.number m apart) (inr (refl, other (λ same. apart (at ∙ sym same))))
]

at_changed : (n m : ℕ) (now : Time) (sets : Sets) (xs : List Stored) (Same : Type 0) → (m ≢ n → Same) → (k : Stored)
    → stored_in (with_changed m now sets xs) n ≡ Some k → Was n xs k Same
at_changed n m now sets xs Same other k e = by_map n (change_at m now sets) xs Same (keeps_changed m now sets []).number (changed_or m n now sets Same other) k e

both_changed : (n d m : ℕ) (now : Time) (xs : List Stored) (Same : Type 0) → (d ≢ n → m ≢ n → Same) → (k : Stored)
    → stored_in (with_links_changed m now (with_entries_changed d now xs)) n ≡ Some k → Was n xs k Same
both_changed n d m now xs Same make k e =
    was_after n xs (with_entries_changed d now xs) k (d ≢ n) (m ≢ n) Same make
    (at_changed n m now no_sets (with_entries_changed d now xs) (m ≢ n) (λ apart. apart) k e)
    (λ s there. at_changed n d now (modified now no_sets) xs (d ≢ n) (λ apart. apart) s there)

two_changed : (n a b : ℕ) (now : Time) (xs : List Stored) (Same : Type 0) → (a ≢ n → b ≢ n → Same) → (k : Stored)
    → stored_in (with_both_changed a b now xs) n ≡ Some k → Was n xs k Same
two_changed n a b now xs Same make k e = elim (cases_eq a b) [
  | inl same ↦ at_changed n a now (modified now no_sets) xs Same (λ apart. make apart (λ is. apart (same ∙ is))) k (rw (eq-eqb a b same) at e)
  | inr differ ↦ was_after n xs (with_entries_changed a now xs) k (a ≢ n) (b ≢ n) Same make
      (at_changed n b now (modified now no_sets) (with_entries_changed a now xs) (b ≢ n) (λ apart. apart) k (rw (ne_eqb a b differ) at e))
      (λ s there. at_changed n a now (modified now no_sets) xs (a ≢ n) (λ apart. apart) s there)
]

by_rest : (n : ℕ) (p : ℕ → Bool) (xs : List Stored) (Same : Type 0) → Same → (now : Stored)
    → stored_in (filter (λ (s : Stored). p s.number) xs) n ≡ Some now → Was n xs now Same
by_rest n p xs Same same now e = elim (cases_Bool (p n)) [
  | inl stays ↦ record {
    was = now;
    there = sym (find_past (λ (s : Stored). s.number == n) (λ s. p s.number) xs (λ s e. ap p (eqb-true s.number n e) ∙ stays)) ∙ e;
    either = inr (refl, same);
  }
  | inr goes ↦ absurd (let none : None ≡ Some now =
      sym (find_out (λ (s : Stored). s.number == n) (λ s. p s.number) xs (λ s e. ap p (eqb-true s.number n e) ∙ goes)) ∙ e in cc)
]

bytes_or : (m n : ℕ) (now : Time) (sets : Sets) (bytes : Stored → Content) (Same : Type 0) → Same → (s : Stored) → s.number ≡ n
    → (s.object.change < (if s.number == m then with_bytes now sets (bytes s) s else s).object.change)
    ⊎ (((if s.number == m then with_bytes now sets (bytes s) s else s) ≡ s) × Same)
bytes_or m n now sets bytes Same same s at = elim (cases_Bool (s.number == m)) [
  | inl here ↦ rw here (inl (omega arith))
  | inr other ↦ rw other (inr (refl, same))
]

at_bytes : (n m : ℕ) (now : Time) (sets : Sets) (bytes : Stored → Content) (xs : List Stored) (Same : Type 0) → Same → (k : Stored)
    → stored_in (map (λ (s : Stored). if s.number == m then with_bytes now sets (bytes s) s else s) xs) n ≡ Some k → Was n xs k Same
at_bytes n m now sets bytes xs Same same k e =
    by_map n (λ (s : Stored). if s.number == m then with_bytes now sets (bytes s) s else s) xs Same
    (λ s. elim (s.number == m) as (λ v. (cond v (with_bytes now sets (bytes s) s) s).number ≡ s.number) [ true ↦ refl | false ↦ refl ])
    (bytes_or m n now sets bytes Same same) k e

-- A tree behind another.

pub record Follows (n : ℕ) (t u : Files) : Type 0 where
  pub given : n ≤ u.last_object
  pub came : (now : Stored) → stored_in u.objects n ≡ Some now → Was n t.objects now (SameRows n t.rows u.rows)

pub follows_itself : (n : ℕ) (t : Files) → n ≤ t.last_object → Follows n t t
follows_itself n t low = record { given = low; came = λ k e. record { was = k; there = e; either = inr (refl, rows_are n t.rows) } }

follows_on : (n : ℕ) (t u v : Files) → Follows n t u → (n ≤ u.last_object → Follows n u v) → Follows n t v
follows_on n t u v first step =
    let second = step first.given in
    record {
      given = second.given;
      came = λ k e. was_after n t.objects u.objects k (SameRows n t.rows u.rows) (SameRows n u.rows v.rows) (SameRows n t.rows v.rows)
          (λ early late. rows_on n t.rows u.rows v.rows late early) (second.came k e) first.came;
    }

new_follows : (n : ℕ) (t : Files) (d : ℕ) (name : List ℕ) (new : New) (sets : Sets) (now : Time) → n ≤ t.last_object → Follows n t (with_new t d name new sets now)
new_follows n t d name new sets now low =
    let made : Stored = record { number = t.last_object + 1; object = new_object now new sets; bytes = new.bytes; pages = new.pages } in
    let row : Row = record { directory = d; name = name; object = t.last_object + 1; cookie = t.last_cookie + 1 } in
    let other : t.last_object + 1 ≢ n = λ same. omega arith in
    record {
      given = omega arith;
      came = λ k e. at_changed n d now (modified now no_sets) t.objects (SameRows n t.rows (t.rows ++ row ∷ [])) (λ apart. rows_push t.rows row n apart other) k
          (sym (find_push_other (λ (s : Stored). s.number == n) (with_entries_changed d now t.objects) made (ne_eqb (t.last_object + 1) n other)) ∙ e);
    }

link_follows : (n : ℕ) (t : Files) (m d : ℕ) (name : List ℕ) (now : Time) → n ≤ t.last_object → Follows n t (with_link t m d name now)
link_follows n t m d name now low =
    let row : Row = record { directory = d; name = name; object = m; cookie = t.last_cookie + 1 } in
    record {
      given = low;
      came = λ k e. both_changed n d m now t.objects (SameRows n t.rows (t.rows ++ row ∷ [])) (λ apart other. rows_push t.rows row n apart other) k e;
    }

without_follows : (n : ℕ) (t : Files) (d : ℕ) (name : List ℕ) (now : Time) → IsTree t → n ≤ t.last_object → Follows n t (without_name t d name now)
without_follows n t d name now is low = record {
  given = low;
  came = λ k e. both_changed n d (number_named t d name) now t.objects (SameRows n t.rows (without_entry d name t.rows))
      (λ apart other. rows_without d name t.rows (number_named t d name) n (entry_names t d name is) apart other) k e;
}

moved_follows : (n : ℕ) (t : Files) (m : Move) (now : Time) → IsTree t → rename_fault t m ≡ None → moves t m ≡ true → n ≤ t.last_object → Follows n t (with_moved t m now)
moved_follows n t m now is fits moves low =
    let k : ℕ = replaced_object t m in
    let Same : Type 0 = SameRows n t.rows (with_moved t m now).rows in
    let touched : List Stored = with_links_changed (touched_object t m) now t.objects in
    record {
      given = low;
      came = λ s e. was_after n t.objects (with_links_changed k now touched) s (k ≢ n) (k ≢ n → Same) Same (λ other make. make other)
          (two_changed n m.source m.target now (with_links_changed k now touched) (k ≢ n → Same)
          (λ source target other. rows_moved n t m (t.last_cookie + 1) is moves (move_granted t m fits moves).old source target other) s e)
          (λ s there. was_after n t.objects touched s (Unit {0}) (k ≢ n) (k ≢ n) (λ early late. late)
          (at_changed n k now no_sets touched (k ≢ n) (λ other. other) s there)
          (λ s there. at_changed n (touched_object t m) now no_sets t.objects (Unit {0}) (λ other. tt) s there));
    }

rest_follows : (n : ℕ) (t : Files) (p : ℕ → Bool) → n ≤ t.last_object → Follows n t (record t { objects = filter (λ (s : Stored). p s.number) t.objects })
rest_follows n t p low = record { given = low; came = λ k e. by_rest n p t.objects (SameRows n t.rows t.rows) (rows_are n t.rows) k e }

changed_follows : (n : ℕ) (t : Files) (m : ℕ) (sets : Sets) (now : Time) → n ≤ t.last_object → Follows n t (with_sets t m sets now)
changed_follows n t m sets now low = record { given = low; came = λ k e. at_changed n m now sets t.objects (SameRows n t.rows t.rows) (λ apart. rows_are n t.rows) k e }

written_follows : (n : ℕ) (t : Files) (m offset : ℕ) (text : List ℕ) (sets : Sets) (now : Time) → n ≤ t.last_object → Follows n t (with_written t m offset text sets now)
written_follows n t m offset text sets now low = record {
  given = low;
  came = λ k e. at_bytes n m now sets (λ s. with_text (content_of s) offset text) t.objects (SameRows n t.rows t.rows) (rows_are n t.rows) k e;
}

resized_follows : (n : ℕ) (t : Files) (m size : ℕ) (sets : Sets) (now : Time) → n ≤ t.last_object → Follows n t (with_resized t m size sets now)
resized_follows n t m size sets now low = record {
  given = low;
  came = λ k e. at_bytes n m now sets (λ s. with_size (content_of s) size) t.objects (SameRows n t.rows t.rows) (rows_are n t.rows) k e;
}

-- Effects.

unused_follows : (n : ℕ) (t : Files) (s : store.State) (m : ℕ) → Follows n t s.tree → Follows n t (without_unused s m).tree
unused_follows n t s m is = elim (cases_Bool (is_used s m)) [
  | inl stays ↦ rw stays is
  | inr goes ↦ rw goes (follows_on n t s.tree (forget s.tree m) is (rest_follows n s.tree (λ k. not (k == m))))
]

replaced_follows : (n : ℕ) (t : Files) (s : store.State) (o : Option ℕ) → Follows n t s.tree → Follows n t (without_replaced s o).tree
replaced_follows n t s None is = is
replaced_follows n t s (Some m) is = unused_follows n t s m is

staying_follows : (n : ℕ) (t : Files) (stays : ℕ → Bool) (s : store.State) → Follows n t s.tree → Follows n t (staying stays s).tree
staying_follows n t stays s is =
    follows_on n t s.tree (staying stays s).tree is (rest_follows n s.tree (is_used (with_opens s (table_staying stays s.opens))))

names_behind : (n : ℕ) (t : Files) (s : store.State) (e : names_effects.Effect) → names_effects.Fits s e → IsTree s.tree → Follows n t s.tree
    → Follows n t (names_effects.behind s e).tree
names_behind n t s (Makes d name new sets now) fits tree is = follows_on n t s.tree (with_new s.tree d name new sets now) is (new_follows n s.tree d name new sets now)
names_behind n t s (Links m d name now) fits tree is = follows_on n t s.tree (with_link s.tree m d name now) is (link_follows n s.tree m d name now)
names_behind n t s (Removes d name now) fits tree is =
    unused_follows n t (with_tree s (without_name s.tree d name now)) (number_named s.tree d name)
    (follows_on n t s.tree (without_name s.tree d name now) is (without_follows n s.tree d name now tree))
names_behind n t s (Moves m now) fits tree is =
    replaced_follows n t (with_tree s (with_moved s.tree m now)) (object_named s.tree m.target m.name)
    (follows_on n t s.tree (with_moved s.tree m now) is (moved_follows n s.tree m now tree fits.0 fits.1))

files_behind : (n : ℕ) (t : Files) (s : store.State) (client : ℕ) (e : files_effects.Effect) → files_effects.Fits s client e → IsTree s.tree → Follows n t s.tree
    → Follows n t (files_effects.behind s e).tree
files_behind n t s client (Names e) fits tree is = names_behind n t s e fits tree is
files_behind n t s client (Writes m offset text sets now) fits tree is =
    follows_on n t s.tree (with_written s.tree m offset text sets now) is (written_follows n s.tree m offset text sets now)
files_behind n t s client (Resizes m size sets now) fits tree is =
    follows_on n t s.tree (with_resized s.tree m size sets now) is (resized_follows n s.tree m size sets now)
files_behind n t s client (Changes m sets now) fits tree is =
    follows_on n t s.tree (with_sets s.tree m sets now) is (changed_follows n s.tree m sets now)
files_behind n t s client (Closes m file) fits tree is = unused_follows n t (with_opens s (without_open s.opens m)) file is
files_behind n t s client e fits tree is = is

-- Operations: of each of their effects the tree and the store are ones.

record FollowsOn (n : ℕ) (t : Files) (s : store.State) : Type 0 where
  pub sound : names_sound.IsSound s
  pub follows : Follows n t s.tree

names_item : (n : ℕ) (t : Files) (refused : Bool) (s : store.State) (x : Context) (now : Time) (i : Item) → FollowsOn n t s
    → ForSome (names.comes_to refused s x now i) (λ o. Follows n t o.state.tree)
names_item n t refused s x now i is o same =
    (each_of (λ o. FollowsOn n t o.state) (names.comes_to refused s x now i)
    (names_effected.kept_item (λ s x. FollowsOn n t s) (names_effects.of_states (FollowsOn n t) (λ s e fits is.
    record { sound = names_sound.sound_kept s e fits is.sound; follows = names_behind n t s e fits is.sound.tree is.follows })) refused s x now i is) o same).follows

file_item : (n : ℕ) (t : Files) (refused : Bool) (s : store.State) (x : Context) (now : Time) (i : Item) → IsTable s.opens → FollowsOn n t s
    → Follows n t (files.comes_to refused s x now i).state.tree
file_item n t refused s x now i table is = (files_effected.kept_item (FollowsOn n t) refused s x now i (λ u e fits is. record {
  sound = files_sound.sound_kept u x.client e (fits table) is.sound;
  follows = files_behind n t u x.client e (fits table) is.sound.tree is.follows;
}) is).follows

pub run_follows : (n : ℕ) (t : Files) (d : RanOp) → IsRun d → Follows n t d.before.store.tree → Follows n t d.behind.store.tree
run_follows n t d r is =
    let here : FollowsOn n t d.before.store = record { sound = record { tree = r.whole.tree; store = r.whole.store }; follows = is } in
    by_run (λ status text s. Follows n t s.tree) d r is (names_item n t r.refused d.before.store d.context (time_at d.before.store r.now) d.item here)
    (file_item n t r.refused d.before.store d.context (time_at d.before.store r.now) d.item r.whole.table here) (λ other. is)

-- Records.

pub follows_kept : (n : ℕ) (t : Files) → IsKept (λ s. Follows n t s.tree)
follows_kept n t = record { run = λ d r is. run_follows n t d r is; end = λ stays s is. staying_follows n t stays s is }

pub low_there : (n : ℕ) (m : Machine) → Is m → is_there m.store.tree n ≡ true → n ≤ m.store.tree.last_object
low_there n m is there =
    let within = stored_within root (m.store.tree.last_object + 1) m.store.tree.objects n is.tree.objects there in
    let below = within.1 in omega arith

abbrev change : Option Stored → ℕ
change o = option_map_or (λ (s : Stored). s.object.change) o 0

pub told : (n : ℕ) (t u : Files) → Follows n t u → is_there u n ≡ true → Tells n t u
told n t u follows there = go (stored_in u.objects n) refl there
  where
    go : (o : Option Stored) → stored_in u.objects n ≡ o → is_some o ≡ true → Tells n t u
    go None e none = absurd (false≢true none)
    go (Some k) e some =
        let w = follows.came k e in
        let old : change_of t n ≡ w.was.object.change = ap change w.there in
        let new : change_of u n ≡ k.object.change = ap change e in
        elim w.either [
          | inl rose ↦ record { rises = omega arith; same = λ is. absurd (omega arith) }
          | inr alike ↦ (let equal : k.object.change ≡ w.was.object.change = ap (λ (s : Stored). s.object.change) alike.0 in record {
            rises = omega arith;
            same = λ is. record { stored = e ∙ (ap (λ (s : Stored). Some s) alike.0 ∙ sym w.there); names = alike.1.names; entries = alike.1.entries };
          })
        ]

pub change_tells : ChangeTells
change_tells start earlier c front d back more e n same there here behind =
    let s = reached start earlier in
    let sound : IsSound s = sound_all (new_state start) earlier (sound_new start) in
    let t = d.before.store.tree in
    let run : IsRun d = (op_done s c sound d (first_there s c front d back same)).run in
    let follows : Follows n t d.behind.store.tree = run_follows n t d run (follows_itself n t (low_there n d.before run.whole here)) in
    told n t e.before.store.tree (later_keeps (λ s. Follows n t s.tree) (follows_kept n t) s c front d back more sound same follows e there) behind

-- READs.

read_text : Stored → (offset count : ℕ) → List ℕ
read_text st offset count =
    let bytes : List ℕ = take (given count) (drop offset st.bytes) in
    spell_result (Res.Read (record { eof = nat_le (length st.bytes) (offset + length bytes); bytes = bytes }))

pub node_there : (s : store.State) (x : Context) (n : ℕ) (st : Stored) → x.current ≡ Some n → stored_in s.tree.objects n ≡ Some st
    → current s x ≡ Ok (record { number = n; object = st.object })
unfolding current
node_there s x n st at there = ap (node_at s) at ∙ ap (λ (o : Option Stored). node_as n (option_map (λ (s : Stored). s.object) o)) there

read_is : (s : store.State) (x : Context) (r : Read) (n : ℕ) (st : Stored) (d : Node) → x.current ≡ Some n → stored_in s.tree.objects n ≡ Some st → current s x ≡ Ok d
    → spell_result (Res.Read (of_read.was_read s r d)) ≡ read_text st r.offset r.count
unfolding read_text
read_is s x r n st d at there e =
    let here : Node = record { number = n; object = st.object } in
    let same : here ≡ d = ok_is refl (sym (node_there s x n st at there) ∙ e) in
    subst (λ (d : Node). spell_result (Res.Read (of_read.was_read s r d)) ≡ read_text st r.offset r.count) same
    (ap (λ (o : Option Stored). (let all : List ℕ = option_map_or (λ (s : Stored). s.bytes) o [] in
    let bytes : List ℕ = take (given r.count) (drop r.offset all) in
    spell_result (Res.Read (record { eof = nat_le (length all) (r.offset + length bytes); bytes = bytes })))) there)

pub readable_at : (s : store.State) (x : Context) (r : Read) (d : Node) → readable s x r.stateid (current s x) ≡ Ok d → current s x ≡ Ok d
unfolding readable
readable_at s x r d e =
    (checked_ok (current s x) file_checks d (if_passed_ok (checked (current s x) file_checks) (may_use s x reading r.stateid) d e).0).0

record Shape (text : List ℕ) : Type 0 where
  pub eof : List ℕ
  pub long : length eof ≡ 4
  pub behind : List ℕ
  pub answers : text ≡ done_head Num.Read ++ (eof ++ behind)

read_run : (d : RanOp) → IsRun d → (n offset count : ℕ) (st : Stored) → stored_in d.before.store.tree.objects n ≡ Some st → ReadsOf n offset count d
    → d.result ≡ read_text st offset count
read_run d run n offset count st there reads =
    let a = reads.asked in
    let s = d.before.store in
    let x = d.context in
    by_item (λ status text s. Shape text → text ≡ read_text st a.offset a.count) d run (Operation (Op.Read a)) reads.is
    (λ shape. absurd (short Num.Read RepTooBig shape.eof shape.behind shape.long shape.answers))
    (rw (in_steps.read_is s x a) (by_found (λ o. Shape (spell_result o.result) → spell_result o.result ≡ read_text st a.offset a.count) s x Num.Read (readable s x a.stateid (current s x)) _
    (λ status shape. absurd (short Num.Read status shape.eof shape.behind shape.long shape.answers))
    (λ d granted shape. read_is s x a n st d reads.at there (readable_at s x a d granted))))
    (record { eof = reads.eof; long = reads.long; behind = reads.text; answers = reads.answers })
    ∙ (ap (λ (k : ℕ). read_text st k a.count) reads.from ∙ ap (read_text st offset) reads.many)

pub there_stored : (t : Files) (n : ℕ) → is_there t n ≡ true → (st : Stored) × (stored_in t.objects n ≡ Some st)
there_stored t n there = go (stored_in t.objects n) refl there
  where
    go : (o : Option Stored) → stored_in t.objects n ≡ o → is_some o ≡ true → (st : Stored) × (stored_in t.objects n ≡ Some st)
    go None e none = absurd (false≢true none)
    go (Some st) e some = (st, e)

pub reads_are_alike : ReadsAreAlike
reads_are_alike start earlier c front d back more e n offset count same there here behind equal reads also =
    let s = reached start earlier in
    let sound : IsSound s = sound_all (new_state start) earlier (sound_new start) in
    let alike = (change_tells start earlier c front d back more e n same there here behind).same equal in
    let stored = there_stored d.before.store.tree n here in
    let first = op_done s c sound d (first_there s c front d back same) in
    let second = later_done s c front d back more sound same e there in
    read_run e second.run n offset count stored.0 (alike.stored ∙ stored.1) also ∙ sym (read_run d first.run n offset count stored.0 stored.1 reads)

pub change_is_told : ChangeIsTold
change_is_told start records c d words n there item asks ok at =
    let s = reached start records in
    let sound : IsSound s = sound_all (new_state start) records (sound_new start) in
    change_in d (op_done s c sound d there).run words n item asks ok at
