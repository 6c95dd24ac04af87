-- The change of an object is below 2^64, in every run.
use Rattle.std.proofs.Common.{◌≡◌, ◌≢◌, inl, inr, ℕ, ◌+◌, ◌^◌, ◌<◌, ◌≤◌, Bool, true, false, cond, not, List, [], ◌∷◌, ◌++◌, map, length, take, drop}
use Rattle.std.proofs.Common.{append_assoc, Option, Some, None, refl, sym, ◌∙◌, ap, subst, arith}
use Rattle.std.proofs.{lemmas.Bool.{cases_Bool, cases_eq, eq-eqb, ne_eqb, eqb-true, not-false, false≢true}, lemmas.List.{take_at, drop_at}}
use Rattle.std.specs.{Prelude.{◌==◌, ◌&&◌, filter, option_map, replicate, if◌then◌else◌}, Int.{w64, from_be_bytes}, Option.{ForSome, option_map_or}}
use Rattle.nfs_xdr.specs.{declared.time.Time.Time, Spelling.{number, hyper, padding}, Tables.In, declared.status.Status.TheVariants.Nfs4Ok}
use Rattle.nfs_xdr.proofs.{Checks.all_passed, Lists.{find_in, find_push_some, find_push_none, find_push_other}, Putting.length_number}
use Rattle.nfs_xdr.proofs.Putting.{length_hyper}
use Rattle.nfs_compound.specs.{declared.op.Item.Item, declared.op.Item.TheVariants.Operation, declared.op.Op.Op, OpNum.op_number}
use Rattle.nfs_compound.specs.declared.op_num.OpNum.TheVariants as Num
use Rattle.nfs_results.proofs.Lengths.{length_head}
use Rattle.nfs_results.specs.Items as results
use Rattle.nfs_results.specs.{declared.res.Res.Res, Results.{spell_result, done_head}}
use Rattle.nfs_tree.specs.{declared.sets.Sets.Sets, declared.stored.Stored.Stored, Stored.content_of, Object.{modified, no_sets}, TreeInvariants.IsTree}
use Rattle.nfs_tree.specs.Files.{Files, root, last_count, stored_in, can_change, is_directory_at, change_of, change_at, with_changed, with_entries_changed}
use Rattle.nfs_tree.specs.{Files.{with_links_changed, object_named, number_named}, Calls.{CanChange, rename_fault}, Create.new_object}
use Rattle.nfs_tree.specs.{Names.{with_link, without_name, Move, moves, replaced_object, touched_object, with_moved}, Bytes.{Content, with_text, with_size, with_bytes}}
use Rattle.nfs_tree.proofs.{IndexedLemmas.can_of, Objects.{keeps_changed, stored_map, can_change_all, can_change_after}, Put.{create_granted, link_granted}}
use Rattle.nfs_tree.proofs.{Sized.{write_granted, resize_granted}, Trees.{remove_granted, has_one, apart}}
use Rattle.nfs_tree.proofs.Moved.{move_granted, replaced_source, replaced_target, replaced_left, touched_source, touched_target, touched_can}
use Rattle.nfs_tree.specs.declared.profile.Profile.{Profile}
use Rattle.nfs_attrs.specs.{declared.mask.Mask.Mask, declared.wanted.Wanted.Wanted, Mask.{trimmed_words, common}, Attributes.readable}
use Rattle.nfs_names.specs.{declared.start.Start.Start, declared.context.Context.Context, declared.node.Node.Node, State.{with_tree, is_used, without_unused, time_at}}
use Rattle.nfs_names.specs.{Ending.{with_opens, table_staying}, Rename.without_replaced, Outcome.{Outcome, checked, is_ok}}
use Rattle.nfs_names.specs.State as store
use Rattle.nfs_names.specs.Operation as names
use Rattle.nfs_names.proofs.{Found.checked_ok, Ones.{by_delay, each_of}, Effects.{Makes, Links, Removes, Moves}}
use Rattle.nfs_names.proofs.Sound as names_sound
use Rattle.nfs_names.proofs.Effects as names_effects
use Rattle.nfs_names.proofs.Effected as names_effected
use Rattle.nfs_opens.specs.{TableInvariants.IsTable, Closing.without_open}
use Rattle.nfs_files.specs.Operation.{grows}
use Rattle.nfs_files.specs.SetAttrParts as set_parts
use Rattle.nfs_files.specs.SetAttr as of_set
use Rattle.nfs_files.proofs.{WrittenOps.by_found, Effects.{Names, Writes, Resizes, Changes, Closes, Caused}}
use Rattle.nfs_files.proofs.InSteps as in_steps
use Rattle.nfs_files.proofs.Effects as files_effects
use Rattle.nfs_files.proofs.Effected as files_effected
use Rattle.nfs_files.proofs.Sound as files_sound
use Rattle.nfs_files.proofs.Outcomes as files
use Rattle.nfs_files.proofs.WrittenOps.{guarded}
use Rattle.nfs_promises.specs.Runs.AttributesTold.{TellsValue}
use Rattle.nfs_exec.specs.{Runs.Ops.RanOp}
use Rattle.nfs_promises.proofs.{Names.PageText.hyper_back, Runs.AttributesTold.change_in}
use Rattle.nfs_exec.proofs.{Runs.OneRun.{IsRun, by_run}, Runs.OneWalk.IsKept}
use Rattle.nfs_serve.specs.Step.{new_state}
use Rattle.nfs_promises.specs.{Bytes.ChangesFit.{ChangesFit, ChangeIsRead, LastStays}, Network.Endpoint.Arrival}
use Rattle.nfs_promises.specs.Runs.Points.{reached, ops_of}
use Rattle.nfs_promises.proofs.{Bytes.ChangeSeen.changes_raise, Bytes.Dated.each_rest, Runs.{LaterRecords.{op_done, op_keeps, all_keeps}, Points.IsSound}}
use Rattle.nfs_promises.proofs.Runs.Points.{sound_all, sound_new}

-- Each object that is found has a change that can be counted.

abbrev Low : List Stored → Type 0
Low xs = (n : ℕ) (s : Stored) → stored_in xs n ≡ Some s → s.object.change ≤ last_count

low_map : (f : Stored → Stored) (xs : List Stored) → ((s : Stored) → (f s).number ≡ s.number)
    → ((s : Stored) → stored_in xs s.number ≡ Some s → s.object.change ≤ last_count → (f s).object.change ≤ last_count) → Low xs → Low (map f xs)
low_map f xs number each low n s e = go (stored_in xs n) refl (sym (stored_map xs f n number) ∙ e)
  where
    go : (o : Option Stored) → stored_in xs n ≡ o → option_map f o ≡ Some s → s.object.change ≤ last_count
    go None there e = absurd cc
    go (Some w) there e =
        let is : f w ≡ s = cc in
        let at : w.number ≡ n = eqb-true w.number n (find_in (λ (s : Stored). s.number == n) xs w there).1 in
        subst (λ (s : Stored). s.object.change ≤ last_count) is (each w (subst (λ (n : ℕ). stored_in xs n ≡ Some w) (sym at) there) (low n w there))

low_changed : (m : ℕ) (now : Time) (sets : Sets) (xs : List Stored) → CanChange xs m → Low xs → Low (with_changed m now sets xs)
low_changed m now sets xs can low = low_map (change_at m now sets) xs (keeps_changed m now sets []).number (λ s there small. elim (cases_eq s.number m) [
  | inl here ↦ (let less = can_of xs m s (subst (λ (n : ℕ). stored_in xs n ≡ Some s) here there) can in rw (eq-eqb s.number m here) (omega arith))
  | inr other ↦ rw (ne_eqb s.number m other) small
]) low

low_bytes : (m : ℕ) (now : Time) (sets : Sets) (bytes : Stored → Content) (xs : List Stored) → CanChange xs m → Low xs
    → Low (map (λ (s : Stored). if s.number == m then with_bytes now sets (bytes s) s else s) xs)
low_bytes m now sets bytes xs can low = low_map (λ (s : Stored). if s.number == m then with_bytes now sets (bytes s) s else s) xs
    (λ s. elim (s.number == m) as (λ v. (cond v (with_bytes now sets (bytes s) s) s).number ≡ s.number) [ true ↦ refl | false ↦ refl ])
    (λ s there small. elim (cases_eq s.number m) [
      | inl here ↦ (let less = can_of xs m s (subst (λ (n : ℕ). stored_in xs n ≡ Some s) here there) can in rw (eq-eqb s.number m here) (omega arith))
      | inr other ↦ rw (ne_eqb s.number m other) small
    ]) low

low_push : (xs : List Stored) (x : Stored) → x.object.change ≤ last_count → Low xs → Low (xs ++ x ∷ [])
low_push xs x small low n s e = go (stored_in xs n) refl
  where
    go : (o : Option Stored) → stored_in xs n ≡ o → s.object.change ≤ last_count
    go (Some w) there = (let same : Some w ≡ Some s = sym (find_push_some (λ (s : Stored). s.number == n) xs x w there) ∙ e in
        let is : w ≡ s = cc in low n s (there ∙ ap (λ (s : Stored). Some s) is))
    go None there = elim (cases_Bool (x.number == n)) [
      | inl here ↦ (let same : Some x ≡ Some s = sym (find_push_none (λ (s : Stored). s.number == n) xs x there here) ∙ e in
          let is : x ≡ s = cc in subst (λ (s : Stored). s.object.change ≤ last_count) is small)
      | inr other ↦ low n s (sym (find_push_other (λ (s : Stored). s.number == n) xs x other) ∙ e)
    ]

low_rest : (p : ℕ → Bool) (xs : List Stored) → Low xs → Low (filter (λ (s : Stored). p s.number) xs)
low_rest p xs low n = each_rest n (λ o. o.change ≤ last_count) p xs (low n)

-- Trees.

can : (t : Files) (n : ℕ) → IsTree t → can_change t n ≡ true → CanChange t.objects n
can t n is e = can_change_all t.objects root (t.last_object + 1) n is.objects e

link_low : (t : Files) (n d : ℕ) (name : List ℕ) (now : Time) → n ≢ d → CanChange t.objects d → CanChange t.objects n → Low t.objects → Low (with_link t n d name now).objects
link_low t n d name now other first second low =
    low_changed n now no_sets (with_entries_changed d now t.objects) (can_change_after t.objects d n now (modified now no_sets) other second)
    (low_changed d now (modified now no_sets) t.objects first low)

moved_low : (t : Files) (m : Move) (now : Time) → IsTree t → rename_fault t m ≡ None → moves t m ≡ true → Low t.objects → Low (with_moved t m now).objects
moved_low t m now is fits goes low =
    let granted = move_granted t m fits goes in
    let k = replaced_object t m in
    let h = touched_object t m in
    let touched : List Stored = with_links_changed h now t.objects in
    let lost : List Stored = with_links_changed k now touched in
    let low_lost : Low lost = low_changed k now no_sets touched (replaced_left t m now is granted) (low_changed h now no_sets t.objects (touched_can t m is granted) low) in
    let source : CanChange lost m.source = can_change_after touched k m.source now no_sets (λ e. replaced_source t m is granted (sym e))
    (can_change_after t.objects h m.source now no_sets (λ e. touched_source t m is granted (sym e)) (can t m.source is granted.change_source)) in
    let target : CanChange lost m.target = can_change_after touched k m.target now no_sets (λ e. replaced_target t m is granted (sym e))
    (can_change_after t.objects h m.target now no_sets (λ e. touched_target t m is granted (sym e)) (can t m.target is granted.change_target)) in
    let one : Low (with_entries_changed m.source now lost) = low_changed m.source now (modified now no_sets) lost source low_lost in
    elim (cases_eq m.source m.target) [
      | inl same ↦ rw (eq-eqb m.source m.target same) one
      | inr differ ↦ rw (ne_eqb m.source m.target differ) (low_changed m.target now (modified now no_sets) (with_entries_changed m.source now lost)
          (can_change_after lost m.source m.target now (modified now no_sets) (λ e. differ (sym e)) target) one)
    ]

-- Effects.

unused_low : (s : store.State) (m : ℕ) → Low s.tree.objects → Low (without_unused s m).tree.objects
unused_low s m low = elim (cases_Bool (is_used s m)) [
  | inl stays ↦ rw stays low
  | inr goes ↦ rw goes (low_rest (λ k. not (k == m)) s.tree.objects low)
]

replaced_low : (s : store.State) (o : Option ℕ) → Low s.tree.objects → Low (without_replaced s o).tree.objects
replaced_low s None low = low
replaced_low s (Some m) low = unused_low s m low

names_low : (s : store.State) (e : names_effects.Effect) → names_effects.Fits s e → IsTree s.tree → Low s.tree.objects → Low (names_effects.behind s e).tree.objects
names_low s (Makes d name new sets now) fits tree low =
    low_push (with_entries_changed d now s.tree.objects) (record { number = s.tree.last_object + 1; object = new_object now new sets; bytes = new.bytes; pages = new.pages }) (omega arith)
    (low_changed d now (modified now no_sets) s.tree.objects (can s.tree d tree (create_granted s.tree d name new fits).change) low)
names_low s (Links n d name now) fits tree low =
    (let granted = link_granted s.tree n d name fits in
    link_low s.tree n d name now (λ e. false≢true (sym granted.other ∙ (ap (is_directory_at s.tree) e ∙ granted.directory))) (can s.tree d tree granted.change)
    (can s.tree n tree granted.change_object) low)
names_low s (Removes d name now) fits tree low =
    (let granted = remove_granted s.tree d name fits in
    let gone = number_named s.tree d name in
    let other : gone ≢ d = apart s.tree d gone (has_one s.tree d name granted.0) granted.1 in
    unused_low (with_tree s (without_name s.tree d name now)) gone
    (link_low s.tree gone d name now other (can s.tree d tree granted.2) (can s.tree gone tree granted.3) low))
names_low s (Moves m now) fits tree low =
    replaced_low (with_tree s (with_moved s.tree m now)) (object_named s.tree m.target m.name) (moved_low s.tree m now tree fits.0 fits.1 low)

-- SETATTR, by its checks; and what the other operations do, which change no attributes alone.

abbrev is_set : Item → Bool
is_set (Operation (Op.SetAttr a)) = true
is_set i = false

set_low : (t : Files) (x : Context) (d : Node) (now : Time) (wanted : Wanted) (size : Option ℕ) → wanted.size ≡ size → IsTree t
    → of_set.gives_some wanted && not (can_change t d.number) ≡ false → Low t.objects → Low (of_set.with_set t x d now wanted size).objects
set_low t x d now wanted (Some size) same is checks low =
    let some : of_set.gives_some wanted ≡ true = rw same refl in
    low_bytes d.number now (of_set.settled_sets t x d now wanted) (λ s. with_size (content_of s) size) t.objects
    (can t d.number is (not-false _ (guarded (of_set.gives_some wanted) (not (can_change t d.number)) checks some))) low
set_low t x d now wanted None same is checks low = elim (cases_Bool (of_set.gives_some wanted)) [
  | inl some ↦ rw some (low_changed d.number now (of_set.settled_sets t x d now wanted) t.objects
      (can t d.number is (not-false _ (guarded (of_set.gives_some wanted) (not (can_change t d.number)) checks some))) low)
  | inr empty ↦ rw empty low
]

set_item : (refused : Bool) (s : store.State) (x : Context) (now : Time) (i : Item) → is_set i ≡ true → IsTree s.tree → Low s.tree.objects
    → Low (files.comes_to refused s x now i).state.tree.objects
set_item refused s x now (Operation (Op.SetAttr a)) e is low =
    let P : Outcome → Type 0 = λ o. Low o.state.tree.objects in
    by_delay P (grows s x (Op.SetAttr a) && refused) s x Num.SetAttr (of_set.set_attr s x now a) low
    (subst P (sym (in_steps.set_attr_is s x now a))
    (by_found P s x Num.SetAttr (checked (set_parts.asked_for s x a) (set_parts.last_checks s)) (set_parts.was_set s x now a) (λ status. low)
    (λ m granted. set_low s.tree x m.node now m.wanted m.wanted.size refl is
    (all_passed (set_parts.last_checks s m) (checked_ok (set_parts.asked_for s x a) (set_parts.last_checks s) m granted).1).1.0 low)))
set_item refused s x now i e is low = absurd (false≢true e)

files_low : (s t : store.State) (x : Context) (op : Op) (r : Res) (e : files_effects.Effect) → is_set (Operation op) ≡ false → IsTable s.opens → Caused s x op r t e → IsTree t.tree
    → Low t.tree.objects → Low (files_effects.behind t e).tree.objects
files_low s t x op r (Names e) other table caused tree low = names_low t e (caused.fits table) tree low
files_low s t x op r (Writes m offset text sets now) other table caused tree low =
    (let fits = caused.fits table in
    low_bytes m now sets (λ s. with_text (content_of s) offset text) t.tree.objects (can t.tree m tree (write_granted t.tree m offset text fits.0 fits.1).2) low)
files_low s t x op r (Resizes m size sets now) other table caused tree low =
    low_bytes m now sets (λ s. with_size (content_of s) size) t.tree.objects (can t.tree m tree (resize_granted t.tree m size (caused.fits table)).2) low
files_low s t x op r (Changes m sets now) other table caused tree low = absurd (false≢true (sym other ∙ ap (λ op. is_set (Operation op)) caused.cause.is))
files_low s t x op r (Closes m file) other table caused tree low = unused_low (with_opens t (without_open t.opens m)) file low
files_low s t x op r e other table caused tree low = low

-- Operations, and records.

record IsLow (s : store.State) : Type 0 where
  pub sound : names_sound.IsSound s
  pub low : Low s.tree.objects

names_item : (refused : Bool) (s : store.State) (x : Context) (now : Time) (i : Item) → IsLow s → ForSome (names.comes_to refused s x now i) (λ o. Low o.state.tree.objects)
names_item refused s x now i is o same =
    (each_of (λ o. IsLow o.state) (names.comes_to refused s x now i)
    (names_effected.kept_item (λ s x. IsLow s) (names_effects.of_states IsLow (λ s e fits is.
    record { sound = names_sound.sound_kept s e fits is.sound; low = names_low s e fits is.sound.tree is.low })) refused s x now i is) o same).low

file_item : (refused : Bool) (s : store.State) (x : Context) (now : Time) (i : Item) → IsTable s.opens → IsLow s → Low (files.comes_to refused s x now i).state.tree.objects
file_item refused s x now i table is = elim (cases_Bool (is_set i)) [
  | inl set ↦ set_item refused s x now i set is.sound.tree is.low
  | inr other ↦ (files_effected.caused_item IsLow refused s x now i (λ op same t e caused is. record {
    sound = files_sound.sound_kept t x.client e (caused.fits table) is.sound;
    low = files_low s t x op _ e (ap is_set (sym same) ∙ other) table caused is.sound.tree is.low;
  }) is).low
]

run_low : (d : RanOp) → IsRun d → Low d.before.store.tree.objects → Low d.behind.store.tree.objects
run_low d r low =
    let here : IsLow d.before.store = record { sound = record { tree = r.whole.tree; store = r.whole.store }; low = low } in
    by_run (λ status text s. Low s.tree.objects) d r low (names_item r.refused d.before.store d.context (time_at d.before.store r.now) d.item here)
    (file_item r.refused d.before.store d.context (time_at d.before.store r.now) d.item r.whole.table here) (λ other. low)

low_kept : IsKept (λ s. Low s.tree.objects)
low_kept = record { run = run_low; end = λ stays s low. low_rest (is_used (with_opens s (table_staying stays s.opens))) s.tree.objects low }

low_new : (start : Start) → Low (new_state start).machine.store.tree.objects
low_new start = low_push [] _ (omega arith) (λ n s e. absurd (let bad : None ≡ Some s = e in cc))

low_before : (start : Start) (records : List Arrival) (c : Arrival) (d : RanOp) → In d (ops_of (reached start records) c) → Low d.before.store.tree.objects
low_before start records c d there =
    let Small : store.State → Type 0 = λ s. Low s.tree.objects in
    let sound = sound_new start in
    op_keeps Small low_kept (reached start records) c (sound_all (new_state start) records sound) (all_keeps Small low_kept (new_state start) records sound (low_new start)) d there

below : (t : Files) (n : ℕ) → Low t.objects → change_of t n < 2 ^ 64
below t n low = go (stored_in t.objects n) refl
  where
    go : (o : Option Stored) → stored_in t.objects n ≡ o → change_of t n < 2 ^ 64
    go None e = (let none : change_of t n ≡ 0 = ap (λ (o : Option Stored). option_map_or (λ (s : Stored). s.object.change) o 0) e in omega arith)
    go (Some s) e = (let is : change_of t n ≡ s.object.change = ap (λ (o : Option Stored). option_map_or (λ (s : Stored). s.object.change) o 0) e in
        let small = low n s e in omega arith)

pub changes_fit : ChangesFit
changes_fit start records c d n there =
    let s = reached start records in
    let sound : IsSound s = sound_all (new_state start) records (sound_new start) in
    let low = low_before start records c d there in
    (below d.before.store.tree n low, below d.behind.store.tree n (run_low d (op_done s c sound d there).run low))

pub last_stays : LastStays
last_stays start records c d n there here last changes = elim (cases_Bool (is_ok d.status)) [
  | inl ok ↦ (let s = reached start records in
      let sound : IsSound s = sound_all (new_state start) records (sound_new start) in
      let more = changes_raise n d (op_done s c sound d there).run here ok changes in
      let fits = (changes_fit start records c d n there).1 in
      absurd (omega arith))
  | inr refused ↦ refused
]

-- The eight bytes.

rest_same : (n : ℕ) (a b x y : List ℕ) → length a ≡ n → length b ≡ n → a ++ x ≡ b ++ y → x ≡ y
rest_same n a b x y first second e = sym (drop_at a x n first) ∙ (ap (drop n) e ∙ drop_at b y n second)

front_same : (n : ℕ) (a b x y : List ℕ) → length a ≡ n → length b ≡ n → a ++ x ≡ b ++ y → a ≡ b
front_same n a b x y first second e = sym (take_at a x n first) ∙ (ap (take n) e ∙ take_at b y n second)

values_same : (mask vals also : List ℕ)
    → spell_result (Res.GetAttr (record { attrmask = mask; attr_vals = vals })) ≡ spell_result (Res.GetAttr (record { attrmask = mask; attr_vals = also }))
    → (pad : List ℕ) × (rest : List ℕ) × (vals ++ pad ≡ also ++ rest)
unfolding results.fattr
values_same mask vals also e =
    let set : List ℕ = results.attr_set.spell mask in
    let first : List ℕ = vals ++ replicate (padding (length vals)) 0 in
    let second : List ℕ = also ++ replicate (padding (length also)) 0 in
    let behind = rest_same 8 (done_head Num.GetAttr) (done_head Num.GetAttr) (set ++ (number (length vals) ++ first)) (set ++ (number (length also) ++ second))
    (length_head (op_number Num.GetAttr) Nfs4Ok) (length_head (op_number Num.GetAttr) Nfs4Ok) e in
    let texts = rest_same (length set) set set (number (length vals) ++ first) (number (length also) ++ second) refl refl behind in (
      replicate (padding (length vals)) 0,
      replicate (padding (length also)) 0,
      rest_same 4 (number (length vals)) (number (length also)) first second (length_number (length vals)) (length_number (length also)) texts,
    )

one_value : (p : Profile) (a b : ℕ) (mask : Mask) (text : List ℕ) → a < 2 ^ 64 → b < 2 ^ 64 → TellsValue p 3 (hyper a) mask text → TellsValue p 3 (hyper b) mask text → a ≡ b
one_value p a b mask text small low first second =
    let words = trimmed_words (common mask (readable p)) in
    let v = values_same words (first.front ++ (hyper a ++ first.behind)) (second.front ++ (hyper b ++ second.behind)) (sym first.answers ∙ second.answers) in
    let whole = sym (append_assoc first.front (hyper a ++ first.behind) v.0) ∙ (v.2 ∙ append_assoc second.front (hyper b ++ second.behind) v.1) in
    let rest = rest_same _ first.front second.front ((hyper a ++ first.behind) ++ v.0) ((hyper b ++ second.behind) ++ v.1) first.long second.long whole in
    let same : hyper a ≡ hyper b = front_same 8 (hyper a) (hyper b) (first.behind ++ v.0) (second.behind ++ v.1) (length_hyper a) (length_hyper b)
    (sym (append_assoc (hyper a) first.behind v.0) ∙ (rest ∙ append_assoc (hyper b) second.behind v.1)) in
    sym (hyper_back a small) ∙ (ap (from_be_bytes w64) same ∙ hyper_back b low)

pub change_is_read : ChangeIsRead
change_is_read start records c d n words change there gets asks small tells =
    let s = reached start records in
    let sound : IsSound s = sound_all (new_state start) records (sound_new start) in
    one_value d.before.store.tree.profile change (change_of d.before.store.tree n) _ d.result small (changes_fit start records c d n there).0 tells
    (change_in d (op_done s c sound d there).run words n gets.is asks gets.ok gets.at)
