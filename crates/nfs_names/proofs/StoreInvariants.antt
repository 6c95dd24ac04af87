-- What every store keeps, through every change of names: each object is used, and only files are open.
use Rattle.std.proofs.Common.{◌≡◌, ◌≢◌, ℕ, ◌+◌, Bool, true, false, not, List, [], ◌∷◌, ◌++◌, Option, Some, None, refl, sym, ◌∙◌, ap, subst, inl, inr}
use Rattle.std.proofs.lemmas.Bool.{cases_Bool, cases_eq, eqb-true, eq-eqb, ne_eqb, false≢true}
use Rattle.std.specs.{Prelude.{◌==◌, ◌||◌, filter, option_map, unwrap_or, is_some}, Option.option_map_or}
use Rattle.nfs_xdr.specs.{declared.time.Time.Time, Tables.In}
use Rattle.nfs_tree.specs.{declared.object.FileType.FileType, declared.row.Row.Row, declared.sets.Sets.Sets, declared.stored.Stored.Stored}
use Rattle.nfs_tree.specs.Object.{is_directory, is_regular, modified, no_sets}
use Rattle.nfs_tree.specs.Files.{Files, root, stored_in, is_there, is_directory_at, is_entry, entry, number_named, object_named, has_row, has_entries}
use Rattle.nfs_tree.specs.Calls.{is_regular_at}
use Rattle.nfs_tree.specs.Files.{with_changed, with_entries_changed, with_links_changed, change_at, without_entry}
use Rattle.nfs_tree.specs.Create.{New, with_new, new_object}
use Rattle.nfs_tree.specs.{Names.{with_link, without_name, forget, Move, moved_object, replaced_object, touched_object, with_both_changed, with_moved}, TreeInvariants.IsTree}
use Rattle.nfs_tree.specs.declared.object.FileType.TheVariants as Kind
use Rattle.nfs_xdr.proofs.Lists.{in_any, any_in, stays_in, push_in, last_in, none_in}
use Rattle.nfs_tree.proofs.{Objects.{keeps_changed, stored_map, stored_push, stored_dropped}, Trees.entry_names}
use Rattle.nfs_names.specs.{declared.start.Start.Start, State.{State, new_store, with_tree, is_open, is_used, without_unused}}
use Rattle.nfs_names.specs.{StoreInvariants.{IsRooted, IsStore, IsStoreBut}, Rename.without_replaced}

-- of which type an object is, if it is there
abbrev pub kind_in : List Stored → ℕ → Option FileType
kind_in objects n = option_map (λ s. s.object.kind) (stored_in objects n)

kind_by : (f : Stored → Stored) → ((s : Stored) → (f s).object.kind ≡ s.object.kind) → (o : Option Stored)
    → option_map (λ (s : Stored). s.object.kind) (option_map f o) ≡ option_map (λ s. s.object.kind) o
kind_by f same None = refl
kind_by f same (Some s) = ap Some (same s)

pub kind_changed : (objects : List Stored) (m n : ℕ) (now : Time) (sets : Sets) → kind_in (with_changed m now sets objects) n ≡ kind_in objects n
kind_changed objects m n now sets =
    let keeps = keeps_changed m now sets objects in
    ap (option_map (λ (s : Stored). s.object.kind)) (stored_map objects (change_at m now sets) n keeps.number)
    ∙ kind_by (change_at m now sets) keeps.kind (stored_in objects n)

there_is : (o : Option Stored) → is_some o ≡ is_some (option_map (λ (s : Stored). s.object.kind) o)
there_is None = refl
there_is (Some s) = refl

test_is : (test : FileType → Bool) (o : Option Stored)
    → option_map_or (λ (s : Stored). test s.object.kind) o false ≡ option_map_or test (option_map (λ (s : Stored). s.object.kind) o) false
test_is test None = refl
test_is test (Some s) = refl

pub there_same : (a b : List Stored) (n : ℕ) → kind_in a n ≡ kind_in b n → is_some (stored_in a n) ≡ is_some (stored_in b n)
there_same a b n e = there_is (stored_in a n) ∙ ap is_some e ∙ sym (there_is (stored_in b n))

test_same : (test : FileType → Bool) (a b : List Stored) (n : ℕ) → kind_in a n ≡ kind_in b n
    → option_map_or (λ (s : Stored). test s.object.kind) (stored_in a n) false ≡ option_map_or (λ (s : Stored). test s.object.kind) (stored_in b n) false
test_same test a b n e = test_is test (stored_in a n) ∙ ap (λ o. option_map_or test o false) e ∙ sym (test_is test (stored_in b n))

pub regular_same : (a b : Files) (n : ℕ) → kind_in a.objects n ≡ kind_in b.objects n → is_regular_at a n ≡ is_regular_at b n
regular_same a b n e = test_same is_regular a.objects b.objects n e

there_test : (test : FileType → Bool) (o : Option Stored) → option_map_or (λ (s : Stored). test s.object.kind) o false ≡ true → is_some o ≡ true
there_test test None e = absurd cc
there_test test (Some s) e = refl

one_kind : (k : FileType) → is_directory k ≡ true → is_regular k ≡ false
one_kind Kind.Regular e = absurd cc
one_kind Kind.Directory e = refl
one_kind Kind.Link e = absurd cc

no_file : (o : Option Stored) → option_map_or (λ (s : Stored). is_directory s.object.kind) o false ≡ true
    → option_map_or (λ (s : Stored). is_regular s.object.kind) o false ≡ false
no_file None e = refl
no_file (Some s) e = one_kind s.object.kind e

-- it is the root, or a row names it, or it is open
used_by : (a r k o : Bool) → (r ≡ true → k ≡ true) → a || (r || o) ≡ true → a || (k || o) ≡ true
used_by true r k o f e = refl
used_by false true k o f e = rw (f refl) refl
used_by false false true o f e = refl
used_by false false false o f e = e

used_row : (a r o : Bool) → r ≡ true → a || (r || o) ≡ true
used_row true r o e = refl
used_row false r o e = rw e refl

unopened : (a r o : Bool) → o ≡ false → a || (r || o) ≡ true → a || r ≡ true
unopened true r o f e = refl
unopened false true o f e = refl
unopened false false o f e = absurd (false≢true (sym f ∙ e))

opened : (a r o : Bool) → a || (r || o) ≡ false → o ≡ false
opened true r o e = absurd cc
opened false true o e = absurd cc
opened false false o e = e

-- each directory but the root has a row
pub rooted : (s : State) → IsStore s → IsRooted s.tree
rooted s is n dir =
    let there : is_there s.tree n ≡ true = there_test is_directory (stored_in s.tree.objects n) dir in
    let shut : is_open s n ≡ false = elim (cases_Bool (is_open s n)) [
      | inl stands ↦ absurd (false≢true (sym (no_file (stored_in s.tree.objects n) dir) ∙ is.files n stands))
      | inr shut ↦ shut
    ] in
    unopened (n == root) (has_row s.tree.rows n) (is_open s n) shut (is.used n there)

-- so what goes has no entries
pub unused_empty : (s : State) (n : ℕ) → IsTree s.tree → IsRooted s.tree → is_used s n ≡ false → has_entries s.tree.rows n ≡ false
unused_empty s n is all unused = elim (cases_Bool (has_entries s.tree.rows n)) [
  | inl some ↦ (let r = in_any (λ (r : Row). r.directory == n) s.tree.rows some in
      let stands : is_directory_at s.tree n ≡ true = ap (λ k. is_directory_at s.tree k) (sym (eqb-true _ _ r.2)) ∙ is.rows.stands r.0 r.1 in
      absurd (false≢true (sym unused ∙ reached (n == root) (has_row s.tree.rows n) (is_open s n) (all n stands))))
  | inr none ↦ none
]
  where
    reached : (a r o : Bool) → a || r ≡ true → a || (r || o) ≡ true
    reached true r o e = refl
    reached false true o e = refl
    reached false false o e = absurd cc

-- objects of the same types, whose rows stay but for one object's
pub but_by : (s : State) (u : Files) (n : ℕ) → ((m : ℕ) → kind_in u.objects m ≡ kind_in s.tree.objects m)
    → ((m : ℕ) → m ≢ n → has_row s.tree.rows m ≡ true → has_row u.rows m ≡ true)
    → IsStore s → IsStoreBut (with_tree s u) n
but_by s u n kinds rows is = record {
  used = λ m other there. used_by (m == root) (has_row s.tree.rows m) (has_row u.rows m) (is_open s m)
      (rows m other) (is.used m (sym (there_same u.objects s.tree.objects m (kinds m)) ∙ there));
  files = λ m stands. regular_same u s.tree m (kinds m) ∙ is.files m stands;
}

-- objects of the same types, whose rows stay
pub store_by : (s : State) (u : Files) → ((m : ℕ) → kind_in u.objects m ≡ kind_in s.tree.objects m)
    → ((m : ℕ) → has_row s.tree.rows m ≡ true → has_row u.rows m ≡ true)
    → IsStore s → IsStore (with_tree s u)
store_by s u kinds rows is = record {
  used = λ m there. used_by (m == root) (has_row s.tree.rows m) (has_row u.rows m) (is_open s m)
      (rows m) (is.used m (sym (there_same u.objects s.tree.objects m (kinds m)) ∙ there));
  files = λ m stands. regular_same u s.tree m (kinds m) ∙ is.files m stands;
}

-- an object that may have lost its last row or its last open
lost : (xs : List Stored) (k : ℕ) → stored_in (filter (λ s. not (s.number == k)) xs) k ≡ None
lost [] k = refl
lost (x ∷ xs) k = elim (cases_Bool (x.number == k)) [ inl here ↦ rw here (lost xs k) | inr other ↦ rw (other, other) (lost xs k) ]

kind_dropped : (objects : List Stored) (n m : ℕ) → m ≢ n → kind_in (filter (λ s. not (s.number == n)) objects) m ≡ kind_in objects m
kind_dropped objects n m other = ap (option_map (λ (s : Stored). s.object.kind)) (stored_dropped objects n m other)

store_kept : (s : State) (n : ℕ) → IsStoreBut s n → is_used s n ≡ true → IsStore s
store_kept s n is stays = record {
  used = λ m there. elim (cases_eq m n) [ inl same ↦ ap (λ k. is_used s k) same ∙ stays | inr other ↦ is.used m other there ];
  files = is.files;
}

store_lost : (s : State) (n : ℕ) → IsStoreBut s n → is_used s n ≡ false → IsStore (with_tree s (forget s.tree n))
store_lost s n is goes = record {
  used = λ m there. elim (cases_eq m n) [
    | inl same ↦ absurd (false≢true (sym (ap (λ k. is_there (forget s.tree n) k) same ∙ ap is_some (lost s.tree.objects n)) ∙ there))
    | inr other ↦ is.used m other (sym (there_same (forget s.tree n).objects s.tree.objects m (kind_dropped s.tree.objects n m other)) ∙ there)
  ];
  files = λ m stands. elim (cases_eq m n) [
    | inl same ↦ absurd (false≢true (sym (ap (λ k. is_open s k) same ∙ opened (n == root) (has_row s.tree.rows n) (is_open s n) goes) ∙ stands))
    | inr other ↦ regular_same (forget s.tree n) s.tree m (kind_dropped s.tree.objects n m other) ∙ is.files m stands
  ];
}

pub store_without : (s : State) (n : ℕ) → IsStoreBut s n → IsStore (without_unused s n)
store_without s n is = elim (cases_Bool (is_used s n)) [ inl stays ↦ rw stays (store_kept s n is stays) | inr goes ↦ rw goes (store_lost s n is goes) ]

pub rooted_without : (s : State) (n : ℕ) → IsRooted s.tree → IsRooted (without_unused s n).tree
rooted_without s n is = elim (cases_Bool (is_used s n)) [ inl stays ↦ rw stays is | inr goes ↦ rw goes left ]
  where
    left : IsRooted (forget s.tree n)
    left m dir = elim (cases_eq m n) [
      | inl same ↦ absurd (false≢true (sym (ap (λ k. is_directory_at (forget s.tree n) k) same
          ∙ ap (λ o. option_map_or (λ (s : Stored). is_directory s.object.kind) o false) (lost s.tree.objects n)) ∙ dir))
      | inr other ↦ is m (sym (test_same is_directory (forget s.tree n).objects s.tree.objects m (kind_dropped s.tree.objects n m other)) ∙ dir)
    ]

-- a new server's
pub store_at_first : (start : Start) (now : Time) → IsStore (new_store start now)
store_at_first start now = record {
  used = λ n there. elim (cases_eq root n) [ inl is ↦ rw (eq-eqb n root (sym is)) refl | inr other ↦ absurd (false≢true (rw (ne_eqb root n other) at there)) ];
  files = λ n stands. absurd (false≢true stands);
}

-- rows
row_pushed : (rows : List Row) (to : Row) (n : ℕ) → has_row rows n ≡ true → has_row (rows ++ to ∷ []) n ≡ true
row_pushed rows to n e =
    let r = in_any (λ (r : Row). r.object == n) rows e in
    any_in (λ (r : Row). r.object == n) (rows ++ to ∷ []) r.0 (push_in rows to r.0 r.1) r.2

row_last : (rows : List Row) (to : Row) (n : ℕ) → to.object ≡ n → has_row (rows ++ to ∷ []) n ≡ true
row_last rows to n is = any_in (λ (r : Row). r.object == n) (rows ++ to ∷ []) to (last_in rows to) (eq-eqb to.object n is)

row_kept : (t : Files) (d : ℕ) (name : List ℕ) (m : ℕ) → IsTree t → m ≢ number_named t d name
    → has_row t.rows m ≡ true → has_row (without_entry d name t.rows) m ≡ true
row_kept t d name m is other some =
    let r = in_any (λ (r : Row). r.object == m) t.rows some in
    let object : r.0.object ≡ m = eqb-true _ _ r.2 in
    let stays : is_entry d name r.0 ≡ false = elim (cases_Bool (is_entry d name r.0)) [
      | inl goes ↦ absurd (other (sym object ∙ entry_names t d name is r.0 r.1 goes))
      | inr stays ↦ stays
    ] in
    any_in (λ (r : Row). r.object == m) (without_entry d name t.rows) r.0 (stays_in (λ q. not (is_entry d name q)) t.rows r.0 r.1 (rw stays refl)) r.2

-- CREATE
stored_other : (xs : List Stored) (x : Stored) (n : ℕ) → x.number ≢ n → stored_in (xs ++ x ∷ []) n ≡ stored_in xs n
stored_other [] x n other = rw (ne_eqb x.number n other) refl
stored_other (y ∷ ys) x n other = elim (cases_Bool (y.number == n)) [ inl here ↦ rw here refl | inr gone ↦ rw gone (stored_other ys x n other) ]

pub store_new : (s : State) (d : ℕ) (name : List ℕ) (new : New) (sets : Sets) (now : Time)
    → IsStore s → IsStore (with_tree s (with_new s.tree d name new sets now))
store_new s d name new sets now is =
    let t = s.tree in
    let u = with_new t d name new sets now in
    let changed = with_entries_changed d now t.objects in
    let made : Stored = record { number = t.last_object + 1; object = new_object now new sets; bytes = new.bytes; pages = new.pages } in
    let row : Row = record { directory = d; name = name; object = t.last_object + 1; cookie = t.last_cookie + 1 } in
    let kind = λ (m : ℕ). kind_changed t.objects d m now (modified now no_sets) in
    record {
      used = λ m there. elim (cases_eq (t.last_object + 1) m) [
        | inl here ↦ used_row (m == root) (has_row u.rows m) (is_open s m) (row_last t.rows row m here)
        | inr other ↦ (let old : is_there t m ≡ true = sym (ap is_some (stored_other changed made m other) ∙ there_same changed t.objects m (kind m)) ∙ there in
            used_by (m == root) (has_row t.rows m) (has_row u.rows m) (is_open s m) (row_pushed t.rows row m) (is.used m old))
      ];
      files = λ m stands.
          let regular = is.files m stands in
          let old : is_some (stored_in changed m) ≡ true = there_same changed t.objects m (kind m) ∙ there_test is_regular (stored_in t.objects m) regular in
          let same : kind_in u.objects m ≡ kind_in t.objects m = ap (option_map (λ (s : Stored). s.object.kind)) (stored_push changed made m old) ∙ kind m in
          regular_same u t m same ∙ regular;
    }

-- LINK
pub store_link : (s : State) (n d : ℕ) (name : List ℕ) (now : Time) → IsStore s → IsStore (with_tree s (with_link s.tree n d name now))
store_link s n d name now is =
    let t = s.tree in
    store_by s (with_link t n d name now)
    (λ m. kind_changed (with_entries_changed d now t.objects) n m now no_sets ∙ kind_changed t.objects d m now (modified now no_sets))
    (λ m. row_pushed t.rows (record { directory = d; name = name; object = n; cookie = t.last_cookie + 1 }) m) is

-- REMOVE
pub store_removed : (s : State) (d : ℕ) (name : List ℕ) (now : Time) → IsTree s.tree → IsStore s
    → IsStore (without_unused (with_tree s (without_name s.tree d name now)) (number_named s.tree d name))
store_removed s d name now tree is =
    let t = s.tree in
    let n = number_named t d name in
    store_without (with_tree s (without_name t d name now)) n
    (but_by s (without_name t d name now) n
    (λ m. kind_changed (with_entries_changed d now t.objects) n m now no_sets ∙ kind_changed t.objects d m now (modified now no_sets))
    (λ m. row_kept t d name m tree) is)

-- RENAME: a row goes with its entry, or comes again under its new name
kind_both : (objects : List Stored) (a b n : ℕ) (now : Time) → kind_in (with_both_changed a b now objects) n ≡ kind_in objects n
kind_both objects a b n now = elim (cases_Bool (a == b)) [
  | inl same ↦ rw same (kind_changed objects a n now (modified now no_sets))
  | inr other ↦ rw other
      (kind_changed (with_entries_changed a now objects) b n now (modified now no_sets) ∙ kind_changed objects a n now (modified now no_sets))
]

kind_moved : (t : Files) (m : Move) (now : Time) (k : ℕ) → kind_in (with_moved t m now).objects k ≡ kind_in t.objects k
kind_moved t m now k = kind_both (with_links_changed (replaced_object t m) now (with_links_changed (touched_object t m) now t.objects)) m.source m.target k now
    ∙ kind_changed (with_links_changed (touched_object t m) now t.objects) (replaced_object t m) k now no_sets
    ∙ kind_changed t.objects (touched_object t m) k now no_sets

row_moved : (t : Files) (m : Move) (now : Time) (k : ℕ) → IsTree t → ((r : Row) → In r t.rows → is_entry m.target m.name r ≡ true → r.object ≢ k)
    → has_row t.rows k ≡ true → has_row (with_moved t m now).rows k ≡ true
row_moved t m now k is free some =
    let r = in_any (λ (r : Row). r.object == k) t.rows some in
    let object : r.0.object ≡ k = eqb-true _ _ r.2 in
    let rest = without_entry m.source m.old (without_entry m.target m.name t.rows) in
    let row : Row = record { directory = m.target; name = m.name; object = moved_object t m; cookie = t.last_cookie + 1 } in
    let stays : is_entry m.target m.name r.0 ≡ false =
    elim (cases_Bool (is_entry m.target m.name r.0)) [ inl goes ↦ absurd (free r.0 r.1 goes object) | inr stays ↦ stays ] in
    elim (cases_Bool (is_entry m.source m.old r.0)) [
      | inl moves ↦ row_last rest row k (sym (entry_names t m.source m.old is r.0 r.1 moves) ∙ object)
      | inr apart ↦ any_in (λ (r : Row). r.object == k) (rest ++ row ∷ []) r.0
          (push_in rest row r.0
          (stays_in (λ q. not (is_entry m.source m.old q)) (without_entry m.target m.name t.rows) r.0
          (stays_in (λ q. not (is_entry m.target m.name q)) t.rows r.0 r.1 (rw stays refl)) (rw apart refl))) r.2
    ]

pub store_moved : (s : State) (m : Move) (now : Time) → IsTree s.tree → IsStore s
    → IsStore (without_replaced (with_tree s (with_moved s.tree m now)) (object_named s.tree m.target m.name))
store_moved s m now tree is = by_entry (entry s.tree.rows m.target m.name) refl
  where
    by_entry : (o : Option Row) → entry s.tree.rows m.target m.name ≡ o
        → IsStore (without_replaced (with_tree s (with_moved s.tree m now)) (object_named s.tree m.target m.name))
    by_entry None h =
        let none : object_named s.tree m.target m.name ≡ None = ap (option_map (λ (r : Row). r.object)) h in
        subst (λ (o : Option ℕ). IsStore (without_replaced (with_tree s (with_moved s.tree m now)) o)) (sym none)
        (store_by s (with_moved s.tree m now) (kind_moved s.tree m now)
        (λ k. row_moved s.tree m now k tree (λ r there e. absurd (false≢true (sym (none_in (is_entry m.target m.name) s.tree.rows r h there) ∙ e)))) is)
    by_entry (Some q) h =
        let some : object_named s.tree m.target m.name ≡ Some q.object = ap (option_map (λ (r : Row). r.object)) h in
        subst (λ (o : Option ℕ). IsStore (without_replaced (with_tree s (with_moved s.tree m now)) o)) (sym some)
        (store_without (with_tree s (with_moved s.tree m now)) q.object
        (but_by s (with_moved s.tree m now) q.object (kind_moved s.tree m now)
        (λ k other. row_moved s.tree m now k tree (λ r there e same.
        other (sym same ∙ entry_names s.tree m.target m.name tree r there e ∙ ap (λ o. unwrap_or o 0) some))) is))
