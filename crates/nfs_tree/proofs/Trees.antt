-- Each call's tree keeps what every tree keeps.
use Rattle.std.proofs.Common.{◌≡◌, ◌≢◌, ℕ, ◌+◌, true, false, not, List, map, Option, Some, None, refl, sym, ◌∙◌, ap, subst, arith}
use Rattle.std.proofs.{lemmas.Bool.{and_from, and_parts, le-leb, eq-eqb, not-false, false≢true}, lemmas.List.length-map}
use Rattle.std.specs.{Prelude.{◌==◌, max, min, filter, option_map, is_some, unwrap_or}, Option.option_map_or}
use Rattle.nfs_xdr.specs.{Tables.In, declared.time.Time.Time}
use Rattle.nfs_xdr.proofs.{Lists.{in_filter, in_map, find_in, length_filter, any_in}, Tables.{IsRising-map, IsRising-filter}, Checks.all_passed}
use Rattle.nfs_tree.specs.{declared.row.Row.Row, declared.sets.Sets.Sets, declared.stored.Stored.Stored, Object.{is_directory, no_sets, modified}}
use Rattle.nfs_tree.specs.{declared.limits.Limits.Limits, declared.profile.Profile.Profile, Limits.{bounded, is_limits}}
use Rattle.nfs_tree.specs.Files.{Files, next_count, root, stored_in, is_there, is_directory_at, can_change, is_entry, with_links_changed, without_entry}
use Rattle.nfs_tree.specs.Files.{entry, has_name, number_named, has_row, has_entries, change_at, with_changed, with_entries_changed}
use Rattle.nfs_tree.specs.{Names.{forget, remove_checks, without_name}, Calls.{remove_fault, set_checks, set_fault}, TreeInvariants.IsTree}
use Rattle.nfs_tree.proofs.RowsKept.{rows_same, rows_dropped, no_entries, no_row, only_entry, entry_parts}
use Rattle.nfs_tree.proofs.Objects.{IsSized, Keeps, is_directory_in, keeps_changed, sized_changed, there_map, directory_map, stored_dropped}

-- a tree can have those that it is given
pub bounded_is : (l : Limits) → is_limits (bounded l) ≡ true
bounded_is l = and_from _ _ (le-leb 1 (max l.objects 1) (omega arith)) (le-leb (min l.bytes 1099511627776) 1099511627776 (omega arith))

-- however many changes there were
pub tree_counts : (t : Files) (changes : ℕ) → IsTree t → IsTree (record t { changes = changes })
tree_counts t changes is = record {
  objects = is.objects;
  cookies = is.cookies;
  counters = is.counters;
  few = is.few;
  sized = is.sized;
  limits = is.limits;
  root = is.root;
  rows = is.rows;
}

-- the same of parts that are equal to those
pub tree_of : (t : Files) → IsTree t → (objects : List Stored) (rows : List Row) (n k : ℕ) (limits : Limits) (profile : Profile) (changes : ℕ)
    → objects ≡ t.objects → rows ≡ t.rows → n ≡ t.last_object → k ≡ t.last_cookie → limits ≡ t.limits → profile ≡ t.profile
    → IsTree (record { objects = objects; rows = rows; last_object = n; last_cookie = k; limits = limits; profile = profile; changes = changes })
tree_of t is objects rows n k limits profile changes eo er en ek el ep = rw (eo, er, en, ek, el, ep) (tree_counts t changes is)

pub tree_mapped : (t : Files) (f : Stored → Stored) → IsTree t → Keeps t.objects f
    → ((s : Stored) → In s t.objects → IsSized t.limits s → IsSized t.limits (f s)) → IsTree (record t { objects = map f t.objects })
tree_mapped t f is keeps sized = record {
  objects = IsRising-map (λ (s : Stored). s.number) f keeps.number root (t.last_object + 1) t.objects is.objects;
  cookies = is.cookies;
  counters = is.counters;
  few = rw (length-map t.objects f) is.few;
  limits = is.limits;
  sized = λ s there. let old = in_map f t.objects s there in subst (IsSized t.limits) (sym old.2) (sized old.0 old.1 (is.sized old.0 old.1));
  root = directory_map t.objects f root keeps ∙ is.root;
  rows = rows_same t.rows (λ n. is_directory_at t n) (λ n. is_there t n)
      (λ n. is_directory_in (map f t.objects) n) (λ n. is_some (stored_in (map f t.objects) n)) is.rows
      (λ r there. directory_map t.objects f r.directory keeps) (λ r there. directory_map t.objects f r.object keeps)
      (λ r there. there_map t.objects f r.object keeps);
}

pub tree_changed : (t : Files) (n : ℕ) (now : Time) (sets : Sets) → IsTree t → IsTree (record t { objects = with_changed n now sets t.objects })
tree_changed t n now sets is = tree_mapped t (change_at n now sets) is (keeps_changed n now sets t.objects) (λ s there. sized_changed t.limits n now sets s)

pub tree_forgets : (t : Files) (n : ℕ) → IsTree t → has_row t.rows n ≡ false → has_entries t.rows n ≡ false → n ≢ root → IsTree (forget t n)
tree_forgets t n is unnamed empty other =
    let rest = filter (λ (s : Stored). not (s.number == n)) t.objects in
    let same = λ (m : ℕ) (apart : m ≢ n). stored_dropped t.objects n m apart in
    let stands = no_entries t.rows n empty in
    let names = no_row t.rows n unnamed in
    record {
      objects = IsRising-filter (λ (s : Stored). s.number) (λ s. not (s.number == n)) root (t.last_object + 1) t.objects is.objects;
      cookies = is.cookies;
      counters = is.counters;
      limits = is.limits;
      few = (let le = length_filter (λ (s : Stored). not (s.number == n)) t.objects in let most = is.few in omega arith);
      sized = λ s there. is.sized s (in_filter (λ (s : Stored). not (s.number == n)) t.objects s there).0;
      root = ap (λ o. option_map_or (λ (s : Stored). is_directory s.object.kind) o false) (same root (λ e. other (sym e))) ∙ is.root;
      rows = rows_same t.rows (λ n. is_directory_at t n) (λ n. is_there t n) (λ n. is_directory_in rest n) (λ n. is_some (stored_in rest n)) is.rows
          (λ r there. ap (λ o. option_map_or (λ (s : Stored). is_directory s.object.kind) o false) (same r.directory (stands r there)))
          (λ r there. ap (λ o. option_map_or (λ (s : Stored). is_directory s.object.kind) o false) (same r.object (names r there)))
          (λ r there. ap is_some (same r.object (names r there)));
    }

-- SETATTR
pub set_granted : (t : Files) (n : ℕ) → set_fault t n ≡ None → can_change t n ≡ true
set_granted t n e = let checks = all_passed (set_checks t n) e in not-false _ checks.1.0

-- REMOVE
pub remove_granted : (t : Files) (d : ℕ) (name : List ℕ) → remove_fault t d name ≡ None
    → (has_name t d name ≡ true) × (has_entries t.rows (number_named t d name) ≡ false) × (can_change t d ≡ true) × (can_change t (number_named t d name) ≡ true)
remove_granted t d name e =
    let checks = all_passed (remove_checks t d name) e in
    let change = and_parts _ _ (not-false _ checks.1.1.1.1.0) in
    (not-false _ checks.1.1.0, checks.1.1.1.0, change.0, change.1)

-- the row of a name that there is
pub row_of : (rows : List Row) (d : ℕ) (name : List ℕ) → is_some (entry rows d name) ≡ true → (r : Row) × (entry rows d name ≡ Some r)
row_of rows d name e = by_option (entry rows d name) refl
  where
    by_option : (o : Option Row) → entry rows d name ≡ o → (r : Row) × (entry rows d name ≡ Some r)
    by_option None h = absurd (let bad : false ≡ true = rw h at e in cc)
    by_option (Some r) h = (r, h)

-- a directory with a name has entries
pub has_one : (t : Files) (d : ℕ) (name : List ℕ) → has_name t d name ≡ true → has_entries t.rows d ≡ true
has_one t d name e =
    let r = row_of t.rows d name e in
    let there = find_in (is_entry d name) t.rows r.0 r.1 in
    any_in (λ (r : Row). r.directory == d) t.rows r.0 there.0 (eq-eqb r.0.directory d (entry_parts d name r.0 there.1).0)

-- so it is another object than one without
pub apart : (t : Files) (d n : ℕ) → has_entries t.rows d ≡ true → has_entries t.rows n ≡ false → n ≢ d
apart t d n some none same = false≢true (sym none ∙ ap (has_entries t.rows) same ∙ some)

pub entry_names : (t : Files) (d : ℕ) (name : List ℕ) → IsTree t → (r : Row) → In r t.rows → is_entry d name r ≡ true → r.object ≡ number_named t d name
entry_names t d name is r there e =
    let found = only_entry t.rows (λ n. is_directory_at t n) (λ n. is_there t n) is.rows d name r there e in
    sym (ap (λ o. unwrap_or (option_map (λ (r : Row). r.object) o) 0) found)

-- rows dropped from a tree: what the entry names has no entries
pub tree_dropped : (t : Files) (d : ℕ) (name : List ℕ) → IsTree t
    → has_entries t.rows (number_named t d name) ≡ false → IsTree (record t { rows = without_entry d name t.rows })
tree_dropped t d name is empty = record {
  objects = is.objects;
  cookies = IsRising-filter (λ (r : Row). r.cookie) (λ r. not (is_entry d name r)) 3 (t.last_cookie + 1) t.rows is.cookies;
  counters = is.counters;
  few = is.few;
  limits = is.limits;
  sized = is.sized;
  root = is.root;
  rows = rows_dropped t.rows (λ n. is_directory_at t n) (λ n. is_there t n) d name
      (number_named t d name) is.rows (entry_names t d name is) (no_entries t.rows (number_named t d name) empty);
}

pub tree_removed : (t : Files) (d : ℕ) (name : List ℕ) (now : Time) → IsTree t → remove_fault t d name ≡ None → IsTree (without_name t d name now)
tree_removed t d name now is granted =
    let n = number_named t d name in
    let one = record t { objects = with_entries_changed d now t.objects } in
    let both = record one { objects = with_links_changed n now one.objects } in
    tree_counts (record both { rows = without_entry d name t.rows }) (next_count t.changes)
    (tree_dropped both d name (tree_changed one n now no_sets (tree_changed t d now (modified now no_sets) is)) (remove_granted t d name granted).1)
