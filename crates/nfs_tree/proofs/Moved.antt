-- The tree that a RENAME leaves keeps what every tree keeps.
use Rattle.std.proofs.Common.{◌≡◌, ◌≢◌, ℕ, ◌+◌, ◌<◌, Bool, true, false, cond, not, List, zero, suc, [], ◌∷◌, ◌++◌, length, None, refl, sym, ◌∙◌, ap, subst, arith, inl, inr}
use Rattle.std.proofs.lemmas.Bool.{cases_Bool, and_parts, eq-eqb, ne_eqb, ltb-true, not-false, false≢true}
use Rattle.std.specs.Prelude.{◌==◌, ◌&&◌, ◌||◌, option_map, unwrap_or, if◌then◌else◌}
use Rattle.nfs_xdr.specs.{Tables.In, declared.time.Time.Time}
use Rattle.nfs_xdr.proofs.{Lists.{in_filter, stays_in, find_in, find_none, filter_swap}, Tables.{IsRising-push, IsRising-filter}, Checks.all_passed}
use Rattle.nfs_tree.specs.{declared.row.Row.Row, Object.{no_sets, modified}}
use Rattle.nfs_tree.specs.Files.{Files, next_count, root, last_count, is_name, is_there, is_directory_at, can_change, is_entry, entry, has_name}
use Rattle.nfs_tree.specs.Calls.{CanChange, IsReached, rename_fault}
use Rattle.nfs_tree.specs.Files.{number_named, has_entries, with_entries_changed, with_links_changed, without_entry}
use Rattle.nfs_tree.specs.Names.{is_at_or_below, Move, moved_object, replaced_object, moves, is_below_itself, is_unlike, is_in_the_way, can_move, touched_object}
use Rattle.nfs_tree.specs.{Names.{rename_checks, with_both_changed, with_moved}, TreeInvariants.{Grounded, AreRows, IsTree}, Profile.is_unix}
use Rattle.nfs_tree.proofs.{RowsKept.{entry_parts, reached, grounded_without, no_entries}, Objects.{stored_within, can_change_all, can_change_none, can_change_after}}
use Rattle.nfs_tree.proofs.{Trees.{tree_changed, tree_counts, tree_dropped, entry_names, row_of, has_one, apart}, Put.{any_none, directory_there, vacant_of}}
use Rattle.nfs_tree.proofs.Move.{unique_of, same_entry, depth_bound, clear, rows_moved}

pub record MoveGranted (t : Files) (m : Move) : Type 0 where
  pub source : is_directory_at t m.source ≡ true
  pub target : is_directory_at t m.target ≡ true
  pub short : is_name m.name ≡ true
  pub old : has_name t m.source m.old ≡ true
  pub below : is_below_itself t m ≡ false
  pub way : is_in_the_way t m ≡ false
  pub change_source : can_change t m.source ≡ true
  pub change_target : can_change t m.target ≡ true
  pub change_replaced : not (has_name t m.target m.name) || can_change t (replaced_object t m) ≡ true
  pub change_moved : not (is_unix t.profile) || can_change t (moved_object t m) ≡ true
  pub apart : moved_object t m ≢ replaced_object t m
  pub cookie : t.last_cookie < last_count

guarded : (a b : Bool) → a && b ≡ false → a ≡ true → b ≡ false
guarded true b e is = e
guarded false b e is = absurd cc

or_right : (a b : Bool) → a || b ≡ false → b ≡ false
or_right true b e = absurd cc
or_right false b e = e

or_left : (a b : Bool) → a || b ≡ false → a ≡ false
or_left true b e = absurd cc
or_left false b e = refl

or_given : (a b : Bool) → not a || b ≡ true → a ≡ true → b ≡ true
or_given true b e is = e
or_given false b e is = absurd cc

not_true : (b : Bool) → not b ≡ true → b ≡ false
not_true true e = absurd cc
not_true false e = refl

pub move_granted : (t : Files) (m : Move) → rename_fault t m ≡ None → moves t m ≡ true → MoveGranted t m
move_granted t m e go =
    let checks = all_passed (rename_checks t m) e in
    let dirs = and_parts _ _ (not-false _ checks.1.0) in
    let can = not-false _ (guarded (moves t m) (not (can_move t m)) checks.1.1.1.1.1.1.1.0 go) in
    let first = and_parts _ _ can in
    let second = and_parts _ _ first.1 in
    let third = and_parts _ _ second.1 in
    let fourth = and_parts _ _ third.1 in
    record {
      source = dirs.0;
      target = dirs.1;
      short = not-false _ checks.1.1.0;
      old = not-false _ checks.1.1.1.0;
      below = guarded (moves t m) (is_below_itself t m) checks.1.1.1.1.1.0 go;
      way = guarded (moves t m) (is_in_the_way t m) checks.1.1.1.1.1.1.0 go;
      change_source = first.0;
      change_target = second.0;
      change_replaced = third.0;
      change_moved = fourth.0;
      apart = λ e. false≢true (sym (not_true _ go) ∙ eq-eqb (moved_object t m) (replaced_object t m) e);
      cookie = ltb-true _ _ fourth.1;
    }

-- where no object has the new name its number is 0
none_replaced : (t : Files) (m : Move) → has_name t m.target m.name ≡ false → replaced_object t m ≡ 0
none_replaced t m e = ap (λ o. unwrap_or (option_map (λ (r : Row). r.object) o) 0) (vacant_of (entry t.rows m.target m.name) e)

-- no object has the number 0
pub above_zero : (t : Files) (n : ℕ) → IsTree t → is_directory_at t n ≡ true → n ≢ 0
above_zero t n is dir e = let within = stored_within root (t.last_object + 1) t.objects n is.objects (directory_there t n dir) in absurd (omega arith)

pub replaced_empty : (t : Files) (m : Move) → IsTree t → MoveGranted t m → has_entries t.rows (replaced_object t m) ≡ false
replaced_empty t m is can =
    elim (cases_Bool (has_name t m.target m.name)) [
      | inl there ↦ or_right (is_unlike t m) (has_entries t.rows (replaced_object t m))
          (guarded (has_name t m.target m.name) (is_unlike t m || has_entries t.rows (replaced_object t m)) can.way there)
      | inr none ↦ rw (none_replaced t m none)
          (any_none (λ r. r.directory == 0) t.rows (λ r there. ne_eqb r.directory 0 (above_zero t r.directory is (is.rows.stands r there))))
    ]

pub replaced_source : (t : Files) (m : Move) → IsTree t → MoveGranted t m → replaced_object t m ≢ m.source
replaced_source t m is can = apart t m.source (replaced_object t m) (has_one t m.source m.old can.old) (replaced_empty t m is can)

pub replaced_target : (t : Files) (m : Move) → IsTree t → MoveGranted t m → replaced_object t m ≢ m.target
replaced_target t m is can =
    elim (cases_Bool (has_name t m.target m.name)) [
      | inl there ↦ apart t m.target (replaced_object t m) (has_one t m.target m.name there) (replaced_empty t m is can)
      | inr none ↦ λ e. above_zero t m.target is can.target (sym e ∙ none_replaced t m none)
    ]

pub replaced_can : (t : Files) (m : Move) → IsTree t → MoveGranted t m → CanChange t.objects (replaced_object t m)
replaced_can t m is can =
    elim (cases_Bool (has_name t m.target m.name)) [
      | inl there ↦ can_change_all t.objects root (t.last_object + 1) (replaced_object t m) is.objects
          (or_given (has_name t m.target m.name) (can_change t (replaced_object t m)) can.change_replaced there)
      | inr none ↦ subst (CanChange t.objects) (sym (none_replaced t m none)) (can_change_none t.objects root (t.last_object + 1) 0 is.objects (omega arith))
    ]

-- no directory stands in itself
no_loop : (t : Files) (q : Row) (n d : ℕ) → IsTree t → In q t.rows → q.object ≡ d → q.directory ≡ d → Grounded t.rows n d → ⊥
no_loop t q zero d is there object directory at = is.rows.free q there (object ∙ at)
no_loop t q (suc n) d is there object directory at =
    let same : at.0 ≡ q = is.rows.one at.0 q at.1 there (at.2 ∙ sym object) (ap (is_directory_at t) (object ∙ sym directory) ∙ is.rows.stands q there) in
    no_loop t q n d is there object directory (subst (Grounded t.rows n) (ap (λ (r : Row). r.directory) same ∙ directory) at.3)

moved_source : (t : Files) (m : Move) → IsTree t → MoveGranted t m → moved_object t m ≢ m.source
moved_source t m is can e =
    let found = row_of t.rows m.source m.old can.old in
    let q = found.0 in
    let at = find_in (is_entry m.source m.old) t.rows q found.1 in
    let parts = entry_parts m.source m.old q at.1 in
    let object : q.object ≡ moved_object t m = sym (ap (λ o. unwrap_or (option_map (λ (r : Row). r.object) o) 0) found.1) in
    let up = is.rows.grounded q at.0 in
    no_loop t q up.0 m.source is at.0 (object ∙ e) parts.0 (subst (Grounded t.rows up.0) parts.0 up.1)

below_other : (rows : List Row) (top n k : ℕ) → is_at_or_below rows top k n ≡ false → n ≢ top
below_other rows top n zero is e = false≢true (sym is ∙ eq-eqb n top e)
below_other rows top n (suc k) is e = false≢true (sym (or_left (n == top) _ is) ∙ eq-eqb n top e)

moved_target : (t : Files) (m : Move) → MoveGranted t m → moved_object t m ≢ m.target
moved_target t m can e = elim (cases_Bool (is_directory_at t (moved_object t m))) [
  | inl dir ↦ below_other t.rows (moved_object t m) m.target (length t.rows)
      (guarded (is_directory_at t (moved_object t m)) (is_at_or_below t.rows (moved_object t m) (length t.rows) m.target) can.below dir) (sym e)
  | inr file ↦ false≢true (sym file ∙ ap (is_directory_at t) e ∙ can.target)
]

-- what is touched: the moved object, or none
by_touched : (P : ℕ → Type 0) (b : Bool) (n : ℕ) → P 0 → (b ≡ true → P n) → P (if b then n else 0)
by_touched P true n none some = some refl
by_touched P false n none some = none

pub touched_source : (t : Files) (m : Move) → IsTree t → MoveGranted t m → touched_object t m ≢ m.source
touched_source t m is can = by_touched (λ n. n ≢ m.source) (is_unix t.profile) (moved_object t m)
    (λ e. above_zero t m.source is can.source (sym e)) (λ unix. moved_source t m is can)

pub touched_target : (t : Files) (m : Move) → IsTree t → MoveGranted t m → touched_object t m ≢ m.target
touched_target t m is can = by_touched (λ n. n ≢ m.target) (is_unix t.profile) (moved_object t m)
    (λ e. above_zero t m.target is can.target (sym e)) (λ unix. moved_target t m can)

zero_absent : (t : Files) → IsTree t → is_there t 0 ≡ true → ⊥
zero_absent t is there = let within = stored_within root (t.last_object + 1) t.objects 0 is.objects there in absurd (omega arith)

none_can : (t : Files) → IsTree t → CanChange t.objects 0
none_can t is = can_change_none t.objects root (t.last_object + 1) 0 is.objects (omega arith)

pub touched_can : (t : Files) (m : Move) → IsTree t → MoveGranted t m → CanChange t.objects (touched_object t m)
touched_can t m is can = by_touched (CanChange t.objects) (is_unix t.profile) (moved_object t m) (none_can t is)
    (λ unix. can_change_all t.objects root (t.last_object + 1) (moved_object t m) is.objects (or_given (is_unix t.profile) _ can.change_moved unix))

pub replaced_left : (t : Files) (m : Move) (now : Time) → IsTree t → MoveGranted t m
    → CanChange (with_links_changed (touched_object t m) now t.objects) (replaced_object t m)
replaced_left t m now is can = elim (cases_Bool (has_name t m.target m.name)) [
  | inl there ↦ by_touched (λ n. CanChange (with_links_changed n now t.objects) (replaced_object t m)) (is_unix t.profile) (moved_object t m)
      (can_change_after t.objects 0 (replaced_object t m) now no_sets (replaced_some there) (replaced_can t m is can))
      (λ unix. can_change_after t.objects (moved_object t m) (replaced_object t m) now no_sets (λ e. can.apart (sym e)) (replaced_can t m is can))
  | inr none ↦ subst (CanChange (with_links_changed (touched_object t m) now t.objects)) (sym (none_replaced t m none))
      (none_can (record t { objects = with_links_changed (touched_object t m) now t.objects }) (tree_changed t (touched_object t m) now no_sets is))
]
  where
    replaced_some : has_name t m.target m.name ≡ true → replaced_object t m ≢ 0
    replaced_some there e =
        (let found = row_of t.rows m.target m.name there in
        let at = find_in (is_entry m.target m.name) t.rows found.0 found.1 in
        let object : found.0.object ≡ 0 = sym (ap (λ o. unwrap_or (option_map (λ (r : Row). r.object) o) 0) found.1) ∙ e in
        zero_absent t is (subst (λ k. is_there t k ≡ true) object (is.rows.names found.0 at.0)))

tree_both : (t : Files) (a b : ℕ) (now : Time) → IsTree t → IsTree (record t { objects = with_both_changed a b now t.objects })
tree_both t a b now is =
    let one = record t { objects = with_entries_changed a now t.objects } in
    let is_one : IsTree one = tree_changed t a now (modified now no_sets) is in
    elim (a == b) as (λ v.
    IsTree (record t { objects = cond v (with_entries_changed a now t.objects) (with_entries_changed b now (with_entries_changed a now t.objects)) }))
    [ true ↦ is_one | false ↦ tree_changed one b now (modified now no_sets) is_one ]

-- the target is reached without the row that moves, and without the one that goes
target_reached : (t : Files) (m : Move) → IsTree t → MoveGranted t m → IsReached t m.target → (q : Row) → In q t.rows → q.object ≡ moved_object t m
    → (k : ℕ) × Grounded (without_entry q.directory q.name (without_entry m.target m.name t.rows)) k m.target
target_reached t m is can condition q there object =
    let dirs = λ (n : ℕ). is_directory_at t n in
    let unique = unique_of t.rows dirs (λ n. is_there t n) is.rows in
    let x = replaced_object t m in
    let empty = replaced_empty t m is can in
    let up = reached t.rows dirs (λ n. is_there t n) is.rows m.target (condition can.target) in
    let rest = without_entry q.directory q.name t.rows in
    let first : Grounded rest up.0 m.target = elim (cases_Bool (dirs q.object)) [
      | inl dir ↦ (
          let climb : is_at_or_below t.rows (moved_object t m) (length t.rows) m.target ≡ false =
          guarded (dirs (moved_object t m)) (is_at_or_below t.rows (moved_object t m) (length t.rows) m.target) can.below (ap dirs (sym object) ∙ dir) in
          clear t.rows dirs unique q there (length t.rows) up.0 m.target (depth_bound up.0 t.rows dirs unique m.target can.target up.1) can.target
          (subst (λ o. is_at_or_below t.rows o (length t.rows) m.target ≡ false) (sym object) climb) up.1)
      | inr file ↦ grounded_without t.rows q.directory q.name q.object (λ r is_r e. ap (λ (r : Row). r.object) (same_entry t.rows dirs unique r q is_r there e))
          (λ r is_r e. false≢true (sym file ∙ ap dirs (sym e) ∙ is.rows.stands r is_r)) up.0 m.target
          (λ e. false≢true (sym file ∙ ap dirs (sym e) ∙ can.target)) up.1
    ] in
    let old = in_filter (λ (r : Row). not (is_entry q.directory q.name r)) t.rows in
    let second : Grounded (without_entry m.target m.name rest) up.0 m.target =
    grounded_without rest m.target m.name x (λ r is_r e. entry_names t m.target m.name is r (old r is_r).0 e)
    (λ r is_r. no_entries t.rows x empty r (old r is_r).0) up.0 m.target (λ e. replaced_target t m is can (sym e)) first in (
      up.0,
      subst (λ rows. Grounded rows up.0 m.target)
          (filter_swap (λ (r : Row). not (is_entry m.target m.name r)) (λ r. not (is_entry q.directory q.name r)) t.rows) second,
    )

pub tree_moved : (t : Files) (m : Move) (now : Time) → IsTree t → rename_fault t m ≡ None
    → moves t m ≡ true → IsReached t m.target → IsTree (with_moved t m now)
tree_moved t m now is granted go condition =
    let can = move_granted t m granted go in
    let dirs = λ (n : ℕ). is_directory_at t n in
    let x = replaced_object t m in
    let found = row_of t.rows m.source m.old can.old in
    let q = found.0 in
    let at = find_in (is_entry m.source m.old) t.rows q found.1 in
    let parts = entry_parts m.source m.old q at.1 in
    let object : q.object ≡ moved_object t m = sym (ap (λ o. unwrap_or (option_map (λ (r : Row). r.object) o) 0) found.1) in
    let left = record t { rows = without_entry m.target m.name t.rows } in
    let is_left : IsTree left = tree_dropped t m.target m.name is (replaced_empty t m is can) in
    let apart : moved_object t m ≢ x = λ e. false≢true (sym (not_true _ go) ∙ eq-eqb (moved_object t m) x e) in
    let stays : is_entry m.target m.name q ≡ false = elim (cases_Bool (is_entry m.target m.name q))
    [ inl is_it ↦ absurd (apart (sym object ∙ entry_names t m.target m.name is q at.0 is_it)) | inr other_row ↦ other_row ] in
    let to : Row = record { directory = m.target; name = m.name; object = moved_object t m; cookie = t.last_cookie + 1 } in
    let vacant : entry left.rows m.target m.name ≡ None =
    find_none (is_entry m.target m.name) left.rows (λ r there. not_true _ (in_filter (λ (r : Row). not (is_entry m.target m.name r)) t.rows r there).1) in
    let rows = rows_moved left.rows dirs (λ n. is_there t n) q to is_left.rows
    (stays_in (λ r. not (is_entry m.target m.name r)) t.rows q at.0 (rw stays refl)) (sym object) vacant can.target can.short
    (target_reached t m is can condition q at.0 object) in
    let named_rows = subst (λ d. AreRows (without_entry d q.name left.rows ++ to ∷ []) dirs (λ n. is_there t n)) parts.0 rows in
    let done = record left { rows = without_entry m.source m.old left.rows ++ to ∷ []; last_cookie = t.last_cookie + 1 } in
    let is_done : IsTree done = record {
      objects = is.objects;
      cookies = IsRising-push (λ (r : Row). r.cookie) 3 (t.last_cookie + 1) (t.last_cookie + 1 + 1) (without_entry m.source m.old left.rows) to refl refl
          (IsRising-filter (λ (r : Row). r.cookie) (λ r. not (is_entry m.source m.old r)) 3 (t.last_cookie + 1) left.rows is_left.cookies);
      counters = (is.counters.0, (let less = can.cookie in omega arith));
      limits = is.limits;
      few = is.few;
      sized = is.sized;
      root = is.root;
      rows = subst (λ name. AreRows (without_entry m.source name left.rows ++ to ∷ []) dirs (λ n. is_there t n)) parts.1 named_rows;
    } in
    let touched = record done { objects = with_links_changed (touched_object t m) now done.objects } in
    let is_touched : IsTree touched = tree_changed done (touched_object t m) now no_sets is_done in
    tree_counts _ (next_count t.changes)
    (tree_both (record touched { objects = with_links_changed x now touched.objects }) m.source m.target now (tree_changed touched x now no_sets is_touched))

-- the row that comes is not the entry that leaves
pub moved_apart : (t : Files) (m : Move) (n k : ℕ) → moves t m ≡ true → is_entry m.source m.old (let r : Row = record { directory = m.target; name = m.name; object = n; cookie = k } in r) ≡ false
moved_apart t m n k go = elim (cases_Bool (is_entry m.source m.old (let r : Row = record { directory = m.target; name = m.name; object = n; cookie = k } in r))) [
  | inl is ↦ (let parts = entry_parts m.source m.old (record { directory = m.target; name = m.name; object = n; cookie = k }) is in
      let same : moved_object t m ≡ replaced_object t m = ap (λ d. number_named t d m.old) (sym parts.0) ∙ ap (number_named t m.target) (sym parts.1) in
      absurd (let bad : false ≡ true = rw (eq-eqb (moved_object t m) (replaced_object t m) same) at go in false≢true bad))
  | inr other ↦ other
]
