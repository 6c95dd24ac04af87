-- Rows put, dropped and moved; objects dropped (RFC 8881 sections 18.9, 18.25 and 18.26).
use Rattle.std.specs.Option.{option_map_or}
use Rattle.std.specs.Prelude.{ℕ, zero, suc, ◌+◌, ◌==◌, nat_lt, nat_le, Bool, false, not, ◌&&◌, ◌||◌, if◌then◌else◌, List, [], ◌∷◌, ◌++◌, length, filter}
use Rattle.nfs_xdr.specs.declared.time.Time.{Time}
use Rattle.nfs_tree.specs.{declared.row.Row.Row, declared.stored.Stored.Stored, declared.fault.TreeFault.TreeFault}
use Rattle.nfs_tree.specs.declared.fault.TreeFault.TheVariants.{NoEnt, Exist, NotDir, IsDir, NotEmpty, Inval, Mlink, Deep, Counter}
use Rattle.nfs_tree.specs.Files.{Files, root, next_count, last_count, most_links, is_name, is_there, is_directory_at, has_name, number_named, parent_in, links_in, has_row}
use Rattle.nfs_tree.specs.{Files.has_entries, Profile.is_unix}
use Rattle.nfs_tree.specs.Files.{can_change, with_entries_changed, with_links_changed, without_entry}

-- a row more
abbrev pub with_row : List Row → ℕ → List ℕ → ℕ → ℕ → List Row
with_row rows d name n cookie = rows ++ record { directory = d; name = name; object = n; cookie = cookie } ∷ []

-- LINK: one more row for an object that is no directory and has a row.
abbrev pub link_checks : Files → ℕ → ℕ → List ℕ → List (Bool × TreeFault)
link_checks t n d name =
    (not (is_there t d && is_there t n), NoEnt)
    ∷ (not (is_directory_at t d), NotDir)
    ∷ (is_directory_at t n, IsDir)
    ∷ (not (is_name name), Inval)
    ∷ (has_name t d name, Exist)
    ∷ (not (has_row t.rows n), NoEnt)
    ∷ (nat_le most_links (links_in t.rows n), Mlink)
    ∷ (not (can_change t d && (can_change t n && nat_lt t.last_cookie last_count)), Counter)
    ∷ []

abbrev pub with_link : Files → ℕ → ℕ → List ℕ → Time → Files
with_link t n d name now = record t {
  objects = with_links_changed n now (with_entries_changed d now t.objects);
  rows = with_row t.rows d name n (t.last_cookie + 1);
  last_cookie = t.last_cookie + 1;
  changes = next_count t.changes;
}

-- REMOVE: an entry goes; the object stays until it is forgotten.
abbrev pub remove_checks : Files → ℕ → List ℕ → List (Bool × TreeFault)
remove_checks t d name =
    (not (is_there t d), NoEnt)
    ∷ (not (is_directory_at t d), NotDir)
    ∷ (not (has_name t d name), NoEnt)
    ∷ (has_entries t.rows (number_named t d name), NotEmpty)
    ∷ (not (can_change t d && can_change t (number_named t d name)), Counter)
    ∷ []

abbrev pub without_name : Files → ℕ → List ℕ → Time → Files
without_name t d name now = record t {
  objects = with_links_changed (number_named t d name) now (with_entries_changed d now t.objects);
  rows = without_entry d name t.rows;
  changes = next_count t.changes;
}

-- an object goes
abbrev pub forget : Files → ℕ → Files
forget t n = record t { objects = filter (λ s. not (s.number == n)) t.objects }

-- RENAME. One object lies at or below another, at most so many levels, where going up from it over so many rows meets that other.
abbrev pub is_at_or_below : List Row → ℕ → ℕ → ℕ → Bool
is_at_or_below rows top zero n = n == top
is_at_or_below rows top (suc more) n = (n == top) || option_map_or (λ p. is_at_or_below rows top more p) (parent_in rows n) false

-- the directory from which and the one to which an entry is moved, with its old name and its new one
pub record Move : Type 0 where
  pub source : ℕ
  pub old : List ℕ
  pub target : ℕ
  pub name : List ℕ

abbrev pub move : ℕ → List ℕ → ℕ → List ℕ → Move
move source old target name = record { source = source; old = old; target = target; name = name }

abbrev pub moved_object : Files → Move → ℕ
moved_object t m = number_named t m.source m.old

-- the object that has the new name, or 0
abbrev pub replaced_object : Files → Move → ℕ
replaced_object t m = number_named t m.target m.name

-- both names are of one object: then nothing changes
abbrev pub moves : Files → Move → Bool
moves t m = not (moved_object t m == replaced_object t m)

-- a directory would come to lie below itself
abbrev pub is_below_itself : Files → Move → Bool
is_below_itself t m = is_directory_at t (moved_object t m) && is_at_or_below t.rows (moved_object t m) (length t.rows) m.target

-- a directory lies at most 2,048 levels below the root: as many names as the path has that a system takes whole
unfoldable pub is_near_root : List Row → ℕ → Bool
is_near_root rows n = is_at_or_below rows root 2048 n

-- in unix no directory comes from another one to one that lies farther down
abbrev pub is_too_deep : Files → Move → Bool
is_too_deep t m = is_unix t.profile && (is_directory_at t (moved_object t m) && (not (m.source == m.target) && not (is_near_root t.rows m.target)))

-- the new name is of a directory and the old one is not, or the other way round
abbrev pub is_unlike : Files → Move → Bool
is_unlike t m = if is_directory_at t (moved_object t m) then not (is_directory_at t (replaced_object t m)) else is_directory_at t (replaced_object t m)

-- what has the new name cannot be replaced
abbrev pub is_in_the_way : Files → Move → Bool
is_in_the_way t m = has_name t m.target m.name && (is_unlike t m || has_entries t.rows (replaced_object t m))

-- why: in unix a directory that has entries, where a directory is moved, is told from what is of another kind, as POSIX has it
abbrev pub way_fault : Files → Move → TreeFault
way_fault t m = if is_unix t.profile && not (is_unlike t m) then NotEmpty else Exist

-- in unix the moved object changes, as POSIX has it; else 0, which no object has
abbrev pub touched_object : Files → Move → ℕ
touched_object t m = if is_unix t.profile then moved_object t m else 0

-- no counter and no `change` that a move raises has its last value
abbrev pub can_move : Files → Move → Bool
can_move t m =
    can_change t m.source
    && (can_change t m.target && ((not (has_name t m.target m.name) || can_change t (replaced_object t m))
    && ((not (is_unix t.profile) || can_change t (moved_object t m)) && nat_lt t.last_cookie last_count)))

abbrev pub rename_checks : Files → Move → List (Bool × TreeFault)
rename_checks t m =
    (not (is_there t m.source && is_there t m.target), NoEnt)
    ∷ (not (is_directory_at t m.source && is_directory_at t m.target), NotDir)
    ∷ (not (is_name m.name), Inval)
    ∷ (not (has_name t m.source m.old), NoEnt)
    ∷ (moves t m && is_too_deep t m, Deep)
    ∷ (moves t m && is_below_itself t m, Inval)
    ∷ (moves t m && is_in_the_way t m, way_fault t m)
    ∷ (moves t m && not (can_move t m), Counter)
    ∷ []

-- the entries of two directories changed, or of one
abbrev pub with_both_changed : ℕ → ℕ → Time → List Stored → List Stored
with_both_changed a b now objects = if a == b then with_entries_changed a now objects else with_entries_changed b now (with_entries_changed a now objects)

-- an object's entry comes to the new name, under this cookie; the entry that has the new name goes
abbrev pub with_moved_row : List Row → Move → (object cookie : ℕ) → List Row
with_moved_row rows m = with_row (without_entry m.source m.old (without_entry m.target m.name rows)) m.target m.name

-- an object that is replaced loses a row; the new row has a new cookie
abbrev pub with_moved : Files → Move → Time → Files
with_moved t m now = record t {
  objects = with_both_changed m.source m.target now (with_links_changed (replaced_object t m) now (with_links_changed (touched_object t m) now t.objects));
  rows = with_moved_row t.rows m (moved_object t m) (t.last_cookie + 1);
  last_cookie = t.last_cookie + 1;
  changes = next_count t.changes;
}
