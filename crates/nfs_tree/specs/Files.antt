-- The tree as two tables: objects by their numbers, and rows, each of which names an object in a directory (RFC 8881 sections 4.2 and 5.8).
use Rattle.std.specs.Prelude.{ℕ, ◌==◌, nat_lt, nat_le, Bool, false, not, ◌&&◌, if◌then◌else◌, List, [], length, Option, filter, map, find, is_some, option_map}
use Rattle.std.specs.{Prelude.{unwrap_or, bytes_eq, ◌+◌}, List.list_any, Option.option_map_or}
use Rattle.nfs_xdr.specs.declared.time.Time.{Time}
use Rattle.nfs_tree.specs.{declared.object.FileType.FileType, declared.object.FileType.TheVariants.{Regular, Directory, Link}}
use Rattle.nfs_tree.specs.{declared.limits.Limits.Limits, declared.profile.Profile.Profile}
use Rattle.nfs_tree.specs.{declared.object.Object.Object, declared.row.Row.Row, declared.sets.Sets.Sets, declared.stored.Stored.Stored, declared.stored.Size.Size, Stored.{content_of, size_of}}
use Rattle.nfs_tree.specs.{Object.{is_directory, changed, modified, no_sets}, declared.done.Change.Change, Profile.is_unix}

-- Objects in rising order of their numbers, rows in rising order of their cookies, the last number of each kind that was given, how much there may be,
-- by what profile, and how many changes there were, modulo 10^9.
pub record Files : Type 0 where
  pub objects : List Stored
  pub rows : List Row
  pub last_object : ℕ
  pub last_cookie : ℕ
  pub limits : Limits
  pub profile : Profile
  pub changes : ℕ

-- how many changes there were behind one more, modulo 10^9
abbrev pub next_count : ℕ → ℕ
next_count n = if nat_lt n 999999999 then n + 1 else 0

-- The time of the next change at a moment: in `unix` its nanoseconds are the change's number, so that within a second too the later of two has the later time.
abbrev pub stamp : Files → Time → Time
stamp t now = if is_unix t.profile then record now { nanoseconds = next_count t.changes } else now

-- the number of the root
abbrev pub root : ℕ
root = 1

-- Limits (this server's profile): the last value of a counter and of `change`; rows that name one object;
-- bytes of a name; bytes of a symbolic link's text.
abbrev pub last_count : ℕ
last_count = 0xffff_ffff_ffff_ffff

abbrev pub most_links : ℕ
most_links = 1024

abbrev pub most_name : ℕ
most_name = 255

abbrev pub most_text : ℕ
most_text = 1024

-- the most bytes that an object of a type may have
abbrev pub most_of : Limits → FileType → ℕ
most_of l Regular = l.bytes
most_of l Directory = 0
most_of l Link = most_text

-- a name that a row can have
abbrev pub is_name : List ℕ → Bool
is_name name = nat_lt 0 (length name) && nat_le (length name) most_name

-- what is kept of an object, what it is, and its bytes: a file's, or a link's text
abbrev pub stored_in : List Stored → ℕ → Option Stored
stored_in objects n = find (λ s. s.number == n) objects

abbrev pub object_at : Files → ℕ → Option Object
object_at t n = option_map (λ s. s.object) (stored_in t.objects n)

abbrev pub data_at : Files → ℕ → List ℕ
data_at t n = option_map_or (λ s. s.bytes) (stored_in t.objects n) []

-- how many bytes and pages it has
abbrev pub size_at : Files → ℕ → Size
size_at t n = option_map_or (λ s. size_of (content_of s)) (stored_in t.objects n) (record { bytes = 0; pages = 0 })

abbrev pub is_there : Files → ℕ → Bool
is_there t n = is_some (stored_in t.objects n)

abbrev pub is_directory_at : Files → ℕ → Bool
is_directory_at t n = option_map_or (λ s. is_directory s.object.kind) (stored_in t.objects n) false

-- the value of `change`, or 0 where there is no object
abbrev pub change_of : Files → ℕ → ℕ
change_of t n = option_map_or (λ s. s.object.change) (stored_in t.objects n) 0

-- the object can change once more
abbrev pub can_change : Files → ℕ → Bool
can_change t n = option_map_or (λ s. nat_lt s.object.change last_count) (stored_in t.objects n) false

-- the row of a name in a directory, and the object that it names
abbrev pub is_entry : ℕ → List ℕ → Row → Bool
is_entry d name r = (r.directory == d) && bytes_eq r.name name

abbrev pub entry : List Row → ℕ → List ℕ → Option Row
entry rows d name = find (is_entry d name) rows

abbrev pub has_name : Files → ℕ → List ℕ → Bool
has_name t d name = is_some (entry t.rows d name)

abbrev pub object_named : Files → ℕ → List ℕ → Option ℕ
object_named t d name = option_map (λ r. r.object) (entry t.rows d name)

-- its number, or 0, which no object has
abbrev pub number_named : Files → ℕ → List ℕ → ℕ
number_named t d name = unwrap_or (object_named t d name) 0

-- the directory of the first row that names the object: of its one row, if it is a directory
abbrev pub parent_in : List Row → ℕ → Option ℕ
parent_in rows n = option_map (λ r. r.directory) (find (λ r. r.object == n) rows)

-- how many rows name the object
abbrev pub links_in : List Row → ℕ → ℕ
links_in rows n = length (filter (λ r. r.object == n) rows)

abbrev pub has_row : List Row → ℕ → Bool
has_row rows n = list_any (λ r. r.object == n) rows

abbrev pub has_entries : List Row → ℕ → Bool
has_entries rows d = list_any (λ r. r.directory == d) rows

-- an entry as a listing reports it
pub record Listed : Type 0 where
  pub cookie : ℕ
  pub name : List ℕ
  pub number : ℕ

abbrev pub listed : Row → Listed
listed r = record { cookie = r.cookie; name = r.name; number = r.object }

-- the entries of a directory behind a cookie, by rising cookie
abbrev pub listing : List Row → ℕ → ℕ → List Listed
listing rows d cookie = map listed (filter (λ r. (r.directory == d) && nat_lt cookie r.cookie) rows)

-- the objects where the one of a number has changed
abbrev pub change_at : ℕ → Time → Sets → Stored → Stored
change_at n now sets s = if s.number == n then record s { object = changed now sets s.object } else s

abbrev pub with_changed : ℕ → Time → Sets → List Stored → List Stored
with_changed n now sets objects = map (change_at n now sets) objects

-- a directory's entries changed
abbrev pub with_entries_changed : ℕ → Time → List Stored → List Stored
with_entries_changed d now objects = with_changed d now (modified now no_sets) objects

-- the number of rows that name an object changed
abbrev pub with_links_changed : ℕ → Time → List Stored → List Stored
with_links_changed n now objects = with_changed n now no_sets objects

-- the rows without an entry
abbrev pub without_entry : ℕ → List ℕ → List Row → List Row
without_entry d name rows = filter (λ r. not (is_entry d name r)) rows

-- a directory's `change` round a call that changes its entries, and round one that does not
abbrev pub raised : Files → ℕ → Change
raised t d = record { before = change_of t d; after = change_of t d + 1 }

abbrev pub unraised : Files → ℕ → Change
unraised t d = record { before = change_of t d; after = change_of t d }
