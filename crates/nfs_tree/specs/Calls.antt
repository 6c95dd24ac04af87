-- What each call of a tree answers and leaves. A refusal leaves the tree; want of memory is answered only where the call grows, and leaves it too.
use Rattle.std.specs.Prelude.{◌≡◌, Bool, true, Option, Some, None, Result, Ok, Err, IsOk, ◌||◌, All, ℕ, ◌==◌, ◌<◌, false, List, ◌+◌, if◌then◌else◌, nat_lt, not}
use Rattle.std.specs.{Prelude.{◌&&◌, [], ◌∷◌}, Option.option_map_or}
use Rattle.nfs_xdr.specs.{Checks.first_fault, declared.time.Time.Time}
use Rattle.nfs_tree.specs.{declared.fault.TreeFault.TreeFault, declared.fault.TreeFault.TheVariants.{Memory, NoEnt, IsDir, Inval, Fbig, Counter}}
use Rattle.nfs_tree.specs.Files.{Files, root, last_count, stored_in, is_directory_at, has_row, raised, object_named, number_named, unraised}
use Rattle.nfs_tree.specs.Files.{is_there, can_change}
use Rattle.nfs_tree.specs.{declared.stored.Stored.Stored, Object.is_regular, Create.{New, new_file, new_directory, new_link, create_checks, with_new}}
use Rattle.nfs_tree.specs.{declared.sets.Sets.Sets, declared.create.New.{New as Code}, declared.done.Created.Created}
use Rattle.nfs_tree.specs.{Names.{link_checks, with_link, remove_checks, without_name, Move, moves, rename_checks, with_moved}, declared.rename.Place.Place}
use Rattle.nfs_tree.specs.{declared.done.Change.Change, declared.done.Removed.Removed, declared.done.Renamed.Renamed}
use Rattle.nfs_tree.specs.Bytes.{with_written, has_bytes, is_too_long, with_resized, with_sets}
use Rattle.nfs_tree.specs.declared.create.New.TheVariants as code

pub record Did (A : Type 0) : Type 0 where
  pub answer : Result A TreeFault
  pub after : Files

abbrev pub does_unless : {A : Type 0} → Files → Option TreeFault → A → Files → Did A
does_unless t None answer after = record { answer = Ok answer; after = after }
does_unless t (Some fault) answer after = record { answer = Err fault; after = t }

abbrev pub DoesOrWants : {A : Type 0} → Files → Bool → Did A → Result A TreeFault → Files → Type 0
DoesOrWants old grows did (Err Memory) new = (grows ≡ true) × IsOk did.answer × (new ≡ old)
DoesOrWants old grows did result new = (result ≡ did.answer) × (new ≡ did.after)

abbrev pub is_regular_at : Files → ℕ → Bool
is_regular_at t n = option_map_or (λ s. is_regular s.object.kind) (stored_in t.objects n) false

-- no object of the number has the last value
abbrev pub CanChange : List Stored → ℕ → Type 0
CanChange objects n = All (λ s. s.number ≡ n → s.object.change < last_count) objects

-- the condition of a call that puts a row into a directory: it is the root, or some row names it
abbrev pub IsReached : Files → ℕ → Type 0
IsReached t d = is_directory_at t d ≡ true → (d == root) || has_row t.rows d ≡ true

-- what the code's value says, wherever its bytes lie
abbrev pub new_of : Code → New
new_of (code.File size verifier) = new_file size verifier
new_of code.Directory = new_directory
new_of (code.Link text) = new_link text.now

abbrev pub create_fault : Files → ℕ → List ℕ → New → Option TreeFault
create_fault t d name new = first_fault (create_checks t d name new)

abbrev pub create : Files → ℕ → List ℕ → New → Sets → Time → Did Created
create t d name new sets now =
    does_unless t (create_fault t d name new) (record { number = t.last_object + 1; directory = raised t d }) (with_new t d name new sets now)

abbrev pub link_fault : Files → ℕ → ℕ → List ℕ → Option TreeFault
link_fault t n d name = first_fault (link_checks t n d name)

abbrev pub link : Files → ℕ → ℕ → List ℕ → Time → Did Change
link t n d name now = does_unless t (link_fault t n d name) (raised t d) (with_link t n d name now)

abbrev pub remove_fault : Files → ℕ → List ℕ → Option TreeFault
remove_fault t d name = first_fault (remove_checks t d name)

abbrev pub remove : Files → ℕ → List ℕ → Time → Did Removed
remove t d name now = does_unless t (remove_fault t d name) (record { number = number_named t d name; directory = raised t d }) (without_name t d name now)

-- what the code's value says, wherever its names lie
abbrev pub move_of : Place → Move
move_of m = record { source = m.source; old = m.old.now; target = m.target; name = m.name.now }

abbrev pub rename_fault : Files → Move → Option TreeFault
rename_fault t m = first_fault (rename_checks t m)

-- what is answered and left where an entry moves ..
abbrev pub moved : Files → Move → Time → Did Renamed
moved t m now = record {
  answer = Ok (record { source = raised t m.source; target = raised t m.target; replaced = object_named t m.target m.name });
  after = with_moved t m now;
}

-- .. and where nothing does
abbrev pub unmoved : Files → Move → Did Renamed
unmoved t m = record { answer = Ok (record { source = unraised t m.source; target = unraised t m.target; replaced = None }); after = t }

abbrev pub rename_unless : Files → Option TreeFault → Did Renamed → Did Renamed
rename_unless t None did = did
rename_unless t (Some fault) did = record { answer = Err fault; after = t }

abbrev pub rename : Files → Move → Time → Did Renamed
rename t m now = rename_unless t (rename_fault t m) (if moves t m then moved t m now else unmoved t m)

-- WRITE: no bytes are refused where there is no file alone.
abbrev pub write_checks : Files → ℕ → ℕ → List ℕ → List (Bool × TreeFault)
write_checks t n offset text =
    (not (is_there t n), NoEnt)
    ∷ (is_directory_at t n, IsDir)
    ∷ (not (is_regular_at t n), Inval)
    ∷ (has_bytes text && is_too_long t offset text, Fbig)
    ∷ (has_bytes text && not (can_change t n), Counter)
    ∷ []

abbrev pub write_fault : Files → ℕ → ℕ → List ℕ → Option TreeFault
write_fault t n offset text = first_fault (write_checks t n offset text)

abbrev pub write : Files → ℕ → ℕ → List ℕ → Sets → Time → Did (Unit {0})
write t n offset text sets now = does_unless t (write_fault t n offset text) tt (if has_bytes text then with_written t n offset text sets now else t)

-- SETATTR of size, with what else is set
abbrev pub resize_checks : Files → ℕ → ℕ → List (Bool × TreeFault)
resize_checks t n size =
    (not (is_there t n), NoEnt)
    ∷ (is_directory_at t n, IsDir)
    ∷ (not (is_regular_at t n), Inval)
    ∷ (nat_lt t.limits.bytes size, Fbig)
    ∷ (not (can_change t n), Counter)
    ∷ []

abbrev pub resize_fault : Files → ℕ → ℕ → Option TreeFault
resize_fault t n size = first_fault (resize_checks t n size)

abbrev pub resize : Files → ℕ → ℕ → Sets → Time → Did (Unit {0})
resize t n size sets now = does_unless t (resize_fault t n size) tt (with_resized t n size sets now)

-- SETATTR without size
abbrev pub set_checks : Files → ℕ → List (Bool × TreeFault)
set_checks t n =
    (not (is_there t n), NoEnt)
    ∷ (not (can_change t n), Counter)
    ∷ []

abbrev pub set_fault : Files → ℕ → Option TreeFault
set_fault t n = first_fault (set_checks t n)

abbrev pub set : Files → ℕ → Sets → Time → Did (Unit {0})
set t n sets now = does_unless t (set_fault t n) tt (with_sets t n sets now)
