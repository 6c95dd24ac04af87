-- OPEN in the parts that its code takes, which only contracts inside the crate cite: what is looked at first, the tree's part of it, and
-- what is left where memory is refused.
use Rattle.std.specs.Prelude.{◌≡◌, ◌==◌, ◌%◌, ◌&&◌, ℕ, Bool, true, false, not, List, [], ◌∷◌, ◌++◌, Option, Some, None, is_none, Result, Ok, Err, if◌then◌else◌}
use Rattle.std.specs.List.{list_any}
use Rattle.nfs_xdr.specs.{declared.time.Time.Time, declared.status.Status.Status}
use Rattle.nfs_xdr.specs.declared.status.Status.TheVariants.{Delay, Inval, NoEnt, NoGrace, NotSupp, ShareDenied, ServerFault}
use Rattle.nfs_compound.specs.{declared.open_args.Open.Open, declared.open_args.OpenClaim.OpenClaim, declared.open_args.OpenClaim.TheVariants.{Null, Previous, Fh}}
use Rattle.nfs_results.specs.declared.res.OpenOk.{OpenOk}
use Rattle.nfs_results.specs.declared.res.Res.TheVariants as Res
use Rattle.nfs_tree.specs.{Files.{Files, can_change, object_named}, declared.fault.TreeFault.TreeFault}
use Rattle.nfs_tree.specs.Calls.{resize_fault, create_fault, Did, does_unless}
use Rattle.nfs_attrs.specs.{Setting.make_checks, Permissions.{execute, write}}
use Rattle.nfs_opens.specs.{Share.share_of, StateId.last_number, Table.clashes_with, Opening.own_open, Steps.◌>>=◌}
use Rattle.nfs_names.specs.{declared.context.Context.Context, declared.node.Node.Node, declared.making.Making.Making, State.State}
use Rattle.nfs_names.specs.{Outcome.{Outcome, checked, mapped}, Checks.{node_at, current, no_directory, no_access, name_checks}, Create.attributes_in}
use Rattle.nfs_files.specs.{declared.opening.Found.Found, declared.opening.Found.TheVariants.{There, Absent}, Open.{asking, file_of, tree_of, name_of, new_of}}
use Rattle.nfs_files.specs.Open.{makes, there_checks, cuts, room_checks}

-- what is asked for, the directory and the name, and whether a file may be made
abbrev pub argument_checks : Open → Node → List (Bool × Status)
argument_checks o d = (o.share_access % 4 == 0, Inval) ∷ (is_none (share_of o.share_deny), Inval) ∷ []

abbrev pub place_checks : Context → List ℕ → Node → List (Bool × Status)
place_checks x name d = no_directory d ∷ no_access x d execute ∷ name_checks name

abbrev pub absent_checks : Context → Open → Making → List (Bool × Status)
absent_checks x o m = (not (makes o.openhow).creates, NoEnt) ∷ no_access x m.place write ∷ make_checks m.wanted x.who

-- what is to be opened
abbrev pub found_by : State → Context → Open → Making → Option ℕ → Result Found Status
found_by s x o m None = mapped Absent (checked (Ok m) (absent_checks x o))
found_by s x o m (Some n) = mapped (λ f. There m.place.number f (cuts o m.wanted)) (checked (node_at s (Some n)) (there_checks s.tree x o))

abbrev pub by_name : State → Context → Open → List ℕ → Node → Result Found Status
by_name s x o name d = do
  place ← checked (Ok d) (place_checks x name)
  wanted ← attributes_in (makes o.openhow).attributes
  found_by s x o (record { place = place; wanted = wanted }) (object_named s.tree place.number name)

abbrev pub by_handle : Files → Context → Open → Node → Result Found Status
by_handle t x o d = mapped (λ f. There f.number f false) (checked (Ok d) (there_checks t x o))

abbrev pub by_claim : State → Context → Open → OpenClaim → Node → Result Found Status
by_claim s x o (Null name) d = by_name s x o name d
by_claim s x o Fh d = if (makes o.openhow).creates then Err Inval else by_handle s.tree x o d
by_claim s x o (Previous type) d = Err NoGrace
by_claim s x o claim d = Err NotSupp

unfoldable pub asked_for : State → Context → Open → Result Found Status
asked_for s x o = checked (current s x) (argument_checks o) >>= by_claim s x o o.claim

-- what the tree itself refuses
abbrev pub tree_fault : Files → Open → Found → Option TreeFault
tree_fault t o (There place f cut) = if cut then resize_fault t f.number 0 else None
tree_fault t o (Absent m) = create_fault t m.place.number (name_of o.claim) (new_of o m.wanted)

-- a directory that gets a new file can change once more
abbrev pub can_enter : Files → Found → Bool
can_enter t (There place f cut) = true
can_enter t (Absent m) = can_change t m.place.number

-- the number under which its opens are looked for: 0 is no file's
abbrev pub number_of : Found → ℕ
number_of (There place f cut) = f.number
number_of (Absent m) = 0

abbrev pub last_checks : State → Context → Open → Found → List (Bool × Status)
last_checks s x o found =
    (list_any (clashes_with (asking x o (number_of found))) s.opens.opens, ShareDenied)
    ∷ room_checks s.tree found
    ++ (is_none (own_open s.opens (asking x o (number_of found))) && (s.opens.last == last_number), ServerFault)
    ∷ []

abbrev pub entered : Files → Context → Time → Open → Found → Did ℕ
entered t x now o found = does_unless t (tree_fault t o found) (file_of t found) (tree_of t x now o found)

-- It was done, or memory was refused and nothing changed.
abbrev pub OpensOr : Result OpenOk Status → Outcome → State → Context → State → Context → Type 0
OpensOr (Err status) done s x left context = (status ≡ Delay) × (left ≡ s) × (context ≡ x)
OpensOr (Ok ok) done s x left context = record { result = Res.Open ok; state = left; context = context } ≡ done
