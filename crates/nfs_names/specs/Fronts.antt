-- What the code finds for an operation before it does anything: the first steps of the operation, by themselves.
use Rattle.std.specs.Prelude.{ℕ, ◌==◌, List, [], ◌∷◌, Result, Ok, is_some, not, ok_or}
use Rattle.nfs_xdr.specs.declared.status.Status.{Status}
use Rattle.nfs_xdr.specs.declared.status.Status.TheVariants.{IsDir, Symlink, Inval, Stale, NoFileHandle, NoEnt, BadHandle, WrongType}
use Rattle.nfs_compound.specs.{declared.name_args.Create.Create, declared.name_args.ReadDir.ReadDir, declared.name_args.Rename.Rename}
use Rattle.nfs_compound.specs.declared.name_args.SecinfoStyle.{SecinfoStyle}
use Rattle.nfs_tree.specs.{Object.{is_directory, is_link}, Files.{size_at, object_named, object_at, parent_in}, declared.stored.Size.Size}
use Rattle.nfs_attrs.specs.{declared.handle.Handle.Handle, Handle.handle_of, Mask.{mask_of, asks_set_only}, Permissions.{change_entries, execute}}
use Rattle.nfs_attrs.specs.Setting.{make_checks}
use Rattle.nfs_opens.specs.Steps.{◌>>=◌, ◌>>◌, in_order, require}
use Rattle.nfs_names.specs.{declared.context.Context.Context, declared.context.Saved.Saved, declared.making.Making.Making, declared.node.Node.Node}
use Rattle.nfs_names.specs.{declared.node.Pair.Pair, State.State, Checks.{current, both, no_directory, no_access, name_checks}}
use Rattle.nfs_names.specs.{Create.{attributes_in, place_checks}, ReadDir.listing_checks, SecinfoNoName.style_checks}
use Rattle.nfs_names.specs.Rename as of_rename

-- the directory in which CREATE makes an object
abbrev pub placing : State → Context → Create → Result Node Status
placing s x c = do
  place ← current s x
  in_order (place_checks x c place)
  Ok place

-- .. and with which attributes
abbrev pub creating : State → Context → Create → Result Making Status
creating s x c = do
  place ← current s x
  in_order (place_checks x c place)
  wanted ← attributes_in c.createattrs
  in_order (make_checks wanted x.who)
  require (not (is_some wanted.size)) Inval
  Ok (record { place = place; wanted = wanted })

-- the directory and the object of LINK
abbrev pub linking : State → Context → List ℕ → Result Pair Status
linking s x name = do
  p ← both s x
  in_order (no_directory p.current ∷ (is_directory p.saved.object.kind, IsDir) ∷ no_access x p.current change_entries ∷ name_checks name)
  Ok p

-- the directory of REMOVE
abbrev pub removing : State → Context → List ℕ → Result Node Status
removing s x name = do
  d ← current s x
  in_order (no_directory d ∷ no_access x d change_entries ∷ name_checks name)
  Ok d

-- the directories of RENAME
abbrev pub renaming : State → Context → Rename → Result Pair Status
renaming s x a = do
  p ← both s x
  in_order (of_rename.place_checks x a p)
  Ok p

-- the object that LOOKUP finds
abbrev pub looking_up : State → Context → List ℕ → Result ℕ Status
looking_up s x name = do
  d ← current s x
  in_order ((is_link d.object.kind, Symlink) ∷ no_directory d ∷ no_access x d execute ∷ name_checks name)
  ok_or (object_named s.tree d.number name) NoEnt

-- the directory that LOOKUPP finds
abbrev pub looking_above : State → Context → Result ℕ Status
looking_above s x = do
  d ← current s x
  in_order (no_directory d ∷ no_access x d execute ∷ [])
  ok_or (parent_in s.tree.rows d.number) NoEnt

-- the filehandle of PUTFH
abbrev pub putting_fh : State → List ℕ → Result Handle Status
putting_fh s object = do
  h ← ok_or (handle_of object) BadHandle
  in_order ((not (h.instance == s.opens.instance), Stale) ∷ (not (is_some (object_at s.tree h.number)), Stale) ∷ [])
  Ok h

-- what RESTOREFH restores
abbrev pub restoring_fh : State → Context → Result Saved Status
restoring_fh s x = do
  saved ← ok_or x.saved NoFileHandle
  require (is_some (object_at s.tree saved.object)) Stale
  Ok saved

-- the object of SECINFO_NO_NAME
abbrev pub asking_flavors : State → Context → SecinfoStyle → Result Node Status
asking_flavors s x style = do
  d ← current s x
  in_order (style_checks s style d)
  Ok d

-- the link of READLINK
abbrev pub reading_link : State → Context → Result Node Status
reading_link s x = do
  d ← current s x
  require (is_link d.object.kind) WrongType
  Ok d

-- the directory of READDIR
abbrev pub reading_dir : State → Context → ReadDir → Result Node Status
reading_dir s x a = do
  d ← current s x
  in_order (listing_checks x a d)
  Ok d

-- an object, and how many bytes and pages it has
abbrev pub sized : State → Result Node Status → Result (Node × Size) Status
sized s found = do
  d ← found
  Ok (d, size_at s.tree d.number)

-- the object of GETATTR
abbrev pub getting_attr : State → Context → List ℕ → Result Node Status
getting_attr s x words = do
  d ← current s x
  require (not (asks_set_only (mask_of words))) Inval
  Ok d
