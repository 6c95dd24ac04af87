-- Whether bytes of a file may be read or changed by a stateid (RFC 8881 sections 8.2.3, 9.1.2 and 9.7).
use Rattle.std.specs.Prelude.{◌&&◌, Bool, true, false, not, List, [], ◌∷◌, Some, Result, Ok}
use Rattle.nfs_xdr.specs.{declared.status.Status.Status, declared.status.Status.TheVariants.{IsDir, Symlink, Access, Locked, OpenMode}}
use Rattle.nfs_compound.specs.declared.stateid.Stateid.{Stateid}
use Rattle.nfs_tree.specs.{Object.{is_directory, is_link, no_sets}, declared.sets.Sets.Sets, Files.Files}
use Rattle.nfs_opens.specs.{declared.stateid.CurrentSeqid.TheVariants.Any, declared.judging.Seat.Seat}
use Rattle.nfs_opens.specs.{declared.judging.Seat.TheVariants.{Anonymous, ReadBypass, Open, Lock}, declared.judging.Sort.TheVariants.Either}
use Rattle.nfs_opens.specs.{declared.share.Share.Share, Share.{meets, is_part}, Judging.judge, Table.denials, Steps.{in_order, ◌>>=◌, ◌>>◌}}
use Rattle.nfs_attrs.specs.{declared.permission.Want.Want, SetId.mode_behind, Permissions.may_use_bytes}
use Rattle.nfs_names.specs.{declared.context.Context.Context, declared.node.Node.Node, State.State}
use Rattle.nfs_files.specs.StateIds.{meant}

-- a file alone has bytes
abbrev pub file_checks : Node → List (Bool × Status)
file_checks d = (is_directory d.object.kind, IsDir) ∷ (is_link d.object.kind, Symlink) ∷ []

-- the state by which the bytes of a file are to be read or changed
unfoldable pub seat : State → Context → Stateid → Node → Result Seat Status
seat s x given d = meant x Any given >>= λ id. judge s.opens id x.client (Some d.number) Either

-- reading, or changing
abbrev pub reading : Share
reading = record { reads = true; writes = false }

abbrev pub writing : Share
writing = record { reads = false; writes = true }

-- the permission bits that an access wants
abbrev pub want_of : Share → Want
want_of access = record { read = access.reads; write = access.writes; execute = false }

-- whether the permission bits let the caller use a file's bytes so, by the profile
unfoldable pub lets_use : Files → Context → Node → Share → Bool
lets_use t x d access = may_use_bytes t.profile d.object x.who (want_of access)

abbrev pub no_use : Files → Context → Node → Share → Bool × Status
no_use t x d access = (not (lets_use t x d access), Access)

-- what a change of a file's bytes sets beside them
abbrev pub behind_sets : Files → Context → Node → Sets
behind_sets t x d = record no_sets { mode = mode_behind t.profile d.object.mode x.who }

-- By an open or a lock state the open's access decides. By a special stateid the share reservations of all opens do, which the one
-- that bypasses them passes for reading alone, and then the permission bits.
abbrev pub seat_checks : State → Context → Share → Node → Seat → List (Bool × Status)
seat_checks s x wanted d Anonymous = (meets wanted (denials s.opens d.number), Locked) ∷ no_use s.tree x d wanted ∷ []
seat_checks s x wanted d ReadBypass = (wanted.writes && (denials s.opens d.number).writes, Locked) ∷ no_use s.tree x d wanted ∷ []
seat_checks s x wanted d (Open number access) = (not (is_part wanted access), OpenMode) ∷ []
seat_checks s x wanted d (Lock number access) = (not (is_part wanted access), OpenMode) ∷ []

-- the state by which the bytes may be read or changed
unfoldable pub may_use : State → Context → Share → Stateid → Node → Result Seat Status
may_use s x wanted given d = do
  k ← seat s x given d
  in_order (seat_checks s x wanted d k)
  Ok k
