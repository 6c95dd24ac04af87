-- The bytes that LOCK, LOCKT and LOCKU are for, and how they are to be locked (RFC 8881 sections 18.10.3, 18.11.3 and 18.12.3).
use Rattle.std.specs.Prelude.{ℕ, ◌+◌, ◌-◌, ◌==◌, not, ◌&&◌, [], ◌∷◌, nat_lt, Result, Ok, if◌then◌else◌}
use Rattle.nfs_xdr.specs.{declared.status.Status.Status, declared.status.Status.TheVariants.Inval}
use Rattle.nfs_compound.specs.declared.lock_args.LockType.{LockType}
use Rattle.nfs_compound.specs.declared.lock_args.LockType.TheVariants as LockTypes
use Rattle.nfs_ranges.specs.declared.Kind.{Kind}
use Rattle.nfs_ranges.specs.declared.Kind.TheVariants as Kinds
use Rattle.nfs_opens.specs.{declared.locking.Wish.Wish, Steps.{in_order, ◌>>=◌, ◌>>◌}}
use Rattle.nfs_names.specs.{declared.context.Context.Context, State.State}
use Rattle.nfs_files.specs.Target.{the_file}

-- the last byte that there can be; as a length, up to that byte
abbrev pub all_ones : ℕ
all_ones = 0xffff_ffff_ffff_ffff

-- the last byte of a range
unfoldable pub range : ℕ → ℕ → Result ℕ Status
range offset size = do
  in_order ((size == 0, Inval) ∷ (not (size == all_ones) && nat_lt all_ones (offset + size), Inval) ∷ [])
  Ok (if size == all_ones then all_ones else offset + size - 1)

-- a client that would wait is answered at once like one that would not
abbrev pub kind_of : LockType → Kind
kind_of LockTypes.Read = Kinds.Read
kind_of LockTypes.Write = Kinds.Write
kind_of LockTypes.ReadW = Kinds.Read
kind_of LockTypes.WriteW = Kinds.Write

-- the file is looked at before the range
unfoldable pub wished : State → Context → LockType → (offset size : ℕ) → Result Wish Status
wished s x how offset size = do
  d ← the_file s x
  last ← range offset size
  Ok (record { client = x.client; file = d.number; kind = kind_of how; first = offset; last = last })
