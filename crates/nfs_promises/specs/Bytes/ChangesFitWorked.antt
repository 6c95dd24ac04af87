-- Wrong changes at 2^64 that the promise refuses, worked by hand over the runs of `WrittenStaysWorked` and `ChangeTellsWorked` (RFC 8881 sections 5.8.1.4 and 18.32).
use Rattle.std.specs.Prelude.{◌≡◌, ℕ, ◌+◌, ◌-◌, ◌^◌, ◌<◌, false}
use Rattle.nfs_xdr.specs.Spelling.{hyper}
use Rattle.nfs_tree.specs.Files.{change_of}
use Rattle.nfs_attrs.specs.Mask.{mask_of}
use Rattle.nfs_names.specs.Outcome.{is_ok}
use Rattle.nfs_promises.specs.Runs.AttributesTold.{TellsValue}
use Rattle.nfs_exec.specs.{Runs.Ops.RanOp}
use Rattle.nfs_promises.specs.Bytes.{ChangeSeen.Changes, ChangeTells.GetsOf, ChangeTellsWorked.with_change, EntriesAlikeWorked.{asked_for, attributes, getting}}
use Rattle.nfs_promises.specs.{Bytes.WrittenStaysWorked.{made, writes}, Locks.LockKeptWorked.last_of, Runs.Points.ops_of}

-- the operation in a tree where the file has another change
abbrev pub at_change : ℕ → RanOp → RanOp
at_change change d = record d { before = record d.before { store = record d.before.store { tree = with_change 2 change d.before.store.tree } } }

-- the GETATTR of a file whose change is 2^64 + 1, answered NFS4_OK and change 1; and the WRITE to a file that has the last change, answered NFS4_OK
abbrev pub cut : RanOp → RanOp
cut d = at_change (2 ^ 64 + 1) (getting d (attributes 1 8 420 1))

abbrev pub write : RanOp → RanOp
write d = at_change (2 ^ 64 - 1) (last_of d (ops_of made writes))

pub record ChangesAtLast : Type 0 where
  -- what is given are the low eight bytes of the change, as `change_is_told` has it; and they are another number
  pub told : (d : RanOp) → GetsOf 2 asked_for (cut d) × TellsValue (cut d).before.store.tree.profile 3 (hyper (change_of (cut d).before.store.tree 2)) (mask_of asked_for) (cut d).result
  pub read : (d : RanOp) → TellsValue (cut d).before.store.tree.profile 3 (hyper 1) (mask_of asked_for) (cut d).result × (1 ≡ change_of (cut d).before.store.tree 2 → ⊥)
  pub large : (d : RanOp) → change_of (cut d).before.store.tree 2 < 2 ^ 64 → ⊥
  -- the WRITE changes the file
  pub last : (d : RanOp) → (change_of (write d).before.store.tree 2 ≡ 2 ^ 64 - 1) × Changes 2 (write d) × (is_ok (write d).status ≡ false → ⊥)
