-- The operations on open files, one line each, and what want of memory makes of them. The others are none of these.
use Rattle.std.specs.Prelude.{Bool, true, false, Option, Some, None}
use Rattle.nfs_xdr.specs.declared.time.Time.{Time}
use Rattle.nfs_compound.specs.{declared.op.Op.Op, declared.op.Item.Item}
use Rattle.nfs_tree.specs.Bytes.{has_bytes}
use Rattle.nfs_names.specs.{declared.context.Context.Context, State.State, Outcome.{Outcome, by_table}}
use Rattle.nfs_files.specs.{Close.close, Commit.commit, FreeStateid.free_stateid, Lock.lock, LockT.lock_t, LockU.{lock_u, wants_memory}, Open.open_file}
use Rattle.nfs_files.specs.{OpenDowngrade.open_downgrade, Read.read, SetAttr.set_attr, TestStateid.test_stateid, Write.write}

-- what an operation comes to, at a moment
abbrev pub one : State → Context → Time → Op → Option Outcome
one s x now (Op.Close a) = Some (close s x a)
one s x now (Op.Commit a) = Some (commit s x)
one s x now (Op.FreeStateid given) = Some (free_stateid s x given)
one s x now (Op.Lock a) = Some (lock s x a)
one s x now (Op.LockT a) = Some (lock_t s x a)
one s x now (Op.LockU a) = Some (lock_u s x a)
one s x now (Op.Open a) = Some (open_file s x now a)
one s x now (Op.OpenDowngrade a) = Some (open_downgrade s x a)
one s x now (Op.Read a) = Some (read s x a)
one s x now (Op.SetAttr a) = Some (set_attr s x now a)
one s x now (Op.TestStateid given) = Some (test_stateid s x given)
one s x now (Op.Write a) = Some (write s x now a)
one s x now op = None

-- the operations that may want memory
abbrev pub grows : State → Context → Op → Bool
grows s x (Op.Lock a) = true
grows s x (Op.LockU a) = wants_memory a
grows s x (Op.Open a) = true
grows s x (Op.Write a) = has_bytes a.bytes
grows s x op = false

-- what stands at a place of a compound comes to, where memory was refused or not
abbrev pub comes_to : Bool → State → Context → Time → Item → Option Outcome
comes_to refused s x now i = by_table grows one refused s x now i
