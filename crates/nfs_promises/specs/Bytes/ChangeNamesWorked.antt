-- A name that is looked up twice, worked by hand over the run of `ChangeTellsWorked`, and wrong answers that the promise refuses (RFC 8881 section 18.13). The file `f` is
-- looked up in the root, and once more by a later compound; the root's change is the same.
use Rattle.std.specs.Prelude.{◌≡◌, ℕ, true, List, [], ◌∷◌, ◌++◌, take, Some}
use Rattle.nfs_xdr.specs.declared.status.Status.TheVariants.{Nfs4Ok, NoEnt}
use Rattle.nfs_tree.specs.Files.{root, is_there, change_of, object_named}
use Rattle.nfs_exec.specs.Runs.Ops.{RanOp}
use Rattle.nfs_promises.specs.{Runs.Points.ops_of, Locks.LockKeptWorked.last_of, Bytes.{WrittenStaysWorked.{closed, reads}, ChangeTellsWorked.reads_again}}
use Rattle.nfs_promises.specs.Bytes.{ChangeTellsWorked.read_once, ChangeTells.RunsIn, ChangeNames.{LooksUp, AreNamed}}

-- `f`
abbrev pub name : List ℕ
name = 0x66 ∷ []

-- LOOKUP is the second operation of its compound; what stands in front of it is of no account
abbrev pub lookup_in : RanOp → List RanOp → RanOp
lookup_in d ds = last_of d (take 2 ds)

-- The run meets the premises of the promise, and computes to what it says.
pub record IsFoundAgain : Type 0 where
  pub front : List RanOp
  pub first : RanOp
  pub back : List RanOp
  pub ops : ops_of closed reads ≡ front ++ first ∷ back
  pub again : RanOp
  pub late : RunsIn read_once (reads_again ∷ []) again
  pub there : is_there first.before.store.tree root ≡ true
  pub still : is_there again.before.store.tree root ≡ true
  pub same : change_of again.before.store.tree root ≡ change_of first.before.store.tree root
  pub finds : LooksUp root name Nfs4Ok first
  pub also : LooksUp root name Nfs4Ok again
  pub leads : object_named again.before.store.tree root name ≡ Some 2

-- The promise refuses these.
pub record FindingsAreRefused : Type 0 where
  -- the second LOOKUP is answered NFS4ERR_NOENT
  pub lost : (d : RanOp) → AreNamed root (lookup_in d (ops_of closed reads)) (record (lookup_in d (ops_of read_once reads_again)) { status = NoEnt }) → ⊥
  -- the first one was, and the second finds the name
  pub sudden : (d : RanOp) → AreNamed root (record (lookup_in d (ops_of closed reads)) { status = NoEnt }) (lookup_in d (ops_of read_once reads_again)) → ⊥
