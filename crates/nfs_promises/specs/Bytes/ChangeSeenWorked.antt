-- A change that is seen, worked by hand over the run of `WrittenStaysWorked`, and wrong reports that the promises refuse (RFC 8881 sections 5.8.1.4, 18.16 and 18.32). OPEN
-- makes the file `f` in the root, and reports the root's change; then the file is written, and its change rises.
use Rattle.std.specs.Prelude.{◌≡◌, ◌<◌, true, false, List, [], ◌∷◌, ◌++◌}
use Rattle.nfs_results.specs.{declared.res.OpenOk.OpenOk, Results.spell_result}
use Rattle.nfs_results.specs.declared.res.Res.TheVariants as Res
use Rattle.nfs_tree.specs.Files.{root, is_there, change_of}
use Rattle.nfs_exec.specs.Runs.Ops.{RanOp}
use Rattle.nfs_promises.specs.{Runs.Points.ops_of, Locks.LockKeptWorked.{outset, last_of}, Bytes.WrittenStaysWorked.{makes, made, writes}}
use Rattle.nfs_promises.specs.Bytes.{ChangeTellsWorked.{with_change, unwritten, written}, ChangeSeen.{IsTheirs, Changes}}

-- The run meets the premises of the promises, and computes to what they say.
pub record IsSeen : Type 0 where
  -- OPEN and WRITE are the last operations of their compounds
  pub front : List RanOp
  pub opening : RanOp
  pub ops : ops_of outset makes ≡ front ++ opening ∷ []
  pub ok : OpenOk
  pub answers : opening.result ≡ spell_result (Res.Open ok)
  pub theirs : IsTheirs root opening ok.cinfo
  -- the root's change was 1, and is 2
  pub before : ok.cinfo.before ≡ 1
  pub after : ok.cinfo.after ≡ 2
  pub until : List RanOp
  pub write : RanOp
  pub last : ops_of made writes ≡ until ++ write ∷ []
  pub there : is_there write.before.store.tree 2 ≡ true
  pub changes : Changes 2 write
  pub raised : change_of write.before.store.tree 2 < change_of write.behind.store.tree 2

-- The promises refuse these.
pub record ReportsAreRefused : Type 0 where
  -- an OPEN that makes a file and reports the change that the directory had before
  pub old : (d : RanOp) → IsTheirs root (last_of d (ops_of outset makes)) (record { atomic = true; before = 1; after = 1 }) → ⊥
  -- one that reports that something came between
  pub between : (d : RanOp) → IsTheirs root (last_of d (ops_of outset makes)) (record { atomic = false; before = 1; after = 2 }) → ⊥
  -- a WRITE that keeps the change
  pub kept : (d : RanOp) → change_of (unwritten d) 2 < change_of (with_change 2 (change_of (unwritten d) 2) (written d)) 2 → ⊥
