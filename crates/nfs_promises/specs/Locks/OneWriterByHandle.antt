-- Only one writer is told by filehandle: of two LOCKs under one filehandle that clash on a byte the second comes behind an end of the first (RFC 8881 sections 9.1, 18.10 and
-- 18.19).
use Rattle.std.specs.Prelude.{◌≡◌, ◌≢◌, ℕ, ◌+◌, ◌<◌, ◌≤◌, ◌^◌, true, List, [], ◌∷◌, ◌++◌, Some}
use Rattle.nfs_ranges.specs.Told.{meets}
use Rattle.nfs_opens.specs.declared.locking.Wish.{Wish}
use Rattle.nfs_names.specs.declared.start.Start.{Start}
use Rattle.nfs_files.specs.LockTold.{LockTold}
use Rattle.nfs_exec.specs.Runs.{LockHeld.{LocksFor, AreSpared, Tells}, Ops.RanOp}
use Rattle.nfs_serve.specs.Step.{new_state}
use Rattle.nfs_promises.specs.{Runs.Points.{state_after, reached, taken, ops_of}, Network.Endpoint.Arrival, Bytes.HandleBytes.names_behind}
use Rattle.nfs_promises.specs.{Names.KnownHandles.{starts, known_after_all, root_of}, Locks.LockKept.AreInTime}

-- a wish of another lock state for a byte of the lock's range, where one of the two is Write
pub record Overlaps (k : LockTold) (n : ℕ) (w : Wish) : Type 0 where
  pub other : n ≢ k.state
  pub before : w.first ≤ k.last
  pub behind : k.first ≤ w.last
  pub kinds : meets w.kind (Some k.kind) ≡ true

-- behind these records of a new server the filehandle is known to be current behind these operations
abbrev pub IsKnownAt : (start : Start) → List Arrival → List RanOp → List ℕ → Type 0
IsKnownAt start records front h =
    (known_after_all (root_of start.instance) (starts (names_behind (root_of start.instance) [] (new_state start) records)) front).current ≡ Some h

-- `OnlyOneIsTold` of two LOCKs under one filehandle, whatever file it is
abbrev pub OnlyOneByHandle : Type 0
OnlyOneByHandle = (start : Start) → start.instance < 2 ^ 32
    → (earlier : List Arrival) (c : Arrival) (k : LockTold) (front : List RanOp) (first : RanOp) (back : List RanOp)
    (between : List Arrival) (d : Arrival) (until : List RanOp) (second : RanOp) (behind : List RanOp) (n : ℕ) (w : Wish) (h : List ℕ)
    → (let s = reached start earlier in
    ops_of s c ≡ front ++ first ∷ back → IsKnownAt start earlier front h → Tells k first → AreSpared k back
    → AreInTime k start.lease (taken s c) (state_after s c) between
    (λ last t. (ops_of t d ≡ until ++ second ∷ behind) × (taken t d ≤ last + start.lease) × AreSpared k until)
    → IsKnownAt start (earlier ++ c ∷ between) until h → LocksFor second n w → Overlaps k n w → ⊥)
