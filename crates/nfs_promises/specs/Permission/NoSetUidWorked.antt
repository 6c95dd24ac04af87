-- A program that another user writes, worked by hand over the calls of `WrittenStaysWorked` (POSIX, write; RFC 8881 sections 6.2.4 and 18.32), and the wrong answers that the promise refuses.
-- To a new server of the profile `unix` comes a client that makes the file `f`. Its owner gives it the set-user-ID bit, and lets everybody write it. User 9 writes it, and then it has the
-- mode without the bit.
use Rattle.std.specs.Prelude.{◌≡◌, ℕ, ◌==◌, List, [], ◌∷◌, ◌++◌, Some, map, if◌then◌else◌}
use Rattle.nfs_compound.specs.declared.op_num.OpNum.TheVariants as Num
use Rattle.nfs_compound.specs.declared.op.Op.{Op}
use Rattle.nfs_results.specs.Results.{done_head}
use Rattle.nfs_tree.specs.{declared.stored.Stored.Stored, Files.Files}
use Rattle.nfs_exec.specs.{Runs.Kept.AreSpared, Runs.Ops.RanOp}
use Rattle.nfs_serve.specs.{Step.ServerState}
use Rattle.nfs_promises.specs.{Network.Endpoint.Arrival, Runs.{Requests.{words, in_session}, Points.{state_after, ops_of}}, Locks.LockKeptWorked.{came, last_of}}
use Rattle.nfs_promises.specs.Permission.{Permitted.rights_at, PermittedWorked.{sets, with_mode}, NoSetUid.{IsWrittenByOther, IsWithout, without_bit}}
use Rattle.nfs_promises.specs.Bytes.TimesRiseWorked.{made_in_unix}
use Rattle.nfs_promises.specs.Network.SeenWrite as seen

-- a call of COMPOUND under AUTH_SYS: stamp 3, a machine with no name, uid 9, gid 9, no other group
abbrev pub came_from_other : (now xid : ℕ) → List ℕ → Arrival
came_from_other now xid args = record (came now xid []) {
  bytes = words (xid ∷ 0 ∷ 2 ∷ 100003 ∷ 4 ∷ 1 ∷ 1 ∷ 20 ∷ 3 ∷ 0 ∷ 9 ∷ 9 ∷ 0 ∷ 0 ∷ 0 ∷ []) ++ args;
}

-- the mode rwsr-xrwx, 04757
abbrev pub gives_bit : Arrival
gives_bit = sets 4 2 2543

abbrev pub other_writes : Arrival
other_writes = came_from_other 105 5 (in_session 1 3 seen.writes)

-- PUTROOTFH, LOOKUP of `f`, and GETATTR of the mode
abbrev pub asks_mode : Arrival
asks_mode = came 106 6 (in_session 1 4 (Op.PutRootFh ∷ Op.Lookup (0x66 ∷ []) ∷ Op.GetAttr (0 ∷ 2 ∷ []) ∷ []))

abbrev pub given : ServerState
given = state_after made_in_unix gives_bit

abbrev pub written : ServerState
written = state_after given other_writes

-- The run meets the premises of the promise, and computes to what it says.
pub record IsCleared : Type 0 where
  -- the WRITE is the last operation of its compound
  pub front : List RanOp
  pub write : RanOp
  pub ops : ops_of given other_writes ≡ front ++ write ∷ []
  pub other : IsWrittenByOther 2 write
  -- the mode before it is 04757, and behind it 0757
  pub before : rights_at write.before.store.tree 2 ≡ Some (with_mode 2543)
  pub behind : rights_at write.behind.store.tree 2 ≡ Some (with_mode 495)
  -- nothing gives the bit until GETATTR asks, which tells 0757
  pub spared : AreSpared (without_bit 2) (ops_of written asks_mode)
  pub told : (d : RanOp) → (last_of d (ops_of written asks_mode)).result ≡ done_head Num.GetAttr ++ words (2 ∷ 0 ∷ 2 ∷ 4 ∷ 495 ∷ [])

-- the tree where an object has another mode
abbrev pub with_mode_in : (n mode : ℕ) → Files → Files
with_mode_in n mode t = record t {
  objects = map (λ (s : Stored). if s.number == n then record s { object = record s.object { mode = mode } } else s) t.objects;
}

-- The promise refuses these.
pub record ModesAreRefused : Type 0 where
  -- the WRITE leaves the mode as it was
  pub left : (d : RanOp) → IsWithout 2 (with_mode_in 2 2543 (last_of d (ops_of given other_writes)).behind.store.tree) → ⊥
  -- the WRITE clears all but the bit
  pub only : (d : RanOp) → IsWithout 2 (with_mode_in 2 2048 (last_of d (ops_of given other_writes)).behind.store.tree) → ⊥
  -- the bit is there again when GETATTR asks
  pub again : (d : RanOp) → IsWithout 2 (with_mode_in 2 2543 (last_of d (ops_of written asks_mode)).before.store.tree) → ⊥
