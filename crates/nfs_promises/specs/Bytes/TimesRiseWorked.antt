-- Two changes within a second, worked by hand over the calls of `WrittenStaysWorked` (RFC 8881 sections 5.8.2.42, 5.8.2.43 and 18.32), and a wrong time that the promise refuses. To a
-- new server of the profile `unix` comes a client that makes the file `f`, writes to it at second 103, asks for its times, writes to it once more at the same
-- second, and asks again.
use Rattle.std.specs.Prelude.{◌≡◌, ℕ, ◌==◌, pos, List, [], ◌∷◌, ◌++◌, map, if◌then◌else◌}
use Rattle.nfs_xdr.specs.declared.time.Time.{Time}
use Rattle.nfs_compound.specs.declared.op_num.OpNum.TheVariants as Num
use Rattle.nfs_compound.specs.declared.op.Op.{Op}
use Rattle.nfs_results.specs.Results.{done_head}
use Rattle.nfs_tree.specs.{declared.profile.Profile.TheVariants.Unix, declared.stored.Stored.Stored, Files.Files}
use Rattle.nfs_names.specs.declared.start.Start.{Start}
use Rattle.nfs_exec.specs.Runs.Ops.{RanOp}
use Rattle.nfs_serve.specs.{Step.ServerState}
use Rattle.nfs_promises.specs.{Network.Endpoint.Arrival, Runs.{Requests.{words, in_session}, Started.usual, Points.{state_after, reached, ops_of}}}
use Rattle.nfs_promises.specs.Locks.LockKeptWorked.{came, earlier, last_of}
use Rattle.nfs_promises.specs.Bytes.{WrittenStaysWorked.{makes, writes}, ChangeTells.{RunsIn, GetsOf}, TimesRise.{TimesOf, many, IsChange, both_times}}
use Rattle.nfs_promises.specs.Network.SeenWrite as seen

abbrev pub in_unix : Start
in_unix = record usual { profile = Unix }

-- the file was made by the first change of the tree
abbrev pub made_in_unix : ServerState
made_in_unix = state_after (reached in_unix earlier) makes

-- PUTROOTFH, LOOKUP of `f`, and GETATTR of both times, at the second of the WRITE
abbrev pub asks : (xid number : ℕ) → Arrival
asks xid number = came 103 xid (in_session 1 number (Op.PutRootFh ∷ Op.Lookup (0x66 ∷ []) ∷ Op.GetAttr both_times ∷ []))

-- the WRITE once more, as another request
abbrev pub writes_again : Arrival
writes_again = came 103 6 (in_session 1 4 seen.writes)

abbrev pub written : ServerState
written = state_after made_in_unix writes

abbrev pub asked : ServerState
asked = state_after written (asks 5 3)

abbrev pub written_again : ServerState
written_again = state_after asked writes_again

-- the times that a GETATTR gives: second 103, and a change's number
abbrev pub times : ℕ → List ℕ
times number = done_head Num.GetAttr ++ words (2 ∷ 0 ∷ 0x0030_0000 ∷ 24 ∷ 0 ∷ 103 ∷ number ∷ 0 ∷ 103 ∷ number ∷ [])

-- The run meets the premises of the promise, and computes to what it says.
pub record TimesAreTwo : Type 0 where
  -- both WRITEs are the last operations of their compounds, and change the file
  pub front : List RanOp
  pub write : RanOp
  pub ops : ops_of made_in_unix writes ≡ front ++ write ∷ []
  pub again : RanOp
  pub late : RunsIn written (asks 5 3 ∷ writes_again ∷ []) again
  pub first : IsChange 2 write
  pub second : IsChange 2 again
  -- six operations ran behind the first
  pub between : many written (asks 5 3 ∷ writes_again ∷ []) ≡ 6
  -- the WRITEs are the second and the third change of the tree
  pub told : (d : RanOp) → (last_of d (ops_of written (asks 5 3))).result ≡ times 2
  pub later : (d : RanOp) → (last_of d (ops_of written_again (asks 7 5))).result ≡ times 3
  pub gets : (d : RanOp) → GetsOf 2 both_times (last_of d (ops_of written_again (asks 7 5)))

-- the tree where an object has other times
abbrev pub with_times : ℕ → Time → Time → Files → Files
with_times n metadata modify t = record t {
  objects = map (λ (s : Stored). if s.number == n then record s { object = record s.object { metadata = metadata; modify = modify } } else s) t.objects;
}

-- the second WRITE, if it leaves these times
abbrev pub leaving : Time → Time → RanOp → RanOp
leaving metadata modify d =
    record d { behind = record d.behind { store = record d.behind.store { tree = with_times 2 metadata modify d.behind.store.tree } } }

-- second 103, and so many nanoseconds
abbrev pub at : ℕ → Time
at nanoseconds = record { seconds = pos 103; nanoseconds = nanoseconds }

-- The promise refuses a second WRITE that leaves
pub record TimesAreRefused : Type 0 where
  -- the times of the first
  pub same : (d e : RanOp) → TimesOf 6 2 2 (last_of d (ops_of made_in_unix writes)) (leaving (at 2) (at 2) (last_of e (ops_of asked writes_again))) → ⊥
  -- whole seconds
  pub whole : (d e : RanOp) → TimesOf 6 2 2 (last_of d (ops_of made_in_unix writes)) (leaving (at 0) (at 0) (last_of e (ops_of asked writes_again))) → ⊥
  -- the time of the bytes as it was
  pub modify : (d e : RanOp) → TimesOf 6 2 2 (last_of d (ops_of made_in_unix writes)) (leaving (at 3) (at 2) (last_of e (ops_of asked writes_again))) → ⊥
