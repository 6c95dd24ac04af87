-- TEST_STATEID (RFC 8881 section 18.48): of each stateid whether it names a state of the client now.
use Rattle.std.specs.Prelude.{ℕ, List, map, None, Result, Ok, Err, if◌then◌else◌}
use Rattle.nfs_xdr.specs.{Status.status_number, declared.status.Status.Status, declared.status.Status.TheVariants.{Nfs4Ok, BadStateId}}
use Rattle.nfs_compound.specs.declared.stateid.Stateid.{Stateid}
use Rattle.nfs_results.specs.declared.res.Res.TheVariants as Res
use Rattle.nfs_opens.specs.{declared.stateid.StateId.StateId, declared.judging.Seat.Seat, declared.judging.Seat.TheVariants.{Anonymous, ReadBypass, Open, Lock}}
use Rattle.nfs_opens.specs.{declared.judging.Sort.TheVariants.Either, StateId.is_current, Judging.judge}
use Rattle.nfs_names.specs.{declared.context.Context.Context, State.State, Outcome.{Outcome, done}}
use Rattle.nfs_files.specs.StateIds.{state_id}

-- special stateids name no state
abbrev pub seat_status : Result Seat Status → Status
seat_status (Err status) = status
seat_status (Ok Anonymous) = BadStateId
seat_status (Ok ReadBypass) = BadStateId
seat_status (Ok (Open number access)) = Nfs4Ok
seat_status (Ok (Lock number access)) = Nfs4Ok

-- nor does the one that stands for the current stateid elsewhere
abbrev pub tested : State → Context → StateId → Status
tested s x id = if is_current id then BadStateId else seat_status (judge s.opens id x.client None Either)

unfoldable pub code : State → Context → Stateid → ℕ
code s x given = status_number (tested s x (state_id given))

unfoldable pub test_stateid : State → Context → List Stateid → Outcome
test_stateid s x given = done s x (Res.TestStateid (map (code s x) given))
