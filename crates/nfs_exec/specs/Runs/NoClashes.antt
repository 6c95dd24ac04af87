-- A law of locks and opens in whole runs (RFC 8881 sections 9.1 and 9.7): in every machine that events reach, and before and behind
-- each operation that a compound runs.
use Rattle.std.specs.Prelude.{List}
use Rattle.nfs_xdr.specs.Tables.{In}
use Rattle.nfs_names.specs.{declared.start.Start.Start}
use Rattle.nfs_exec.specs.{Step.Machine.{Machine, starts, HasNoClashes}, Step.Laws.{MachineEvent, all_stepped}, Runs.Ops.{RanOp, ops_by}}

-- No byte has a writer beside another holder, and no two opens of different owners clash.
pub record HasNone (m : Machine) (e : MachineEvent) : Type 0 where
  pub here : HasNoClashes m
  pub within : (d : RanOp) → In d (ops_by m e) → HasNoClashes d.before
  pub behind : (d : RanOp) → In d (ops_by m e) → HasNoClashes d.behind

abbrev pub NoneInRuns : Type 0
NoneInRuns = (start : Start) (events : List MachineEvent) (e : MachineEvent) → HasNone (all_stepped (starts start) events) e
