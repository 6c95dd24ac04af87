-- RECLAIM_COMPLETE (RFC 8881 section 18.51): a client has nothing, or nothing more, to reclaim.
use Rattle.std.specs.Prelude.{Bool, Ok, if◌then◌else◌}
use Rattle.nfs_xdr.specs.declared.status.Status.TheVariants.{CompleteAlready}
use Rattle.nfs_compound.specs.declared.op_num.OpNum.TheVariants as Num
use Rattle.nfs_compound.specs.OpNum.{op_number}
use Rattle.nfs_results.specs.declared.res.Res.TheVariants as Res
use Rattle.nfs_clients.specs.Marks.{has_reclaimed, with_reclaimed}
use Rattle.nfs_names.specs.{declared.context.Context.Context, Checks.current}
use Rattle.nfs_opens.specs.Steps.{◌>>◌}
use Rattle.nfs_exec.specs.Step.Machine.{Machine, MachineOutcome, with_result, with_refusal, or_refused}

-- Of the current filehandle's file system: the client's mark is neither looked at nor set. Of all file systems: once.
abbrev pub reclaim_complete : Machine → Context → (one : Bool) → MachineOutcome
reclaim_complete m x one =
    if one then or_refused (with_refusal m (op_number Num.ReclaimComplete)) (current m.store x >> Ok (with_result m Res.ReclaimComplete))
    else if has_reclaimed m.clients x.client then with_refusal m (op_number Num.ReclaimComplete) CompleteAlready
    else with_result (record m { clients = with_reclaimed m.clients x.client }) Res.ReclaimComplete
