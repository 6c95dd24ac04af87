-- Stateids on the wire, and which state one stands for (RFC 8881 sections 8.2.2 and 8.2.3).
use Rattle.std.specs.{Prelude.{◌++◌, take, drop, Result}, Int.{w32, w64, from_be_bytes}}
use Rattle.nfs_xdr.specs.{Spelling.{number, hyper}, declared.status.Status.Status}
use Rattle.nfs_compound.specs.declared.stateid.Stateid.{Stateid}
use Rattle.nfs_opens.specs.{declared.stateid.StateId.StateId, declared.stateid.CurrentSeqid.CurrentSeqid, StateId.resolved}
use Rattle.nfs_names.specs.declared.context.Context.{Context}

-- what stands behind the seqid is the server's instance and the number of an open or a lock state
abbrev pub state_id : Stateid → StateId
state_id s = record { seqid = s.seqid; instance = from_be_bytes w32 (take 4 s.other); number = from_be_bytes w64 (drop 4 s.other) }

abbrev pub wire_id : StateId → Stateid
wire_id id = record { seqid = id.seqid; other = number id.instance ++ hyper id.number }

-- what an argument stands for, which may be the current stateid
abbrev pub meant : Context → CurrentSeqid → Stateid → Result StateId Status
meant x form given = resolved (state_id given) (state_id x.stateid) form
