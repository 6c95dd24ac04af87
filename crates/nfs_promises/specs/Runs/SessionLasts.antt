-- Which requests end a session: a DESTROY_SESSION of it that stands alone and is answered NFS4_OK (RFC 8881 section 18.37).
use Rattle.std.specs.Prelude.{ℕ, ◌==◌, ◌&&◌, Bool, false, List, [], ◌∷◌, Option}
use Rattle.nfs_xdr.specs.Caller.{Caller}
use Rattle.nfs_compound.specs.{declared.op.Item.Item, declared.op.Item.TheVariants.Operation, Request.Request}
use Rattle.nfs_compound.specs.declared.op.Op.TheVariants as Op
use Rattle.nfs_sessions.specs.{declared.id.SessionId.SessionId, Id.id_of, Laws.is_id}
use Rattle.nfs_names.specs.Outcome.{is_ok}
use Rattle.nfs_exec.specs.{Step.Machine.Machine, Step.Run.is_here, Step.Compound.first_item, Step.Laws.{MachineEvent, Expires, Asks}}

abbrev pub is_end : SessionId → Item → Bool
is_end id (Operation (Op.DestroySession sessionid)) = is_id id (id_of sessionid)
is_end id item = false

abbrev pub ends_alone : SessionId → Machine → Request → Caller → ℕ → Option ℕ → List Item → Bool
ends_alone id m r who now choice [] = false
ends_alone id m r who now choice (item ∷ more) = is_end id item && is_ok (first_item m r.declared who now (is_here choice) item).status

abbrev pub ends_session : SessionId → Machine → MachineEvent → Bool
ends_session id m (Expires now) = false
ends_session id m (Asks r who size now choice) = r.minor == 1 && ends_alone id m r who now choice r.left
