-- Which events renew a client's lease or begin it (RFC 8881 sections 8.3, 18.35 and 18.36).
use Rattle.std.specs.{Prelude.{ℕ, ◌==◌, ◌&&◌, ◌||◌, Bool, true, false, List, [], ◌∷◌, Option, None, Result, Ok}, Option.option_map_or}
use Rattle.nfs_xdr.specs.{Caller.Caller, declared.status.Status.Status}
use Rattle.nfs_compound.specs.{declared.op.Item.Item, declared.op.Item.TheVariants.Operation, Request.Request}
use Rattle.nfs_compound.specs.declared.op.Op.TheVariants as Op
use Rattle.nfs_clients.specs.Roster.{ClientRecord, client_at, confirmed_of, next_id}
use Rattle.nfs_names.specs.Outcome.{is_ok}
use Rattle.nfs_exec.specs.{Step.Machine.Machine, Step.ExchangeId.standing, Step.Run.is_here, Step.Compound.first_item, Step.Laws.{MachineEvent, Expires, Asks}}
use Rattle.nfs_exec.specs.Runs.LockHeld.{renews}

-- no record stands for it: a new one is added
abbrev pub adds : Result (Option ClientRecord) Status → Bool
adds (Ok None) = true
adds found = false

-- A CREATE_SESSION of the client with the number that is expected, as a repeat renews nothing; or an EXCHANGE_ID that adds the client's record.
abbrev pub is_for : ℕ → Machine → Caller → Item → Bool
is_for client m who (Operation (Op.ExchangeId e)) = adds (standing m who e (confirmed_of m.clients e.ownerid)) && (next_id m.clients == client)
is_for client m who (Operation (Op.CreateSession c)) = option_map_or (λ k. c.sequence == k.number) (client_at m.clients c.clientid) false && (c.clientid == client)
is_for client m who item = false

-- outside a session, where it answers NFS4_OK
abbrev pub renews_alone : ℕ → Machine → Request → Caller → ℕ → Option ℕ → List Item → Bool
renews_alone client m r who now choice [] = false
renews_alone client m r who now choice (item ∷ more) = is_ok (first_item m r.declared who now (is_here choice) item).status && is_for client m who item

-- or a request that runs in a session of the client
abbrev pub renews_or_begins : ℕ → Machine → MachineEvent → Bool
renews_or_begins client m (Expires now) = false
renews_or_begins client m (Asks r who size now choice) =
    renews client m (Asks r who size now choice) || (r.minor == 1 && renews_alone client m r who now choice r.left)
