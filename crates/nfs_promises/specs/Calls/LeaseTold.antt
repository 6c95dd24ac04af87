-- The lease is told by GETATTR and by READDIR (RFC 8881 sections 5.8.1.11, 18.7 and 18.23).
use Rattle.std.specs.Prelude.{◌≡◌, true, List, ℕ}
use Rattle.nfs_xdr.specs.{Spelling.number, Tables.In}
use Rattle.nfs_compound.specs.declared.{name_args.ReadDir.ReadDir, op.Item.TheVariants.Operation}
use Rattle.nfs_attrs.specs.Mask.{mask_of, has}
use Rattle.nfs_names.specs.{declared.start.Start.Start, Outcome.is_ok}
use Rattle.nfs_exec.specs.Runs.Ops.{RanOp}
use Rattle.nfs_promises.specs.{Runs.{AttributesTold.{EntriesTell, TellsValue}, Points.{reached, ops_of}}, Network.Endpoint.Arrival}
use Rattle.nfs_compound.specs.declared.op.Op.TheVariants as Op

-- The lease is told: a GETATTR of attribute 10, lease_time, whatever else it asks for, that answers NFS4_OK gives the very number of seconds that leases last.
abbrev pub LeaseIsTold : Type 0
LeaseIsTold = (start : Start) (records : List Arrival) (c : Arrival) (d : RanOp) (words : List ℕ) → In d (ops_of (reached start records) c)
    → d.item ≡ Operation (Op.GetAttr words) → has (mask_of words) 10 ≡ true → is_ok d.status ≡ true → TellsValue d.before.store.tree.profile 10 (number start.lease) (mask_of words) d.result

-- A READDIR of entries with attribute 10, lease_time, whatever else it asks for, that answers NFS4_OK gives with each entry the very number of seconds that leases last.
abbrev pub LeaseIsListed : Type 0
LeaseIsListed = (start : Start) (records : List Arrival) (c : Arrival) (d : RanOp) (a : ReadDir) → In d (ops_of (reached start records) c)
    → d.item ≡ Operation (Op.ReadDir a) → has (mask_of a.attr_request) 10 ≡ true → is_ok d.status ≡ true
    → EntriesTell d.before.store.tree.profile 10 (number start.lease) (mask_of a.attr_request) d.result
