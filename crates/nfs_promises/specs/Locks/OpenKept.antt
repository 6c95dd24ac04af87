-- An open told is an open kept: what becomes, over any list of records, of an open that an OPEN told, and of its share reservation (RFC 8881 sections 8.3,
-- 9.7, 18.2, 18.16 and 18.18).
use Rattle.std.specs.Prelude.{◌≡◌, ℕ, true, List, ◌∷◌, ◌++◌}
use Rattle.nfs_xdr.specs.Tables.{In}
use Rattle.nfs_compound.specs.{declared.open_args.Open.Open, declared.op.Item.TheVariants.Operation}
use Rattle.nfs_compound.specs.declared.op_num.OpNum.TheVariants as Num
use Rattle.nfs_compound.specs.declared.op.Op.TheVariants as Op
use Rattle.nfs_names.specs.{declared.start.Start.Start}
use Rattle.nfs_files.specs.OpenTold.{names_open, OpenTold, Bits}
use Rattle.nfs_exec.specs.{Runs.Ops.RanOp}
use Rattle.nfs_promises.specs.Runs.OpenHeld.{the_open, OpenWhile, NoneCloses, bits_left, TellsOpen}
use Rattle.nfs_serve.specs.{Step.ServerState}
use Rattle.nfs_promises.specs.{Network.Endpoint.Arrival, Runs.Points.{state_after, reached, taken, ops_of}, Locks.LockKept.{StaysFor, InTimeFor}}

-- In every run of a server whose leases last so many seconds, from its start on: an OPEN in the record's compound told the open, and these operations are
-- behind it there. The open stands before each of them while none closes it; and if none does, it stays through whatever records come, from the moment of
-- this record on, which renewed its client's lease, with the bits that it has by then: no OPEN there that it forbids is answered NFS4_OK.
abbrev pub OpenKept : Type 0
OpenKept = (start : Start) (earlier : List Arrival) (c : Arrival) (k : OpenTold) (b : Bits) (front : List RanOp) (told : RanOp) (back : List RanOp)
    → (let s = reached start earlier in
    ops_of s c ≡ front ++ told ∷ back → TellsOpen k b told
    → OpenWhile k b back
    × (NoneCloses k back → (more : List Arrival) → StaysFor (the_open k) k.client start.lease (taken s c) (bits_left k.number b back) (state_after s c) more))

-- Whatever OPEN is answered NFS4_OK and a stateid told an open.
abbrev pub EachOpenIsTold : Type 0
EachOpenIsTold = (start : Start) (records : List Arrival) (c : Arrival) (d : RanOp) (a : Open) (n : ℕ)
    → In d (ops_of (reached start records) c) → d.item ≡ Operation (Op.Open a) → names_open Num.Open d.result n ≡ true
    → (k : OpenTold) × (b : Bits) × (k.number ≡ n) × TellsOpen k b d

-- The records come in time and close it nowhere, and leave its client: up to a state and a moment of the client's last renewal, and to bits, of which this holds.
abbrev pub LeaveOpen : OpenTold → Bits → (lease last : ℕ) → ServerState → List Arrival → (Bits → ℕ → ServerState → Type 0) → Type 0
LeaveOpen k b lease last s records Then = InTimeFor (the_open k) k.client lease last b s records Then
