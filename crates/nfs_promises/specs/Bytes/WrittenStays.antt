-- Bytes written stay until they are changed: what becomes, over any list of records, of a byte that a WRITE told (RFC 8881 sections 18.22 and 18.32).
use Rattle.std.specs.Prelude.{◌≡◌, List, ◌∷◌, ◌++◌}
use Rattle.nfs_names.specs.{declared.start.Start.Start}
use Rattle.nfs_files.specs.Written.{Byte}
use Rattle.nfs_exec.specs.{Runs.Ops.RanOp, Runs.WrittenRun.{WritesIt, the_byte}}
use Rattle.nfs_serve.specs.Step.{ServerState}
use Rattle.nfs_promises.specs.{Network.Endpoint.Arrival, Runs.{Points.{reached, ops_of}, Followed.{StaysThrough, StaysFrom}}}

-- Through these records the byte stands before each operation, and each READ of it that answers NFS4_OK is given it, as long as all operations before spared
-- it, whoever asked for them.
abbrev pub StaysWritten : Byte → ServerState → List Arrival → Type 0
StaysWritten b s records = StaysThrough (the_byte b) tt s records

-- In every run of a server, from its start on: a WRITE in the record's compound told the byte, and these operations are behind it there. The byte stays through
-- them while they spare it; and if they all do, through whatever records come.
abbrev pub BytesStay : Type 0
BytesStay = (start : Start) (earlier : List Arrival) (c : Arrival) (b : Byte) (front : List RanOp) (write : RanOp) (back : List RanOp)
    → (let s = reached start earlier in
    ops_of s c ≡ front ++ write ∷ back → WritesIt b write
    → StaysFrom (the_byte b) tt s c back)
