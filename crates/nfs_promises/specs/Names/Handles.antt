-- A filehandle is a file: the promise over any list of records (RFC 8881 sections 4.2, 18.8 and 18.19).
use Rattle.std.specs.Prelude.{◌≡◌, ◌↔◌, ℕ, ◌<◌, ◌^◌, List}
use Rattle.nfs_xdr.specs.Tables.{In}
use Rattle.nfs_names.specs.declared.start.Start.{Start}
use Rattle.nfs_exec.specs.Runs.Ops.{RanOp}
use Rattle.nfs_promises.specs.{Runs.{Handles.{Gives, Leads}, Points.{reached, ops_of}}, Network.Endpoint.Arrival}

-- What a GETFH gave leads back to its object by PUTFH, in whatever record, whatever came before that: so too in each that comes behind it, whoever sends it.
abbrev pub HandlesLead : Type 0
HandlesLead = (start : Start) (records : List Arrival) (c : Arrival) (get : RanOp) (n : ℕ) (h : List ℕ) → start.instance < 2 ^ 32
    → In get (ops_of (reached start records) c) → Gives n h get
    → (others : List Arrival) (d : Arrival) → Leads n h (ops_of (reached start others) d)

-- Of two GETFHs, whenever they come, the filehandles are the same where the objects are, and differ where they differ.
abbrev pub HandlesTell : Type 0
HandlesTell = (start : Start) (records : List Arrival) (c : Arrival) (get : RanOp) (n : ℕ) (h : List ℕ)
    (others : List Arrival) (d : Arrival) (again : RanOp) (k : ℕ) (j : List ℕ) → start.instance < 2 ^ 32
    → In get (ops_of (reached start records) c) → Gives n h get → In again (ops_of (reached start others) d) → Gives k j again
    → h ≡ j ↔ n ≡ k
