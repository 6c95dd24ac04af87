-- A no is true of filehandles too: an operation is answered NFS4ERR_STALE only where the object of a filehandle that it looks at, the current one or the saved one, has
-- neither a name nor an open; and a PUTFH also where the filehandle is of another start of the server (RFC 8881 sections 4.2.2 and 15.1.2.7).
use Rattle.std.specs.Prelude.{◌≡◌, ◌≢◌, ◌⊎◌, ℕ, true, false, List, Some}
use Rattle.nfs_xdr.specs.{Tables.In, declared.status.Status.TheVariants.Stale}
use Rattle.nfs_compound.specs.declared.op.{Item.TheVariants.Operation, Op.Op}
use Rattle.nfs_attrs.specs.{declared.handle.Handle.Handle, Handle.handle_of}
use Rattle.nfs_names.specs.{declared.{start.Start.Start, context.Saved.Saved}, State.is_used}
use Rattle.nfs_exec.specs.Runs.Ops.{RanOp}
use Rattle.nfs_promises.specs.{Runs.Points.{reached, ops_of}, Network.Endpoint.Arrival, Names.FileStays.{is_on_current, is_on_saved}}

-- Which object is gone. The filehandle of a PUTFH may also have been given by another start of the server.
pub data IsStaleFor (d : RanOp) : Type 0 where
  OfCurrent : (n : ℕ) → is_on_current d.item ≡ true → d.context.current ≡ Some n → is_used d.before.store n ≡ false → IsStaleFor d
  OfSaved : (saved : Saved) → is_on_saved d.item ≡ true → d.context.saved ≡ Some saved → is_used d.before.store saved.object ≡ false → IsStaleFor d
  OfGiven : (h : List ℕ) (g : Handle) → d.item ≡ Operation (Op.PutFh h) → handle_of h ≡ Some g
      → (g.instance ≢ d.before.store.opens.instance) ⊎ (is_used d.before.store g.number ≡ false) → IsStaleFor d

abbrev pub IsStaleTruly : RanOp → Type 0
IsStaleTruly d = (op : Op) → d.item ≡ Operation op → d.status ≡ Stale → IsStaleFor d

-- In every run, of every operation that a compound runs behind its SEQUENCE, whose arguments can be read.
abbrev pub StaleIsTrue : Type 0
StaleIsTrue = (start : Start) (records : List Arrival) (c : Arrival) (d : RanOp) → In d (ops_of (reached start records) c) → IsStaleTruly d
