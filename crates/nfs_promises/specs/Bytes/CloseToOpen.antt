-- Close-to-open: who asks for the change of a file behind another's WRITEs, and finds the one that it has kept, has kept the bytes that the other wrote (RFC 8881 section
-- 10.3.1).
use Rattle.std.specs.Prelude.{◌≡◌, ℕ, ◌^◌, ◌<◌, true, List, ◌∷◌, ◌++◌}
use Rattle.nfs_xdr.specs.Spelling.{hyper}
use Rattle.nfs_attrs.specs.Mask.{mask_of, has}
use Rattle.nfs_names.specs.{declared.start.Start.Start}
use Rattle.nfs_files.specs.Written.{Byte, Reads, GivesIt}
use Rattle.nfs_promises.specs.Runs.AttributesTold.{TellsValue}
use Rattle.nfs_exec.specs.{Runs.Ops.RanOp, Runs.WrittenRun.{WritesIt, AreSpared}}
use Rattle.nfs_serve.specs.{Step.new_state}
use Rattle.nfs_promises.specs.{Bytes.ChangeTells.GetsOf, Network.Endpoint.Arrival, Names.ListsAll.all_ops}

-- a GETATTR of attribute 3 of the file, whatever else it asks for, that was answered NFS4_OK and gave this change
pub record TellsChange (n change : ℕ) (d : RanOp) : Type 0 where
  pub words : List ℕ
  pub gets : GetsOf n words d
  pub asks : has (mask_of words) 3 ≡ true
  pub small : change < 2 ^ 64
  pub told : TellsValue d.before.store.tree.profile 3 (hyper change) (mask_of words) d.result

-- What a client has kept, of the operations up to a point: a GETATTR gave the file's change, and behind it a READ of the byte's place was answered NFS4_OK.
pub record Keeps (b : Byte) (change : ℕ) (until : List RanOp) : Type 0 where
  pub front : List RanOp
  pub got : RanOp
  pub between : List RanOp
  pub read : RanOp
  pub back : List RanOp
  pub order : until ≡ front ++ got ∷ (between ++ read ∷ back)
  pub tells : TellsChange b.file change got
  pub reads : Reads b.file b.place read.context read.item read.result

-- What is written: a WRITE brought the byte and was answered NFS4_OK, before the READ or behind it, and no operation has changed the byte since.
pub record IsWritten (b : Byte) (until : List RanOp) : Type 0 where
  pub front : List RanOp
  pub write : RanOp
  pub since : List RanOp
  pub order : until ≡ front ++ write ∷ since
  pub writes : WritesIt b write
  pub spared : AreSpared b since

-- In every run of a server, from its start on: a GETATTR comes next, and gives the same change. Then the READ was given the byte. It does not matter who sent what, and
-- whether a CLOSE or an OPEN is between.
abbrev pub CloseToOpen : Type 0
CloseToOpen = (start : Start) (records : List Arrival) (b : Byte) (change : ℕ) (until : List RanOp) (asks : RanOp) (rest : List RanOp)
    → all_ops (new_state start) records ≡ until ++ asks ∷ rest → (k : Keeps b change until) → IsWritten b until → TellsChange b.file change asks
    → GivesIt b k.read.context k.read.item k.read.result k.reads
