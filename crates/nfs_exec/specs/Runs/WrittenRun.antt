-- A byte that was written, before and behind each operation of a compound (RFC 8881 sections 18.16, 18.22, 18.30 and 18.32).
use Rattle.std.specs.Prelude.{◌≡◌, ℕ, true, List, ◌∷◌, ◌++◌, Some}
use Rattle.nfs_xdr.specs.{declared.status.Status.TheVariants.Stale}
use Rattle.nfs_compound.specs.declared.op_num.OpNum.TheVariants as Num
use Rattle.nfs_compound.specs.{OpNum.op_number, declared.op.Item.TheVariants.Operation}
use Rattle.nfs_compound.specs.declared.op.Op.TheVariants as Op
use Rattle.nfs_results.specs.Results.{spell_result, refusal}
use Rattle.nfs_tree.specs.Files.{data_at}
use Rattle.nfs_attrs.specs.Handle.{handle_of}
use Rattle.nfs_names.specs.{declared.start.Start.Start, State.is_used}
use Rattle.nfs_files.specs.Written.{Byte, StandsIn, Lasts, Writes, Spares, Reads, GivesIt}
use Rattle.nfs_exec.specs.Runs.Kept as kept
use Rattle.nfs_exec.specs.{Runs.Kept.{Kept, While}, Step.Machine.starts, Step.Laws.{MachineEvent, stepped, all_stepped}, Runs.Ops.{RanOp, ops_by}}

-- a WRITE told it
abbrev pub WritesIt : Byte → RanOp → Type 0
WritesIt b d = Writes b d.context d.item d.result

-- nothing that may change it answered NFS4_OK
abbrev pub SparesIt : Byte → RanOp → Type 0
SparesIt b d = Spares b d.before.store d.context d.item d.result

-- While its file has a name or an open, it stands there, and no PUTFH of the file's filehandle answers NFS4ERR_STALE; and a READ of it that answers NFS4_OK is
-- given it.
pub record StandsBefore (b : Byte) (d : RanOp) : Type 0 where
  pub stands : is_used d.before.store b.file ≡ true → StandsIn b (data_at d.before.store.tree b.file)
  pub found : is_used d.before.store b.file ≡ true → (h : List ℕ) → d.item ≡ Operation (Op.PutFh h)
      → handle_of h ≡ Some (record { instance = d.before.store.opens.instance; number = b.file })
      → d.result ≡ spell_result (refusal (op_number Num.PutFh) Stale) → ⊥
  pub read : (r : Reads b.file b.place d.context d.item d.result) → GivesIt b d.context d.item d.result r

abbrev pub the_byte : Byte → Kept
the_byte b = record {
  Way = Unit {0};
  Stands = λ way s. Lasts b s.tree;
  Before = λ way d. StandsBefore b d;
  Spares = SparesIt b;
  after = λ way d. way;
}

abbrev pub AreSpared : Byte → List RanOp → Type 0
AreSpared b ds = kept.AreSpared (the_byte b) ds

-- before each operation it stands, as long as all before it spared it; and it lasts behind those
abbrev pub StandsWhile : Byte → List RanOp → Type 0
StandsWhile b ds = While (the_byte b) tt ds

-- In every run: where it stands in its file or that is gone for good, it does so behind what spares it, and stands in between; and so from a WRITE on that told it.
abbrev pub StandsInRuns : Type 0
StandsInRuns = (start : Start) (events : List MachineEvent) (e : MachineEvent) (b : Byte)
    → (let m = all_stepped (starts start) events in
    (Lasts b m.store.tree → StandsWhile b (ops_by m e) × (AreSpared b (ops_by m e) → Lasts b (stepped m e).store.tree))
    × ((front : List RanOp) (write : RanOp) (back : List RanOp) → ops_by m e ≡ front ++ write ∷ back → WritesIt b write
    → StandsWhile b back × (AreSpared b back → Lasts b (stepped m e).store.tree)))
