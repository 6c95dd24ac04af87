-- What is open can be had: from an OPEN on, a READ by the open's stateid and a GETATTR of its file are not refused, whatever names the file has (RFC 8881 sections 8.2, 9.1.2,
-- 18.7, 18.16 and 18.22).
use Rattle.std.specs.Prelude.{◌≡◌, ◌⊎◌, ℕ, true, false, List, ◌∷◌, ◌++◌, Some, Ok}
use Rattle.nfs_xdr.specs.declared.status.Status.TheVariants.{RepTooBig}
use Rattle.nfs_compound.specs.{declared.file_args.Read.Read, declared.op.Item.TheVariants.Operation}
use Rattle.nfs_compound.specs.declared.op.Op.TheVariants as Op
use Rattle.nfs_attrs.specs.Mask.{mask_of, asks_set_only}
use Rattle.nfs_opens.specs.{declared.stateid.CurrentSeqid.TheVariants.Any, declared.stateid.StateId.StateId}
use Rattle.nfs_names.specs.{declared.start.Start.Start, Outcome.is_ok}
use Rattle.nfs_files.specs.{OpenTold.{OpenTold, Bits, bits_behind, IsOpenWith}, StateIds.meant}
use Rattle.nfs_exec.specs.{Runs.Kept.{Kept, While, AreSpared}, Runs.LockHeld.ClosesOf, Runs.Ops.RanOp}
use Rattle.nfs_promises.specs.{Runs.{OpenHeld.{bits_left, TellsOpen}, Points.{state_after, reached, taken, ops_of}}, Network.Endpoint.Arrival}
use Rattle.nfs_promises.specs.Locks.LockKept.{StaysFor}

-- it is answered NFS4_OK, or its result has no room in the reply
abbrev pub IsAnswered : RanOp → Type 0
IsAnswered d = (is_ok d.status ≡ true) ⊎ (d.status ≡ RepTooBig)

-- A GETATTR of the open's file is answered, of whatever can be read; and so is a READ by the open's stateid with seqid 0, of the open's client, if the open may read.
pub record CanBeHad (k : OpenTold) (b : Bits) (d : RanOp) : Type 0 where
  pub told : (words : List ℕ) → d.item ≡ Operation (Op.GetAttr words) → d.context.current ≡ Some k.file → asks_set_only (mask_of words) ≡ false → IsAnswered d
  pub read : (a : Read) (id : StateId) → d.item ≡ Operation (Op.Read a) → d.context.current ≡ Some k.file → d.context.client ≡ k.client
      → meant d.context Any a.stateid ≡ Ok id → id.seqid ≡ 0 → id.instance ≡ d.before.store.opens.instance → id.number ≡ k.number → b.access.reads ≡ true → IsAnswered d

-- an open's file, as long as no CLOSE of the open is answered NFS4_OK
abbrev pub its_file : OpenTold → Kept
its_file k = record {
  Way = Bits;
  Stands = λ b s. IsOpenWith k b s.opens;
  Before = CanBeHad k;
  Spares = λ d. ClosesOf d k.number → ⊥;
  after = λ b d. bits_behind k.number d.item d.result b;
}

-- In every run of a server whose leases last so many seconds, from its start on: an OPEN in the record's compound told the open, and these operations are behind it
-- there. The file can be had before each of them while none closes the open; and if none does, through whatever records come, as long as the open's client renews its
-- lease in time.
abbrev pub OpensCanRead : Type 0
OpensCanRead = (start : Start) (earlier : List Arrival) (c : Arrival) (k : OpenTold) (b : Bits) (front : List RanOp) (told : RanOp) (back : List RanOp)
    → (let s = reached start earlier in
    ops_of s c ≡ front ++ told ∷ back → TellsOpen k b told
    → While (its_file k) b back
    × (AreSpared (its_file k) back → (more : List Arrival) → StaysFor (its_file k) k.client start.lease (taken s c) (bits_left k.number b back) (state_after s c) more))
