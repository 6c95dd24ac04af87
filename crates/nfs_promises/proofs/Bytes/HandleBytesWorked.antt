-- Bytes that are read by a filehandle, computed.
use Rattle.std.proofs.Common.{◌≡◌, ℕ, List, [], ◌∷◌, refl, sym, ◌∙◌, arith}
use Rattle.nfs_compound.specs.declared.op.Item.TheVariants.{Operation}
use Rattle.nfs_names.specs.GetFh.{get_fh}
use Rattle.nfs_exec.specs.Runs.Ops.{RanOp}
use Rattle.nfs_promises.specs.{Runs.{Requests.words, Points.ops_of}, Bytes.{HandleBytes.SparesAt, HandleBytesWorked.{writes, reads, written, byte, answering}}}
use Rattle.nfs_promises.specs.{Bytes.HandleBytesWorked.AreReadBack, Names.{HandlesWorked.given, KnownHandles.starts, KnownHandlesWorked.found}}
use Rattle.nfs_promises.specs.Locks.LockKeptWorked.{last_of}
use Rattle.nfs_promises.proofs.{Runs.{Computing.computing, LastOperation.nothing}, Names.HandlesWorked.{first_of, two}, Bytes.WrittenStaysWorked.{writes_it, reads_it}}
use Rattle.nfs_compound.specs.declared.op.Op.TheVariants as Op

-- The run, computed.

abbrev wrote_ops : List RanOp
wrote_ops = ops_of found writes

abbrev read_ops : List RanOp
read_ops = ops_of written reads

no_byte : ◌≡◌ {A = ℕ} 0 0x65 → ⊥
no_byte e = absurd (omega arith)

pub are_read_back : AreReadBack
unfolding computing get_fh
are_read_back = record {
  put = first_of nothing wrote_ops;
  write = last_of nothing wrote_ops;
  wrote = two nothing wrote_ops refl;
  known = λ top. refl;
  brings = writes_it (last_of nothing wrote_ops) refl refl refl;
  again = first_of nothing read_ops;
  read = last_of nothing read_ops;
  looked = two nothing read_ops refl;
  given_it = reads_it (last_of nothing read_ops) (words (4 ∷ 0x7365_656e ∷ [])) refl refl refl refl;
  zeros = λ top is. no_byte (((is.1 (spares (first_of nothing read_ops) refl)).0 refl 2
      (reads_it (answering (words (1 ∷ 8 ∷ 0 ∷ 0 ∷ [])) (last_of nothing read_ops)) (words (8 ∷ 0 ∷ 0 ∷ [])) refl refl refl refl)).1);
}
  where
    -- a PUTFH writes nothing
    spares : {top : List ℕ} (d : RanOp) → d.item ≡ Operation (Op.PutFh given) → SparesAt top byte (starts []) d
    spares d item = record {
      writes = λ n over may. (let bad : Operation (Op.PutFh given) ≡ Operation (Op.Write over.asked) = sym item ∙ over.is in absurd cc);
      sizes = λ n sets may. (let bad : Operation (Op.PutFh given) ≡ Operation (Op.SetAttr sets.asked) = sym item ∙ sets.is in absurd cc);
      opens = λ n opens may. (let bad : Operation (Op.PutFh given) ≡ Operation (Op.Open opens.asked) = sym item ∙ opens.is in absurd cc);
    }
