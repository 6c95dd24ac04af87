-- The run of a file that is read, and the wrong answers, computed.
use Rattle.std.proofs.Common.{◌≡◌, ℕ, List, [], ◌∷◌, ◌++◌, get_or, take, refl, ap, arith}
use Rattle.nfs_compound.specs.{ArgCodecs.set_attr_args, declared.file_args.Read.Read}
use Rattle.nfs_names.specs.Context.{anonymous}
use Rattle.nfs_files.specs.SetAttr as of_set
use Rattle.nfs_exec.specs.Runs.Ops.{RanOp}
use Rattle.nfs_promises.specs.{Runs.Points.ops_of, Locks.LockKeptWorked.{outset, last_of}, Bytes.WrittenStaysWorked.{makes, closed, reads}}
use Rattle.nfs_promises.specs.Bytes.FileReadWorked.{longer, reads_hole, IsReadWhole, ReadsAreRefused}
use Rattle.nfs_promises.proofs.Runs.{LastOperation.{two, nothing, three}, Computing.computing}

abbrev pub opening : RanOp
opening = last_of nothing (ops_of outset makes)

abbrev read : RanOp
read = last_of nothing (ops_of closed reads)

abbrev again : RanOp
again = last_of nothing (ops_of longer reads_hole)

abbrev asked : Read
asked = record { stateid = anonymous; offset = 0; count = 8 }

pub make_ops : ops_of outset makes ≡ take 1 (ops_of outset makes) ++ opening ∷ []
unfolding computing
make_ops = two nothing (ops_of outset makes) refl

pub is_read_whole : IsReadWhole
unfolding computing set_attr_args of_set.set_attr
is_read_whole = record {
  front = take 1 (ops_of outset makes);
  opening = opening;
  ops = make_ops;
  file = record { asked = _; is = refl; free = refl; there = refl; given = refl };
  until = take 2 (ops_of closed reads);
  read = read;
  last = three nothing (ops_of closed reads) refl;
  before = take 2 (ops_of longer reads_hole);
  again = again;
  end = three nothing (ops_of longer reads_hole) refl;
  bytes = refl;
  fewer = refl;
  told = refl;
  after = refl;
}

-- Byte k of an answer, behind the operation and the status: the flag at 11, the count at 15, and the bytes from 16 on.

abbrev byte_of : ℕ → List ℕ → ℕ
byte_of k text = get_or text k 0

pub reads_are_refused : ReadsAreRefused
unfolding computing set_attr_args of_set.set_attr
reads_are_refused = record {
  gap = λ d is. (let bad : ◌≡◌ {A = ℕ} 0x78 0 = ap (byte_of 20) (is asked refl refl refl) in absurd (omega arith));
  old = λ d is. (let bad : ◌≡◌ {A = ℕ} 0x65 0 = ap (byte_of 18) (is asked refl refl refl) in absurd (omega arith));
  goes_on = λ d is. (let bad : ◌≡◌ {A = ℕ} 0 1 = ap (byte_of 11) (is asked refl refl refl) in absurd (omega arith));
  few = λ d is. (let bad : ◌≡◌ {A = ℕ} 4 8 = ap (byte_of 15) (is asked refl refl refl) in absurd (omega arith));
}
