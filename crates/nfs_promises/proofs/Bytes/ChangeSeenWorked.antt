-- The run of a change that is seen, and the wrong reports, computed.
use Rattle.std.proofs.{Common.{◌≡◌, ℕ, true, [], ◌∷◌, take, refl, arith}, lemmas.Bool.{false≢true, ltb-true}}
use Rattle.nfs_compound.specs.declared.file_args.StableHow.TheVariants.{Unstable}
use Rattle.nfs_names.specs.Context.{anonymous}
use Rattle.nfs_results.specs.declared.res.OpenOk.{OpenOk}
use Rattle.nfs_exec.specs.Runs.Ops.{RanOp}
use Rattle.nfs_promises.specs.{Runs.{Requests.words, Points.ops_of}, Locks.LockKeptWorked.{outset, last_of}, Bytes.WrittenStaysWorked.{makes, made, writes}}
use Rattle.nfs_promises.specs.Bytes.{ChangeSeen.Writes, ChangeSeenWorked.{IsSeen, ReportsAreRefused}}
use Rattle.nfs_promises.proofs.{Runs.{LastOperation.{nothing, three}, Computing.computing}, Bytes.FileReadWorked.{opening, make_ops}}

abbrev write : RanOp
write = last_of nothing (ops_of made writes)

-- the open stateid of open 1, seqid 1; the root's change from 1 to 2
abbrev ok : OpenOk
ok = record {
  stateid = record { seqid = 1; other = words (7 ∷ 0 ∷ 1 ∷ []) };
  cinfo = record { atomic = true; before = 1; after = 2 };
  rflags = 12;
  attrset = [];
}

pub is_seen : IsSeen
unfolding computing
is_seen = record {
  front = take 1 (ops_of outset makes);
  opening = opening;
  ops = make_ops;
  ok = ok;
  answers = refl;
  theirs = record { atomic = refl; before = refl; after = refl };
  before = refl;
  after = refl;
  until = take 2 (ops_of made writes);
  write = write;
  last = three nothing (ops_of made writes) refl;
  there = refl;
  changes = Writes (record { stateid = anonymous; offset = 0; stable = Unstable; bytes = words (0x7365_656e ∷ []) }) refl refl (ltb-true 0 _ refl);
  raised = omega arith;
}

pub reports_are_refused : ReportsAreRefused
unfolding computing
reports_are_refused = record {
  old = λ d is. (let bad : ◌≡◌ {A = ℕ} 1 2 = is.after in absurd (omega arith));
  between = λ d is. false≢true is.atomic;
  kept = λ d less. omega arith;
}
