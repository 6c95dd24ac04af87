-- Each yes is true, in every run.
use Rattle.std.proofs.Common.{◌≡◌, ℕ, Bool, true, List, refl}
use Rattle.std.specs.Prelude.{◌&&◌}
use Rattle.nfs_compound.specs.declared.{op.{Item.{Item, TheVariants.Operation}, Op.Op}, op_num.OpNum.OpNum}
use Rattle.nfs_compound.specs.declared.op.Op.TheVariants as Op
use Rattle.nfs_compound.specs.declared.op_num.OpNum.TheVariants as Num
use Rattle.nfs_tree.specs.Bytes.{has_bytes}
use Rattle.nfs_names.specs.{declared.context.Context.Context, Outcome.{Outcome, is_ok, or_lack, lacks}, State.{State, time_at}}
use Rattle.nfs_names.proofs.{Ones.by_delay, Faulted.lacks_fail}
use Rattle.nfs_files.specs.{Lock.lock, LockU.{lock_u, wants_memory}, Open.open_file, Write.write}
use Rattle.nfs_exec.specs.Runs.Ops.{RanOp}
use Rattle.nfs_exec.proofs.Runs.OneRun.{IsRun, by_ok}
use Rattle.nfs_promises.specs.Answers.YesIsTrue.{EachYesIsTrue, IsTrueOf, IsFree}
use Rattle.nfs_promises.proofs.{Locks.OneStateEach.{HasOneEach, each_in}, Runs.LaterRecords.ran_in, Answers.StatesTold.{lock_true, downgrade_true, open_true}}
use Rattle.nfs_promises.proofs.Answers.TruthOfAnswers.{Yes, refused_off, get_attr_true, get_fh_true, lookup_true, read_dir_true, read_link_true, access_true}
use Rattle.nfs_promises.proofs.Answers.{TruthOfAnswers.{test_true, test_stateid_true}, WhatIsDone.{close_true, commit_true, unlock_true, write_true}}

module _ (d : RanOp) (r : IsRun d) (each : HasOneEach d.before.store.opens) where
  abbrev s : State
  s = d.before.store

  abbrev x : Context
  x = d.context

  abbrev T : Op → List ℕ → State → Type 0
  T op = IsTrueOf s x (Operation op)

  -- what memory was refused to is no yes
  late : (op : Op) (n : OpNum) (b : Bool) (o : Outcome) → Yes (T op) o → Yes (T op) (or_lack b s x n o)
  late op n b o is = by_delay (Yes (T op)) b s x n o (refused_off (T op) s x n (lacks s n) (lacks_fail s n)) is

  by_op : (i : Item) → d.item ≡ i → is_ok d.status ≡ true → IsTrueOf s x i d.result d.behind.store
  by_op (Operation (Op.Access asked)) is ok = by_ok (T (Op.Access asked)) d r (Operation (Op.Access asked)) is ok (access_true s x asked)
  by_op (Operation (Op.Close a)) is ok = by_ok (T (Op.Close a)) d r (Operation (Op.Close a)) is ok (close_true s r.whole x a)
  by_op (Operation (Op.Commit a)) is ok = by_ok (T (Op.Commit a)) d r (Operation (Op.Commit a)) is ok (commit_true s r.whole x a)
  by_op (Operation (Op.GetAttr words)) is ok = get_attr_true d r words is ok
  by_op (Operation Op.GetFh) is ok = by_ok (T Op.GetFh) d r (Operation Op.GetFh) is ok (get_fh_true s x)
  by_op (Operation (Op.Lock a)) is ok =
      by_ok (T (Op.Lock a)) d r (Operation (Op.Lock a)) is ok (late (Op.Lock a) Num.Lock r.refused (lock s x a) (lock_true s r.whole x each a))
  by_op (Operation (Op.LockT a)) is ok = by_ok (λ text t. IsFree s x a) d r (Operation (Op.LockT a)) is ok (test_true s x a r.whole)
  by_op (Operation (Op.LockU a)) is ok =
      by_ok (T (Op.LockU a)) d r (Operation (Op.LockU a)) is ok (late (Op.LockU a) Num.LockU (wants_memory a && r.refused) (lock_u s x a) (unlock_true s r.whole x a))
  by_op (Operation (Op.Lookup name)) is ok = by_ok (T (Op.Lookup name)) d r (Operation (Op.Lookup name)) is ok (lookup_true s x name)
  by_op (Operation (Op.Open a)) is ok = by_ok (T (Op.Open a)) d r (Operation (Op.Open a)) is ok
      (late (Op.Open a) Num.Open r.refused (open_file s x (time_at s r.now) a) (open_true s r.whole x (time_at s r.now) a))
  by_op (Operation (Op.OpenDowngrade a)) is ok = by_ok (T (Op.OpenDowngrade a)) d r (Operation (Op.OpenDowngrade a)) is ok (downgrade_true s r.whole x a)
  by_op (Operation (Op.ReadDir a)) is ok = by_ok (T (Op.ReadDir a)) d r (Operation (Op.ReadDir a)) is ok (read_dir_true s r.whole x a)
  by_op (Operation Op.ReadLink) is ok = by_ok (T Op.ReadLink) d r (Operation Op.ReadLink) is ok (read_link_true s x)
  by_op (Operation (Op.TestStateid given)) is ok = by_ok (T (Op.TestStateid given)) d r (Operation (Op.TestStateid given)) is ok (test_stateid_true s x given)
  by_op (Operation (Op.Write a)) is ok = by_ok (T (Op.Write a)) d r (Operation (Op.Write a)) is ok
      (late (Op.Write a) Num.Write (has_bytes a.bytes && r.refused) (write s x (time_at s r.now) a) (write_true s r.whole x (time_at s r.now) a))
  by_op i is ok = tt

pub each_yes_is_true : EachYesIsTrue
each_yes_is_true start records c d there ok = by_op d (ran_in start records c d there) (each_in start records c d there) d.item refl ok
