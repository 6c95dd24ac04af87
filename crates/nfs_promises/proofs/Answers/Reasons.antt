-- Each no has its reason, in every run.
use Rattle.std.proofs.{Common.{◌≡◌, ℕ, true, Bool, refl, sym, ◌∙◌, ap, subst, inl, inr, arith}, lemmas.Bool.le-leb}
use Rattle.std.specs.Prelude.{nat_le}
use Rattle.nfs_xdr.specs.declared.status.Status.{Status}
use Rattle.nfs_xdr.specs.declared.status.Status.TheVariants as S
use Rattle.nfs_compound.specs.{Request.item_number, declared.op.{Op.Op, Item.{Item, TheVariants.{Operation, Fault}}}}
use Rattle.nfs_compound.specs.declared.op_num.OpNum.TheVariants as Num
use Rattle.nfs_results.specs.{Largest.largest, Results.{refusal, status_of_result}}
use Rattle.nfs_tree.specs.Bytes.{has_bytes}
use Rattle.nfs_clients.specs.Marks.{has_reclaimed}
use Rattle.nfs_names.specs.{declared.context.Context.Context, Checks.both, Create.create, Link.link, Operation.moves_in, Rename.rename, State.{State, time_at}}
use Rattle.nfs_names.proofs.Faulted.{status_of_refusal}
use Rattle.nfs_files.specs.{Lock.lock, LockU.{lock_u, wants_memory}, Open.open_file, Write.write}
use Rattle.nfs_exec.specs.Runs.Ops.{RanOp}
use Rattle.nfs_exec.proofs.Runs.OneRun.{IsRun}
use Rattle.nfs_promises.specs.Answers.Reasons.{EachNoHasItsReason, AnswersSo, IsAnswered, IsSaid, Reason, SaysSo}
use Rattle.nfs_promises.proofs.Answers.Placed.{IsBlamed, in_room_or, of_refusal, or_delayed, ran_blames}
use Rattle.nfs_promises.proofs.{Locks.OneStateEach.{HasOneEach, each_in}, Runs.LaterRecords.ran_in}
use Rattle.nfs_promises.proofs.Answers.AttrReasons as attrs
use Rattle.nfs_promises.proofs.Answers.FreeReasons as frees
use Rattle.nfs_promises.proofs.Answers.HoldReasons as holds
use Rattle.nfs_promises.proofs.Answers.MakeReasons as makes
use Rattle.nfs_promises.proofs.Answers.NameReasons as names
use Rattle.nfs_promises.proofs.Answers.WalkReasons as walks
use Rattle.nfs_promises.proofs.Answers.FileReasons as files
use Rattle.nfs_promises.proofs.Answers.OpenReasons as opens

same : (n : ℕ) → nat_le n n ≡ true
same n = le-leb n n (omega arith)

module _ (d : RanOp) (r : IsRun d) (each : HasOneEach d.before.store.opens) where
  abbrev s : State
  s = d.before.store

  abbrev x : Context
  x = d.context

  -- an operation that carries nothing out behind a SEQUENCE
  never : (op : Op) (f : Status) → Reason s x (Operation op) f → IsAnswered s x (Operation op) (status_of_result (refusal (item_number (Operation op)) f))
  never op f reason = subst (IsAnswered s x (Operation op)) (sym (status_of_refusal (item_number (Operation op)) f)) (of_refusal s x (Operation op) f reason)

  by_op : (op : Op) → d.item ≡ Operation op → IsBlamed d op
  by_op (Op.Access asked) is = ran_blames d r (Op.Access asked) is refl (inr (walks.access_blames s r.whole x asked))
  by_op (Op.Close a) is = ran_blames d r (Op.Close a) is refl (inr (holds.close_blames s r.whole x a))
  by_op (Op.Commit a) is = ran_blames d r (Op.Commit a) is refl (inr (files.commit_blames s r.whole x a))
  by_op (Op.Create c) is = ran_blames d r (Op.Create c) is refl (or_delayed s x (Operation (Op.Create c)) Num.Create true r.refused (create s x (time_at s r.now) c) refl (makes.create_blames s r.whole x (time_at d.before.store r.now) c))
  by_op (Op.CreateSession a) is = ran_blames d r (Op.CreateSession a) is refl (inr (never (Op.CreateSession a) S.NotSupp (inr (Op.CreateSession a, refl, refl))))
  by_op (Op.DestroyClientId client) is = ran_blames d r (Op.DestroyClientId client) is refl (inr (never (Op.DestroyClientId client) S.NotSupp (inr (Op.DestroyClientId client, refl, refl))))
  by_op (Op.DestroySession id) is = ran_blames d r (Op.DestroySession id) is refl (inr (never (Op.DestroySession id) S.NotSupp (inr (Op.DestroySession id, refl, refl))))
  by_op (Op.ExchangeId a) is = ran_blames d r (Op.ExchangeId a) is refl (inr (never (Op.ExchangeId a) S.NotSupp (inr (Op.ExchangeId a, refl, refl))))
  by_op (Op.FreeStateid given) is = ran_blames d r (Op.FreeStateid given) is refl (inr (frees.free_blames s x given))
  by_op (Op.GetAttr words) is = ran_blames d r (Op.GetAttr words) is refl (inr (names.get_attr_blames s r.whole x words))
  by_op Op.GetFh is = ran_blames d r Op.GetFh is refl (inr (names.get_fh_blames s r.whole x))
  by_op (Op.Link name) is = ran_blames d r (Op.Link name) is refl (or_delayed s x (Operation (Op.Link name)) Num.Link true r.refused (link s x (time_at s r.now) name) refl (makes.link_blames s r.whole x (time_at d.before.store r.now) name))
  by_op (Op.Lock a) is = ran_blames d r (Op.Lock a) is refl (or_delayed s x (Operation (Op.Lock a)) Num.Lock true r.refused (lock s x a) refl (holds.lock_blames s r.whole x each a))
  by_op (Op.LockT a) is = ran_blames d r (Op.LockT a) is refl (inr (files.test_blames s r.whole x each a))
  by_op (Op.LockU a) is = ran_blames d r (Op.LockU a) is refl (or_delayed s x (Operation (Op.LockU a)) Num.LockU (wants_memory a) r.refused (lock_u s x a) refl (files.unlock_blames s r.whole x a))
  by_op (Op.Lookup name) is = ran_blames d r (Op.Lookup name) is refl (inr (names.lookup_blames s r.whole x name))
  by_op Op.LookupP is = ran_blames d r Op.LookupP is refl (inr (walks.lookup_p_blames s r.whole x))
  by_op (Op.NVerify a) is = ran_blames d r (Op.NVerify a) is refl (inr (walks.nverify_blames s r.whole x a))
  by_op (Op.Open a) is = ran_blames d r (Op.Open a) is refl (or_delayed s x (Operation (Op.Open a)) Num.Open true r.refused (open_file s x (time_at s r.now) a) refl (opens.open_blames s r.whole x a (time_at d.before.store r.now)))
  by_op (Op.OpenDowngrade a) is = ran_blames d r (Op.OpenDowngrade a) is refl (inr (holds.downgrade_blames s r.whole x a))
  by_op (Op.PutFh h) is = ran_blames d r (Op.PutFh h) is refl (inr (walks.put_fh_blames s r.whole x h))
  by_op Op.PutPubFh is = ran_blames d r Op.PutPubFh is refl (inr (walks.put_pub_blames s r.whole x))
  by_op Op.PutRootFh is = ran_blames d r Op.PutRootFh is refl (inr (walks.put_root_blames s r.whole x))
  by_op (Op.Read a) is = ran_blames d r (Op.Read a) is (same (largest (Operation (Op.Read a)))) (inr (files.read_blames s r.whole x a))
  by_op (Op.ReadDir a) is = ran_blames d r (Op.ReadDir a) is (same (largest (Operation (Op.ReadDir a)))) (inr (walks.read_dir_blames s r.whole x a))
  by_op Op.ReadLink is = ran_blames d r Op.ReadLink is refl (inr (names.read_link_blames s r.whole x))
  by_op (Op.ReclaimComplete one) is = ran_blames d r (Op.ReclaimComplete one) is refl (inr (frees.reclaim_blames d.before r.whole x one))
  by_op (Op.Remove name) is = ran_blames d r (Op.Remove name) is refl (inr (names.remove_blames s r.whole x (time_at d.before.store r.now) name))
  by_op (Op.Rename a) is = ran_blames d r (Op.Rename a) is refl (or_delayed s x (Operation (Op.Rename a)) Num.Rename (moves_in s a (both s x)) r.refused (rename s x (time_at s r.now) a) refl (names.rename_blames s r.whole x (time_at d.before.store r.now) a))
  by_op Op.RestoreFh is = ran_blames d r Op.RestoreFh is refl (inr (walks.restore_fh_blames s r.whole x))
  by_op Op.SaveFh is = ran_blames d r Op.SaveFh is refl (inr (names.save_fh_blames s r.whole x))
  by_op (Op.SecinfoNoName style) is = ran_blames d r (Op.SecinfoNoName style) is refl (inr (walks.secinfo_blames s r.whole x style))
  by_op (Op.Sequence a) is = ran_blames d r (Op.Sequence a) is refl (inr (never (Op.Sequence a) S.SequencePos (a, refl)))
  by_op (Op.SetAttr a) is = ran_blames d r (Op.SetAttr a) is refl (inr (attrs.set_attr_blames s r.whole x a (time_at d.before.store r.now)))
  by_op (Op.TestStateid given) is = ran_blames d r (Op.TestStateid given) is (same (largest (Operation (Op.TestStateid given)))) (inr (walks.test_stateid_blames s r.whole x given))
  by_op (Op.Verify a) is = ran_blames d r (Op.Verify a) is refl (inr (walks.verify_blames s r.whole x a))
  by_op (Op.Write a) is = ran_blames d r (Op.Write a) is refl (or_delayed s x (Operation (Op.Write a)) Num.Write (has_bytes a.bytes) r.refused (write s x (time_at s r.now) a) refl (files.write_blames s r.whole x (time_at d.before.store r.now) a))

  -- what could not be read has its own status
  by_item : (i : Item) → d.item ≡ i → ((op : Op) → d.item ≡ Operation op → IsSaid d op) → SaysSo d i
  by_item (Operation op) is each = each op is
  by_item (Fault n f) is each = elim (in_room_or d r (Fault n f) is refl) [
    | inl big ↦ inr big
    | inr e ↦ inl (e ∙ status_of_refusal n f)
  ]

  reclaimed : (op : Op) → d.item ≡ Operation op → (one : Bool) → op ≡ Op.ReclaimComplete one → d.status ≡ S.CompleteAlready → has_reclaimed d.before.clients x.client ≡ true
  reclaimed op is one same e = elim (in_room_or d r (Operation (Op.ReclaimComplete one)) (is ∙ ap Operation same) refl) [
    | inl (big, lacks) ↦ (let bad : S.RepTooBig ≡ S.CompleteAlready = sym big ∙ e in cc)
    | inr step ↦ frees.reclaim_marked d.before r.whole x one (sym step ∙ e)
  ]

  said : (op : Op) → d.item ≡ Operation op → IsSaid d op
  said op is = (let b = by_op op is in record { room = b.room; memory = b.memory; reclaimed = reclaimed op is; answered = b.answered })

pub answered : (d : RanOp) → IsRun d → HasOneEach d.before.store.opens → AnswersSo d
answered d r each = by_item d r each d.item refl (said d r each)

pub each_no_has_its_reason : EachNoHasItsReason
each_no_has_its_reason start records c d there = answered d (ran_in start records c d there) (each_in start records c d there)
