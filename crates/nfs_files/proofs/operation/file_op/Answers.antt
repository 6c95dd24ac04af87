use Rattle.std.proofs.Common.{rules, ◌≡◌, ◌≤◌, ◌+◌, true, length, sym, ap, subst, Some}
use Rattle.nfs_compound.specs.{declared.op.Item.Item, declared.op.Item.TheVariants.Operation}
use Rattle.nfs_compound.specs.declared.op.Op.TheVariants as Op
use Rattle.nfs_results.specs.{Largest.largest, Results.status_of_result}
use Rattle.nfs_names.specs.{State.{state_of, time_at}, StoreInvariants.IsStore, Outcome.{Outcome, is_lack}}
use Rattle.nfs_names.proofs.Whole.{within, bounded_may, room_may}
use Rattle.nfs_files.specs.Operation.{comes_to}
use Rattle.nfs_files.proofs.{ByteAnswers.may_read_bytes, StraightAnswers.{short_within, short_lock, short_lock_t, short_test}, Whole.{keeps, is_plain}}
use Rattle.nfs_files.proofs.Sound.{sound_item}
use Rattle.nfs_files.proofs.operation.file_op.Goals as goal

pub returns-in-Lock-clause-store : goal.returns-in-Lock-clause-store
returns-in-Lock-clause-store c =
    subst IsStore (sym c.lock.ensures.state) (sound_item (is_lack c.lock.result) (state_of c.args.store.now) c.args.context.now
    (time_at (state_of c.args.store.now) c.args.now) (Operation (Op.Lock c.in-Lock.asked)) c.kept.ensures c.kept-2.ensures c.requires.store).store

pub returns-in-Lock-clause-within : goal.returns-in-Lock-clause-within
returns-in-Lock-clause-within c =
    let a = c.in-Lock.asked in
    subst (λ (i : Item). length c.lock.new.out.bytes ≤ length c.args.out.now.bytes + largest i) (sym (ap Operation c.in-Lock.is))
    (short_within (Op.Lock a) _ c.args.out.now c.lock.new.out
    (short_lock (is_lack c.lock.result) (state_of c.args.store.now) c.args.context.now a) c.lock.ensures.put)

pub returns-in-LockT-clause-within : goal.returns-in-LockT-clause-within
returns-in-LockT-clause-within c =
    let a = c.in-LockT.asked in
    subst (λ (i : Item). length c.lock_t.new.out.bytes ≤ length c.args.out.now.bytes + largest i) (sym (ap Operation c.in-LockT.is))
    (short_within (Op.LockT a) _ c.args.out.now c.lock_t.new.out (short_lock_t (state_of c.args.store.now) c.args.context.now a) c.lock_t.ensures.put)

pub returns-in-TestStateid-clause-within : goal.returns-in-TestStateid-clause-within
returns-in-TestStateid-clause-within c =
    let given = c.in-TestStateid.stateids in
    subst (λ (i : Item). length c.test_stateid.new.out.bytes ≤ length c.args.out.now.bytes + largest i) (sym (ap Operation c.in-TestStateid.is))
    (short_within (Op.TestStateid given) _ c.args.out.now c.test_stateid.new.out
    (short_test (state_of c.args.store.now) c.args.context.now given) c.test_stateid.ensures.put)

pub returns-in-Read-clause-within : goal.returns-in-Read-clause-within
returns-in-Read-clause-within c =
    let a = c.in-Read.asked in
    subst (λ (i : Item). length c.read.new.out.bytes ≤ length c.args.out.now.bytes + largest i) (sym (ap Operation c.in-Read.is))
    (within (Operation (Op.Read a)) _ c.args.out.now c.read.new.out (may_read_bytes (state_of c.args.store.now) c.args.context.now a) c.read.ensures.put)

pub write-requires : goal.write-requires
write-requires c =
    let i = Operation c.args.op.now in
    let r = c.match-op.res in
    let s = state_of c.args.store.now in
    let left : Outcome = record { result = r; state = state_of c.match-op.store; context = c.match-op.context } in
    let plain : is_plain i ≡ true = search rules in
    let is : comes_to (is_lack (status_of_result r)) s c.args.context.now (time_at s c.args.now) i ≡ Some left = search rules in
    let may = (keeps (is_lack (status_of_result r)) s c.args.context.now (time_at s c.args.now) i plain c.kept.ensures c.kept-2.ensures c.requires.store left is).may in
    record { bounds = bounded_may i r may; room = λ arrays. room_may i r c.args.out.now may c.requires.room }

pub returns : goal.returns
returns c =
    let i = Operation c.args.op.now in
    let r = c.match-op.res in
    let s = state_of c.args.store.now in
    let left : Outcome = record { result = r; state = state_of c.match-op.store; context = c.match-op.context } in
    let plain : is_plain i ≡ true = search rules in
    let is : comes_to (is_lack (status_of_result r)) s c.args.context.now (time_at s c.args.now) i ≡ Some left = search rules in
    let kept = keeps (is_lack (status_of_result r)) s c.args.context.now (time_at s c.args.now) i plain c.kept.ensures c.kept-2.ensures c.requires.store left is in
    record { comes = search rules; store = kept.store; within = within i r c.args.out.now c.write.new.out kept.may c.write.ensures }
