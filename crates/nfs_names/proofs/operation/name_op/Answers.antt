use Rattle.std.proofs.Common.{rules, ◌≡◌, ◌≤◌, ◌+◌, length, sym, ap, subst, Some}
use Rattle.nfs_xdr.specs.declared.time.Time.{Time}
use Rattle.nfs_compound.specs.{declared.op.Item.Item, declared.op.Item.TheVariants.Operation}
use Rattle.nfs_compound.specs.declared.op.Op.TheVariants as Op
use Rattle.nfs_results.specs.{Largest.largest, declared.res.Res.Res, Results.status_of_result}
use Rattle.nfs_tree.specs.TreeInvariants.{IsTree}
use Rattle.nfs_names.specs.{declared.context.Context.Context, State.{State, state_of, time_at}, StoreInvariants.IsStore, Outcome.is_lack, Operation.comes_to}
use Rattle.nfs_names.proofs.{Bounds.answers_one, Ones.each_of, Whole.{Keeps, keeps, within, bounded_may, room_may}}
use Rattle.nfs_names.proofs.operation.name_op.Goals as goal

pub returns-in-GetAttr-clause-within : goal.returns-in-GetAttr-clause-within
returns-in-GetAttr-clause-within c =
    let words = c.in-GetAttr.attr_request in
    subst (λ (i : Item). length c.get_attr.new.out.bytes ≤ length c.args.out.now.bytes + largest i) (sym (ap Operation c.in-GetAttr.is))
    (within (Operation (Op.GetAttr words)) _ c.args.out.now c.get_attr.new.out
    (answers_one (state_of c.args.store.now) c.args.context.now (time_at (state_of c.args.store.now) c.args.now) (Op.GetAttr words)).is c.get_attr.ensures.put)

pub returns-in-GetFh-clause-within : goal.returns-in-GetFh-clause-within
returns-in-GetFh-clause-within c =
    subst (λ (i : Item). length c.get_fh.new.out.bytes ≤ length c.args.out.now.bytes + largest i) (sym (ap Operation c.in-GetFh.is))
    (within (Operation Op.GetFh) _ c.args.out.now c.get_fh.new.out (answers_one (state_of c.args.store.now) c.args.context.now (time_at (state_of c.args.store.now) c.args.now) Op.GetFh).is c.get_fh.ensures.put)

pub returns-in-ReadDir-clause-within : goal.returns-in-ReadDir-clause-within
returns-in-ReadDir-clause-within c =
    let a = c.in-ReadDir.asked in
    subst (λ (i : Item). length c.read_dir.new.out.bytes ≤ length c.args.out.now.bytes + largest i) (sym (ap Operation c.in-ReadDir.is))
    (within (Operation (Op.ReadDir a)) _ c.args.out.now c.read_dir.new.out
    (answers_one (state_of c.args.store.now) c.args.context.now (time_at (state_of c.args.store.now) c.args.now) (Op.ReadDir a)).is c.read_dir.ensures.put)

pub returns-in-ReadLink-clause-within : goal.returns-in-ReadLink-clause-within
returns-in-ReadLink-clause-within c =
    subst (λ (i : Item). length c.read_link.new.out.bytes ≤ length c.args.out.now.bytes + largest i) (sym (ap Operation c.in-ReadLink.is))
    (within (Operation Op.ReadLink) _ c.args.out.now c.read_link.new.out (answers_one (state_of c.args.store.now) c.args.context.now (time_at (state_of c.args.store.now) c.args.now) Op.ReadLink).is c.read_link.ensures.put)

-- what was found of an operation whose result is put behind the match
kept : (s : State) (x : Context) (now : Time) (i : Item) (r : Res) (left : State) (behind : Context) → IsTree s.tree → IsStore s
    → comes_to (is_lack (status_of_result r)) s x now i ≡ Some (record { result = r; state = left; context = behind })
    → Keeps i (record { result = r; state = left; context = behind })
kept s x now i r left behind tree is = each_of (Keeps i) _ (keeps (is_lack (status_of_result r)) s x now i tree is) _

pub write-requires : goal.write-requires
write-requires c =
    let i = Operation c.args.op.now in
    let r = c.match-op.res in
    let s = state_of c.args.store.now in
    let is : comes_to (is_lack (status_of_result r)) s c.args.context.now (time_at s c.args.now) i
    ≡ Some (record { result = r; state = state_of c.match-op.store; context = c.match-op.context }) = search rules in
    let may = (kept s c.args.context.now (time_at s c.args.now) i r (state_of c.match-op.store) c.match-op.context c.kept.ensures c.requires.store is).may in
    record { bounds = bounded_may i r may; room = λ arrays. room_may i r c.args.out.now may c.requires.room }

pub returns : goal.returns
returns c =
    let i = Operation c.args.op.now in
    let r = c.match-op.res in
    let s = state_of c.args.store.now in
    let is : comes_to (is_lack (status_of_result r)) s c.args.context.now (time_at s c.args.now) i
    ≡ Some (record { result = r; state = state_of c.match-op.store; context = c.match-op.context }) = search rules in
    let keeps = kept s c.args.context.now (time_at s c.args.now) i r (state_of c.match-op.store) c.match-op.context c.kept.ensures c.requires.store is in
    record { comes = search rules; store = keeps.store; within = within i r c.args.out.now c.write.new.out keeps.may c.write.ensures }
