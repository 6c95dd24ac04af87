use Rattle.std.proofs.Common.{ℕ, ◌<◌, List, ap, sym, ◌∙◌, subst}
use Rattle.nfs_xdr.specs.Tables.{In}
use Rattle.nfs_opens.specs.{declared.records.LockState.LockState, Blocks.Listed, Index.{IsIndex, HasPut, pair_of}, Keys.{lock_key, owner_key}}
use Rattle.nfs_opens.proofs.IndexLemmas.{index_put, index_apart}
use Rattle.nfs_opens.proofs.lock_states.LockStates.push.Goals as goal

pub put_pair-requires-clause-other : goal.put_pair-requires-clause-other
put_pair-requires-clause-other c = index_apart (λ (l : LockState). l.file) (λ l. l.number) c.self.inside.states.items c.self.inside.by_file.items _
    c.self.invariant.0 (subst (λ (x : Listed LockState). (l : LockState) → In l x.items → l.number < c.args.new.number) (sym c.self.view_is) c.requires.behind)

pub put_pair-requires-2-clause-other : goal.put_pair-requires-2-clause-other
put_pair-requires-2-clause-other c = index_apart (λ (l : LockState). l.opened) (λ l. l.number) c.self.inside.states.items c.self.inside.by_open.items _
    c.self.invariant.1 (subst (λ (x : Listed LockState). (l : LockState) → In l x.items → l.number < c.args.new.number) (sym c.self.view_is) c.requires.behind)

pub put-requires-clause-of : goal.put-requires-clause-of
put-requires-clause-of c = c.key.ensures.key ∙ ap (owner_key c.args.new.file c.args.new.client) (sym c.requires.same)

pub put-requires-clause-other : goal.put-requires-clause-other
put-requires-clause-other c = index_apart lock_key (λ l. l.number) c.self.inside.states.items c.self.inside.by_owner.items _
    c.self.invariant.2 (subst (λ (x : Listed LockState). (l : LockState) → In l x.items → l.number < c.args.new.number) (sym c.self.view_is) c.requires.behind)

pub push-requires-clause-behind : goal.push-requires-clause-behind
push-requires-clause-behind c = subst (λ (x : Listed LockState). (l : LockState) → In l x.items → l.number < c.args.new.number) (sym c.self.view_is) c.requires.behind

pub invariant_of-self : goal.invariant_of-self
invariant_of-self c = (
  subst (λ (ls : List LockState). IsIndex (λ (l : LockState). l.file) (λ l. l.number) ls c.put_pair.new.self.items) (sym c.push.ensures)
      (index_put (λ (l : LockState). l.file) (λ l. l.number) c.self.inside.states.items c.args.new c.self.inside.by_file.items c.put_pair.new.self.items
      c.self.invariant.0 c.put_pair.ensures),
  subst (λ (ls : List LockState). IsIndex (λ (l : LockState). l.opened) (λ l. l.number) ls c.put_pair-2.new.self.items) (sym c.push.ensures)
      (index_put (λ (l : LockState). l.opened) (λ l. l.number) c.self.inside.states.items c.args.new c.self.inside.by_open.items c.put_pair-2.new.self.items
      c.self.invariant.1 c.put_pair-2.ensures),
  subst (λ (ls : List LockState). IsIndex lock_key (λ l. l.number) ls c.put.new.self.items) (sym c.push.ensures)
      (index_put lock_key (λ l. l.number) c.self.inside.states.items c.args.new c.self.inside.by_owner.items c.put.new.self.items c.self.invariant.2
      (subst (λ (xs : List ℕ). HasPut c.self.inside.by_owner.items (pair_of (owner_key c.args.new.file c.args.new.client xs) c.args.new.number) c.put.new.self.items)
      c.requires.same c.put.ensures)),
)
