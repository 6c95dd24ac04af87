use Rattle.std.proofs.Common.{ℕ, ◌≢◌, ◌<◌, List, length, ap, sym, ◌∙◌, subst}
use Rattle.nfs_xdr.specs.Tables.{In}
use Rattle.nfs_opens.specs.{declared.records.OpenState.OpenState, Blocks.Listed, Index.{IsIndex, HasPut, pair_of}, Keys.{open_key, owner_key}}
use Rattle.nfs_opens.specs.{TableInvariants.whose, Counts.{AreCounted, CountsAnew, count_at, with_one}, StateId.last_number}
use Rattle.nfs_opens.specs.declared.counts.Reservation.{Reservation}
use Rattle.nfs_opens.proofs.{CountedLemmas.counted_pushed, SingleLemmas.each_pushed, IndexLemmas.{index_put, index_apart}}
use Rattle.nfs_opens.proofs.open_states.OpenStates.push.Goals as goal

pub put_pair-requires-clause-other : goal.put_pair-requires-clause-other
put_pair-requires-clause-other c = index_apart (λ (o : OpenState). o.file) (λ o. o.number) c.self.inside.states.items c.self.inside.by_file.items _
    c.self.invariant.0 (subst (λ (x : Listed OpenState). (o : OpenState) → In o x.items → o.number < c.args.new.number) (sym c.self.view_is) c.requires.behind)

pub put_pair-requires-2-clause-other : goal.put_pair-requires-2-clause-other
put_pair-requires-2-clause-other c = index_apart (λ (o : OpenState). o.client) (λ o. o.number) c.self.inside.states.items c.self.inside.by_client.items _
    c.self.invariant.1 (subst (λ (x : Listed OpenState). (o : OpenState) → In o x.items → o.number < c.args.new.number) (sym c.self.view_is) c.requires.behind)

pub put-requires-clause-of : goal.put-requires-clause-of
put-requires-clause-of c = c.key.ensures.key ∙ ap (owner_key c.args.new.file c.args.new.client) (sym c.requires.same)

pub put-requires-clause-other : goal.put-requires-clause-other
put-requires-clause-other c = index_apart open_key (λ o. o.number) c.self.inside.states.items c.self.inside.by_owner.items _
    c.self.invariant.2 (subst (λ (x : Listed OpenState). (o : OpenState) → In o x.items → o.number < c.args.new.number) (sym c.self.view_is) c.requires.behind)

pub push-requires-clause-behind : goal.push-requires-clause-behind
push-requires-clause-behind c = subst (λ (x : Listed OpenState). (o : OpenState) → In o x.items → o.number < c.args.new.number) (sym c.self.view_is) c.requires.behind

pub invariant_of-self : goal.invariant_of-self
invariant_of-self c = (
  subst (λ (ls : List OpenState). IsIndex (λ (o : OpenState). o.file) (λ o. o.number) ls c.put_pair.new.self.items) (sym c.push.ensures)
      (index_put (λ (o : OpenState). o.file) (λ o. o.number) c.self.inside.states.items c.args.new c.self.inside.by_file.items c.put_pair.new.self.items
      c.self.invariant.0 c.put_pair.ensures),
  subst (λ (ls : List OpenState). IsIndex (λ (o : OpenState). o.client) (λ o. o.number) ls c.put_pair-2.new.self.items) (sym c.push.ensures)
      (index_put (λ (o : OpenState). o.client) (λ o. o.number) c.self.inside.states.items c.args.new c.self.inside.by_client.items c.put_pair-2.new.self.items
      c.self.invariant.1 c.put_pair-2.ensures),
  subst (λ (ls : List OpenState). IsIndex open_key (λ o. o.number) ls c.put.new.self.items) (sym c.push.ensures)
      (index_put open_key (λ o. o.number) c.self.inside.states.items c.args.new c.self.inside.by_owner.items c.put.new.self.items c.self.invariant.2
      (subst (λ (xs : List ℕ). HasPut c.self.inside.by_owner.items (pair_of (owner_key c.args.new.file c.args.new.client xs) c.args.new.number) c.put.new.self.items)
      c.requires.same c.put.ensures)),
  each_pushed c.self.inside.states.items c.push.new.self.items c.args.new c.push.ensures
      (subst (λ (x : Listed OpenState). (o : OpenState) → In o x.items → whose o ≢ whose c.args.new) (sym c.self.view_is) c.requires.owner) c.self.invariant.3,
  subst (λ (os : List OpenState). AreCounted os c.add.new.self) (sym c.push.ensures)
      (counted_pushed c.self.inside.states.items c.self.inside.counts c.add.new.self c.args.new
      (subst (λ (x : Listed OpenState). length x.items < last_number) (sym c.self.view_is) c.requires.few) c.self.invariant.4
      (subst (λ (r : Reservation). CountsAnew c.self.inside.counts c.add.new.self c.args.new.file (with_one r (count_at c.self.inside.counts c.args.new.file)))
      c.reserved.ensures c.add.ensures)),
)
