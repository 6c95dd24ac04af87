use Rattle.std.proofs.Common.{ℕ, List, sym, subst, ap}
use Rattle.nfs_opens.specs.{declared.records.OpenState.OpenState, Counts.AreCounted, Keys.{open_key, owner_key}}
use Rattle.nfs_opens.proofs.{IndexLemmas.index_changed, SingleLemmas.each_changed}
use Rattle.nfs_opens.proofs.open_states.OpenStates.change.Goals as goal

pub invariant_of-self : goal.invariant_of-self
invariant_of-self g c =
    let change = g.C.Change.changed c.args.change.now in
    let number = g.met.C.StateChange.keeps c.args.change.now in
    let stays = g.met.C.OpenChange.stays c.args.change.now in
    let n = c.args.number in
    let opens = c.self.inside.states.items in
    let made = c.change.ensures.items in (
      index_changed (λ (o : OpenState). o.file) (λ o. o.number) change n opens c.change.new.self.items c.self.inside.by_file.items made
          (λ o. ap (λ (w : ℕ × ℕ × List ℕ). w.0) (stays o)) number c.self.invariant.0,
      index_changed (λ (o : OpenState). o.client) (λ o. o.number) change n opens c.change.new.self.items c.self.inside.by_client.items made
          (λ o. ap (λ (w : ℕ × ℕ × List ℕ). w.1) (stays o)) number c.self.invariant.1,
      index_changed open_key (λ o. o.number) change n opens c.change.new.self.items c.self.inside.by_owner.items made
          (λ o. ap (λ (w : ℕ × ℕ × List ℕ). owner_key w.0 w.1 w.2) (stays o)) number c.self.invariant.2,
      each_changed change n opens c.change.new.self.items made stays c.self.invariant.3,
      subst (λ (os : List OpenState). AreCounted os c.count_changed.new.counts) (sym made) c.count_changed.ensures.counted,
    )
