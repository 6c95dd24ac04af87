use Rattle.std.proofs.Common.{List, [], ℕ, sym, subst}
use Rattle.nfs_opens.specs.{declared.index.Pair.Pair, declared.records.OpenState.OpenState, Index.IsIndex, Keys.open_key, TableInvariants.HasOneEach}
use Rattle.nfs_opens.specs.Counts.{AreCounted}
use Rattle.nfs_opens.proofs.{IndexLemmas.index_none, SingleLemmas.each_none}
use Rattle.nfs_opens.proofs.open_states.OpenStates.new.Goals as goal

pub invariant_of-result : goal.invariant_of-result
invariant_of-result c =
    let none = λ (of : OpenState → ℕ). subst (λ (ls : List OpenState). IsIndex of (λ o. o.number) ls []) (sym c.new.ensures) (index_none of (λ o. o.number)) in (
      subst (λ (ps : List Pair). IsIndex (λ (o : OpenState). o.file) (λ o. o.number) c.new.result.items ps) (sym c.new-2.ensures) (none (λ o. o.file)),
      subst (λ (ps : List Pair). IsIndex (λ (o : OpenState). o.client) (λ o. o.number) c.new.result.items ps) (sym c.new-3.ensures) (none (λ o. o.client)),
      subst (λ (ps : List Pair). IsIndex open_key (λ o. o.number) c.new.result.items ps) (sym c.new-4.ensures) (none open_key),
      subst HasOneEach (sym c.new.ensures) each_none,
      subst (λ (os : List OpenState). AreCounted os c.new-5.result) (sym c.new.ensures) c.new-5.ensures,
    )
