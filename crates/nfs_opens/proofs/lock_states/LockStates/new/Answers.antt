use Rattle.std.proofs.Common.{List, [], ℕ, sym, subst}
use Rattle.nfs_opens.specs.{declared.index.Pair.Pair, declared.records.LockState.LockState, Index.IsIndex, Keys.lock_key}
use Rattle.nfs_opens.proofs.IndexLemmas.{index_none}
use Rattle.nfs_opens.proofs.lock_states.LockStates.new.Goals as goal

pub invariant_of-result : goal.invariant_of-result
invariant_of-result c =
    let none = λ (of : LockState → ℕ). subst (λ (ls : List LockState). IsIndex of (λ l. l.number) ls []) (sym c.new.ensures) (index_none of (λ l. l.number)) in (
      subst (λ (ps : List Pair). IsIndex (λ (l : LockState). l.file) (λ l. l.number) c.new.result.items ps) (sym c.new-2.ensures) (none (λ l. l.file)),
      subst (λ (ps : List Pair). IsIndex (λ (l : LockState). l.opened) (λ l. l.number) c.new.result.items ps) (sym c.new-3.ensures) (none (λ l. l.opened)),
      subst (λ (ps : List Pair). IsIndex lock_key (λ l. l.number) c.new.result.items ps) (sym c.new-4.ensures) (none lock_key),
    )
