use Rattle.std.proofs.Common.{subst, ◌∙◌}
use Rattle.std.specs.Option.{option_copied}
use Rattle.nfs_opens.specs.{declared.records.LockState.LockState, Blocks.Listed, TableInvariants.Rises}
use Rattle.nfs_opens.proofs.{IndexLemmas.state_seen, IndexedLemmas.copied_some}
use Rattle.nfs_opens.proofs.lock_states.LockStates.is_on.Goals as goal

pub returns : goal.returns
returns c =
    let rises = subst (λ (x : Listed LockState). Rises (λ (l : LockState). l.number) 1 x.items) c.self.view_is c.kept.ensures in
    c.is_some.ensures ∙ (copied_some c.next_on.result ∙ state_seen (λ (l : LockState). l.file) (λ l. l.number) c.args.file rises.0
    c.args.self.now.items rises.1 (option_copied c.next_on.result) c.next_on.ensures)
