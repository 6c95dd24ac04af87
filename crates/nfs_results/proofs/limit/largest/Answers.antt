use Rattle.std.proofs.Common.{ℕ, ◌≤◌, length, subst, sym}
use Rattle.nfs_results.specs.Results.{spell_result}
use Rattle.nfs_results.proofs.Lengths.{length_result}
use Rattle.nfs_results.proofs.limit.largest.Goals as goal

pub returns-clause-within : goal.returns-clause-within
returns-clause-within c = λ r arrays may. subst (λ (n : ℕ). length (spell_result r) ≤ n) (sym c.size.ensures) (length_result c.args.item.now r arrays may)
