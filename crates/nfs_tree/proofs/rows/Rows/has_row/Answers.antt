use Rattle.std.proofs.Common.{sym}
use Rattle.nfs_tree.specs.declared.row.Row.{Row}
use Rattle.nfs_tree.proofs.PairLemmas.{some_pair, no_pair, is_there, not_there}
use Rattle.nfs_tree.proofs.rows.Rows.has_row.Goals as goal

pub returns-in-None : goal.returns-in-None
returns-in-None c = rw (← c.self.view_is) (sym (no_pair (λ (r : Row). r.object) _ _ c.args.object c.self.invariant.owned
    (λ k low. not_there _ (c.in-None.ensures.none k low))))

pub returns-in-Some : goal.returns-in-Some
returns-in-Some c = rw (← c.self.view_is) (sym (some_pair (λ (r : Row). r.object) _ _ c.args.object c.in-Some.field-0 c.self.invariant.owned
    (is_there _ c.in-Some.ensures.there)))
