use Rattle.std.proofs.Common.{not, eqb, ap, ◌∙◌}
use Rattle.std.specs.Prelude.{◌==◌}
use Rattle.nfs_tree.specs.declared.row.Row.{Row}
use Rattle.nfs_names.proofs.Rows.{any_counted}
use Rattle.nfs_names.proofs.store.Store.is_named.Goals as goal

pub returns : goal.returns
returns c = ap (λ n. not (eqb n 0)) c.links.ensures ∙ any_counted (λ (r : Row). r.object == c.args.number) c.args.self.now.tree.rows
