use Rattle.std.proofs.Common.{List, sym, subst}
use Rattle.nfs_tree.specs.{declared.row.Row.Row, Left.AreLeft}
use Rattle.nfs_tree.proofs.LeftLemmas.{left_starts}
use Rattle.nfs_tree.proofs.list.Listing.new.Goals as goal

pub invariant_of-result : goal.invariant_of-result
invariant_of-result c =
    subst (λ (xs : List Row). AreLeft xs c.args.directory c.args.cookie c.range.result) (sym c.rising.ensures)
    (left_starts c.args.rows.now c.args.pairs.now.entries c.range.result c.args.directory c.args.cookie
    c.requires c.range.ensures.ordered (c.range.ensures.between tt))
