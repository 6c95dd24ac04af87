use Rattle.std.proofs.Common.{◌≡◌, true, false, List, sym, ◌∙◌, ap, arith}
use Rattle.nfs_tree.specs.{declared.row.Row.Row, Files.has_row}
use Rattle.nfs_tree.proofs.Counted.{some_links, no_links, links_few}
use Rattle.nfs_tree.proofs.rows.Rows.links_in.Goals as goal

pub overflow_add-result : goal.overflow_add-result
overflow_add-result c =
    let few = links_few c.self.inside.tables.rows _ c.args.object c.self.invariant.named in
    let more = c.of.ensures ∙ c.self.invariant.counted c.args.object in
    omega arith

pub returns-then-has_row : goal.returns-then-has_row
returns-then-has_row c =
    let rows = c.self.inside.tables.rows in
    let named : has_row rows c.args.object ≡ true = ap (λ (rows : List Row). has_row rows c.args.object) c.self.view_is ∙ sym c.has_row.ensures ∙ c.if-has_row.true in
    let some = some_links rows c.args.object named in
    let more = c.of.ensures ∙ c.self.invariant.counted c.args.object in
    rw (← c.self.view_is) (omega arith)

pub returns-else-has_row : goal.returns-else-has_row
returns-else-has_row c =
    let rows = c.self.inside.tables.rows in
    let unnamed : has_row rows c.args.object ≡ false = ap (λ (rows : List Row). has_row rows c.args.object) c.self.view_is ∙ sym c.has_row.ensures ∙ c.if-has_row.false in
    rw (← c.self.view_is) (sym (no_links rows c.args.object unnamed))
