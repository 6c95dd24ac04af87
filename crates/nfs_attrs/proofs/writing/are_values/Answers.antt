use Rattle.std.proofs.Common.{sym, ◌∙◌}
use Rattle.nfs_attrs.specs.Attributes.{values}
use Rattle.nfs_attrs.proofs.Whole.{all_left, none_left}
use Rattle.nfs_attrs.proofs.writing.are_values.Goals as goal

pub returns-then-values_follow : goal.returns-then-values_follow
returns-then-values_follow c =
    rw c.left.ensures (all_left c.args.bytes.now (values c.args.asked.now c.args.about.now c.args.object.now) c.values_follow.new.cursor (sym
    c.new-cursor.ensures ∙ c.if-values_follow.ensures))

pub returns-else-values_follow : goal.returns-else-values_follow
returns-else-values_follow c =
    c.if-values_follow.false ∙ none_left c.args.bytes.now (values c.args.asked.now c.args.about.now c.args.object.now) (λ rest h.
    c.if-values_follow.ensures rest (c.new-cursor.ensures ∙ h))
