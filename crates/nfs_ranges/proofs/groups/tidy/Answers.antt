use Rattle.std.proofs.Common.{refl, sym, ◌∙◌}
use Rattle.nfs_ranges.proofs.GroupLemmas.{some_but, without_empty}
use Rattle.nfs_ranges.proofs.groups.tidy.Goals as goal

pub returns-then-is_empty : goal.returns-then-is_empty
returns-then-is_empty c =
    rw c.remove.ensures.items (without_empty c.args.groups.now.items c.args.group c.index.result.now c.requires.some c.requires.bound c.index.ensures
    (sym c.is_empty.ensures ∙ c.if-is_empty.true))

pub returns-else-is_empty : goal.returns-else-is_empty
returns-else-is_empty c = record {
  some = some_but c.args.groups.now.items c.args.group c.index.result.now c.requires.some c.requires.bound c.index.ensures
      (sym c.is_empty.ensures ∙ c.if-is_empty.false);
  same = refl;
}
