use Rattle.std.proofs.Common.{sym, ◌∙◌}
use Rattle.nfs_ranges.proofs.BlockLemmas.{block_got, block_none}
use Rattle.nfs_ranges.proofs.groups.owners_at.Goals as goal

pub returns-in-Some : goal.returns-in-Some
returns-in-Some c =
    c.owners.ensures
    ∙ sym (block_got c.args.groups.now c.args.group c.in-Some.g.now c.in-Some.ensures.lookup.3.0 c.in-Some.ensures.lookup.1)

pub returns-in-None : goal.returns-in-None
returns-in-None c = sym (block_none c.args.groups.now c.args.group c.in-None.ensures.lookup.3)
