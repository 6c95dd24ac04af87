use Rattle.std.proofs.{Common.{◌+◌, None, drop, sym, ◌∙◌, ap, subst}, lemmas.Bool.OnTrue_at}
use Rattle.nfs_ranges.specs.{Clashes.tell, Blocks.flat, Owners.AreCanonical}
use Rattle.nfs_ranges.proofs.{ClashLemmas.told_group, GroupLemmas.got_group}
use Rattle.nfs_ranges.proofs.groups.first_clash.Goals as goal

pub clash_among-best-requires : goal.clash_among-best-requires
clash_among-best-requires c =
    subst AreCanonical (sym c.owners.ensures)
    (got_group c.args.groups.now c.loop-g.g-index c.g-item.result c.requires c.loop-g-test.true c.g-item.is)

pub returns-then-stays_told : goal.returns-then-stays_told
returns-then-stays_told c =
    sym (OnTrue_at c.if-stays_told.true c.stays_told.ensures c.args.number c.args.kind c.args.last (flat (drop (c.loop-g.g-index + 1) c.args.groups.now)))
    ∙ told_group c.args.number c.args.kind c.args.first c.args.last c.loop-g.g-index c.loop-g.best c.clash_among-best.result c.args.groups.now c.g-item.result
    (tell c.args.number c.args.kind c.args.first c.args.last None (flat c.args.groups.now)) c.loop-g-test.true c.g-item.is c.loop-g.invariant (c.clash_among-best.ensures ∙
    ap (tell c.args.number c.args.kind c.args.first c.args.last c.loop-g.best) c.owners.ensures)

pub loop-g-preserved : goal.loop-g-preserved
loop-g-preserved c =
    told_group c.args.number c.args.kind c.args.first c.args.last c.loop-g.g-index c.loop-g.best c.clash_among-best.result c.args.groups.now c.g-item.result
    (tell c.args.number c.args.kind c.args.first c.args.last None (flat c.args.groups.now)) c.loop-g-test.true c.g-item.is c.loop-g.invariant (c.clash_among-best.ensures ∙
    ap (tell c.args.number c.args.kind c.args.first c.args.last c.loop-g.best) c.owners.ensures)
