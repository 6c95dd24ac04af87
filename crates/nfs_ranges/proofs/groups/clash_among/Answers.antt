use Rattle.std.proofs.{Common.{◌+◌, drop, sym, ◌∙◌, ap}, lemmas.Bool.OnTrue_at}
use Rattle.nfs_ranges.specs.Clashes.{tell, sooner}
use Rattle.nfs_ranges.proofs.ClashLemmas.{one_canonical, told_next}
use Rattle.nfs_ranges.proofs.groups.clash_among.Goals as goal

pub clash-requires : goal.clash-requires
clash-requires c = one_canonical c.args.owners.now c.loop-o.o-index c.o-item.result c.requires c.loop-o-test.true c.o-item.is

pub returns-then-stays_told : goal.returns-then-stays_told
returns-then-stays_told c =
    sym (OnTrue_at c.if-stays_told.true c.stays_told.ensures c.args.number c.args.kind c.args.last (drop (c.loop-o.o-index + 1) c.args.owners.now))
    ∙ told_next c.args.number c.args.kind c.args.first c.args.last c.loop-o.o-index c.loop-o.told c.sooner-told.result c.args.owners.now c.o-item.result
    (tell c.args.number c.args.kind c.args.first c.args.last c.args.best c.args.owners.now) c.loop-o-test.true c.o-item.is c.loop-o.invariant
    (c.sooner-told.ensures ∙ ap (sooner c.args.first c.loop-o.told) (sym c.in-Some.is ∙ c.clash.ensures))
