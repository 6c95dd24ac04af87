use Rattle.std.proofs.{Common.{sym, ◌∙◌, subst}, lemmas.Bool.OnTrue_at}
use Rattle.nfs_ranges.specs.{Facts.Tells, Holders.at, Blocks.flat}
use Rattle.nfs_ranges.proofs.{ClashLemmas.tells, ListedLemmas.{none_told, some_is_told}}
use Rattle.nfs_ranges.proofs.listed.clash.Goals as goal

pub returns-in_default : goal.returns-in_default
returns-in_default c =
    none_told (flat c.args.groups.now) c.args.listings.now.reads c.args.listings.now.writes c.args.wish.now c.requires.groups.canonical
    (OnTrue_at c.if-are_listed.true c.requires.listed) c.in_default.ensures.writes c.in_default.ensures.reads

pub returns-then-is_so : goal.returns-then-is_so
returns-then-is_so c =
    some_is_told (flat c.args.groups.now) c.args.listings.now.reads c.args.listings.now.writes c.args.wish.now c.in-Some.found c.in-Some-told_by.told c.is_so.result
    c.requires.range c.requires.groups.canonical (OnTrue_at c.if-are_listed.true c.requires.listed) c.in-Some.ensures.writes c.in-Some.ensures.reads
    (sym c.in-Some-told_by.is ∙ c.told_by.ensures) c.is_so.ensures c.if-is_so.true

pub returns : goal.returns
returns c =
    subst (Tells (at (flat c.args.groups.now)) c.args.wish.now.owner c.args.wish.now.kind c.args.wish.now.first c.args.wish.now.last) (sym c.first_clash.ensures)
    (tells (flat c.args.groups.now) c.args.wish.now.owner c.args.wish.now.kind c.args.wish.now.first c.args.wish.now.last c.requires.range c.requires.groups.canonical)
