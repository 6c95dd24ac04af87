use Rattle.std.proofs.Common.{ap, sym, ◌∙◌}
use Rattle.std.specs.Prelude.{find}
use Rattle.nfs_ranges.specs.Clashes.{hits}
use Rattle.nfs_ranges.proofs.KeptLemmas.{own_canonical, own_bytes, no_own_bytes}
use Rattle.nfs_ranges.proofs.owners.hit_among.Goals as goal

pub hit-requires : goal.hit-requires
hit-requires c =
    own_canonical c.args.number c.place_of-place.result c.args.owners.now c.index-owners-place.result c.stands_at.result c.requires
    c.place_of-place.ensures.place c.stands_at.ensures.own c.if-stands_at.true c.index-owners-place.is

pub returns-then-stands_at : goal.returns-then-stands_at
returns-then-stands_at c =
    c.hit.ensures
    ∙ ap (find (hits c.args.kind c.args.first c.args.last)) (own_bytes c.args.number c.place_of-place.result c.args.owners.now c.index-owners-place.result c.stands_at.result c.requires
    c.place_of-place.ensures.place c.stands_at.ensures.own c.if-stands_at.true c.index-owners-place.is)

pub returns : goal.returns
returns c =
    ap (find (hits c.args.kind c.args.first c.args.last)) (sym (no_own_bytes c.args.number c.place_of-place.result c.args.owners.now c.stands_at.result c.requires
    c.place_of-place.ensures.place c.stands_at.ensures.own c.if-stands_at.false))
