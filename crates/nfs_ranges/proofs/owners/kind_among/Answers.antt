use Rattle.std.proofs.Common.{ap, sym, ◌∙◌}
use Rattle.nfs_ranges.specs.Holders.{kind_at}
use Rattle.nfs_ranges.proofs.KeptLemmas.{own_canonical, own_bytes, no_own_bytes}
use Rattle.nfs_ranges.proofs.owners.kind_among.Goals as goal

pub kind_at-requires : goal.kind_at-requires
kind_at-requires c =
    own_canonical c.args.number c.place_of-place.result c.args.owners.now c.index-owners-place.result c.stands_at.result c.requires
    c.place_of-place.ensures.place c.stands_at.ensures.own c.if-stands_at.true c.index-owners-place.is

pub returns-then-stands_at : goal.returns-then-stands_at
returns-then-stands_at c =
    c.kind_at.ensures
    ∙ ap (λ xs. kind_at xs c.args.byte) (own_bytes c.args.number c.place_of-place.result c.args.owners.now c.index-owners-place.result c.stands_at.result c.requires
    c.place_of-place.ensures.place c.stands_at.ensures.own c.if-stands_at.true c.index-owners-place.is)

pub returns : goal.returns
returns c =
    ap (λ xs. kind_at xs c.args.byte) (sym (no_own_bytes c.args.number c.place_of-place.result c.args.owners.now c.stands_at.result c.requires c.place_of-place.ensures.place c.stands_at.ensures.own c.if-stands_at.false))
