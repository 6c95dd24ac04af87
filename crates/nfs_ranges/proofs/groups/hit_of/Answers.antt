use Rattle.std.proofs.Common.{ap, ◌∙◌}
use Rattle.std.specs.Prelude.{find}
use Rattle.nfs_ranges.specs.{Clashes.hits, Holders.bytes_of}
use Rattle.nfs_ranges.proofs.GroupLemmas.{group_canonical, group_bytes}
use Rattle.nfs_ranges.proofs.groups.hit_of.Goals as goal

pub hit_among-requires : goal.hit_among-requires
hit_among-requires c = rw c.owners_at.ensures (group_canonical c.args.groups.now c.group_of.result c.requires)

pub returns : goal.returns
returns c =
    c.hit_among.ensures
    ∙ ap (λ os. find (hits c.args.kind c.args.first c.args.last) (bytes_of os c.args.number)) c.owners_at.ensures
    ∙ ap (find (hits c.args.kind c.args.first c.args.last)) (group_bytes c.args.number c.group_of.result c.args.groups.now c.requires c.group_of.ensures)
