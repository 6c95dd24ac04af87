use Rattle.std.proofs.Common.{ap, ◌∙◌}
use Rattle.nfs_ranges.specs.Holders.{at, kind_at}
use Rattle.nfs_ranges.proofs.GroupLemmas.{group_canonical, group_bytes}
use Rattle.nfs_ranges.proofs.groups.kind_of.Goals as goal

pub kind_among-requires : goal.kind_among-requires
kind_among-requires c = rw c.owners_at.ensures (group_canonical c.args.groups.now c.group_of.result c.requires)

pub returns : goal.returns
returns c =
    c.kind_among.ensures
    ∙ ap (λ os. at os c.args.number c.args.byte) c.owners_at.ensures
    ∙ ap (λ xs. kind_at xs c.args.byte) (group_bytes c.args.number c.group_of.result c.args.groups.now c.requires c.group_of.ensures)
