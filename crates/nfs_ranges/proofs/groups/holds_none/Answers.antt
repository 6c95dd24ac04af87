use Rattle.std.proofs.Common.{ap, ◌∙◌}
use Rattle.nfs_ranges.specs.{Holders.bytes_of, Owners.is_empty}
use Rattle.nfs_ranges.proofs.GroupLemmas.{group_canonical, group_bytes}
use Rattle.nfs_ranges.proofs.groups.holds_none.Goals as goal

pub is_absent-requires : goal.is_absent-requires
is_absent-requires c = rw c.owners_at.ensures (group_canonical c.args.groups.now c.group_of.result c.requires)

pub returns : goal.returns
returns c =
    c.is_absent.ensures
    ∙ ap (λ os. is_empty (bytes_of os c.args.number)) c.owners_at.ensures
    ∙ ap is_empty (group_bytes c.args.number c.group_of.result c.args.groups.now c.requires c.group_of.ensures)
