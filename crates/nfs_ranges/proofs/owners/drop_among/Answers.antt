use Rattle.std.proofs.Common.{ap, ◌∙◌, drop}
use Rattle.nfs_ranges.specs.{Edits.{lead, head}, Groups.{is_below, is_own}}
use Rattle.nfs_ranges.proofs.KeptLemmas.{own_removed, own_dropped}
use Rattle.nfs_ranges.proofs.owners.drop_among.Goals as goal

pub returns-then-stands_at : goal.returns-then-stands_at
returns-then-stands_at c =
    c.remove.ensures.items
    ∙ own_removed c.args.number c.place_of-place.result c.args.owners.now.items c.stands_at.result (c.place_of-place.ensures.place ∙ ap (lead (is_below c.args.number)) c.deref.ensures.value) (c.stands_at.ensures.own ∙ ap (λ os. is_own c.args.number (head (drop c.place_of-place.result os))) c.deref-2.ensures.value) c.if-stands_at.true

pub returns-else-stands_at : goal.returns-else-stands_at
returns-else-stands_at c =
    own_dropped c.args.number c.place_of-place.result c.args.owners.now.items c.stands_at.result (c.place_of-place.ensures.place ∙ ap (lead (is_below c.args.number)) c.deref.ensures.value) (c.stands_at.ensures.own ∙ ap (λ os. is_own c.args.number (head (drop c.place_of-place.result os))) c.deref-2.ensures.value) c.if-stands_at.false
