use Rattle.std.proofs.{Common.{ap, ◌∙◌, drop}, lemmas.Result.on_ok_weaker}
use Rattle.nfs_ranges.specs.{Edits.{lead, head}, Groups.{is_below, is_own}}
use Rattle.nfs_ranges.proofs.KeptLemmas.{own_canonical, own_held, new_held}
use Rattle.nfs_ranges.proofs.owners.set_among.Goals as goal

pub set-requires-clause-canonical : goal.set-requires-clause-canonical
set-requires-clause-canonical c =
    own_canonical c.args.number c.place_of-place.result c.args.owners.now.items c.index_mut.result.now c.stands_at.result c.requires.owners
    (c.place_of-place.ensures.place ∙ ap (lead (is_below c.args.number)) c.deref.ensures.value) (c.stands_at.ensures.own ∙ ap (λ os. is_own c.args.number (head (drop c.place_of-place.result os))) c.deref-2.ensures.value) c.if-stands_at.true c.index_mut.ensures.value

pub returns-then-stands_at-clause-ok : goal.returns-then-stands_at-clause-ok
returns-then-stands_at-clause-ok c =
    on_ok_weaker c.set.result (λ made. own_held c.args.number c.place_of-place.result (record { kind = c.args.kind; first = c.args.first; last = c.args.last }) c.args.owners.now.items
    c.index_mut.result.now c.set.new.self c.stands_at.result c.requires.owners
    (c.place_of-place.ensures.place ∙ ap (lead (is_below c.args.number)) c.deref.ensures.value) (c.stands_at.ensures.own ∙ ap (λ os. is_own c.args.number (head (drop c.place_of-place.result os))) c.deref-2.ensures.value) c.if-stands_at.true c.index_mut.ensures.value made) c.set.ensures.ok

pub returns-clause-ok : goal.returns-clause-ok
returns-clause-ok c =
    c.in_ok-insert.ensures.items
    ∙ new_held c.args.number c.place_of-place.result (record { kind = c.args.kind; first = c.args.first; last = c.args.last }) c.args.owners.now.items c.in_ok-owner.owner c.stands_at.result c.requires.owners
    (c.place_of-place.ensures.place ∙ ap (lead (is_below c.args.number)) c.deref.ensures.value) (c.stands_at.ensures.own ∙ ap (λ os. is_own c.args.number (head (drop c.place_of-place.result os))) c.deref-2.ensures.value) c.if-stands_at.false c.in_ok-owner.ensures
