use Rattle.std.proofs.{Common.{ap, sym, ◌∙◌, drop}, lemmas.Bool.OnTrue_at}
use Rattle.nfs_ranges.specs.{Edits.{lead, head}, Groups.{is_below, is_own}}
use Rattle.nfs_ranges.proofs.KeptLemmas.{none_cleared, own_covered, own_canonical, own_emptied, own_cleared}
use Rattle.nfs_ranges.proofs.owners.clear_among.Goals as goal

pub returns-then-not-stands_at-clause-ok : goal.returns-then-not-stands_at-clause-ok
returns-then-not-stands_at-clause-ok c =
    none_cleared c.args.number c.place_of-place.result c.args.first c.args.last c.args.owners.now.items c.stands_at.result c.requires.owners
    (c.place_of-place.ensures.place ∙ ap (lead (is_below c.args.number)) c.deref.ensures.value) (c.stands_at.ensures.own ∙ ap (λ os. is_own c.args.number (head (drop c.place_of-place.result os))) c.deref-2.ensures.value) c.if-not-stands_at.true

pub returns-then-lies_within-clause-ok : goal.returns-then-lies_within-clause-ok
returns-then-lies_within-clause-ok c =
    c.remove.ensures.items
    ∙ own_covered c.args.number c.place_of-place.result c.args.first c.args.last c.args.owners.now.items c.index.result.now c.stands_at.result c.requires.owners
    (c.place_of-place.ensures.place ∙ ap (lead (is_below c.args.number)) c.deref.ensures.value) (c.stands_at.ensures.own ∙ ap (λ os. is_own c.args.number (head (drop c.place_of-place.result os))) c.deref-2.ensures.value) c.if-not-stands_at.false c.index.ensures
    (OnTrue_at c.if-lies_within.true c.lies_within.ensures)

pub clear-requires-clause-canonical : goal.clear-requires-clause-canonical
clear-requires-clause-canonical c =
    own_canonical c.args.number c.place_of-place.result c.args.owners.now.items c.index_mut-owner.result.now c.stands_at.result c.requires.owners
    (c.place_of-place.ensures.place ∙ ap (lead (is_below c.args.number)) c.deref.ensures.value) (c.stands_at.ensures.own ∙ ap (λ os. is_own c.args.number (head (drop c.place_of-place.result os))) c.deref-2.ensures.value) c.if-not-stands_at.false c.index_mut-owner.ensures.value

pub returns-then-is_empty-clause-ok : goal.returns-then-is_empty-clause-ok
returns-then-is_empty-clause-ok c =
    c.remove-then-is_empty.ensures.items
    ∙ own_emptied c.args.number c.place_of-place.result c.args.first c.args.last c.args.owners.now.items c.index_mut-owner.result.now c.clear.new.self c.stands_at.result
    c.requires.owners (c.place_of-place.ensures.place ∙ ap (lead (is_below c.args.number)) c.deref.ensures.value) (c.stands_at.ensures.own ∙ ap (λ os. is_own c.args.number (head (drop c.place_of-place.result os))) c.deref-2.ensures.value) c.if-not-stands_at.false
    c.index_mut-owner.ensures.value c.in_ok-clear.ensures.ok (sym c.is_empty.ensures ∙ c.if-is_empty.true)

pub returns-else-is_empty-clause-ok : goal.returns-else-is_empty-clause-ok
returns-else-is_empty-clause-ok c =
    own_cleared c.args.number c.place_of-place.result c.args.first c.args.last c.args.owners.now.items c.index_mut-owner.result.now c.clear.new.self c.stands_at.result
    c.requires.owners (c.place_of-place.ensures.place ∙ ap (lead (is_below c.args.number)) c.deref.ensures.value) (c.stands_at.ensures.own ∙ ap (λ os. is_own c.args.number (head (drop c.place_of-place.result os))) c.deref-2.ensures.value) c.if-not-stands_at.false
    c.index_mut-owner.ensures.value c.in_ok-clear.ensures.ok (sym c.is_empty.ensures ∙ c.if-is_empty.false)
