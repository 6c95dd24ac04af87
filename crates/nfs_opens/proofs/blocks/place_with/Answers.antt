use Rattle.std.proofs.Common.{◌≡◌, Some, None, sym, ◌∙◌, ap}
use Rattle.std.specs.{Prelude.slice_get, Option.option_copied}
use Rattle.nfs_opens.proofs.BlockLemmas.{found_here, found_other, found_nowhere}
use Rattle.nfs_opens.proofs.blocks.place_with.Goals as goal

pub returns-in-Some-clause-found : goal.returns-in-Some-clause-found
returns-in-Some-clause-found g c =
    let p = g.S.Search.before c.args.of.now in
    let there : slice_get c.args.items.now c.place_of-place.result ≡ Some c.in-Some.item.now = sym c.item_at.ensures ∙ ap option_copied c.in-Some.is in
    found_here p (g.S.Search.is c.args.of.now) c.args.items.now c.in-Some.item.now (ap (slice_get c.args.items.now) (sym c.place_of-place.ensures.place) ∙ there)
    (sym c.finds.ensures ∙ c.if-finds.true) ∙ sym there

pub returns-in_default-clause-none : goal.returns-in_default-clause-none
returns-in_default-clause-none g c =
    let p = g.S.Search.before c.args.of.now in
    let there : slice_get c.args.items.now c.place_of-place.result ≡ Some c.in-Some.item.now = sym c.item_at.ensures ∙ ap option_copied c.in-Some.is in
    found_other p (g.S.Search.is c.args.of.now) c.args.items.now c.in-Some.item.now (ap (slice_get c.args.items.now) (sym c.place_of-place.ensures.place) ∙ there)
    (sym c.finds.ensures ∙ c.if-finds.false)

pub returns-in_default-2-clause-none : goal.returns-in_default-2-clause-none
returns-in_default-2-clause-none g c =
    let p = g.S.Search.before c.args.of.now in
    let none : slice_get c.args.items.now c.place_of-place.result ≡ None = sym c.item_at.ensures ∙ ap option_copied c.in_default.is in
    found_nowhere p (g.S.Search.is c.args.of.now) c.args.items.now (ap (slice_get c.args.items.now) (sym c.place_of-place.ensures.place) ∙ none)
