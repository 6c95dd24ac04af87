use Rattle.std.proofs.{Common.{◌<◌, List, length, eqb, sym, ◌∙◌, ap, subst, arith}, lemmas.Grind.common_steps}
use Rattle.nfs_ranges.specs.{declared.Held.Held, Blocks.flat, Listing.Has}
use Rattle.nfs_ranges.proofs.ListingLemmas.{flat_keeps, flat_emptied, emptied}
use Rattle.nfs_ranges.proofs.listing.Listing.cut.Goals as goal

pub returns-then-is_empty-2 : goal.returns-then-is_empty-2
returns-then-is_empty-2 c = λ h apart has.
    subst (λ (bs : List (List Held)). Has (flat bs) h) (sym c.remove.ensures.items) (flat_emptied c.self.inside.blocks.items c.block_of-at.result c.index_mut.result.now c.cut-last.new.self h
    (subst (λ bs. c.block_of-at.result < length bs) c.deref.ensures.value c.block_of-at.ensures) c.index_mut.ensures.value
    (c.cut-last.ensures h apart) (emptied (length c.cut-last.new.self) c.is_empty-2.result
    (c.is_empty-2.ensures ∙ ap (λ (b : List Held). eqb (length b) 0) (grind (arith, common_steps))) c.if-is_empty-2.true) (subst (λ hs. Has hs h) (sym c.self.view_is) has))

pub returns-else-is_empty-2 : goal.returns-else-is_empty-2
returns-else-is_empty-2 c = λ h apart has.
    flat_keeps c.self.inside.blocks.items c.block_of-at.result c.index_mut.result.now c.cut-last.new.self h
    (subst (λ bs. c.block_of-at.result < length bs) c.deref.ensures.value c.block_of-at.ensures) c.index_mut.ensures.value
    (c.cut-last.ensures h apart) (subst (λ hs. Has hs h) (sym c.self.view_is) has)
