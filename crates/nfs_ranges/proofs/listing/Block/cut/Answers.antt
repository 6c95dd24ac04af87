use Rattle.std.proofs.{Common.{◌≡◌, ◌++◌, take, drop, sym, subst, arith}, lemmas.Grind.common_steps}
use Rattle.std.specs.List.{AllWithin}
use Rattle.nfs_ranges.specs.Listing.{Has, IsIn}
use Rattle.nfs_ranges.proofs.ListingLemmas.{has_rest}
use Rattle.nfs_ranges.proofs.listing.Block.cut.Goals as goal

pub returns-then-not-stays : goal.returns-then-not-stays
returns-then-not-stays c = λ h apart has.
    let left : c.drop-drain.new.self.0.items ≡ take c.place_of-from.result c.self.inside.locks.items ++ drop c.end_of-to.result c.self.inside.locks.items =
    grind (arith, common_steps) in
    subst (λ hs. Has hs h) (sym left)
    (has_rest c.args.part.now c.self.inside.locks.items c.place_of-from.result c.end_of-to.result h c.end_of-to.ensures.order.0
    (subst (λ hs. AllWithin (IsIn c.args.part.now) hs c.place_of-from.result c.end_of-to.result) c.deref.ensures.value c.end_of-to.ensures.part) apart
    (subst (λ hs. Has hs h) (sym c.self.view_is) has))

pub returns-else-not-stays : goal.returns-else-not-stays
returns-else-not-stays c = λ h apart has.
    let left : c.drop-drain.new.self.0.items ≡ take c.place_of-from.result c.self.inside.locks.items ++ drop c.end_of-to.result c.self.inside.locks.items =
    grind (arith, common_steps) in
    subst (λ hs. Has hs h) (sym left)
    (has_rest c.args.part.now c.self.inside.locks.items c.place_of-from.result c.end_of-to.result h c.end_of-to.ensures.order.0
    (subst (λ hs. AllWithin (IsIn c.args.part.now) hs c.place_of-from.result c.end_of-to.result) c.deref.ensures.value c.end_of-to.ensures.part) apart
    (subst (λ hs. Has hs h) (sym c.self.view_is) has))
