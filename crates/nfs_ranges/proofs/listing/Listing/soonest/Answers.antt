use Rattle.std.proofs.Common.{sym, subst}
use Rattle.std.specs.Prelude.{All}
use Rattle.nfs_ranges.specs.Listing.{Has, Yields}
use Rattle.nfs_ranges.proofs.ListingLemmas.{of_blocks}
use Rattle.nfs_ranges.proofs.listing.Listing.soonest.Goals as goal

pub returns-clause-these : goal.returns-clause-these
returns-clause-these c = λ h has.
    of_blocks (Yields c.args.wish.now c.soonest_in.result) c.self.inside.blocks.items h
    (subst (All (All (Yields c.args.wish.now c.soonest_in.result))) c.deref.ensures.value c.soonest_in.ensures.these)
    (subst (λ hs. Has hs h) (sym c.self.view_is) has)
