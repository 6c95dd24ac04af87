use Rattle.std.proofs.Common.{ap, sym, subst, arith, length}
use Rattle.std.specs.Prelude.{All}
use Rattle.std.proofs.lemmas.List.Elements.{All-weaker}
use Rattle.nfs_ranges.specs.Listing.{Has, IsReached}
use Rattle.nfs_ranges.proofs.ListingLemmas.{has_new, has_still, all_insert}
use Rattle.nfs_ranges.proofs.listing.Block.insert.Goals as goal

pub invariant_of-self : goal.invariant_of-self
invariant_of-self c =
    subst (All (IsReached c.with-self-inside.result)) (sym c.in_err-insert.ensures.items)
    (All-weaker (IsReached c.self.inside.reach) (IsReached c.with-self-inside.result) c.with-self-inside.ensures.others c.self.inside.locks.items c.self.invariant)

pub invariant_of-self-2 : goal.invariant_of-self-2
invariant_of-self-2 c =
    subst (All (IsReached c.with-self-inside.result)) (sym c.in_ok-insert.ensures.items)
    (all_insert (IsReached c.with-self-inside.result) c.self.inside.locks.items c.place_of-place.result c.args.held c.with-self-inside.ensures.this
    (All-weaker (IsReached c.self.inside.reach) (IsReached c.with-self-inside.result) c.with-self-inside.ensures.others c.self.inside.locks.items c.self.invariant))

pub returns-clause-ok : goal.returns-clause-ok
returns-clause-ok c =
    subst (λ hs. Has hs c.args.held) (sym c.in_ok-insert.ensures.items)
    (has_new c.self.inside.locks.items c.place_of-place.result c.args.held (omega (arith, c.place_of-place.ensures, ap length c.self.view_is)))

pub returns-clause-others : goal.returns-clause-others
returns-clause-others c = λ h has.
    subst (λ hs. Has hs h) (sym c.in_ok-insert.ensures.items)
    (has_still c.self.inside.locks.items c.place_of-place.result c.args.held h (subst (λ hs. Has hs h) (sym c.self.view_is) has))
