use Rattle.std.proofs.{Common.{List, ap, ◌∙◌, sym, subst}, lemmas.Result.{on_ok_weaker, on_err_weaker}}
use Rattle.nfs_ranges.specs.{Intervals.without, Holders.{at, cleared, bytes_of}, Blocks.flat}
use Rattle.nfs_ranges.proofs.{EditLemmas.without-canonical, OwnerLemmas.{at_cleared, bytes-canonical}, AnswerLemmas.still_kept}
use Rattle.std.specs.Bool.{OnTrue}
use Rattle.nfs_ranges.specs.{Groups.AreKept, Holders.LockedBytes, Listing.{AreListed, HasPart}}
use Rattle.nfs_ranges.proofs.ListedLemmas.{listed_clear}
use Rattle.nfs_ranges.proofs.Ranges.clear.Goals as goal

pub returns-clause-ok : goal.returns-clause-ok
returns-clause-ok c =
    on_ok_weaker c.clear-made.result (λ made.
    ap at made.put
    ∙ at_cleared c.args.owner c.args.first c.args.last (flat c.self.inside.groups.items) c.requires c.ranges.last.fits c.self.invariant.0.canonical
    ∙ ap (λ os. cleared (at os) c.args.owner c.args.first c.args.last) c.self.view_is) c.clear-made.ensures.ok

pub returns-clause-err : goal.returns-clause-err
returns-clause-err c = on_err_weaker c.clear-made.result (λ same. same.same ∙ c.self.view_is) c.clear-made.ensures.err

pub relist-listed-requires : goal.relist-listed-requires
relist-listed-requires c =
    let old = flat c.self.inside.groups.items in
    subst AreKept (sym c.deref-2.ensures.value)
    (still_kept c.clear-made.result c.args.owner (without c.args.first c.args.last (bytes_of old c.args.owner)) c.self.inside.groups.items c.clear-made.new.groups.items
    c.clear-made.ensures.ok c.clear-made.ensures.err
    (without-canonical c.args.first c.args.last (bytes_of old c.args.owner) c.requires c.ranges.last.fits
    (bytes-canonical 0 old c.args.owner c.self.invariant.0.canonical.from)) c.self.invariant.0)

pub invariant_of-self : goal.invariant_of-self
invariant_of-self c =
    let old = flat c.self.inside.groups.items in
    let new : List LockedBytes = c.clear-made.new.groups.items in
    let r = c.relist-listed.new.listings.reads in
    let w = c.relist-listed.new.listings.writes in (
      still_kept c.clear-made.result c.args.owner (without c.args.first c.args.last (bytes_of old c.args.owner)) c.self.inside.groups.items new
          c.clear-made.ensures.ok c.clear-made.ensures.err
          (without-canonical c.args.first c.args.last (bytes_of old c.args.owner) c.requires c.ranges.last.fits
          (bytes-canonical 0 old c.args.owner c.self.invariant.0.canonical.from)) c.self.invariant.0,
      subst (λ v. OnTrue v (AreListed (flat new) r w)) (sym c.still-self-inside.ensures)
          (listed_clear c.clear-made.result c.self.inside.are_listed c.relist-listed.result c.args.first c.args.last c.part_of-part.result c.args.owner c.self.inside.groups.items new
          c.self.inside.listings.reads c.self.inside.listings.writes r w c.requires c.ranges.last.fits c.part_of-part.ensures.owner c.part_of-part.ensures.first
          c.part_of-part.ensures.last c.self.invariant.0 c.clear-made.ensures.ok c.clear-made.ensures.err c.self.invariant.1
          (λ h far has. c.relist-listed.ensures.reads h (c.unlist.ensures.reads h far has))
          (λ h far has. c.relist-listed.ensures.writes h (c.unlist.ensures.writes h far has))
          (on_ok_weaker c.relist-listed.result (subst (λ gs. HasPart (flat gs) c.part_of-part.result r w) c.deref-2.ensures.value) c.relist-listed.ensures.ok)),
    )
