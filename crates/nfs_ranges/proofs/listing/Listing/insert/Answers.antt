use Rattle.std.proofs.{Common.{◌<◌, length, sym, ◌∙◌, subst}, lemmas.Result.on_ok_weaker}
use Rattle.nfs_ranges.specs.Listing.{Has}
use Rattle.nfs_ranges.proofs.ListingLemmas.{flat_keeps, flat_new}
use Rattle.nfs_ranges.proofs.listing.Listing.insert.Goals as goal

pub returns-clause-ok : goal.returns-clause-ok
returns-clause-ok c =
    on_ok_weaker c.insert.result (λ has. flat_new c.split_full.new.blocks.items c.block_of-at.result c.insert.new.self c.args.held
    (subst (λ bs. c.block_of-at.result < length bs) c.deref-2.ensures.value c.block_of-at.ensures) has) c.insert.ensures.ok

pub returns-clause-others : goal.returns-clause-others
returns-clause-others c = λ h has.
    flat_keeps c.split_full.new.blocks.items c.block_of-at.result c.index_mut.result.now c.insert.new.self h
    (subst (λ bs. c.block_of-at.result < length bs) c.deref-2.ensures.value c.block_of-at.ensures) c.index_mut.ensures.value
    (c.insert.ensures.others h)
    (subst (λ hs. Has hs h) (sym (c.split_full.ensures.same ∙ c.begin.ensures.same ∙ c.self.view_is)) has)
