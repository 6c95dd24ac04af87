use Rattle.std.proofs.Common.{◌≡◌, suc, set, get_or, ap, ◌∙◌, arith}
use Rattle.std.specs.List.{insert}
use Rattle.nfs_ranges.proofs.ListingLemmas.{split_in_two}
use Rattle.nfs_ranges.proofs.listing.split_full.Goals as goal

pub returns-clause-same : goal.returns-clause-same
returns-clause-same c =
    let made : c.insert.new.self.items
    ≡ insert (set c.args.blocks.now.items c.args.at c.split.new.self) (suc c.args.at) c.in_ok-behind.behind = grind (arith, c.insert.ensures.items, c.reserve.ensures.items) in
    rw made (split_in_two c.args.blocks.now.items c.args.at c.index_mut.result.now c.split.new.self c.in_ok-behind.behind c.requires
    (c.index_mut.ensures.value ∙ ap (λ bs. get_or bs c.args.at c.index_mut.result.now) c.reserve.ensures.items) c.in_ok-behind.ensures.both)
