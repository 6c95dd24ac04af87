use Rattle.std.proofs.{Common.{rules, of_calls}, lemmas.Fn.always_returns_same}
use Rattle.nfs_ranges.proofs.PlaceLemmas.{lead_point}
use Rattle.nfs_opens.proofs.BlockLemmas.{parted_by}
use Rattle.nfs_opens.proofs.blocks.place_of.Goals as goal

pub returns-clause-place : goal.returns-clause-place
returns-clause-place g c =
    let p = g.S.Search.before c.args.of.now in
    lead_point p c.args.items.now c.partition_point.result c.partition_point.ensures.bound
    (c.partition_point.ensures.partitioned p (always_returns_same _ _ _ (λ a r f k. search (rules, of_calls))) (parted_by p c.args.items.now c.requires))
