use Rattle.std.proofs.Common.{rules, arith, ltb, ltb-true, ltb-false}
use Rattle.std.proofs.lemmas.List.Sorted.{IsPartitionPoint-from_clause, IsPartitionedBy-ltb}
use Rattle.nfs_pace.proofs.crowds.below.Goals as goal

pub returns-clause-less : goal.returns-clause-less
returns-clause-less c =
    let parted = IsPartitionedBy-ltb (λ y. y) _ c.args.bound c.requires in
    let point = IsPartitionPoint-from_clause (λ y. ltb y c.args.bound) _ _ c.partition_point.ensures.partitioned parted (λ a r q k. search rules) in
    λ k h. ltb-true _ _ (point.0 k 0 (omega arith) h)

pub returns-clause-others : goal.returns-clause-others
returns-clause-others c =
    let parted = IsPartitionedBy-ltb (λ y. y) _ c.args.bound c.requires in
    let point = IsPartitionPoint-from_clause (λ y. ltb y c.args.bound) _ _ c.partition_point.ensures.partitioned parted (λ a r q k. search rules) in
    λ k from to. ltb-false _ _ (point.1 k 0 from to)
