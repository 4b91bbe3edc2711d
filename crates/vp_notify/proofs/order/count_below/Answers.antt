use Rattle.std.proofs.Common.{rules, ltb}
use Rattle.std.proofs.lemmas.List.Sorted.{IsPartitionPoint-from_clause, IsPartitionedBy-ltb}
use Rattle.vp_notify.proofs.order.count_below.Goals as goal

pub returns-clause-parted : goal.returns-clause-parted
returns-clause-parted c =
    let parted = IsPartitionedBy-ltb (λ callback. callback.object.0) _ c.args.object.0 c.requires in
    IsPartitionPoint-from_clause (λ callback. ltb callback.object.0 c.args.object.0) _ _ c.partition_point.ensures.partitioned parted (λ a r q k. search rules)
