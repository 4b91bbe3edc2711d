use Rattle.std.proofs.Common.{rules, leb}
use Rattle.std.proofs.lemmas.List.Sorted.{IsPartitionPoint-from_clause, IsPartitionedBy-leb}
use Rattle.vp_notify.proofs.order.count_by.Goals as goal

pub returns-clause-parted : goal.returns-clause-parted
returns-clause-parted c =
    let parted = IsPartitionedBy-leb (λ callback. callback.object.0) _ c.args.object.0 c.requires in
    IsPartitionPoint-from_clause (λ callback. leb callback.object.0 c.args.object.0) _ _ c.partition_point.ensures.partitioned parted (λ a r q k. search rules)
