use Rattle.std.proofs.Common.{rules, ◌≡◌, ◌∙◌, ◌-◌, ap, drop, leb, length, take}
use Rattle.std.proofs.lemmas.List.{take_rest}
use Rattle.std.proofs.lemmas.List.Sorted.{IsPartitionPoint-from_clause, IsPartitionedBy-leb}
use Rattle.vp_strata.proofs.chunk.FutureChunk.count_by.Goals as goal

pub returns-clause-parted : goal.returns-clause-parted
returns-clause-parted c =
    let items = c.deref.result.now in
    let rest : take (length items - c.args.from) (drop c.args.from items) ≡ drop c.args.from c.args.self.now =
    take_rest items c.args.from ∙ ap (drop c.args.from) (c.deref.ensures.value ∙ c.self.view_is) in
    let parted = IsPartitionedBy-leb (λ e. e.time) _ c.args.time c.requires.ordered in
    rw (← rest) (IsPartitionPoint-from_clause (λ e. leb e.time c.args.time) _ _ c.partition_point.ensures.partitioned (rw rest parted) (λ a r q k. search rules))
