use Rattle.std.proofs.Common.{arith}
use Rattle.vp_active_events.proofs.Sums.{more_counts, more_sums}
use Rattle.vp_active_events.proofs.block_counts.BlockCounts.grow.Goals as goal

pub invariant_of-self-2 : goal.invariant_of-self-2
invariant_of-self-2 c =
    let cs = c.self.inside.counts.items in
    let ss = c.self.inside.sums.items in
    let groups = c.in_ok-fill.ensures {u = tt} in
    let few = c.self.invariant.few in
    let enough = c.self.invariant.within in
    let sums = more_sums cs ss _ _ c.self.invariant groups.items (omega (arith, few, groups.no_more, c.requires)) in
    more_counts cs _ _ _ sums c.fill-2.ensures.items (omega (arith, enough, groups.len, groups.no_less, c.fill-2.ensures.no_more))
