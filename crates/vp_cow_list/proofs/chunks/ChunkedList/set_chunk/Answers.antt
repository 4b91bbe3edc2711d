use Rattle.std.proofs.Common.{◌∙◌, length, lit<, ap, subst, arith}
use Rattle.std.specs.Arc.{arc_value}
use Rattle.vp_cow_list.specs.Exchanges.{AreExchanges}
use Rattle.vp_cow_list.specs.laws.Exchanges.{length_exchanged}
use Rattle.vp_cow_list.proofs.chunks.ChunkedList.set_chunk.Goals as goal

pub put-requires : goal.put-requires
put-requires g c =
    let held = c.self.inside in
    let all = length_exchanged (arc_value held.base) held.exchanges in
    let seen = ap length c.self.view_is in
    let is = (c.in_ok-chunk.ensures {u = tt}).ok ∙ c.in_ok-of_items.ensures {u = tt} in (
      lit< tt,
      (
        omega (arith, c.self.invariant.0, c.self.ranges),
        (c.self.invariant.1, (subst (λ n. AreExchanges n held.exchanges) c.self.invariant.0 c.self.invariant.2, (omega (arith, c.requires.there, all, seen), omega (arith, c.requires.whole, ap length is, all, seen)))),
      ),
    )
