use Rattle.std.proofs.Common.{ap}
use Rattle.std.specs.Arc.{arc_value}
use Rattle.vp_cow_list.specs.laws.Chunks.{copied_more}
use Rattle.vp_cow_list.proofs.chunks.PartsClone.clone.Goals as goal

pub loop-part-preserved : goal.loop-part-preserved
loop-part-preserved g c =
    copied_more (λ part. g.P.Part.items (arc_value part)) c.deref-part-items.result.now c.loop-part.parts.items c.push.new.self.items c.loop-part.part-index c.part-item.result c.in_ok-try_clone.field-0 c.loop-part.invariant c.loop-part-test.true c.part-item.is (ap g.P.Part.items (c.in_ok-try_clone.ensures {u = tt})) (c.in_ok-push.ensures {u = tt}).items
