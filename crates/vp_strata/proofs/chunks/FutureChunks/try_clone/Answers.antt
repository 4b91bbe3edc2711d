use Rattle.std.proofs.Common.{arith}
use Rattle.std.specs.Arc.{arc_value}
use Rattle.vp_strata.proofs.Chunked.{shared_more}
use Rattle.vp_strata.proofs.chunks.FutureChunks.try_clone.Goals as goal

pub loop-number-preserved : goal.loop-number-preserved
loop-number-preserved c =
    shared_more arc_value c.self.inside.chunks.items c.loop-number.chunks.items c.push_back.new.self.items c.loop-number.number c.index.result.now c.in_ok-try_clone.field-0 c.loop-number.invariant (omega (arith, c.self.inside.chunks.ok.0)) c.index.ensures (c.in_ok-try_clone.ensures {u = tt}) (c.in_ok-push_back.ensures {u = tt}).items
