use Rattle.std.proofs.Common.{◌∙◌, ◌+◌, ◌≤◌, ap, arith, length}
use Rattle.std.specs.Arc.{arc_value}
use Rattle.vp_strata.specs.Chunks.{position}
use Rattle.vp_strata.proofs.Chunked.{as_many, next_position, position_le}
use Rattle.vp_strata.proofs.chunks.FutureChunks.position.Goals as goal

pub overflow_add-count : goal.overflow_add-count
overflow_add-count c =
    let ls = c.args.self.now in
    let at = c.loop-before.before in
    let next = next_position arc_value c.self.inside.taken c.self.inside.chunks.items ls at c.args.place c.len.result c.index.result.now c.self.view_is (omega (arith, as_many arc_value c.self.inside.taken c.self.inside.chunks.items ls c.self.view_is)) c.index.ensures (c.len.ensures.len ∙ ap length c.deref.ensures) in
    let last : position ls (at + 1) c.args.place ≤ position ls c.args.number c.args.place = position_le ls (at + 1) c.args.number c.args.place (omega arith) in
    omega (arith, next, last, c.loop-before.invariant, c.first_place.ensures)

pub loop-before-preserved : goal.loop-before-preserved
loop-before-preserved c =
    let ls = c.args.self.now in
    let at = c.loop-before.before in
    let next = next_position arc_value c.self.inside.taken c.self.inside.chunks.items ls at c.args.place c.len.result c.index.result.now c.self.view_is (omega (arith, as_many arc_value c.self.inside.taken c.self.inside.chunks.items ls c.self.view_is)) c.index.ensures (c.len.ensures.len ∙ ap length c.deref.ensures) in
    omega (arith, next, c.loop-before.invariant, c.first_place.ensures)
