use Rattle.std.proofs.Common.{◌≡◌, ◌∙◌, ap}
use Rattle.std.specs.Arc.{arc_value}
use Rattle.vp_cow_list.specs.laws.Chunks.{more_chunks}
use Rattle.vp_cow_list.proofs.chunks.Parts.add.Goals as goal

pub invariant_of-self-2 : goal.invariant_of-self-2
invariant_of-self-2 g c =
    let is : g.P.Part.items (arc_value c.in_ok-part.part) ≡ c.args.list.now = ap g.P.Part.items (c.in_ok-part.ensures {u = tt}).ok ∙ c.in_ok-made.ensures {u = tt} in
    (c.self.invariant.0, more_chunks (λ part. g.P.Part.items (arc_value part)) c.self.inside.parts.items c.push.new.self.items c.in_ok-part.part c.args.self.now c.args.list.now g.row.SIZE c.self.invariant.1 (c.in_ok-push.ensures {u = tt}).items c.self.view_is is c.requires.full c.requires.some c.requires.most)
