use Rattle.std.proofs.Common.{◌≡◌, take, map}
use Rattle.std.specs.Arc.{arc_value}
use Rattle.vp_cow_list.proofs.chunks.PartsClone.clone.Given as goal

abbrev pub invariant-loop-part : goal.invariant-loop-part
invariant-loop-part g l =
    map (λ part. g.P.Part.items (arc_value part)) l.parts.items
    ≡ take l.part-index (map (λ part. g.P.Part.items (arc_value part)) l.part-items)
