use Rattle.std.proofs.Common.{◌≡◌, ◌+◌, map, take}
use Rattle.vp_elab.specs.declared.object.ObjectId.{ObjectId}
use Rattle.vp_elab.proofs.children.objects_after.Given as goal

abbrev pub invariant-loop-slot : goal.invariant-loop-slot
invariant-loop-slot l = map (λ (o : ObjectId). o.0) l.ids.items ≡ map (λ slot. l.object.0 + slot) (take l.slot-index l.slots)
