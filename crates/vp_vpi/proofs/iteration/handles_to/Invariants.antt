use Rattle.std.proofs.Common.{◌≡◌, map, take}
use Rattle.vp_elab.specs.declared.object.ObjectId.{ObjectId}
use Rattle.vp_vpi.specs.SessionStates.{handle_to}
use Rattle.vp_vpi.proofs.iteration.handles_to.Given as goal

abbrev pub invariant-loop-object : goal.invariant-loop-object
invariant-loop-object l = l.handles.items ≡ map handle_to (map (λ (o : ObjectId). o.0) (take l.object-index l.objects))
