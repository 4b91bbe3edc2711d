use Rattle.std.proofs.Common.{◌≡◌, filter, map, take}
use Rattle.vp_elab.specs.declared.object.ObjectId.{ObjectId}
use Rattle.vp_vpi.specs.Calls.{is_of}
use Rattle.vp_vpi.proofs.iteration.of_kind.Given as goal

abbrev pub invariant-loop-object : goal.invariant-loop-object
invariant-loop-object g l =
    map (λ (o : ObjectId). o.0) l.ids.items
    ≡ filter (λ o. is_of l.kind ((g.E.Observe.observer l.observation).kind o)) (map (λ (o : ObjectId). o.0) (take l.object-index l.objects))
