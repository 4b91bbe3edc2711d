use Rattle.std.proofs.Common.{◌≡◌, suc, map, take}
use Rattle.std.specs.Prelude.{vec_len}
use Rattle.vp_elab.specs.declared.object.ObjectId.{ObjectId}
use Rattle.vp_vpi.specs.Calls.{items_from}
use Rattle.vp_vpi.proofs.iteration.listed_items.Given as goal

-- the objects so far
abbrev pub invariant-loop-object : goal.invariant-loop-object
invariant-loop-object g l = record {
  items : l.items.items ≡ items_from (g.E.Observe.observer l.observation).name (suc l.last) (map (λ (o : ObjectId). o.0) (take l.object-index l.objects));
  count : vec_len l.items ≡ l.object-index;
}
