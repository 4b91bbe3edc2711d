use Rattle.std.proofs.Common.{◌≡◌, ◌∙◌, ◌+◌, ◌<◌, ℕ, suc, List, [], ◌∷◌, ◌++◌, length, map, take, ap, sym, arith}
use Rattle.vp_elab.specs.declared.object.ObjectId.{ObjectId}
use Rattle.vp_vpi.specs.declared.iteration.ListedObject.{ListedObject}
use Rattle.vp_vpi.specs.Calls.{items_from}
use Rattle.vp_vpi.proofs.Iterations.{items_step}
use Rattle.vp_vpi.proofs.iteration.listed_items.Goals as goal

pub loop-object-preserved : goal.loop-object-preserved
loop-object-preserved g c =
    let pushed = c.in_ok-push.ensures {u = tt} in
    let before = c.loop-object.invariant in
    let os = c.args.objects.now in
    let named = (g.E.Observe.observer c.args.observation.now).name in
    let k = c.loop-object.object-index in
    let n = c.args.last + c.len.result + 1 in
    let within : k < length os = omega arith in
    let numbered : n ≡ c.args.last + k + 1 = omega (arith, c.len.ensures, before.count) in
    let item : List ℕ → ListedObject = λ name. record { handle = n; name = name } in
    record {
      items =
          pushed.items ∙ ap (λ xs. xs ++ item c.in_ok-copy.field-0 ∷ []) before.items
          ∙ ap (λ name. items_from named (suc c.args.last) (map (λ (o : ObjectId). o.0) (take k os)) ++ item name ∷ []) ((c.in_ok-copy.ensures {u = tt}) ∙ c.name.ensures)
          ∙ sym (items_step named c.args.last k n os (record { 0 = 0 }) within numbered);
      count = pushed.len ∙ ap (λ j. j + 1) before.count;
    }
