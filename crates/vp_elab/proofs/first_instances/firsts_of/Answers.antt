use Rattle.std.proofs.Common.{◌+◌, ◌∙◌, Vec, Global, Option, Some, None, sym, subst, ap, set, take, List, arith}
use Rattle.std.specs.Option.{option_or}
use Rattle.vp_elab.specs.declared.object.ObjectId.{ObjectId}
use Rattle.vp_elab.specs.Objects.{AreFirsts}
use Rattle.vp_elab.proofs.Foremost.{or_any, turn_after, turn_leaf, turn_of}
use Rattle.vp_elab.proofs.first_instances.firsts_of.Goals as goal
use Rattle.vp_elab.proofs.first_instances.firsts_of.Goals.{in-Some+then-number-count, in-Some+else-number-count, in_default}

pub loop-id-preserved : goal.loop-id-preserved
loop-id-preserved c =
    let objects = c.args.objects.now in
    let id = c.loop-id.id in
    elim c.match-object.branch [
      | in-Some+then-number-count w ↦
          let number = w.in-Some.number in
          let old : List (Option ObjectId) = c.loop-id.firsts.items in
          let long = c.loop-id.invariant.each in
          let small = w.if-number-count.true in
          let value =
          w.or.ensures
          ∙ ap (λ (o : Option ObjectId). option_or o (Some (record { 0 = id }))) (w.index.ensures ∙ or_any old number w.index.result.now None (omega arith)) in
          subst (λ (v : Vec (Option ObjectId) Global). AreFirsts (take (id + 1) objects) c.args.count v.items) (sym w.firsts-is)
          (subst (λ (o : Option ObjectId). AreFirsts (take (id + 1) objects) c.args.count (set old number o)) (sym value)
          (turn_of objects id c.args.count old number c.loop-id-test.true c.loop-id.invariant w.in-Some.is small))
      | in-Some+else-number-count w ↦
          subst (λ (v : Vec (Option ObjectId) Global). AreFirsts (take (id + 1) objects) c.args.count v.items) (sym w.firsts-is)
          (turn_after objects id c.args.count c.loop-id.firsts.items w.in-Some.number c.loop-id-test.true c.loop-id.invariant w.in-Some.is w.if-number-count.false)
      | in_default w ↦
          subst (λ (v : Vec (Option ObjectId) Global). AreFirsts (take (id + 1) objects) c.args.count v.items) (sym w.firsts-is)
          (turn_leaf objects id c.args.count c.loop-id.firsts.items c.loop-id-test.true c.loop-id.invariant w.in_default.is)
    ]
