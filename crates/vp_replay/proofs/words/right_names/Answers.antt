use Rattle.std.proofs.Common.{◌∙◌, ◌∷◌, [], ap, map, sym}
use Rattle.std.proofs.lemmas.List.{map-append}
use Rattle.vp_pragma.specs.Rights.{set_of}
use Rattle.vp_replay.proofs.Writing.{name_more, no_name_more}
use Rattle.vp_replay.proofs.words.right_names.Goals as goal
use Rattle.vp_replay.proofs.words.right_names.Goals.{then-has+in_ok-push, else-has}

pub loop-right-preserved : goal.loop-right-preserved
loop-right-preserved c =
    elim c.if-has.branch [
      | then-has+in_ok-push w ↦
          name_more (set_of c.args.rights) c.loop-right.right-index _ c.loop-right-test.true (map (λ name. name.now) c.loop-right.names.items)
          (map (λ name. name.now) c.if-has.names.items) w.name.result.now (sym c.has.ensures ∙ w.if-has.true) c.loop-right.invariant
          (ap (λ names. map (λ name. name.now) names.items) w.names-is ∙ ap (map (λ name. name.now)) (w.in_ok-push.ensures {u = tt}).items
          ∙ map-append (λ name. name.now) c.loop-right.names.items (w.name.result ∷ []))
          w.name.ensures
      | else-has w ↦
          no_name_more (set_of c.args.rights) c.loop-right.right-index _ c.loop-right-test.true (map (λ name. name.now) c.if-has.names.items)
          (sym c.has.ensures ∙ w.if-has.false) (ap (λ names. map (λ name. name.now) names.items) w.names-is ∙ c.loop-right.invariant)
    ]
