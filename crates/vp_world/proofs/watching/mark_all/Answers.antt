use Rattle.std.proofs.Common.{◌≡◌, ◌∙◌, ◌<◌, ℕ, true, get_or, length, subst, sym, take, arith}
use Rattle.std.proofs.lemmas.List.Folds.{list_all_more}
use Rattle.vp_notify.specs.declared.registry.Callback.{Callback}
use Rattle.vp_world.specs.Marks.{are_marked, is_marked, may_be_watched}
use Rattle.vp_answer.specs.laws.Tests.{both}
use Rattle.vp_world.proofs.Marks.{are_marked_more, mark_keeps, marked_same}
use Rattle.vp_world.proofs.watching.mark_all.Goals as goal

pub loop-callback-preserved : goal.loop-callback-preserved
loop-callback-preserved c =
    let before = c.loop-callback.invariant in
    let callbacks = c.args.callbacks.now in
    let k = c.loop-callback.callback-index in
    let d : Callback = record { number = 0; object = record { 0 = 0 } } in
    let old = c.loop-callback.watched.items in
    let new = c.set_mark.new.watched.items in
    let object = (get_or callbacks k d).object.0 in
    let within : k < length callbacks = omega arith in
    let kept : (o : ℕ) → may_be_watched old o ≡ true → may_be_watched new o ≡ true =
    λ o may. subst (λ ws. may_be_watched ws o ≡ true) (sym c.set_mark.ensures) (mark_keeps old object o may) in
    record {
      marked =
          list_all_more (is_marked new) callbacks k d within
          ∙ both (are_marked new (take k callbacks)) (is_marked new (get_or callbacks k d))
          (are_marked_more old new (take k callbacks) kept before.marked)
          (subst (λ ws. may_be_watched ws object ≡ true) (sym c.set_mark.ensures) (marked_same old object));
      grown = λ o may. kept o (before.grown o may);
    }
