use Rattle.std.proofs.Common.{◌≡◌, ◌∙◌, ◌<◌, ◌++◌, ◌∷◌, ◌+◌, [], Bool, List, ap, arith, get_or, length, sym, false, drop}
use Rattle.std.specs.Prelude.{◌||◌}
use Rattle.std.proofs.lemmas.Option.{slice_get-get_or}
use Rattle.vp_audit.proofs.Marks.{either_more}
use Rattle.vp_audit.specs.Readings.{either_marked}
use Rattle.vp_audit.proofs.reading.either_marked.Goals.{then-first-index, else-first-index}
use Rattle.vp_audit.proofs.reading.either_marked.Goals as goal

pub loop-index-preserved : goal.loop-index-preserved
loop-index-preserved c =
    let first : List Bool = c.args.first.now in
    let second : List Bool = c.args.second.now in
    let n = c.loop-index.index in
    let done : List Bool = c.loop-index.marks.items in
    let a = get_or first n false in
    let b = get_or second n false in
    let within : n < length first = c.loop-index-test.true in
    let also : n < length second = (let same = c.requires in omega (arith, within, same)) in
    let push : c.if-first-index.push ≡ (a || b) =
    elim c.if-first-index.branch [
      | then-first-index w ↦ w.push-is ∙ w.if-first-index.true ∙ ap (λ x. x || b) (sym w.if-first-index.true)
      | else-first-index w ↦ w.push-is ∙ ap (λ x. x || b) (sym w.if-first-index.false)
    ] in
    let items : c.push.new.self.items ≡ done ++ (a || b) ∷ [] = (c.in_ok-push.ensures {u = tt}).items ∙ ap (λ x. done ++ x ∷ []) push in
    c.loop-index.invariant
    ∙ either_more first second n done a b (slice_get-get_or first n false within) (slice_get-get_or second n false also)
    ∙ ap (λ (xs : List Bool). xs ++ either_marked (drop (n + 1) first) (drop (n + 1) second)) (sym items)
