use Rattle.std.proofs.Common.{◌≡◌, ◌∙◌, ◌<◌, ◌++◌, ◌∷◌, ◌+◌, [], ℕ, Bool, Option, Some, None, Vec, Global, List, true, false, ap, length, sym, arith, drop}
use Rattle.std.specs.Prelude.{slice_get, unwrap_or}
use Rattle.vp_policy.specs.SeenObjects.{numbers_from}
use Rattle.vp_audit.proofs.Marks.{numbers_more, numbers_same}
use Rattle.vp_audit.proofs.reading.numbers_of.Goals.{then-is_marked+in_ok-push, else-is_marked+in_ok-push-2}
use Rattle.vp_audit.proofs.reading.numbers_of.Goals as goal

pub loop-number-preserved : goal.loop-number-preserved
loop-number-preserved c =
    let marks : List Bool = c.args.marks.now in
    let n = c.loop-number.number in
    let count = c.loop-number.count in
    let done : List (Option ℕ) = c.loop-number.numbers.items in
    let within : n < length marks = (let end = c.count-number-end.ensures in let all = c.requires in omega (arith, end, all)) in
    let before = c.loop-number.invariant in
    elim c.if-is_marked.branch [
      | then-is_marked+in_ok-push w ↦
          let set : unwrap_or (slice_get marks n) false ≡ true = sym c.is_marked.ensures ∙ w.if-is_marked.true in
          let items : c.if-is_marked.numbers.items ≡ done ++ Some count ∷ [] = ap (λ (v : Vec (Option ℕ) Global). v.items) w.numbers-is ∙ (w.in_ok-push.ensures {u = tt}).items in
          record {
            numbers = before.numbers ∙ numbers_more marks n count done within set
                ∙ ap (λ (xs : List (Option ℕ)). xs ++ numbers_from (count + 1) (drop (n + 1) marks)) (sym items)
                ∙ ap (λ k. c.if-is_marked.numbers.items ++ numbers_from k (drop (n + 1) marks)) (sym w.count-is);
            few = (let is = w.count-is in let few = before.few in omega (arith, is, few));
          }
      | else-is_marked+in_ok-push-2 w ↦
          let unset : unwrap_or (slice_get marks n) false ≡ false = sym c.is_marked.ensures ∙ w.if-is_marked.false in
          let items : c.if-is_marked.numbers.items ≡ done ++ None ∷ [] = ap (λ (v : Vec (Option ℕ) Global). v.items) w.numbers-is ∙ (w.in_ok-push-2.ensures {u = tt}).items in
          record {
            numbers = before.numbers ∙ numbers_same marks n count done within unset
                ∙ ap (λ (xs : List (Option ℕ)). xs ++ numbers_from count (drop (n + 1) marks)) (sym items)
                ∙ ap (λ k. c.if-is_marked.numbers.items ++ numbers_from k (drop (n + 1) marks)) (sym w.count-is);
            few = (let is = w.count-is in let few = before.few in omega (arith, is, few));
          }
    ]
