use Rattle.std.proofs.Common.{◌≡◌, ◌∙◌, ◌<◌, ◌≤◌, ◌++◌, ◌∷◌, ◌+◌, [], ℕ, Bool, Vec, Global, List, true, false, ap, append-nil, length, sym, arith, drop}
use Rattle.std.specs.Prelude.{slice_get, unwrap_or}
use Rattle.std.specs.Option.{option_flatten}
use Rattle.std.proofs.lemmas.List.{drop_all}
use Rattle.vp_audit.proofs.Marks.{moved_are, over_marked, over_more, over_same}
use Rattle.vp_audit.proofs.reading.moved_numbers.Goals.{then-is_marked+in_ok-push, else-is_marked}
use Rattle.vp_audit.proofs.reading.moved_numbers.Goals as goal

pub loop-number-preserved : goal.loop-number-preserved
loop-number-preserved c =
    let f : ℕ → ℕ = λ o. unwrap_or (option_flatten (slice_get c.args.numbers.now o)) 0 in
    let marks : List Bool = c.args.before.now in
    let n = c.loop-number.number in
    let done : List ℕ = c.loop-number.moved.items in
    let within : n < length marks = (let end = c.count-number-end.ensures in let all = c.requires in omega (arith, end, all)) in
    elim c.if-is_marked.branch [
      | then-is_marked+in_ok-push w ↦
          let set : unwrap_or (slice_get marks n) false ≡ true = sym c.is_marked.ensures ∙ w.if-is_marked.true in
          let items : c.if-is_marked.moved.items ≡ done ++ w.unwrap_or.result ∷ [] = ap (λ (v : Vec ℕ Global). v.items) w.moved-is ∙ (w.in_ok-push.ensures {u = tt}).items in
          let is : w.unwrap_or.result ≡ f n = w.unwrap_or.ensures ∙ ap (λ x. unwrap_or x 0) w.number_at.ensures in
          c.loop-number.invariant ∙ over_more f marks n done w.unwrap_or.result within set is
          ∙ ap (λ (xs : List ℕ). xs ++ over_marked (n + 1) (drop (n + 1) marks) f) (sym items)
      | else-is_marked w ↦
          let unset : unwrap_or (slice_get marks n) false ≡ false = sym c.is_marked.ensures ∙ w.if-is_marked.false in
          let items : c.if-is_marked.moved.items ≡ done = ap (λ (v : Vec ℕ Global). v.items) w.moved-is in
          c.loop-number.invariant ∙ over_same f marks n done within unset
          ∙ ap (λ (xs : List ℕ). xs ++ over_marked (n + 1) (drop (n + 1) marks) f) (sym items)
    ]

pub returns : goal.returns
returns c now numbered =
    let f : ℕ → ℕ = λ o. unwrap_or (option_flatten (slice_get c.args.numbers.now o)) 0 in
    let marks : List Bool = c.args.before.now in
    let n = c.loop-number.number in
    let past : length marks ≤ n = (let end = c.count-number-end.ensures in let all = c.requires in let last = c.loop-number-test.false in omega (arith, end, all, last)) in
    c.from_vec.ensures
    ∙ sym (c.loop-number.invariant ∙ ap (λ (ms : List Bool). c.loop-number.moved.items ++ over_marked n ms f) (drop_all n marks past) ∙ append-nil c.loop-number.moved.items)
    ∙ ap (λ ns. over_marked 0 marks (λ o. unwrap_or (option_flatten (slice_get ns o)) 0)) numbered
    ∙ sym (moved_are marks now)
