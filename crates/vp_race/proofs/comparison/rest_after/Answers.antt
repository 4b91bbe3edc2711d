use Rattle.std.proofs.Common.{◌≡◌, ◌∙◌, ◌<◌, ◌++◌, ◌∷◌, ◌⊎◌, inl, inr, [], List, ℕ, zero, suc, ap, refl, arith, drop, get_or, length, replicate, sym, take}
use Rattle.std.proofs.Math.Seq.{drop-cons}
use Rattle.std.proofs.lemmas.List.{take-append-drop}
use Rattle.vp_race.specs.Orders.{after_choices}
use Rattle.vp_race.specs.Segments.{order_refusal}
use Rattle.vp_race.proofs.Forcing.{refused_else, refused_within}
use Rattle.vp_race.proofs.comparison.rest_after.Goals as goal

within : (m n : ℕ) → (m < n) ⊎ (m < m) → m < n
within m n (inl h) = h
within m n (inr h) = absurd (omega (arith, h))

take_all : (xs : List ℕ) → take (length xs) xs ≡ xs
take_all [] = refl
take_all (x ∷ xs) = ap (λ ys. x ∷ ys) (take_all xs)

positive : (n : ℕ) → (n ≡ 0 → ⊥) → 0 < n
positive zero h = absurd (h refl)
positive (suc n) h = omega arith

pub returns-then-choices-index-ne0-clause-refused : goal.returns-then-choices-index-ne0-clause-refused
returns-then-choices-index-ne0-clause-refused c start end sources counted forced =
    let i = c.loop-index.index in
    let choices = c.args.choices.now in
    let within : i < length choices = omega (arith, c.loop-index-test.true, c.min-index-end.ensures) in
    let less : i < length sources = omega (arith, c.loop-index-test.true, c.min-index-end.ensures, counted) in
    let whole : choices ≡ replicate i 0 ++ get_or choices i 0 ∷ drop (suc i) choices =
    sym (take-append-drop i choices) ∙ ap (λ xs. xs ++ drop i choices) c.loop-index.invariant.only ∙ ap (λ xs. replicate i 0 ++ xs) (drop-cons choices i 0 within) in
    ap (λ ks. order_refusal (after_choices start ks)) whole
    ∙ refused_else start end sources i (get_or choices i 0) (drop (suc i) choices) forced less (positive (get_or choices i 0) c.if-choices-index-ne0.true)

pub returns-in-None-clause-refused : goal.returns-in-None-clause-refused
returns-in-None-clause-refused c start end sources counted forced =
    let choices = c.args.choices.now in
    let less : length choices < c.args.forced = within (length choices) c.args.forced (c.in-None.ensures {u = tt}).lookup.0 in
    let done : c.loop-index.index ≡ length choices = omega (arith, c.loop-index-test.false, c.loop-index.auto.index-end, c.min-index-end.ensures, less) in
    let whole : choices ≡ replicate (length choices) 0 =
    sym (take_all choices) ∙ ap (λ n. take n choices) (sym done) ∙ c.loop-index.invariant.only ∙ ap (λ n. replicate n 0) done in
    ap (λ ks. order_refusal (after_choices start ks)) whole ∙ refused_within start end sources (length choices) forced (omega (arith, less, counted))
