use Rattle.std.proofs.Common.{◌≡◌, ◌∙◌, ◌==◌, ◌++◌, ◌∷◌, [], ℕ, suc, Bool, true, false, List, Some, None, Ok, ap, arith, length, refl, replicate, subst, sym}
use Rattle.std.proofs.lemmas.Bool.Decides.{Decides-eqb}
use Rattle.std.proofs.lemmas.List.{append-nil, length-replicate}
use denote.Ref.{Bor}
use Rattle.vp_race.specs.declared.error.RaceError.TheVariants.{NotAnOrder}
use Rattle.vp_race.specs.Orders.{HasEnd, sources_of}
use Rattle.vp_race.specs.Segments.{Run, check_refusal}
use Rattle.vp_race.proofs.Forcing.{forced_of, sources_counted}
use Rattle.vp_race.proofs.Refused.{after_own_order, as_no_order, own_order}
use Rattle.vp_race.proofs.comparison.refusal_without_choice.Goals as goal

one_more : (n : ℕ) → suc n ≡ 0 → ⊥
one_more n h = omega (arith, h)

none_in : (xs : List ℕ) → (length xs == 0) ≡ true → xs ≡ []
none_in [] h = refl
none_in (x ∷ xs) h = absurd (one_more (length xs) ((Decides-eqb (length (x ∷ xs)) 0).0 h))

pub returns-in-Ok : goal.returns-in-Ok
returns-in-Ok c object =
    let seg = c.args.segment.now in
    let n = c.forced.result in
    let rest : c.in-Ok.rest.now ≡ [] = none_in c.in-Ok.rest.now (sym c.is_empty.ensures ∙ c.if-is_empty.true) in
    own_order seg c.args.choices.now object c.number-number.ensures.end
    ((c.in-Ok.ensures {u = tt}).rest ∙ ap (λ xs. replicate n 0 ++ xs) rest ∙ append-nil (replicate n 0) ∙ sym (c.forced.ensures c.requires))

past : (seg : Run) (choices xs : List ℕ) (object : ℕ) → HasEnd seg.start seg.order → (length xs == 0) ≡ false → choices ≡ seg.order ++ xs → check_refusal seg choices object ≡ Some NotAnOrder
past seg choices [] object whole some more = absurd (cc)
past seg choices (k ∷ ks) object whole some more = after_own_order seg choices k ks object whole more

pub returns-in-Ok-2 : goal.returns-in-Ok-2
returns-in-Ok-2 c object =
    let seg = c.args.segment.now in
    let same : c.in-Ok.rest ≡ c.in-Ok-2.field-0 = let both = sym c.in-Ok.is ∙ c.in-Ok-2.is in cc in
    let some = ap (λ (b : Bor (List ℕ)). length b.now == 0) (sym same) ∙ sym c.is_empty.ensures ∙ c.if-is_empty.false in
    past seg c.args.choices.now c.in-Ok-2.field-0.now object c.number-number.ensures.end some
    ((c.in-Ok-2.ensures {u = tt}).rest ∙ ap (λ ks. ks ++ c.in-Ok-2.field-0.now) (sym (c.forced.ensures c.requires)))

pub returns-in-Err : goal.returns-in-Err
returns-in-Err c object =
    let seg = c.args.segment.now in
    let whole = c.number-number.ensures.end in
    let leads = whole.is_order.leads in
    let count = sources_counted (Some seg.start) seg.order whole.end leads ∙ ap length (c.forced.ensures c.requires) ∙ length-replicate c.forced.result 0 in
    as_no_order seg c.args.choices.now object c.in-Err.error whole
    ((c.in-Err.ensures {u = tt}).refused seg.start whole.end (sources_of seg.start seg.order) count (forced_of (Some seg.start) seg.order whole.end c.requires leads))
