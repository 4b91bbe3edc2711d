-- The first of the places that the parts of a list give, found one after another.
use Rattle.std.proofs.Common.{◌≡◌, ℕ, ◌+◌, ◌<◌, List, ◌∷◌, length, drop, get_or, Option, sym, ap, ◌∙◌, add-one, drop-cons}
use Rattle.vp_source.specs.Places.{earlier, earliest}
use Rattle.vp_source.specs.laws.Places.{earlier-assoc}

-- one more place is found
pub earliest_step :
    {X : Type 0} (f : X → Option ℕ) (xs : List X) (i : ℕ) (d : X) (before after whole : Option ℕ) → i < length xs
    → after ≡ earlier before (f (get_or xs i d))
    → earlier before (earliest f (drop i xs)) ≡ whole
    → earlier after (earliest f (drop (i + 1) xs)) ≡ whole
earliest_step {X} f xs i d before after whole l found done =
    let x = get_or xs i d in
    let rest = earliest f (drop (i + 1) xs) in
    let next : drop i xs ≡ x ∷ drop (i + 1) xs = rw (add-one, drop-cons xs i d) in
    ap (λ (o : Option ℕ). earlier o rest) found ∙ earlier-assoc before (f x) rest
    ∙ ap (λ (ys : List X). earlier before (earliest f ys)) (sym next) ∙ done
