-- Laws of the first of places.
use Rattle.std.proofs.Common.{◌≡◌, ◌∙◌, ◌++◌, refl, sym, ap, arith}
use Rattle.std.specs.Prelude.{ℕ, min, List, [], ◌∷◌, Option, Some, None}
use Rattle.vp_source.specs.Places.{earlier, earliest}

-- the first of three, from either side
pub earlier-assoc : (a b c : Option ℕ) → earlier (earlier a b) c ≡ earlier a (earlier b c)
earlier-assoc None b c = refl
earlier-assoc (Some a) None c = refl
earlier-assoc (Some a) (Some b) None = refl
earlier-assoc (Some a) (Some b) (Some c) = let h : min (min a b) c ≡ min a (min b c) = grind arith in ap (λ (n : ℕ). Some n) h

-- nothing comes before what is there
pub earlier-none : (a : Option ℕ) → earlier a None ≡ a
earlier-none None = refl
earlier-none (Some a) = refl

-- one more at the end
pub earliest-more : {X : Type 0} (f : X → Option ℕ) (xs : List X) (x : X) → earliest f (xs ++ x ∷ []) ≡ earlier (earliest f xs) (f x)
earliest-more f [] x = earlier-none (f x)
earliest-more f (y ∷ ys) x = ap (earlier (f y)) (earliest-more f ys x) ∙ sym (earlier-assoc (f y) (earliest f ys) (f x))
