-- Laws of what is known.
use Rattle.std.proofs.Common.{◌≡◌, ℕ, zero, suc, Bool, false, true, List, [], ◌∷◌, length, refl, sym, ◌∙◌, arith}
use Rattle.std.specs.Prelude.{nat_le, slice_get}
use Rattle.vp_answer.specs.Renumbering.{Renumbering}
use Rattle.vp_policy.specs.View.{marked}
use Rattle.vp_replay.specs.Known.{known_index}

-- numbers that are greater by one stand in the same order
one_more : (a b : ℕ) → nat_le (suc a) (suc b) ≡ nat_le a b
one_more a b = grind arith

-- and what is greater by one is not
not_below : (a b : ℕ) → nat_le (suc a) 0 ≡ nat_le (suc b) 0
not_below a b = grind arith

-- none is less than zero
zero_first : (a b : ℕ) → nat_le 0 a ≡ nat_le 0 b
zero_first a b = grind arith

-- the marked stand in their order
pub index_in_order : (marks : List Bool) (a b : ℕ) → nat_le (known_index marks a) (known_index marks b) ≡ nat_le a b
index_in_order [] a b = refl
index_in_order (true ∷ marks) zero zero = refl
index_in_order (true ∷ marks) zero (suc b) = zero_first (suc (known_index marks b)) (suc b)
index_in_order (true ∷ marks) (suc a) zero = not_below (known_index marks a) a
index_in_order (true ∷ marks) (suc a) (suc b) = one_more (known_index marks a) (known_index marks b) ∙ index_in_order marks a b ∙ sym (one_more a b)
index_in_order (false ∷ marks) a b = one_more (known_index marks a) (known_index marks b) ∙ index_in_order marks a b

-- so their indexes are numbers for them
abbrev pub by_index : List Bool → Renumbering
by_index marks = record { number = known_index marks; in_order = index_in_order marks }

-- the marked of a number stands at its index
pub get_marked : {X : Type 0} (marks : List Bool) (xs : List X) (k : ℕ) → length marks ≡ length xs → slice_get (marked marks xs) k ≡ slice_get xs (known_index marks k)
get_marked [] [] k e = refl
get_marked [] (x ∷ xs) k e = absurd (cc)
get_marked (m ∷ marks) [] k e = absurd (cc)
get_marked (true ∷ marks) (x ∷ xs) zero e = refl
get_marked (true ∷ marks) (x ∷ xs) (suc k) e = get_marked marks xs k (omega (arith, e))
get_marked (false ∷ marks) (x ∷ xs) k e = get_marked marks xs k (omega (arith, e))
