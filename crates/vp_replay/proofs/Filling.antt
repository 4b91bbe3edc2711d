-- Lists of the same number.
use Rattle.std.proofs.Common.{◌≡◌, ℕ, List, length, map, refl}
use Rattle.std.proofs.Math.ListN.{replicate}
use Rattle.std.proofs.lemmas.Simd.{splat_is_map}

-- a number for each item
pub fill_is : {A : Type 0} (xs : List A) (n : ℕ) → replicate (length xs) n ≡ map (λ x. n) xs
fill_is xs n = splat_is_map xs (length xs) n refl
