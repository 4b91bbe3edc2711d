-- Comparisons, each with an answer of one bit.
use Rattle.std.specs.Prelude.{◌||◌, if◌then◌else◌, nat_lt, not, Bool, true, false, List, [], ◌∷◌, Option, Some, None}
use Rattle.std.specs.List.{list_any}
use Rattle.vp_bits.specs.declared.bit.Bit.{Bit}
use Rattle.vp_bits.specs.declared.bit.Bit.TheVariants.{Zero, One, Unknown, HighImpedance}
use Rattle.vp_bits.specs.Vector.{same_bit, same_bits}
use Rattle.vp_bits.specs.Arithmetic.{with_numbers}

-- the bit of an answer that may be unknown (IEEE Std 1364-2005, 5.1.7)
abbrev pub bit_of_answer : Option Bool → Bit
bit_of_answer None = Unknown
bit_of_answer (Some true) = One
bit_of_answer (Some false) = Zero

-- the relation < : x if any bit is x or z (IEEE Std 1364-2005, 5.1.7)
abbrev pub less : List Bit → List Bit → List Bit
less left right = bit_of_answer (with_numbers (λ n m. nat_lt n m) left right) ∷ []

-- whether a bit is x or z (IEEE Std 1364-2005, 4.1)
abbrev pub is_unknown : Bit → Bool
is_unknown Zero = false
is_unknown One = false
is_unknown Unknown = true
is_unknown HighImpedance = true

-- whether any bit is x or z (IEEE Std 1364-2005, 4.1)
abbrev pub has_unknown : List Bit → Bool
has_unknown bits = list_any is_unknown bits

-- whether the bits are known and differ (IEEE Std 1364-2005, 5.1.8)
abbrev pub is_known_difference : Bit → Bit → Bool
is_known_difference Zero One = true
is_known_difference One Zero = true
is_known_difference bit other = false

-- whether a test passes at some place of the two (profile)
abbrev pub at_some_place : (Bit → Bit → Bool) → List Bit → List Bit → Bool
at_some_place test [] others = false
at_some_place test (bit ∷ bits) [] = false
at_some_place test (bit ∷ bits) (other ∷ others) = test bit other || at_some_place test bits others

-- whether two known bits differ at a place (IEEE Std 1364-2005, 5.1.8)
abbrev pub has_known_difference : List Bit → List Bit → Bool
has_known_difference bits others = at_some_place is_known_difference bits others

-- logical equality ==: 0 if two known bits differ, else x if any bit is x or z, else 1 (profile)
abbrev pub equal : List Bit → List Bit → List Bit
equal left right =
    (if has_known_difference left right then Zero else (if has_unknown left || has_unknown right then Unknown else One)) ∷ []

-- case equality ===: whether the bits are the same, x and z too (IEEE Std 1364-2005, 5.1.8)
abbrev pub case_equal : List Bit → List Bit → List Bit
case_equal left right = bit_of_answer (Some (same_bits left right)) ∷ []

-- whether two bits differ and neither is z (IEEE Std 1364-2005, 9.5.1)
abbrev pub is_difference_but_z : Bit → Bit → Bool
is_difference_but_z HighImpedance other = false
is_difference_but_z Zero HighImpedance = false
is_difference_but_z One HighImpedance = false
is_difference_but_z Unknown HighImpedance = false
is_difference_but_z bit other = not (same_bit bit other)

-- whether two vectors match where a z of either matches any bit, as in casez (IEEE Std 1364-2005, 9.5.1)
abbrev pub casez_matches : List Bit → List Bit → Bool
casez_matches left right = not (at_some_place is_difference_but_z left right)
