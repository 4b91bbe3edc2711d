-- Laws of digits that are written.
use Rattle.std.proofs.Common.{◌≡◌, ℕ, zero, suc, ◌-◌, ◌<◌, List, [], ◌∷◌, ◌++◌, Some, map, drop, reverse, slice_get, ap, sym, ◌∙◌, arith, lit<}
use Rattle.std.proofs.lemmas.List.{map_push}
use Rattle.std.proofs.lemmas.Grind.{reverse_onto}
use Rattle.vp_bits.specs.declared.bit.Bit.{Bit}
use Rattle.vp_bits.specs.declared.bit.Bit.TheVariants.{Zero, One, Unknown, HighImpedance}
use Rattle.vp_bits.specs.Digits.{digit_of}

-- a digit is one byte
pub digit_of_below : (bit : Bit) → digit_of bit < 128
digit_of_below Zero = lit< tt
digit_of_below One = lit< tt
digit_of_below Unknown = lit< tt
digit_of_below HighImpedance = lit< tt

drop_found : (bits : List Bit) (place : ℕ) (bit : Bit) → slice_get bits place ≡ Some bit → drop place bits ≡ bit ∷ drop (suc place) bits
drop_found [] place bit found = cc
drop_found (first ∷ bits) zero bit found = cc
drop_found (first ∷ bits) (suc place) bit found = drop_found bits place bit found

-- one more digit written, for the bit below
pub written_more : (bits : List Bit) (place : ℕ) (bit : Bit) → 0 < place → slice_get bits (place - 1) ≡ Some bit → map digit_of (reverse (drop place bits)) ++ digit_of bit ∷ [] ≡ map digit_of (reverse (drop (place - 1) bits))
written_more bits place bit above found =
    let next : suc (place - 1) ≡ place = omega arith in
    let step : drop (place - 1) bits ≡ bit ∷ drop place bits = drop_found bits (place - 1) bit found ∙ ap (λ k. bit ∷ drop k bits) next in
    sym (ap (λ bs. map digit_of (reverse bs)) step ∙ ap (map digit_of) (reverse_onto (drop place bits) bit []) ∙ map_push digit_of (reverse (drop place bits)) bit)
