-- Laws of digits that are read.
use Rattle.std.proofs.Common.{◌≡◌, ℕ, ◌+◌, ◌*◌, ◌<◌, List, [], ◌∷◌, ◌++◌, Option, Some, None, option_map, option_and_then, length, get_or, take, drop, reverse, refl, ap, sym, ◌∙◌}
use Rattle.std.proofs.lemmas.List.{take_more, drop_more, take-append-drop}
use Rattle.std.proofs.lemmas.Grind.{reverse_onto}
use Rattle.vp_bits.specs.declared.bit.Bit.{Bit}
use Rattle.vp_bits.specs.Digits.{bit_of, digits_bits}
use Rattle.vp_bits.specs.Vector.{bits_of, aval_bit, bval_bit}
use Rattle.vp_bits.proofs.Vectors.{bits_of_more}

-- the bits with one more at the end, where there are both
abbrev pushed : Option (List Bit) → Option Bit → Option (List Bit)
pushed None bit = None
pushed (Some bits) None = None
pushed (Some bits) (Some bit) = Some (bits ++ bit ∷ [])

pushed_first : (bit : Option Bit) → option_and_then (λ b. Some (b ∷ [])) bit ≡ pushed (Some []) bit
pushed_first None = refl
pushed_first (Some b) = refl

pushed_next : (first : Option Bit) (bits : Option (List Bit)) (bit : Option Bit) → option_and_then (λ b. option_map (λ bs. b ∷ bs) (pushed bits bit)) first ≡ pushed (option_and_then (λ b. option_map (λ bs. b ∷ bs) bits) first) bit
pushed_next None bits bit = refl
pushed_next (Some b) None bit = refl
pushed_next (Some b) (Some bs) None = refl
pushed_next (Some b) (Some bs) (Some c) = refl

digits_bits-push : (digits : List ℕ) (digit : ℕ) → digits_bits (digits ++ digit ∷ []) ≡ pushed (digits_bits digits) (bit_of digit)
digits_bits-push [] digit = pushed_first (bit_of digit)
digits_bits-push (first ∷ digits) digit =
    ap (λ bits. option_and_then (λ b. option_map (λ bs. b ∷ bs) bits) (bit_of first)) (digits_bits-push digits digit) ∙ pushed_next (bit_of first) (digits_bits digits) (bit_of digit)

-- one more digit read
pub read_more : (digits : List ℕ) (place aval bval : ℕ) (bit : Bit) → place < length digits → bit_of (get_or digits place 0) ≡ Some bit → digits_bits (take place digits) ≡ Some (reverse (bits_of place aval bval)) → digits_bits (take (place + 1) digits) ≡ Some (reverse (bits_of (place + 1) (aval * 2 + aval_bit bit) (bval * 2 + bval_bit bit)))
read_more digits place aval bval bit within is_digit read =
    ap digits_bits (take_more digits place 0 within)
    ∙ digits_bits-push (take place digits) (get_or digits place 0)
    ∙ ap (λ bits. pushed bits (bit_of (get_or digits place 0))) read
    ∙ ap (pushed (Some (reverse (bits_of place aval bval)))) is_digit
    ∙ ap Some (sym (reverse_onto (bits_of place aval bval) bit []))
    ∙ ap (λ bits. Some (reverse bits)) (sym (bits_of_more place aval bval bit))

none_then : (bit : Option Bit) → option_and_then (λ (b : Bit). let n : Option (List Bit) = None in n) bit ≡ None
none_then None = refl
none_then (Some b) = refl

none_among : (before after : List ℕ) (digit : ℕ) → bit_of digit ≡ None → digits_bits (before ++ digit ∷ after) ≡ None
none_among [] after digit none = ap (option_and_then (λ b. option_map (λ bs. b ∷ bs) (digits_bits after))) none
none_among (first ∷ before) after digit none =
    ap (λ bits. option_and_then (λ b. option_map (λ bs. b ∷ bs) bits) (bit_of first)) (none_among before after digit none) ∙ none_then (bit_of first)

-- a byte that is no digit
pub unread : (digits : List ℕ) (place : ℕ) → place < length digits → bit_of (get_or digits place 0) ≡ None → digits_bits digits ≡ None
unread digits place within none =
    ap digits_bits (sym (take-append-drop place digits) ∙ ap (λ rest. take place digits ++ rest) (drop_more digits place 0 within))
    ∙ none_among (take place digits) (drop (place + 1) digits) (get_or digits place 0) none
