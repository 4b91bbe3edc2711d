-- The values of literals at rows that are worked out by hand, by the codes of their base parts.
use Rattle.std.proofs.Common.{◌≡◌, [], ◌∷◌, length, replicate, refl}
use Rattle.vp_bits.specs.declared.bit.Bit.TheVariants.{Zero, One, Unknown, HighImpedance}
use Rattle.vp_operand.specs.Literals.{based_bits, literal_bits, number_bits}

-- 8'hx5
hex_fills_with_x : literal_bits 8 (39 ∷ 104 ∷ 120 ∷ 53 ∷ []) ≡ One ∷ Zero ∷ One ∷ Zero ∷ Unknown ∷ Unknown ∷ Unknown ∷ Unknown ∷ []
hex_fills_with_x = refl

-- 8'bz1
binary_fills_with_z : literal_bits 8 (39 ∷ 98 ∷ 122 ∷ 49 ∷ []) ≡ One ∷ HighImpedance ∷ HighImpedance ∷ HighImpedance ∷ HighImpedance ∷ HighImpedance ∷ HighImpedance ∷ HighImpedance ∷ []
binary_fills_with_z = refl

-- 4'd17
decimal_is_cut : literal_bits 4 (39 ∷ 100 ∷ 49 ∷ 55 ∷ []) ≡ One ∷ Zero ∷ Zero ∷ Zero ∷ []
decimal_is_cut = refl

-- 5'B1_0?, in upper case, with `_` and `?`
binary_fills_with_0 : literal_bits 5 (39 ∷ 66 ∷ 49 ∷ 95 ∷ 48 ∷ 63 ∷ []) ≡ HighImpedance ∷ Zero ∷ One ∷ Zero ∷ Zero ∷ []
binary_fills_with_0 = refl

-- 6'o 7X
octal_with_white_space : literal_bits 6 (39 ∷ 111 ∷ 32 ∷ 55 ∷ 88 ∷ []) ≡ Unknown ∷ Unknown ∷ Unknown ∷ One ∷ One ∷ One ∷ []
octal_with_white_space = refl

-- 6'hAf
hex_is_cut : literal_bits 6 (39 ∷ 104 ∷ 65 ∷ 102 ∷ []) ≡ One ∷ One ∷ One ∷ One ∷ Zero ∷ One ∷ []
hex_is_cut = refl

-- 6'h5
hex_fills_with_0 : literal_bits 6 (39 ∷ 104 ∷ 53 ∷ []) ≡ One ∷ Zero ∷ One ∷ Zero ∷ Zero ∷ Zero ∷ []
hex_fills_with_0 = refl

-- 8'D3_00
decimal_fills_with_0 : literal_bits 8 (39 ∷ 68 ∷ 51 ∷ 95 ∷ 48 ∷ 48 ∷ []) ≡ Zero ∷ Zero ∷ One ∷ One ∷ Zero ∷ One ∷ Zero ∷ Zero ∷ []
decimal_fills_with_0 = refl

-- a size that no vector has
too_wide : literal_bits 65 (39 ∷ 98 ∷ 49 ∷ []) ≡ Unknown ∷ []
too_wide = refl

-- 'h5 and 'bx have 32 bits, and so has 5
based : based_bits (39 ∷ 104 ∷ 53 ∷ []) ≡ One ∷ Zero ∷ One ∷ replicate 29 Zero
based = refl

based_unknown : based_bits (39 ∷ 98 ∷ 120 ∷ []) ≡ replicate 32 Unknown
based_unknown = refl

number : number_bits 5 ≡ One ∷ Zero ∷ One ∷ replicate 29 Zero
number = refl

number_has_32_bits : length (number_bits 2147483647) ≡ 32
number_has_32_bits = refl
