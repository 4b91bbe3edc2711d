-- How a literal is read, byte by byte.
use Rattle.std.specs.Prelude.{ℕ, List, ◌++◌, length, take}
use Rattle.std.specs.Option.{option_map_or}
use Rattle.vp_bits.specs.declared.bit.Bit.{Bit}
use Rattle.vp_operand.specs.Literals.{digit_at, digit_bits, with_digit}

-- a vector moved to the left by the bits of a digit, which come in on the right
abbrev pub pushed : List Bit → List Bit → List Bit
pushed value digit = take (length value) (digit ++ value)

-- a vector moved to the left by the digit of a byte, if it stands for one
abbrev pub with_byte : ℕ → List Bit → ℕ → List Bit
with_byte width value byte = option_map_or (λ digit. pushed value (digit_bits width digit)) (digit_at byte) value

-- a number with the digit of a byte after it, if it stands for one
abbrev pub number_with : ℕ → ℕ → ℕ
number_with number byte = option_map_or (with_digit number) (digit_at byte) number
