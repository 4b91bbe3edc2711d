-- Shifts, concatenations, replications and selects.
use Rattle.std.specs.Prelude.{ℕ, zero, suc, ◌+◌, List, [], ◌++◌, Option, Some, None, length, take, drop, replicate}
use Rattle.vp_bits.specs.declared.bit.Bit.{Bit}
use Rattle.vp_bits.specs.declared.bit.Bit.TheVariants.{Zero, Unknown}
use Rattle.vp_bits.specs.Vector.{resized}
use Rattle.vp_bits.specs.Arithmetic.{number_of}

-- so many zeros come in below, and as many bits leave above (IEEE Std 1364-2005, 5.1.12)
abbrev pub shl_by : ℕ → List Bit → List Bit
shl_by places bits = take (length bits) (replicate places Zero ++ bits)

-- so many bits leave below, and as many zeros come in above (IEEE Std 1364-2005, 5.1.12)
abbrev pub shr_by : ℕ → List Bit → List Bit
shr_by places bits = resized (length bits) (drop places bits)

-- a shift by a number, or all x where there is none (IEEE Std 1364-2005, 5.1.12)
abbrev pub shifted : (ℕ → List Bit → List Bit) → List Bit → Option ℕ → List Bit
shifted shift bits None = replicate (length bits) Unknown
shifted shift bits (Some places) = shift places bits

-- left shift << (IEEE Std 1364-2005, 5.1.12)
abbrev pub shifted_left : List Bit → List Bit → List Bit
shifted_left bits amount = shifted shl_by bits (number_of amount)

-- logical right shift >> (IEEE Std 1364-2005, 5.1.12)
abbrev pub shifted_right : List Bit → List Bit → List Bit
shifted_right bits amount = shifted shr_by bits (number_of amount)

-- concatenation: the first operand has the more significant bits, so its bits come last (IEEE Std 1364-2005, 5.1.14)
abbrev pub concatenated : List Bit → List Bit → List Bit
concatenated high low = low ++ high

-- replication: the operand so many times (IEEE Std 1364-2005, 5.1.14)
abbrev pub repeated : ℕ → List Bit → List Bit
repeated zero bits = []
repeated (suc count) bits = bits ++ repeated count bits

-- a part-select: so many bits from a place on (IEEE Std 1364-2005, 5.2.1)
abbrev pub selected : List Bit → ℕ → ℕ → List Bit
selected bits low width = take width (drop low bits)

-- an assignment to a part-select: the part takes the place of as many bits from a place on (IEEE Std 1364-2005, 5.2.1)
abbrev pub with_selected : List Bit → ℕ → List Bit → List Bit
with_selected bits low part = take low bits ++ part ++ drop (low + length part) bits
