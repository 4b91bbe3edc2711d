-- The numbers of the refusals.
use Rattle.std.specs.Prelude.{ℕ}
use Rattle.vp_bits.specs.declared.error.BitsError.{BitsError}
use Rattle.vp_bits.specs.declared.error.BitsError.TheVariants.{BadDigit, BadWidth, NoMemory}

-- the number of a refusal (profile)
abbrev pub code_of : BitsError → ℕ
code_of BadDigit = 101
code_of BadWidth = 102
code_of NoMemory = 103
