-- The numbers and the lines of the faults of a design's expressions.
use Rattle.std.specs.Prelude.{ℕ}
use Rattle.vp_resolve.specs.declared.error.ExprError.{ExprError}
use Rattle.vp_resolve.specs.declared.error.ExprError.TheVariants.{TooWide, SignedCompare, BadSelect, NoMemory}

-- the number of a refusal (profile)
abbrev pub code_of : ExprError → ℕ
code_of (TooWide line) = 601
code_of (SignedCompare line) = 602
code_of (BadSelect line) = 603
code_of NoMemory = 604

-- its line, 0 where it has none
abbrev pub line_of : ExprError → ℕ
line_of (TooWide line) = line
line_of (SignedCompare line) = line
line_of (BadSelect line) = line
line_of NoMemory = 0
