-- The numbers and the lines of the faults of a text's grammar.
use Rattle.std.specs.Prelude.{ℕ}
use Rattle.vp_parse.specs.declared.error.ParseError.{ParseError}
use Rattle.vp_parse.specs.declared.error.ParseError.TheVariants.{Syntax, LeftOut, TooDeep, NoMemory}

-- the number of a refusal (profile)
abbrev pub code_of : ParseError → ℕ
code_of (Syntax line) = 401
code_of (LeftOut word line) = 402
code_of (TooDeep line) = 403
code_of NoMemory = 404

-- its line, 0 where it has none
abbrev pub line_of : ParseError → ℕ
line_of (Syntax line) = line
line_of (LeftOut word line) = line
line_of (TooDeep line) = line
line_of NoMemory = 0
