-- The numbers and the lines of the faults of a text's tokens.
use Rattle.std.specs.Prelude.{ℕ}
use Rattle.vp_lex.specs.declared.error.LexError.{LexError}
use Rattle.vp_lex.specs.declared.error.LexError.TheVariants.{BadCharacter, OpenComment, OpenString, UnknownDirective, TimescaleDiffers, NoMemory}

-- the number of a refusal (profile)
abbrev pub code_of : LexError → ℕ
code_of (BadCharacter line) = 201
code_of (OpenComment line) = 202
code_of (OpenString line) = 203
code_of (UnknownDirective line) = 204
code_of (TimescaleDiffers line) = 205
code_of NoMemory = 206

-- its line, 0 where it has none
abbrev pub line_of : LexError → ℕ
line_of (BadCharacter line) = line
line_of (OpenComment line) = line
line_of (OpenString line) = line
line_of (UnknownDirective line) = line
line_of (TimescaleDiffers line) = line
line_of NoMemory = 0
