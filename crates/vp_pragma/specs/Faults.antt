-- The numbers and the lines of the faults of a text's pragmas.
use Rattle.std.specs.Prelude.{ℕ}
use Rattle.vp_pragma.specs.declared.error.PragmaError.{PragmaError}
use Rattle.vp_pragma.specs.declared.error.PragmaError.TheVariants.{NestedBegin, EndWithoutBegin, OpenEnvelope, Unbalanced, TooMany, ViewportOutside, BadAccess, NeedsDecryption, BadPragma, NoMemory}

-- the number of a refusal (profile)
abbrev pub code_of : PragmaError → ℕ
code_of (NestedBegin line) = 301
code_of (EndWithoutBegin line) = 302
code_of (OpenEnvelope line) = 303
code_of (Unbalanced line) = 304
code_of (ViewportOutside line) = 305
code_of (BadAccess line) = 306
code_of (NeedsDecryption line) = 307
code_of (TooMany line) = 308
code_of (BadPragma line) = 309
code_of NoMemory = 310

-- its line, 0 where it has none
abbrev pub line_of : PragmaError → ℕ
line_of (NestedBegin line) = line
line_of (EndWithoutBegin line) = line
line_of (OpenEnvelope line) = line
line_of (Unbalanced line) = line
line_of (ViewportOutside line) = line
line_of (BadAccess line) = line
line_of (NeedsDecryption line) = line
line_of (TooMany line) = line
line_of (BadPragma line) = line
line_of NoMemory = 0
