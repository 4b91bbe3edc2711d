-- The numbers and the lines of the faults of a source.
use Rattle.std.specs.Prelude.{ℕ}
use Rattle.vp_modules.specs.declared.error.ElabError.{ElabError}
use Rattle.vp_modules.specs.declared.error.ElabError.TheVariants.{Duplicate, UnknownModule, Recursive, Undeclared, BadTarget, BadConnection, MultipleDrivers, TooManyObjects, ViewportUnknown, NoMemory}

-- the number of a refusal (profile)
abbrev pub code_of : ElabError → ℕ
code_of (Duplicate line) = 501
code_of (Undeclared line) = 502
code_of (UnknownModule line) = 503
code_of (Recursive line) = 504
code_of (MultipleDrivers line) = 505
code_of (BadConnection line) = 506
code_of TooManyObjects = 507
code_of (ViewportUnknown line) = 508
code_of (BadTarget line) = 509
code_of NoMemory = 510

-- its line, 0 where it has none
abbrev pub line_of : ElabError → ℕ
line_of (Duplicate line) = line
line_of (UnknownModule line) = line
line_of (Recursive line) = line
line_of (Undeclared line) = line
line_of (BadTarget line) = line
line_of (BadConnection line) = line
line_of (MultipleDrivers line) = line
line_of TooManyObjects = 0
line_of (ViewportUnknown line) = line
line_of NoMemory = 0
