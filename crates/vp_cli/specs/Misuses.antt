-- The numbers of what is wrong with the program's words.
use Rattle.std.specs.Prelude.{ℕ}
use Rattle.vp_cli.specs.declared.words.Misuse.{Misuse}
use Rattle.vp_cli.specs.declared.words.Misuse.TheVariants.{BadWords, NoMemory}

-- the number of a refusal (profile)
abbrev pub code_of : Misuse → ℕ
code_of (BadWords text) = 1608
code_of NoMemory = 1607
