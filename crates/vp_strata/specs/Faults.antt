-- The numbers of the refusals of an event queue.
use Rattle.std.specs.Prelude.{ℕ}
use Rattle.vp_strata.specs.declared.error.StrataError.{StrataError}
use Rattle.vp_strata.specs.declared.error.StrataError.TheVariants.{TimeLimit, NoMemory}

-- the number of a refusal (profile)
abbrev pub code_of : StrataError → ℕ
code_of TimeLimit = 702
code_of NoMemory = 701
