-- The numbers of the refusals of a policy file.
use Rattle.std.specs.Prelude.{ℕ}
use Rattle.vp_policy.specs.declared.error.PolicyError.{PolicyError}
use Rattle.vp_policy.specs.declared.error.PolicyError.TheVariants.{BadPolicy, DuplicateUser, NoSuchEnvelope, TooManyUsers, NoMemory}

-- the number of a refusal (profile)
abbrev pub code_of : PolicyError → ℕ
code_of BadPolicy = 901
code_of DuplicateUser = 902
code_of NoSuchEnvelope = 903
code_of TooManyUsers = 904
code_of NoMemory = 905
