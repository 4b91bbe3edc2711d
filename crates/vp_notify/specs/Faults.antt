-- The numbers of the refusals of a registry.
use Rattle.std.specs.Prelude.{ℕ}
use Rattle.vp_notify.specs.declared.error.NotifyError.{NotifyError}
use Rattle.vp_notify.specs.declared.error.NotifyError.TheVariants.{TooManyCallbacks, NoSuchCallback, NoMemory}

-- the number of a refusal (profile)
abbrev pub code_of : NotifyError → ℕ
code_of TooManyCallbacks = 1001
code_of NoSuchCallback = 1002
code_of NoMemory = 1003
