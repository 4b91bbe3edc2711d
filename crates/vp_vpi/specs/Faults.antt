-- The numbers of the refusals of a session's calls.
use Rattle.std.specs.Prelude.{ℕ}
use Rattle.vp_notify.specs.declared.error.NotifyError.{NotifyError}
use Rattle.vp_notify.specs.declared.error.NotifyError.TheVariants as notify
use Rattle.vp_vpi.specs.declared.error.VpiError.{VpiError}
use Rattle.vp_vpi.specs.declared.error.VpiError.TheVariants.{BadHandle, Denied, WrongKind, BadValue, Finished, TooManyHandles, NoSuchName, TooManyCallbacks, NoSuchCallback, NoSuchRace, NoMemory}

-- the number of a refusal (profile)
abbrev pub code_of : VpiError → ℕ
code_of BadHandle = 1101
code_of (Denied words) = 1109
code_of WrongKind = 1102
code_of BadValue = 1103
code_of Finished = 1104
code_of TooManyHandles = 1105
code_of NoSuchName = 1106
code_of TooManyCallbacks = 1001
code_of NoSuchCallback = 1002
code_of NoSuchRace = 1108
code_of NoMemory = 1107

-- the refusal by an error of the callbacks
abbrev pub error_of : NotifyError → VpiError
error_of notify.TooManyCallbacks = TooManyCallbacks
error_of notify.NoSuchCallback = NoSuchCallback
error_of notify.NoMemory = NoMemory
