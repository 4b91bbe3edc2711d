-- Refusals.
use Rattle.std.specs.Prelude.{◌≡◌, ℕ, Bool, false, true, Result, IfErr, OnOk}
use Rattle.vp_replay.specs.declared.error.AuditError.{AuditError}
use Rattle.vp_replay.specs.declared.error.AuditError.TheVariants.{NoMemory, NotOpen}

-- the number of a refusal (profile)
abbrev pub code_of : AuditError → ℕ
code_of NotOpen = 1303
code_of NoMemory = 1307

-- an error is out of memory, or reports that something is not taken up
abbrev pub MayRefuse : (taken : Bool) → AuditError → Type 0
MayRefuse taken NotOpen = taken ≡ false
MayRefuse taken NoMemory = Unit {0}

-- an answer comes of what is taken up alone; a refusal is out of memory, or reports that it is not taken up
pub record TakesUp {T : Type 0} (taken : Bool) (result : Result T AuditError) : Type 0 where
  pub accepted : OnOk result (taken ≡ true)
  pub refused : IfErr result (MayRefuse taken)
