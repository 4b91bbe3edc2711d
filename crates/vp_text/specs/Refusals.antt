-- What an error of a call says.
use Rattle.std.specs.Prelude.{◌≡◌, ◌≢◌, Option, Some}
use Rattle.std.specs.Option.{unwrap_or}

-- an error is the refusal that is due, and out of memory where none is
abbrev pub Explains : {E : Type 0} → (no_memory : E) → Option E → E → Type 0
Explains no_memory due e = e ≡ unwrap_or due no_memory

-- an error other than out of memory, which may be reported at any time, is the refusal that is due
abbrev pub MayExplain : {E : Type 0} → (no_memory : E) → Option E → E → Type 0
MayExplain no_memory due e = e ≢ no_memory → due ≡ Some e
