-- Results whose errors are reported as others.
use Rattle.std.proofs.Common.{Result, Ok, Err}
use Rattle.std.specs.Prelude.{IfErr}
use Rattle.std.specs.Result.{IsErrAnd}

-- an error that is reported as another
pub told_as : {T E : Type 0} (P Q : E → Type 0) (r : Result T E) → IsErrAnd r P → ((e : E) → P e → Q e) → IfErr r Q
told_as P Q (Ok x) none then = absurd none
told_as P Q (Err e) is then = then e is
