-- With what a procedure goes on.
use Rattle.std.proofs.Common.{◌≡◌, ℕ, Bool, true, false, Some, refl}
use Rattle.vp_sim.specs.States.{restart_always}

-- a procedure that has a statement to go on with does not begin again
pub again_some : (repeats : Bool) (body place : ℕ) → restart_always repeats body (Some place) ≡ Some place
again_some true body place = refl
again_some false body place = refl
