-- Open sessions that are notified of a change.
use Rattle.std.proofs.Common.{◌≡◌, ℕ, List, None, refl}
use Rattle.vp_answer.specs.OpenSessions.{OpenSessionState, notified_session}
use Rattle.vp_answer.proofs.Lists.{map_same}
use Rattle.vp_world.specs.History.{noticed}

-- no change is reported
pub noticed_none : (time : ℕ) (sessions : List OpenSessionState) → noticed None time sessions ≡ sessions
noticed_none time sessions = map_same (notified_session None time) (λ s. refl) sessions
