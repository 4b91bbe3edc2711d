-- Open sessions whose names stay.
use Rattle.std.proofs.Common.{◌≡◌, ◌∙◌, ap}
use Rattle.vp_vpi.specs.SessionStates.{SessionState}
use Rattle.vp_answer.specs.declared.request.SessionId.{SessionId}
use Rattle.vp_answer.specs.OpenSessions.{OpenSessionState}

-- an open session of this name and state
abbrev pub session_with : SessionId → SessionState → OpenSessionState
session_with id session_state = record { id = id; session_state = session_state }

-- a session of another's name
pub with_name_of : (new old : OpenSessionState) (session_state : SessionState) → new.id ≡ old.id → new.session_state ≡ session_state → new ≡ session_with old.id session_state
with_name_of new old session_state name state = ap (λ id. session_with id new.session_state) name ∙ ap (session_with old.id) state
