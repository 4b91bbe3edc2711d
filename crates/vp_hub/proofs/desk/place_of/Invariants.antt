use Rattle.std.proofs.Common.{◌≢◌, All, take}
use Rattle.vp_answer.specs.declared.request.SessionId.{SessionId}
use Rattle.vp_hub.proofs.desk.place_of.Given as goal

-- none so far is the session
abbrev pub invariant-loop-place : goal.invariant-loop-place
invariant-loop-place l = All (λ (s : SessionId). s ≢ l.session) (take l.place l.sessions)
