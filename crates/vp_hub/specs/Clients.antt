-- What the client of a connection is answered.
use Rattle.std.specs.Prelude.{◌≡◌, ◌⊎◌, ℕ, List, Option, Some, None, Result, Ok, Err}
use Rattle.vp_answer.specs.declared.reply.Refusal.{Refusal}
use Rattle.vp_answer.specs.declared.reply.Reply.{Reply}
use Rattle.vp_answer.specs.declared.reply.Reply.TheVariants as reply
use Rattle.vp_answer.specs.declared.status.ServerStatus.{ServerStatus}
use Rattle.vp_answer.specs.declared.request.Call.{Call}
use Rattle.vp_answer.specs.declared.request.Request.{Request}
use Rattle.vp_answer.specs.declared.request.Request.TheVariants as request
use Rattle.vp_hub.specs.Faults.{refusal_of}
use Rattle.vp_world.specs.Worlds.{Opening}
use Rattle.vp_hub.specs.declared.error.HubError.{HubError}
use Rattle.vp_hub.specs.Calls.{Passed}
use Rattle.vp_hub.specs.Hubs.{IsAnswered, IsOpened}

-- what a client is shown of what a hub answers
abbrev pub reply_of : Result Reply HubError → Reply
reply_of (Ok answer) = answer
reply_of (Err e) = reply.Error (refusal_of e)

-- a request is refused, and the session stays as it was, if there is one
abbrev pub IsRefused : (before : Option Passed) → Reply → (after : Option Passed) → Type 0
IsRefused before answer after = (after ≡ before) × (e : Refusal) × (answer ≡ reply.Error e)

-- a connection's session is opened by this name and token, as the hub opens it; or that is refused, as it is where the connection has one
abbrev pub IsOpening : Opening → (before : Option Passed) → (user token : List ℕ) → Reply → (after : Option Passed) → Type 0
IsOpening opening (Some p) user token answer after = IsRefused (Some p) answer after
IsOpening opening None user token answer after =
    ((p : Passed) × (after ≡ Some p) × (answer ≡ reply.Opened p.session) × IsOpened opening user token p)
    ⊎ IsRefused None answer after

-- an operator's order is done, or refused; a session stays as it was
abbrev pub IsOrdered : (before : Option Passed) → Reply → (after : Option Passed) → Type 0
IsOrdered before answer after = ((after ≡ before) × (answer ≡ reply.Done)) ⊎ IsRefused before answer after

-- it is reported how the server stands, or that is refused; a session stays as it was
abbrev pub IsStatus : (before : Option Passed) → Reply → (after : Option Passed) → Type 0
IsStatus before answer after = ((after ≡ before) × (s : ServerStatus) × (answer ≡ reply.Status s)) ⊎ IsRefused before answer after

-- a call of a session is answered as the hub answers it; without a session it is refused
abbrev pub IsAnsweredTo : Opening → (before : Option Passed) → Call → Reply → (after : Option Passed) → Type 0
IsAnsweredTo opening None call answer after = IsRefused None answer after
IsAnsweredTo opening (Some p) call answer after =
    (q : Passed) × (after ≡ Some q) × (result : Result Reply HubError) × (answer ≡ reply_of result)
    × IsAnswered opening p call result q

-- a client is answered: what becomes of its session
abbrev pub Answers : Opening → (before : Option Passed) → Request → Reply → (after : Option Passed) → Type 0
Answers opening before (request.Open user token) answer after = IsOpening opening before user token answer after
Answers opening before (request.Grant change) answer after = IsOrdered before answer after
Answers opening before (request.End order) answer after = IsOrdered before answer after
Answers opening before (request.Halt order) answer after = IsOrdered before answer after
Answers opening before (request.Status token) answer after = IsStatus before answer after
Answers opening before (request.Shutdown token) answer after = IsOrdered before answer after
Answers opening before (request.Call call) answer after = IsAnsweredTo opening before call answer after
