-- What the calls of a hub give.
use Rattle.std.specs.Prelude.{◌≡◌, ◌∷◌, ◌++◌, [], IfOk, OnErr, length, List, Result, ℕ}
use Rattle.vp_answer.specs.declared.reply.Reply.{Reply}
use Rattle.vp_answer.specs.declared.reply.Reply.TheVariants as reply
use Rattle.vp_answer.specs.declared.request.Call.{Call}
use Rattle.vp_world.specs.declared.event.Event.TheVariants as event
use Rattle.vp_world.specs.Entries.{Entry}
use Rattle.vp_world.specs.History.{IsLegal}
use Rattle.vp_world.specs.Worlds.{Opening}
use Rattle.vp_hub.specs.declared.error.HubError.{HubError}
use Rattle.vp_hub.specs.Calls.{Passed, after_call, event_of}

-- a session was opened by this name and token: the log that its pass has seen is legal for the hub's opening and ends with the opening of
-- the session, which is the pass's one call; its share has one part
pub record IsOpened (opening : Opening) (user token : List ℕ) (p : Passed) : Type 0 where
  pub before : List Entry
  pub entry : Entry
  pub seen : p.seen ≡ before ++ entry ∷ []
  pub event : entry.event ≡ event.Open user token
  pub reply : entry.reply ≡ reply.Opened p.session
  pub legal : IsLegal opening [] p.seen
  pub indexes : p.indexes ≡ length before ∷ []
  pub amount : p.amount ≡ 1
  pub parts : p.parts ≡ 1

-- a call of a pass was made and answered so: the log that the pass has seen now is legal for the hub's opening, goes on from what it had
-- seen, and ends with this call of its session and this reply; the pass has its index more
pub record IsReceived (opening : Opening) (p : Passed) (c : Call) (a : Reply) (q : Passed) : Type 0 where
  pub between : List Entry
  pub entry : Entry
  pub seen : q.seen ≡ (p.seen ++ between) ++ entry ∷ []
  pub event : entry.event ≡ event_of p.session c
  pub reply : entry.reply ≡ a
  pub legal : IsLegal opening [] q.seen
  pub pass : q ≡ after_call p (length (p.seen ++ between)) q.seen

-- what a call of a pass comes to at a hub: it is made and answered; or refused, and the pass is as it was
pub record IsAnswered (opening : Opening) (p : Passed) (c : Call) (result : Result Reply HubError) (q : Passed) : Type 0 where
  pub made : IfOk result (λ a. IsReceived opening p c a q)
  pub unchanged : OnErr result (q ≡ p)
