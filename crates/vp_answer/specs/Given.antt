-- What a query is answered.
use Rattle.std.specs.Prelude.{◌≡◌, ℕ, List, Option, None, option_map}
use Rattle.vp_bits.specs.declared.bit.Bit.{Bit}
use Rattle.vp_elab.specs.declared.object.ObjectId.{ObjectId}
use Rattle.vp_vpi.specs.SessionStates.{SessionState}
use Rattle.vp_answer.specs.declared.answering.Answer.{Answer}
use Rattle.vp_answer.specs.declared.goal.GoalChange.TheVariants.{Stays}
use Rattle.vp_answer.specs.declared.reply.Reply.{Reply}
use Rattle.vp_answer.specs.Answers.{Response}

-- a reply from which nothing else comes, for the session and for the log
abbrev pub plain : Reply → Answer
plain r = record { reply = r; entry_reply = r; goal = Stays; put = None }

-- what a put sets, by the number of its object
abbrev pub put_shown : Option (ObjectId × List Bit) → Option (ℕ × List Bit)
put_shown put = option_map (λ p. (p.0.0, p.1)) put

-- an answer is what comes of a query: its reply, for the session and for the log, what it does to the goal, and its put; and this is the
-- session after it
pub record IsGiven (given : Response) (session : SessionState) (a : Answer) : Type 0 where
  pub gives_reply : a.reply ≡ given.reply
  pub gives_entry : a.entry_reply ≡ given.reply
  pub goal : a.goal ≡ given.goal
  pub put : put_shown a.put ≡ given.put
  pub session_state : session ≡ given.session_state
