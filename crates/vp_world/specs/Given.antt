-- What a query is answered, and what it changes.
use Rattle.std.specs.Prelude.{◌≡◌, ℕ, IfSome}
use Rattle.vp_policy.specs.PolicyState.{PolicyState}
use Rattle.vp_policy.specs.Users.{member_at}
use Rattle.vp_race.specs.Booking.{BookState}
use Rattle.vp_race.specs.Recording.{Recorded}
use Rattle.vp_sim.specs.States as sim
use Rattle.vp_vpi.specs.Observers.{Observer}
use Rattle.vp_world.specs.Races.{observer_with}
use Rattle.vp_vpi.specs.SessionStates.{SessionState}
use Rattle.vp_answer.specs.declared.reply.Reply.TheVariants as reply
use Rattle.vp_answer.specs.Answers.{Response}
use Rattle.vp_world.specs.declared.putting.AnswerWithChange.{AnswerWithChange}
use Rattle.vp_world.specs.History.{outcome_of_put, segments_of_put}

-- what a user can look up in a simulation and a book of races, by a policy
abbrev pub observer_in : Recorded → BookState → (policy : PolicyState) → (user : ℕ) → Observer
observer_in r book policy user = observer_with r.simulation (member_at policy.members user) book.races

-- an answer gives what comes of a query: its reply, reported and kept, what it does to the goal, and what its put does to the simulation and
-- changes, which only a query that is done does; and this is the session after it
pub record Gives (given : Response) (old new : Recorded) (session : SessionState) (a : AnswerWithChange) : Type 0 where
  pub gives_reply : a.reply ≡ given.reply
  pub gives_entry : a.entry_reply ≡ given.reply
  pub goal : a.goal ≡ given.goal
  pub session_state : session ≡ given.session_state
  pub put : outcome_of_put old.simulation given.put ≡ sim.Goes new.simulation a.change
  pub segments : new.segments ≡ segments_of_put old.segments given.put new.simulation
  pub gives_done : IfSome a.change (λ c. a.reply ≡ reply.Done)
