-- A world: how it begins, and its state.
use Rattle.std.specs.Prelude.{ℕ, List, [], map, Option, None}
use Rattle.vp_elab.specs.Built.{Elaborated}
use Rattle.vp_policy.specs.PolicyState.{PolicyState}
use Rattle.vp_race.specs.Recording.{Segments, first_segments}
use Rattle.vp_race.specs.Segments.{FindingState}
use Rattle.vp_sim.specs.States as sim
use Rattle.vp_answer.specs.OpenSessions.{OpenSessionState}
use Rattle.vp_world.specs.Entries.{Entry}
use Rattle.vp_world.specs.declared.limits.Limits.{Limits}

-- how a world begins: a design, the policy with which it opens, and its limits
pub record Opening : Type 0 where
  pub design : Elaborated
  pub policy : PolicyState
  pub limits : Limits

-- the state of a world: the state of its simulation, the segments of its run, the races in its book, the policy in force, its open sessions, how
-- often each user has opened one, and the goal, the time until which the simulation may run, if there is one (profile)
pub record State : Type 0 where
  pub run : sim.State
  pub segments : Segments
  pub book : List FindingState
  pub policy : PolicyState
  pub sessions : List OpenSessionState
  pub opens : List ℕ
  pub goal : Option ℕ

-- how a world began, and its state
pub record WorldState : Type 0 where
  pub opening : Opening
  pub state : State

-- a world: how it began, its log, all that has happened since, and how many entries of it, the first, were handed out; the world holds the rest
pub record WorldLog : Type 0 where
  pub opening : Opening
  pub log : List Entry
  pub handed_out : ℕ

-- a state in which nothing has happened: the opening policy is in force
abbrev pub start : Opening → State
start opening = record {
  run = sim.start opening.design;
  segments = first_segments (sim.start opening.design);
  book = [];
  policy = opening.policy;
  sessions = [];
  opens = map (λ u. 0) opening.policy.members;
  goal = None;
}
