-- How a world stands, as an operator is shown it (profile).
use Rattle.std.specs.Prelude.{ℕ, ◌-◌, ◌||◌, Bool, is_none, length, map}
use Rattle.vp_elab.specs.Tree.{below}
use Rattle.vp_policy.specs.Users.{member_at}
use Rattle.vp_race.specs.Recording.{jobs_waiting}
use Rattle.vp_answer.specs.declared.status.UserSessions.{UserSessions}
use Rattle.vp_answer.specs.declared.status.WorldStatus.{WorldStatus}
use Rattle.vp_answer.specs.OpenSessions.{sessions_of}
use Rattle.vp_answer.specs.Sizes.{saturated}
use Rattle.vp_world.specs.declared.event.Event.TheVariants as event
use Rattle.vp_world.specs.History.{held_bytes, refused_by, state_after}
use Rattle.vp_world.specs.Worlds.{State, WorldLog}

-- how many sessions the user of a number has open, by his name
abbrev pub user_sessions : State → (user : ℕ) → UserSessions
user_sessions s user = record { user = (member_at s.policy.members user).name; sessions = sessions_of user s.sessions }

-- the simulation has something to do, and may do it
abbrev pub is_running : WorldLog → Bool
is_running w = is_none (refused_by w (event.Step 0)) || is_none (refused_by w event.Advance)

-- the status of a world in a state
abbrev pub status_in : WorldLog → State → WorldStatus
status_in w s = record {
  time = s.run.time;
  running = is_running w;
  entries = length w.log;
  held = length w.log - w.handed_out;
  bytes = saturated (held_bytes w.handed_out w.log);
  sessions = map (user_sessions s) (below (length s.policy.members));
  jobs = jobs_waiting s.segments;
  races = length s.book;
}

-- the status of a world
abbrev pub status_of : WorldLog → WorldStatus
status_of w = status_in w (state_after w.opening w.log)
