-- How many segments closed after a log: at most as many as it has entries.
use Rattle.std.proofs.Common.{ℕ, ◌+◌, ◌≤◌, Bool, true, false, List, [], ◌∷◌, length, Option, Some, None, arith}
use Rattle.std.specs.Prelude.{fold, if◌then◌else◌, slice_get, slice_set}
use Rattle.std.specs.Option.{option_map_or}
use Rattle.vp_bits.specs.declared.bit.Bit.{Bit}
use Rattle.vp_policy.specs.Users.{login_of, user_of}
use Rattle.vp_race.specs.Orders.{is_over}
use Rattle.vp_race.specs.Recording.{Segments, next_job, with_anew, with_job, with_step}
use Rattle.vp_race.specs.Segments.{Run}
use Rattle.vp_sim.specs.States as sim
use Rattle.vp_answer.specs.declared.request.GrantChange.{GrantChange}
use Rattle.vp_world.specs.declared.event.Event.{Event}
use Rattle.vp_world.specs.declared.event.Event.TheVariants as event
use Rattle.vp_answer.specs.declared.query.Query.{Query}
use Rattle.vp_world.specs.Entries.{Entry}
use Rattle.vp_world.specs.History.{after, asked_at, closed_at, ended_for, granted_to, opened_by, outcome_of_put, goal_after, response_of, segments_of_put, state_asked, state_after, stepped}
use Rattle.vp_world.specs.Worlds.{Opening, State, start}
use Rattle.vp_answer.specs.OpenSessions.{OpenSessionState, index_of}

-- at most one segment more is closed
abbrev ClosesOne : Segments → Segments → Type 0
ClosesOne old new = new.count ≤ old.count + 1

one_of : (b : Bool) (old x y : Segments) → ClosesOne old x → ClosesOne old y → ClosesOne old (if b then x else y)
one_of true old x y h k = h
one_of false old x y h k = k

-- by a step
step_closes : (old : Segments) (k : ℕ) (next : sim.State) → ClosesOne old (with_step old k next)
step_closes old k next = one_of (is_over next) old _ _ (omega arith) (omega arith)

-- by a put, if there is one
put_closes : (old : Segments) (p : Option (ℕ × List Bit)) (next : sim.State) → ClosesOne old (segments_of_put old p next)
put_closes old None next = omega arith
put_closes old (Some p) next = omega arith

-- by what the simulation does
outcome_closes : (s : State) (segments : sim.State → Segments) (o : sim.Outcome) → ((next : sim.State) → ClosesOne s.segments (segments next)) → ClosesOne s.segments (stepped s segments o).segments
outcome_closes s segments (sim.Goes run change) closes = closes run
outcome_closes s segments (sim.Refuses e) closes = omega arith

-- by a query of an open session
session_closes : (s : State) (index : ℕ) (there : Option OpenSessionState) (r : Query) → ClosesOne s.segments (state_asked s index there r).segments
session_closes s index None r = omega arith
session_closes s index (Some session) r =
    let given = response_of s session.session_state r in
    outcome_closes
    (record s { sessions = slice_set s.sessions index (record session { session_state = given.session_state }); goal = goal_after s.goal given.goal })
    (segments_of_put s.segments given.put) (outcome_of_put s.run given.put) (put_closes s.segments given.put)

-- by a query
query_closes : (s : State) (index : Option ℕ) (r : Query) → ClosesOne s.segments (asked_at s index r).segments
query_closes s None r = omega arith
query_closes s (Some index) r = session_closes s index (slice_get s.sessions index) r

-- by a session that is opened
opening_closes : (s : State) (user : Option ℕ) → (let next : State = option_map_or (opened_by s) user s in ClosesOne s.segments next.segments)
opening_closes s None = omega arith
opening_closes s (Some u) = omega arith

-- by one that is closed
closing_closes : (s : State) (index : Option ℕ) → ClosesOne s.segments (closed_at s index).segments
closing_closes s None = omega arith
closing_closes s (Some index) = omega arith

-- by a change of a grant
granting_closes : (s : State) (change : GrantChange) (user : Option ℕ) → (let next : State = option_map_or (granted_to s change) user s in ClosesOne s.segments next.segments)
granting_closes s change None = omega arith
granting_closes s change (Some u) = omega arith

-- by an end of a user's sessions
ending_closes : (s : State) (user : Option ℕ) → (let next : State = option_map_or (ended_for s) user s in ClosesOne s.segments next.segments)
ending_closes s None = omega arith
ending_closes s (Some u) = omega arith

-- by a job
job_closes : (old : Segments) (job : Option Run) → ClosesOne old (option_map_or (with_job old) job old)
job_closes old None = omega arith
job_closes old (Some run) = omega arith

-- by an event
event_closes : (opening : Opening) (s : State) (e : Event) → ClosesOne s.segments (after opening s e).segments
event_closes opening s (event.Open name token) = opening_closes s (login_of s.policy.members name token)
event_closes opening s (event.Ask id query) = query_closes s (index_of s.sessions id) query
event_closes opening s (event.Close id) = closing_closes s (index_of s.sessions id)
event_closes opening s (event.Grant change) = granting_closes s change (user_of s.policy.members change.user)
event_closes opening s (event.End order) = ending_closes s (user_of s.policy.members order.user)
event_closes opening s (event.Halt order) = omega arith
event_closes opening s (event.Step k) = outcome_closes s (with_step s.segments k) (sim.step s.run k) (step_closes s.segments k)
event_closes opening s event.Advance = outcome_closes s (with_anew s.segments) (sim.advance s.run) (λ next. omega arith)
event_closes opening s event.TakeJob = job_closes s.segments (next_job s.segments)
event_closes opening s (event.Book finding) = omega arith

-- by events, as many as there are
events_close : (opening : Opening) (s : State) (log : List Entry) → (let next : State = fold (λ s (e : Entry). after opening s e.event) s log in next.segments.count ≤ s.segments.count + length log)
events_close opening s [] = omega arith
events_close opening s (e ∷ log) = omega (arith, events_close opening (after opening s e.event) log, event_closes opening s e.event)

-- after a log at most as many segments closed as it has entries
pub count_within : (opening : Opening) (log : List Entry) → (state_after opening log).segments.count ≤ length log
count_within opening log = omega (arith, events_close opening (start opening) log)
