-- The world as a function of its events.
use Rattle.std.specs.Prelude.{◌≡◌, ℕ, ◌+◌, ◌-◌, ◌^◌, ◌&&◌, ◌||◌, drop, nat_le, nat_lt, max, Bool, true, false, if◌then◌else◌, List, [], ◌∷◌, ◌++◌, length, fold, map, slice_get, slice_index, slice_set, Option, Some, None, is_none, option_and_then, option_map, Result, IfErr, OnErr, OnOk}
use Rattle.std.specs.List.{remove}
use Rattle.std.specs.Option.{option_map_or}
use Rattle.vp_text.specs.Refusals.{Explains}
use Rattle.vp_bits.specs.declared.bit.Bit.{Bit}
use Rattle.vp_policy.specs.PolicyState.{PolicyState}
use Rattle.vp_policy.specs.Regrants.{is_operator, regranted}
use Rattle.vp_policy.specs.Users.{Member, login_of, member_at, user_of}
use Rattle.vp_elab.specs.declared.object.ObjectId.{ObjectId}
use Rattle.vp_expr.specs.declared.change.Change.{Change}
use Rattle.vp_race.specs.declared.error.RaceError.{RaceError}
use Rattle.vp_race.specs.Booking.{refusal_of_finding}
use Rattle.vp_race.specs.Recording.{Segments, kept_of, next_job, with_anew, with_job, with_step}
use Rattle.vp_race.specs.Same.{same_run}
use Rattle.vp_race.specs.Segments.{IsRaceOf, Run, FindingState}
use Rattle.vp_sim.specs.States as sim
use Rattle.vp_vpi.specs.Observers.{Observer}
use Rattle.vp_world.specs.Races.{observer_with}
use Rattle.vp_vpi.specs.SessionStates.{SessionState, new_session_state}
use Rattle.vp_world.specs.Entries.{Entry, bytes_of}
use Rattle.vp_answer.specs.declared.goal.GoalChange.{GoalChange}
use Rattle.vp_answer.specs.declared.goal.GoalChange.TheVariants.{Ends, RisesTo, Stays}
use Rattle.vp_answer.specs.declared.request.GrantChange.{GrantChange}
use Rattle.vp_answer.specs.declared.request.SessionId.{SessionId}
use Rattle.vp_answer.specs.declared.query.Query.{Query}
use Rattle.vp_world.specs.declared.limits.Limits.{Limits}
use Rattle.vp_world.specs.declared.event.Event.{Event}
use Rattle.vp_world.specs.declared.event.Event.TheVariants as event
use Rattle.vp_world.specs.declared.error.WorldError.{WorldError}
use Rattle.vp_world.specs.declared.error.WorldError.TheVariants as error
use Rattle.vp_answer.specs.declared.reply.Refusal.TheVariants as refusal
use Rattle.vp_answer.specs.declared.reply.Reply.{Reply}
use Rattle.vp_answer.specs.declared.reply.Reply.TheVariants as reply
use Rattle.vp_world.specs.Events.{IsWellFormed}
use Rattle.vp_world.specs.Worlds.{WorldLog, Opening, WorldState, State, start}
use Rattle.vp_answer.specs.OpenSessions.{OpenSessionState, index_of, notified_session, retired_for, sessions_of, without_user}
use Rattle.vp_answer.specs.Answers.{Response, respond}

-- ---- refusals

-- a user has as many sessions open as he may at once (profile)
abbrev pub is_share_used : State → ℕ → Bool
is_share_used s u = nat_le (member_at s.policy.members u).sessions (sessions_of u s.sessions)

-- there is no room for a session of a user: as many are open as there may be, or as many of his, or no count of 64 bits is left (profile)
abbrev pub is_full : Opening → State → ℕ → Bool
is_full opening s u =
    (nat_le opening.limits.sessions (length s.sessions) || is_share_used s u) || nat_le 18446744073709551615 (slice_index s.opens u)

-- the log is full (profile)
abbrev pub refusal_of_log : Bool → Option WorldError
refusal_of_log full = if full then Some error.LogFull else None

-- why an opening is refused: a wrong name or token, too many sessions, then a full log (profile)
abbrev pub refusal_of_open : Opening → Bool → State → Option ℕ → Option WorldError
refusal_of_open opening full s None = Some error.BadToken
refusal_of_open opening full s (Some u) = if is_full opening s u then Some error.SessionsFull else refusal_of_log full

-- why an event of a session is refused: it is not open, then a full log (profile)
abbrev pub refusal_of_session : Bool → Option ℕ → Option WorldError
refusal_of_session full None = Some error.NotOpen
refusal_of_session full (Some index) = refusal_of_log full

-- why a change of a grant for an envelope is refused, by the number of the user who was found under its name: there is none, no envelope
-- has the number, then a full log (profile)
abbrev pub refusal_of_grantee : Bool → PolicyState → (envelope : ℕ) → Option ℕ → Option WorldError
refusal_of_grantee full policy envelope None = Some error.NoSuchUser
refusal_of_grantee full policy envelope (Some user) =
    if nat_lt (length policy.tree.authors) envelope then Some error.NoSuchEnvelope else refusal_of_log full

-- why an end of a user's sessions is refused, by the number of the user who was found under its name: there is none, then a full log (profile)
abbrev pub refusal_of_user : Bool → Option ℕ → Option WorldError
refusal_of_user full None = Some error.NoSuchUser
refusal_of_user full (Some user) = refusal_of_log full

-- why an order is refused: its token is not the operator's, then the reasons of what it orders (profile)
abbrev pub refusal_of_order : PolicyState → (token : List ℕ) → Option WorldError → Option WorldError
refusal_of_order policy token refusal = if is_operator policy token then refusal else Some error.BadOperator

-- why a change of a grant is refused (profile)
abbrev pub refusal_of_grant : Bool → PolicyState → GrantChange → Option WorldError
refusal_of_grant full policy change =
    refusal_of_order policy change.token (refusal_of_grantee full policy change.envelope (user_of policy.members change.user))

-- why the simulation refuses a step, if it does
abbrev pub refusal_of_outcome : sim.Outcome → Option WorldError
refusal_of_outcome (sim.Goes run change) = None
refusal_of_outcome (sim.Refuses e) = Some (error.Sim e)

-- a time lies beyond the goal; each does where there is none (profile)
abbrev pub is_past_goal : Option ℕ → ℕ → Bool
is_past_goal None t = true
is_past_goal (Some goal) t = nat_lt goal t

-- the time of the next event lies beyond the goal; without a goal it does, also where there is no such event (profile)
abbrev pub is_next_past_goal : Option ℕ → Option ℕ → Bool
is_next_past_goal None next = true
is_next_past_goal (Some goal) None = false
is_next_past_goal (Some goal) (Some t) = nat_lt goal t

-- so many steps a time slot takes at most, from its beginning or from the last put in it on (profile)
abbrev pub slot_limit : ℕ
slot_limit = 4194304

-- the time slot has as many steps as it takes
abbrev pub is_slot_full : State → Bool
is_slot_full s = nat_le slot_limit (length s.segments.opened.order)

-- the process that goes round in a full time slot, by its object: whose event a step would take, if there is one
abbrev pub going_round : State → Option ObjectId
going_round s = if is_slot_full s && nat_lt 0 (length (sim.eligible s.run)) then Some (sim.source_of s.run 0) else None

-- why a step or an advance is refused: a full log, a goal that does not reach so far, then the simulation's refusal (profile)
abbrev pub refusal_of_step : Bool → Bool → sim.Outcome → Option WorldError
refusal_of_step full beyond outcome =
    (if full then Some error.LogFull else
    (if beyond then Some error.BeyondGoal else refusal_of_outcome outcome))

-- why a job is refused: a full log, then that no kept segment is left to be handed out (profile)
abbrev pub refusal_of_job : Bool → Option Run → Option WorldError
refusal_of_job full job = if full then Some error.LogFull else if is_none job then Some error.NoJob else None

-- why the book refuses a finding, if it does: beside the kept segment of its number (profile)
abbrev pub book_refusal : Opening → State → FindingState → Option RaceError
book_refusal opening s f =
    refusal_of_finding (record { races = s.book; limits = opening.limits.book }) (kept_of s.segments f.segment.number) f

-- why a booking is refused: a full log, then the book's refusal (profile)
abbrev pub refusal_of_booking : Bool → Option RaceError → Option WorldError
refusal_of_booking full refusal = if full then Some error.LogFull else option_map error.Race refusal

-- the first refusal of an event that holds, in a state, after a log that is full or not; none where the event is accepted. A step is refused in a
-- full time slot as it is by a full log. Out of memory is no part of it (profile)
abbrev pub refusal_of : Opening → Bool → State → Event → Option WorldError
refusal_of opening full s (event.Open name token) = refusal_of_open opening full s (login_of s.policy.members name token)
refusal_of opening full s (event.Ask id query) = refusal_of_session full (index_of s.sessions id)
refusal_of opening full s (event.Close id) = refusal_of_session full (index_of s.sessions id)
refusal_of opening full s (event.Grant change) = refusal_of_grant full s.policy change
refusal_of opening full s (event.End order) = refusal_of_order s.policy order.token (refusal_of_user full (user_of s.policy.members order.user))
refusal_of opening full s (event.Halt order) = refusal_of_order s.policy order.token (refusal_of_log full)
refusal_of opening full s (event.Step k) =
    refusal_of_step (full || is_slot_full s) (is_past_goal s.goal s.run.time) (sim.step s.run k)
refusal_of opening full s event.Advance =
    refusal_of_step full (is_next_past_goal s.goal (sim.next_time s.run)) (sim.advance s.run)
refusal_of opening full s event.TakeJob = refusal_of_job full (next_job s.segments)
refusal_of opening full s (event.Book finding) = refusal_of_booking full (book_refusal opening s finding)

-- ---- what an event that is accepted is answered

-- the name of the next session of a user: how often he has opened one, and one more (profile)
abbrev pub next_session : State → ℕ → SessionId
next_session s u = record { user = record { 0 = u }; opens = slice_index s.opens u + 1 }

-- what a user can look up: the simulation, and the races of the book that he is shown
abbrev pub observer_at : State → Member → Observer
observer_at s u = observer_with s.run u s.book

-- what comes of a query of a session: its user looks into the simulation, and the policy in force says what he sees
abbrev pub response_of : State → SessionState → Query → Response
response_of s session_state r = respond (observer_at s (member_at s.policy.members session_state.user)) session_state r

-- the open session of a name
abbrev pub session_of : List OpenSessionState → SessionId → Option OpenSessionState
session_of sessions id = option_and_then (slice_get sessions) (index_of sessions id)

-- the reply to a query of an open session
abbrev pub asked : State → Option OpenSessionState → Query → Reply
asked s None r = reply.Error refusal.NotOpen
asked s (Some session) r = (response_of s session.session_state r).reply

-- the reply to an event that is accepted
abbrev pub answer : Opening → State → Event → Reply
answer opening s (event.Open name token) =
    option_map_or (λ u. reply.Opened (next_session s u)) (login_of s.policy.members name token) (reply.Error refusal.BadToken)
answer opening s (event.Ask id query) = asked s (session_of s.sessions id) query
answer opening s (event.Close id) = reply.Done
answer opening s (event.Grant change) = reply.Done
answer opening s (event.End order) = reply.Done
answer opening s (event.Halt order) = reply.Done
answer opening s (event.Step k) = reply.Done
answer opening s event.Advance = reply.Done
answer opening s event.TakeJob = option_map_or (λ run. reply.Job run.number) (next_job s.segments) (reply.Error refusal.NoJob)
answer opening s (event.Book finding) = reply.Done

-- what a step of the simulation changes
abbrev pub change_of : sim.Outcome → Option Change
change_of (sim.Goes run change) = change
change_of (sim.Refuses e) = None

-- what a put does to a simulation; nothing where there is none
abbrev pub outcome_of_put : sim.State → Option (ℕ × List Bit) → sim.Outcome
outcome_of_put run None = sim.Goes run None
outcome_of_put run (Some p) = sim.put run p.0 p.1

-- the segments after a put, to a state: the open one begins anew; without a put they stay (profile)
abbrev pub segments_of_put : Segments → Option (ℕ × List Bit) → sim.State → Segments
segments_of_put segments None run = segments
segments_of_put segments (Some p) run = with_anew segments run

-- what a query of an open session changes
abbrev pub changed_by : State → Option OpenSessionState → Query → Option Change
changed_by s None r = None
changed_by s (Some session) r = change_of (outcome_of_put s.run (response_of s session.session_state r).put)

-- what an event that is accepted changes
abbrev pub changed : State → Event → Option Change
changed s (event.Open name token) = None
changed s (event.Ask id query) = changed_by s (session_of s.sessions id) query
changed s (event.Close id) = None
changed s (event.Grant change) = None
changed s (event.End order) = None
changed s (event.Halt order) = None
changed s (event.Step k) = change_of (sim.step s.run k)
changed s event.Advance = change_of (sim.advance s.run)
changed s event.TakeJob = None
changed s (event.Book finding) = None

-- ---- the state that an event that is accepted leaves

-- the state with one session more, of a user
abbrev pub opened_by : State → ℕ → State
opened_by s u = record s {
  sessions = s.sessions ++ record { id = next_session s u; session_state = new_session_state u } ∷ [];
  opens = slice_set s.opens u (slice_index s.opens u + 1);
}

-- the later of a goal, if there is one, and a time
abbrev pub later : Option ℕ → ℕ → ℕ
later None until = until
later (Some goal) until = max goal until

-- a goal after what a query does to it: it stays, it rises to a time, or there is none any more (profile)
abbrev pub goal_after : Option ℕ → GoalChange → Option ℕ
goal_after goal Stays = goal
goal_after goal (RisesTo until) = Some (later goal until)
goal_after goal Ends = None

-- the open sessions after a change at a time: each of them is notified, whoever made it (profile)
abbrev pub noticed : Option Change → (time : ℕ) → List OpenSessionState → List OpenSessionState
noticed change time sessions = map (notified_session change time) sessions

-- the state after what the simulation does, of whose change the open sessions are notified; the segments after it are a matter of what it did. A refusal
-- changes nothing
abbrev pub stepped : State → (segments : sim.State → Segments) → sim.Outcome → State
stepped s segments (sim.Goes run change) = record s {
  run = run;
  segments = segments run;
  sessions = noticed change run.time s.sessions;
}
stepped s segments (sim.Refuses e) = s

-- the state after what comes of a query of the session at an index: the session is as the query leaves it, and then the put is made
abbrev pub with_response : State → ℕ → OpenSessionState → Response → State
with_response s index session given =
    stepped
    (record s { sessions = slice_set s.sessions index (record session { session_state = given.session_state }); goal = goal_after s.goal given.goal })
    (segments_of_put s.segments given.put) (outcome_of_put s.run given.put)

-- the state after a query of the session at an index
abbrev pub state_asked : State → ℕ → Option OpenSessionState → Query → State
state_asked s index None r = s
state_asked s index (Some session) r = with_response s index session (response_of s session.session_state r)

-- the state after a query of a session, which is open at an index
abbrev pub asked_at : State → Option ℕ → Query → State
asked_at s None r = s
asked_at s (Some index) r = state_asked s index (slice_get s.sessions index) r

-- the state without the session at an index
abbrev pub closed_at : State → Option ℕ → State
closed_at s None = s
closed_at s (Some index) = record s { sessions = remove s.sessions index }

-- the state in which another policy is in force, after a change of what the user of a number is granted
abbrev pub under_policy : State → (user : ℕ) → PolicyState → State
under_policy s user policy = record s { policy = policy; sessions = map (retired_for policy user) s.sessions }

-- the state after a change of the grant of the user of a number: the changed policy is in force (profile)
abbrev pub granted_to : State → GrantChange → (user : ℕ) → State
granted_to s change user = under_policy s user (regranted s.policy user change.envelope change.access)

-- the state in which the sessions of a user have ended, as by a close of each (profile)
abbrev pub ended_for : State → (user : ℕ) → State
ended_for s user = record s { sessions = without_user user s.sessions }

-- the state in which the simulation stands still until somebody asks for a run again (profile)
abbrev pub halted : State → State
halted s = record s { goal = None }

-- the state after a job: the oldest kept segment that was not handed out is handed out
abbrev pub with_job_taken : State → State
with_job_taken s = record s { segments = option_map_or (with_job s.segments) (next_job s.segments) s.segments }

-- the state after a booking
abbrev pub with_booked : State → FindingState → State
with_booked s finding = record s { book = s.book ++ finding ∷ [] }

-- the state after an event that is accepted
abbrev pub after : Opening → State → Event → State
after opening s (event.Open name token) = option_map_or (opened_by s) (login_of s.policy.members name token) s
after opening s (event.Ask id query) = asked_at s (index_of s.sessions id) query
after opening s (event.Close id) = closed_at s (index_of s.sessions id)
after opening s (event.Grant change) = option_map_or (granted_to s change) (user_of s.policy.members change.user) s
after opening s (event.End order) = option_map_or (ended_for s) (user_of s.policy.members order.user) s
after opening s (event.Halt order) = halted s
after opening s (event.Step k) = stepped s (with_step s.segments k) (sim.step s.run k)
after opening s event.Advance = stepped s (with_anew s.segments) (sim.advance s.run)
after opening s event.TakeJob = with_job_taken s
after opening s (event.Book finding) = with_booked s finding

-- ---- logs

-- the state that a log leads to: a left fold of its events
abbrev pub state_after : Opening → List Entry → State
state_after opening log = fold (λ s e. after opening s e.event) (start opening) log

-- the refusal of an event after a log, by a world with room for it; none where it is accepted
abbrev pub refusal_after : Opening → List Entry → Event → Option WorldError
refusal_after opening log e = refusal_of opening false (state_after opening log) e

-- the entry of an event that is accepted in a state: its reply, what it changed, and the time and $finish after it
abbrev pub entry_of : Opening → State → Event → Entry
entry_of opening s e =
    let next : State = after opening s e in
    record { event = e; reply = answer opening s e; change = changed s e; time = next.run.time; finished = next.run.finished }

-- a log is legal after another: each entry is that of a well-formed event that is accepted after those before it
abbrev pub IsLegal : Opening → List Entry → List Entry → Type 0
IsLegal opening before [] = Unit {0}
IsLegal opening before (e ∷ log) =
    IsWellFormed opening.design e.event × (refusal_after opening before e.event ≡ None)
    × (e ≡ entry_of opening (state_after opening before) e.event) × IsLegal opening (before ++ e ∷ []) log

-- a race that is booked in a log: a race of a segment that was kept under its number after the first entries of the log, and is the same
-- as its own
pub record IsReached (opening : Opening) (log : List Entry) (f : FindingState) : Type 0 where
  pub before : List Entry
  pub rest : List Entry
  pub cut : log ≡ before ++ rest
  pub run : Run
  pub kept : kept_of (state_after opening before).segments f.segment.number ≡ Some run
  pub same : same_run run f.segment ≡ true
  pub race : IsRaceOf (record f { segment = run })

-- a world that stands so has this log: its state is that which the log leads to, and the log is legal
pub record Keeps (w : WorldState) (log : List Entry) : Type 0 where
  pub state : w.state ≡ state_after w.opening log
  pub legal : IsLegal w.opening [] log

-- ---- a world, by its opening and its log

-- so many entries a log holds at most where an operator's order is accepted: the last are left to closes (profile)
abbrev pub limit_of_operator : Limits → ℕ
limit_of_operator limits = limits.log - limits.for_closes

-- where a request of a user is accepted: those before them are left to the operator too (profile)
abbrev pub limit_of_users : Limits → ℕ
limit_of_users limits = limit_of_operator limits - limits.for_operator

-- where an event of the simulation or of its searches is accepted: those before them are left to users too (profile)
abbrev pub limit_of_simulation : Limits → ℕ
limit_of_simulation limits = limit_of_users limits - limits.for_users

-- an opening by whose limits a log holds so many bytes of texts at most
abbrev pub with_bytes : Opening → (bytes : ℕ) → Opening
with_bytes opening bytes = record opening { limits = record opening.limits { bytes = Some bytes } }

-- an opening by whose limits so many of the log's last entries are left to users, to the operator and to closes
abbrev pub with_last_for : Opening → (for_users for_operator for_closes : ℕ) → Opening
with_last_for opening for_users for_operator for_closes =
    record opening { limits = record opening.limits { for_users = for_users; for_operator = for_operator; for_closes = for_closes } }

-- so many entries a log holds at most where such an event is accepted
abbrev pub limit_for : Limits → Event → ℕ
limit_for limits (event.Open name token) = limit_of_users limits
limit_for limits (event.Ask id query) = limit_of_users limits
limit_for limits (event.Close id) = limits.log
limit_for limits (event.Grant change) = limit_of_operator limits
limit_for limits (event.End order) = limit_of_operator limits
limit_for limits (event.Halt order) = limit_of_operator limits
limit_for limits (event.Step k) = limit_of_simulation limits
limit_for limits event.Advance = limit_of_simulation limits
limit_for limits event.TakeJob = limit_of_simulation limits
limit_for limits (event.Book finding) = limit_of_simulation limits

-- so many entries a log gets at most (profile)
abbrev pub most_entries : ℕ
most_entries = 2 ^ 62

-- a log is full of which so many entries were handed out: as many are held as the limit allows, or it has as many as a log gets (profile)
abbrev pub is_full_of : (limit handed_out : ℕ) → List Entry → Bool
is_full_of limit handed_out log = nat_le limit (length log - handed_out) || nat_le most_entries (length log)

-- so many bytes of texts a log holds at most where such an event is accepted: the simulation's have few, and what ends something, a close, an end
-- of sessions or a halt, is never refused by bytes
abbrev pub byte_limit_for : Limits → Event → Option ℕ
byte_limit_for limits (event.Open name token) = limits.bytes
byte_limit_for limits (event.Ask id query) = limits.bytes
byte_limit_for limits (event.Grant change) = limits.bytes
byte_limit_for limits e = None

-- the bytes of the entries that are held
abbrev pub held_bytes : (handed_out : ℕ) → List Entry → ℕ
held_bytes handed_out log = bytes_of (drop handed_out log)

-- a log is full by bytes: as many are held as the limit allows, if there is one (profile)
abbrev pub is_full_of_bytes : Option ℕ → (handed_out : ℕ) → List Entry → Bool
is_full_of_bytes limit handed_out log = option_map_or (λ most. nat_le most (held_bytes handed_out log)) limit false

-- the log of a world is full for an event
abbrev pub is_log_full : WorldLog → Event → Bool
is_log_full w e =
    is_full_of_bytes (byte_limit_for w.opening.limits e) w.handed_out w.log
    || is_full_of (limit_for w.opening.limits e) w.handed_out w.log

-- the refusal of an event by a world; none where it is accepted
abbrev pub refused_by : WorldLog → Event → Option WorldError
refused_by w e = refusal_of w.opening (is_log_full w e) (state_after w.opening w.log) e

-- the reply of a world to an event that it accepts
abbrev pub answered_by : WorldLog → Event → Reply
answered_by w e = answer w.opening (state_after w.opening w.log) e

-- the world with the entry of an event more
abbrev pub with_entry : WorldLog → Event → WorldLog
with_entry w e = record w { log = w.log ++ entry_of w.opening (state_after w.opening w.log) e ∷ [] }

-- an event is applied to a world, which becomes another: it is accepted and logged; or refused by the first reason that holds, or, where
-- none does, when out of memory, and the world stays as it was
pub record Applies {T : Type 0} (w : WorldLog) (e : Event) (result : Result T WorldError) (v : WorldLog) : Type 0 where
  pub accepted : OnOk result (refused_by w e ≡ None)
  pub logged : OnOk result (v ≡ with_entry w e)
  pub refused : IfErr result (Explains error.NoMemory (refused_by w e))
  pub unchanged : OnErr result (v ≡ w)

-- ---- a world without its log, by how it began and its state

-- the world in another state
abbrev pub with_state : WorldState → State → WorldState
with_state w s = record w { state = s }

-- the refusal of an event, after a log that is full or not
abbrev pub refusal_in : WorldState → Bool → Event → Option WorldError
refusal_in w full e = refusal_of w.opening full w.state e

-- the reply to a query of the session at an index
abbrev pub asked_in : WorldState → ℕ → Query → Reply
asked_in w index r = asked w.state (slice_get w.state.sessions index) r

-- what a query of the session at an index changes
abbrev pub changed_in : WorldState → ℕ → Query → Option Change
changed_in w index r = changed_by w.state (slice_get w.state.sessions index) r

-- the refusal of a step, after a log that is full or not, by its outcome
abbrev pub step_refusal : WorldState → Bool → sim.Outcome → Option WorldError
step_refusal w full outcome = refusal_of_step full (is_past_goal w.state.goal w.state.run.time) outcome

-- the refusal of an advance, after a log that is full or not, by its outcome
abbrev pub advance_refusal : WorldState → Bool → sim.Outcome → Option WorldError
advance_refusal w full outcome = refusal_of_step full (is_next_past_goal w.state.goal (sim.next_time w.state.run)) outcome
