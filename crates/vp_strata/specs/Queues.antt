-- The event queue: its four lists, and what each call makes of them (clause 11.3).
use Rattle.std.specs.Prelude.{ℕ, ◌==◌, nat_le, Bool, true, false, not, List, [], ◌∷◌, ◌++◌, filter, map, slice_get, Option, Some, None, option_and_then}
use Rattle.std.specs.List.{fold, remove}
use Rattle.std.specs.List.Sorted.{IsNonDecreasingBy}
use Rattle.vp_strata.specs.declared.event.Delayed.{Delayed}
use Rattle.vp_strata.specs.declared.event.Delayed.TheVariants as later
use Rattle.vp_active_events.specs.declared.event.Event.{Event}
use Rattle.vp_active_events.specs.declared.event.Event.TheVariants.{Evaluation, Nonblocking}
use Rattle.vp_active_events.specs.declared.event.NonblockingUpdate.{NonblockingUpdate}
use Rattle.vp_strata.specs.declared.event.Timed.{Timed}
use Rattle.vp_active_events.specs.Events.{eligible_places}

-- the events that are active, those that are inactive (processes that go on), the updates of nonblocking assignments, and the future
-- events, by their time and those of one time in the order in which they were scheduled (clause 11.3); monitor events there are none
pub record Queue : Type 0 where
  pub active : List Event
  pub inactive : List ℕ
  pub nonblocking : List NonblockingUpdate
  pub future : List Timed

-- no event
abbrev pub no_events : Queue
no_events = record { active = []; inactive = []; nonblocking = []; future = [] }

-- the queue with other active events
abbrev pub with_active : Queue → List Event → Queue
with_active q events = record q { active = events }

-- the queue with other inactive events
abbrev pub with_inactive : Queue → List ℕ → Queue
with_inactive q processes = record q { inactive = processes }

-- the queue with other updates of nonblocking assignments
abbrev pub with_nonblocking : Queue → List NonblockingUpdate → Queue
with_nonblocking q updates = record q { nonblocking = updates }

-- the queue with other future events
abbrev pub with_future : Queue → List Timed → Queue
with_future q events = record q { future = events }

-- ---- activation

-- the queue whose inactive events are activated
abbrev pub inactive_activated : Queue → Queue
inactive_activated q = record q { active = map Evaluation q.inactive; inactive = [] }

-- the queue whose updates of nonblocking assignments are activated
abbrev pub nonblocking_activated : Queue → Queue
nonblocking_activated q = record q { active = map Nonblocking q.nonblocking; nonblocking = [] }

-- while no event is active, all inactive events are activated, or if there are none, all updates of nonblocking assignments (clause 11.4)
abbrev pub activated_from : Queue → (active : List Event) → (inactive : List ℕ) → Queue
activated_from q (e ∷ es) inactive = q
activated_from q [] (p ∷ ps) = inactive_activated q
activated_from q [] [] = nonblocking_activated q

-- the queue after the activation that a step would make
abbrev pub activated : Queue → Queue
activated q = activated_from q q.active q.inactive

-- of these active, inactive and nonblocking events there is none
abbrev pub is_done_from : List Event → List ℕ → List NonblockingUpdate → Bool
is_done_from [] [] [] = true
is_done_from _ _ _ = false

-- nothing is left to do at the current time (clause 11.4)
abbrev pub is_done : Queue → Bool
is_done q = is_done_from q.active q.inactive q.nonblocking

-- ---- eligible events

-- the places of the events that are eligible, after the activation (clause 11.4.2: any of them may be next)
abbrev pub ready : Queue → List ℕ
ready q = eligible_places (activated q).active

-- the k-th of the eligible events, after the activation, if there is one
abbrev pub peeked : Queue → ℕ → Option Event
peeked q k = option_and_then (slice_get (activated q).active) (slice_get (ready q) k)

-- the queue without the active event at a place, if one is given
abbrev pub without : Queue → Option ℕ → Queue
without q None = q
without q (Some place) = record q { active = remove q.active place }

-- the queue without the k-th of the active events that are eligible, if there is one
abbrev pub taken : Queue → ℕ → Queue
taken q k = without q (slice_get (eligible_places q.active) k)

-- ---- future events

-- a future event comes no later than a time
abbrev pub is_by : ℕ → Timed → Bool
is_by time e = nat_le e.time time

-- the future events, and one more: after those that come no later (clause 11.3)
abbrev pub scheduled : Timed → List Timed → List Timed
scheduled e future = filter (is_by e.time) future ++ e ∷ filter (λ f. not (is_by e.time f)) future

-- the time of the first of these
abbrev pub first_time : List Timed → Option ℕ
first_time [] = None
first_time (e ∷ es) = Some e.time

-- a future event comes at a time
abbrev pub is_at : ℕ → Timed → Bool
is_at time e = e.time == time

-- what was delayed happens now: a process goes on and is active, an update is one of the nonblocking events (clauses 11.3 and 11.4)
abbrev pub put_in : Queue → Delayed → Queue
put_in q (later.Evaluation process) = with_active q (q.active ++ Evaluation process ∷ [])
put_in q (later.Nonblocking update) = with_nonblocking q (q.nonblocking ++ update ∷ [])

-- the future events of a time happen, in order, and are no longer future (clause 11.3)
abbrev pub moved_to : Queue → ℕ → Queue
moved_to q time =
    with_future (fold put_in q (map (λ (e : Timed). e.event) (filter (is_at time) q.future)))
    (filter (λ e. not (is_at time e)) q.future)

-- time goes on to this one, if one is given
abbrev pub moved : Queue → Option ℕ → Queue
moved q None = q
moved q (Some time) = moved_to q time

-- time goes on to that of the first future event, if there is one (clause 11.4)
abbrev pub advanced : Queue → Queue
advanced q = moved q (first_time q.future)

-- ---- the queue as it is kept

-- future events stand in the order of their times
abbrev pub AreOrdered : List Timed → Type 0
AreOrdered future = IsNonDecreasingBy (λ (e : Timed). e.time) future

-- the queue, how many more events it takes without memory, and how many processes there are
pub record Regions : Type 0 where
  pub queue : Queue
  pub spare : ℕ
  pub processes : ℕ

-- the queue as it was when a copy of it was kept, and how many processes there were
pub record KeptQueue : Type 0 where
  pub queue : Queue
  pub processes : ℕ
