-- An event queue, computed call by call. Each row is an equation that holds by computation.
use Rattle.std.proofs.Common.{◌≡◌, ℕ, List, [], ◌∷◌, None, Some, refl}
use Rattle.vp_bits.specs.declared.bit.Bit.TheVariants.{One, Zero}
use Rattle.vp_strata.specs.declared.event.Delayed.TheVariants as later
use Rattle.vp_active_events.specs.declared.event.Event.{Event}
use Rattle.vp_active_events.specs.declared.event.Event.TheVariants.{Evaluation, NetUpdate, Nonblocking}
use Rattle.vp_active_events.specs.declared.event.NonblockingUpdate.{NonblockingUpdate}
use Rattle.vp_strata.specs.declared.event.Timed.{Timed}
use Rattle.vp_active_events.specs.Events.{eligible_places}
use Rattle.vp_strata.specs.Queues.{Queue, activated, advanced, no_events, peeked, ready, scheduled, taken}

-- a 1 for the least significant bit of an object, by a process that is process 3
abbrev set : (object : ℕ) → NonblockingUpdate
set object = record { process = 3; object = object; place = Some 0; value = One ∷ [] }

-- a process goes on at a time
abbrev goes_on : (time process : ℕ) → Timed
goes_on time process = record { time = time; event = later.Evaluation process }

-- an object is set at a time
abbrev sets : (time object : ℕ) → Timed
sets time object = record { time = time; event = later.Nonblocking (set object) }

-- ---- eligible events

abbrev mixed : List Event
mixed =
    NetUpdate 1 (Zero ∷ []) ∷ Evaluation 0 ∷ NetUpdate 1 (One ∷ []) ∷ NetUpdate 2 (One ∷ []) ∷ Nonblocking (set 7) ∷ []

-- of the two updates of one net the older is eligible
places_of_mixed : eligible_places mixed ≡ 0 ∷ 1 ∷ 3 ∷ 4 ∷ []
places_of_mixed = refl

-- the other one is, once the older is taken
taken_then_eligible : eligible_places (taken (record no_events { active = mixed }) 0).active ≡ 0 ∷ 1 ∷ 2 ∷ 3 ∷ []
taken_then_eligible = refl

-- ---- activation

abbrev two_updates : Queue
two_updates = record no_events { nonblocking = set 7 ∷ set 8 ∷ [] }

-- of two updates of nonblocking assignments the older is eligible
first_update : ready two_updates ≡ 0 ∷ []
first_update = refl

first_update_peeked : peeked two_updates 0 ≡ Some (Nonblocking (set 7))
first_update_peeked = refl

second_update_waits : peeked two_updates 1 ≡ None
second_update_waits = refl

-- the newer one is, once the older is taken
second_update : (taken (activated two_updates) 0).active ≡ Nonblocking (set 8) ∷ []
second_update = refl

-- inactive events are activated before updates of nonblocking assignments
inactive_first : activated (record two_updates { inactive = 4 ∷ 2 ∷ [] }) ≡ record two_updates { active = Evaluation 4 ∷ Evaluation 2 ∷ [] }
inactive_first = refl

-- where an event is active nothing is activated
nothing_activated : activated (record two_updates { active = Evaluation 0 ∷ []; inactive = 4 ∷ [] }) ≡ record two_updates { active = Evaluation 0 ∷ []; inactive = 4 ∷ [] }
nothing_activated = refl

-- ---- future events

-- at time 5, an event stands after another of time 5 and before one of time 7
in_order : scheduled (goes_on 5 1) (sets 5 7 ∷ goes_on 7 0 ∷ []) ≡ sets 5 7 ∷ goes_on 5 1 ∷ goes_on 7 0 ∷ []
in_order = refl

-- time goes on to 5: an evaluation is active, an update is one of the nonblocking events, and what comes at 7 is left
time_goes_on : advanced (record no_events { future = goes_on 5 1 ∷ sets 5 7 ∷ goes_on 7 0 ∷ [] }) ≡ record { active = Evaluation 1 ∷ []; inactive = []; nonblocking = set 7 ∷ []; future = goes_on 7 0 ∷ [] }
time_goes_on = refl

-- where no event is to come nothing changes
no_future : advanced two_updates ≡ two_updates
no_future = refl
