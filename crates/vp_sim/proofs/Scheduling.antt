-- A future event is no matter of the events of the current time: it may be scheduled before these are activated and taken.
use Rattle.std.proofs.Common.{◌≡◌, ℕ, ◌+◌, Bool, true, false, List, [], ◌∷◌, Option, Some, None, refl, ap, ◌∙◌, sym}
use Rattle.std.specs.Prelude.{slice_get, slice_set}
use Rattle.vp_strata.specs.declared.event.Delayed.{Delayed}
use Rattle.vp_active_events.specs.declared.event.Event.{Event}
use Rattle.vp_strata.specs.declared.event.Timed.{Timed}
use Rattle.vp_active_events.specs.Events.{eligible_places}
use Rattle.vp_strata.specs.Queues.{Queue, activated, activated_from, scheduled, taken, with_future, without}
use Rattle.vp_sim.specs.States.{State, delayed, taken_if, with_activation}

activated_as : (q : Queue) (f : List Timed) (active : List Event) (inactive : List ℕ) → activated_from (with_future q f) active inactive ≡ with_future (activated_from q active inactive) f
activated_as q f (e ∷ es) inactive = refl
activated_as q f [] (p ∷ ps) = refl
activated_as q f [] [] = refl

future_as : (q : Queue) (active : List Event) (inactive : List ℕ) → (activated_from q active inactive).future ≡ q.future
future_as q (e ∷ es) inactive = refl
future_as q [] (p ∷ ps) = refl
future_as q [] [] = refl

without_as : (q : Queue) (f : List Timed) (place : Option ℕ) → without (with_future q f) place ≡ with_future (without q place) f
without_as q f None = refl
without_as q f (Some place) = refl

future_without : (q : Queue) (place : Option ℕ) → (without q place).future ≡ q.future
future_without q None = refl
future_without q (Some place) = refl

taken_as : (b : Bool) (q : Queue) (f : List Timed) (k : ℕ) → taken_if b (with_future q f) k ≡ with_future (taken_if b q k) f
taken_as true q f k = without_as q f (slice_get (eligible_places q.active) k)
taken_as false q f k = refl

future_taken : (b : Bool) (q : Queue) (k : ℕ) → (taken_if b q k).future ≡ q.future
future_taken true q k = future_without q (slice_get (eligible_places q.active) k)
future_taken false q k = refl

scheduled_first : (b : Bool) (q : Queue) (e : Timed) (k : ℕ) → taken_if b (activated (with_future q (scheduled e q.future))) k ≡ with_future (taken_if b (activated q) k) (scheduled e (taken_if b (activated q) k).future)
scheduled_first b q e k =
    ap (λ r. taken_if b r k) (activated_as q (scheduled e q.future) q.active q.inactive)
    ∙ taken_as b (activated q) (scheduled e q.future) k
    ∙ ap (λ f. with_future (taken_if b (activated q) k) (scheduled e f)) (sym (future_taken b (activated q) k ∙ future_as q q.active q.inactive))

-- a state in which something happens later and then a process goes on is one in which a process goes on and then something happens later
pub delayed_first : (b : Bool) (s : State) (delay : ℕ) (event : Delayed) (k process : ℕ) (rest : Option ℕ)
    → record (with_activation (delayed s delay event)) {
      remaining = slice_set s.remaining process rest;
      queue = taken_if b (with_activation (delayed s delay event)).queue k;
    }
    ≡ delayed (record (with_activation s) {
      remaining = slice_set s.remaining process rest;
      queue = taken_if b (with_activation s).queue k;
    }) delay event
delayed_first b s delay event k process rest =
    ap (λ (q : Queue). record s { remaining = slice_set s.remaining process rest; queue = q })
    (scheduled_first b s.queue (record { time = s.time + delay; event = event }) k)
