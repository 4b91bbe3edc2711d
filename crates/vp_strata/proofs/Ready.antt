-- The queue after the activation that a step would make.
use Rattle.std.proofs.Common.{◌≡◌, ◌∙◌, ℕ, ◌<◌, List, [], ◌∷◌, None, ap, arith, length, min, refl}
use Rattle.std.specs.Prelude.{option_and_then, option_map, slice_get}
use Rattle.vp_active_events.specs.declared.event.Event.{Event}
use Rattle.vp_active_events.specs.declared.event.Event.TheVariants.{Evaluation}
use Rattle.vp_active_events.specs.Events.{eligible_places}
use Rattle.vp_strata.specs.Queues.{Queue, activated_from, inactive_activated, nonblocking_activated, peeked, ready}
use Rattle.vp_active_events.specs.laws.Choosing.{all_of_evaluations, evaluation_at, not_second, one_of_updates}

by_inactive : (q : Queue) (active : List Event) (inactive : List ℕ) → length active ≡ 0 → 0 < length inactive → activated_from q active inactive ≡ inactive_activated q
by_inactive q (e ∷ es) inactive none some = absurd (omega arith)
by_inactive q [] [] none some = absurd (omega arith)
by_inactive q [] (p ∷ ps) none some = refl

by_nonblocking : (q : Queue) (active : List Event) (inactive : List ℕ) → length active ≡ 0 → length inactive ≡ 0 → activated_from q active inactive ≡ nonblocking_activated q
by_nonblocking q (e ∷ es) inactive none idle = absurd (omega arith)
by_nonblocking q [] (p ∷ ps) none idle = absurd (omega arith)
by_nonblocking q [] [] none idle = refl

-- ---- after the inactive events

pub inactive_ready : (q : Queue) → length q.active ≡ 0 → 0 < length q.inactive → length (ready q) ≡ length q.inactive
inactive_ready q none some =
    ap (λ (r : Queue). length (eligible_places r.active)) (by_inactive q q.active q.inactive none some)
    ∙ all_of_evaluations [] q.inactive

pub inactive_peeked : (q : Queue) (k : ℕ) → length q.active ≡ 0 → 0 < length q.inactive → peeked q k ≡ option_map Evaluation (slice_get q.inactive k)
inactive_peeked q k none some =
    ap (λ (r : Queue). option_and_then (slice_get r.active) (slice_get (eligible_places r.active) k)) (by_inactive q q.active q.inactive none some)
    ∙ evaluation_at q.inactive k

-- ---- after the updates of nonblocking assignments

pub nonblocking_ready : (q : Queue) → length q.active ≡ 0 → length q.inactive ≡ 0 → length (ready q) ≡ min (length q.nonblocking) 1
nonblocking_ready q none idle =
    ap (λ (r : Queue). length (eligible_places r.active)) (by_nonblocking q q.active q.inactive none idle)
    ∙ one_of_updates q.nonblocking

pub nonblocking_peeked : (q : Queue) (k : ℕ) → length q.active ≡ 0 → length q.inactive ≡ 0 → 0 < k → peeked q k ≡ None
nonblocking_peeked q k none idle more =
    ap (λ (r : Queue). option_and_then (slice_get r.active) (slice_get (eligible_places r.active) k)) (by_nonblocking q q.active q.inactive none idle)
    ∙ not_second q.nonblocking k more
