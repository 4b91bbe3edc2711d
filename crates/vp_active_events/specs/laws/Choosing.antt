-- The events that are eligible, one event after another.
use Rattle.std.proofs.Common.{◌≡◌, ◌∙◌, ℕ, zero, suc, ◌+◌, ◌||◌, ◌<◌, Bool, true, false, cond, not, List, [], ◌∷◌, ◌++◌, Option, Some, None, ap, sym, arith, length, length-append, map, min, refl}
use Rattle.std.specs.Prelude.{slice_get, option_and_then, option_map}
use Rattle.std.specs.List.{count_by, list_any}
use Rattle.std.proofs.lemmas.List.Folds.{list_any-append}
use Rattle.std.proofs.lemmas.List.Sums.{sum_by-cons}
use Rattle.std.proofs.lemmas.Option.{slice_get-map}
use Rattle.vp_active_events.specs.declared.event.Event.{Event}
use Rattle.vp_active_events.specs.declared.event.Event.TheVariants.{Evaluation, NetUpdate, Nonblocking}
use Rattle.vp_active_events.specs.declared.event.NonblockingUpdate.{NonblockingUpdate}
use Rattle.vp_active_events.specs.Events.{eligible_after, eligible_places, is_nonblocking}

-- ---- lists

-- an item after others
pub get_after : {X : Type 0} (xs ys : List X) (n i : ℕ) → n ≡ length xs + i → slice_get (xs ++ ys) n ≡ slice_get ys i
get_after [] ys n i h = ap (slice_get ys) (omega arith)
get_after (x ∷ xs) ys zero i h = absurd (omega arith)
get_after (x ∷ xs) ys (suc n) i h = get_after xs ys n i (omega arith)

-- ---- one update

none_at : {X : Type 0} (p : X → Bool) (x : X) (xs : List X) (b : Bool) → (count_by p xs ≡ 0 → list_any p xs ≡ false) → p x ≡ b → cond b 1 0 + count_by p xs ≡ 0 → list_any p (x ∷ xs) ≡ false
none_at p x xs true rest t h = absurd (omega arith)
none_at p x xs false rest t h = ap (λ b. b || list_any p xs) t ∙ rest (omega arith)

pub none : {X : Type 0} (p : X → Bool) (xs : List X) → count_by p xs ≡ 0 → list_any p xs ≡ false
none p [] h = refl
none p (x ∷ xs) h = none_at p x xs (p x) (none p xs) refl (sym (sum_by-cons (λ y. cond (p y) 1 0) x xs) ∙ h)

-- ---- evaluations, and updates of nonblocking assignments

-- after an update of a nonblocking assignment none is eligible
after_one : (older : List Event) (us : List NonblockingUpdate) → list_any is_nonblocking older ≡ true → eligible_after older (map Nonblocking us) ≡ []
after_one older [] h = refl
after_one older (u ∷ us) h =
    ap (λ b. cond (not b) (length older ∷ []) [] ++ eligible_after (older ++ Nonblocking u ∷ []) (map Nonblocking us)) h
    ∙ after_one (older ++ Nonblocking u ∷ []) us (list_any-append is_nonblocking older (Nonblocking u ∷ []) ∙ ap (λ b. b || true) h)

-- of updates of nonblocking assignments the oldest is eligible
pub oldest : (u : NonblockingUpdate) (us : List NonblockingUpdate) → eligible_places (map Nonblocking (u ∷ us)) ≡ 0 ∷ []
oldest u us = ap (λ (places : List ℕ). 0 ∷ places) (after_one (Nonblocking u ∷ []) us refl)

pub one_of_updates : (us : List NonblockingUpdate) → length (eligible_places (map Nonblocking us)) ≡ min (length us) 1
one_of_updates [] = refl
one_of_updates (u ∷ us) = ap length (oldest u us) ∙ omega arith

-- none but the oldest is
pub not_second : (us : List NonblockingUpdate) (k : ℕ) → 0 < k → option_and_then (slice_get (map Nonblocking us)) (slice_get (eligible_places (map Nonblocking us)) k) ≡ None
not_second us zero h = absurd (omega arith)
not_second [] (suc k) h = refl
not_second (u ∷ us) (suc k) h = ap (λ (places : List ℕ). option_and_then (slice_get (map Nonblocking (u ∷ us))) (slice_get places (suc k))) (oldest u us)

-- each evaluation is eligible
pub all_of_evaluations : (older : List Event) (ps : List ℕ) → length (eligible_after older (map Evaluation ps)) ≡ length ps
all_of_evaluations older [] = refl
all_of_evaluations older (p ∷ ps) = ap suc (all_of_evaluations (older ++ Evaluation p ∷ []) ps)

place_after : (older : List Event) (ps : List ℕ) (k n : ℕ) → length older + k ≡ n → slice_get (eligible_after older (map Evaluation ps)) k ≡ option_map (λ p. n) (slice_get ps k)
place_after older [] k n h = refl
place_after older (p ∷ ps) zero n h = ap Some (omega arith)
place_after older (p ∷ ps) (suc k) n h =
    let e = length-append older (Evaluation p ∷ []) in
    place_after (older ++ Evaluation p ∷ []) ps k n (omega (arith, e, h))

found_at : (ps : List ℕ) (k : ℕ) (found : Option ℕ) → slice_get ps k ≡ found → option_and_then (slice_get (map Evaluation ps)) (option_map (λ p. k) found) ≡ option_map Evaluation found
found_at ps k None h = refl
found_at ps k (Some p) h = slice_get-map Evaluation ps k ∙ ap (option_map Evaluation) h

-- the k-th of the evaluations
pub evaluation_at : (ps : List ℕ) (k : ℕ) → option_and_then (slice_get (map Evaluation ps)) (slice_get (eligible_places (map Evaluation ps)) k) ≡ option_map Evaluation (slice_get ps k)
evaluation_at ps k =
    ap (option_and_then (slice_get (map Evaluation ps))) (place_after [] ps k k (omega arith)) ∙ found_at ps k (slice_get ps k) refl

-- the oldest event is eligible
pub first_eligible : (events : List Event) → 0 < length events → slice_get (eligible_places events) 0 ≡ Some 0
first_eligible [] h = absurd (omega (arith, h))
first_eligible (Evaluation process ∷ es) h = refl
first_eligible (NetUpdate process value ∷ es) h = refl
first_eligible (Nonblocking update ∷ es) h = refl
