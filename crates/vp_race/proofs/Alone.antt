-- A time slot in which there was never a choice has one order.
use Rattle.std.proofs.Common.{◌≡◌, ◌∙◌, ◌≤◌, ◌||◌, ◌++◌, ℕ, zero, suc, Bool, true, false, if◌then◌else◌, List, [], ◌∷◌, Option, Some, None, length, refl, sym, ap, arith}
use Rattle.std.specs.Prelude.{nat_lt, slice_get, option_and_then}
use Rattle.std.proofs.lemmas.Bool.{ltb-false}
use Rattle.std.proofs.lemmas.Option.{slice_get_past}
use Rattle.vp_sim.specs.Tables.{tables_of}
use Rattle.vp_sim.specs.States.{Outcome, Refuses, State, eligible, happened, step, with_activation}
use Rattle.vp_sim.specs.declared.error.SimError.TheVariants.{Finished, Idle, NoSuchChoice}
use Rattle.vp_strata.specs.Queues.{activated, is_done, peeked, ready}
use Rattle.vp_race.specs.Orders.{IsOrder, HasEnd, chose_from, followed, has_choice, is_over, reached}

nothing_done : (f d : Bool) (x : Outcome) → (f || d) ≡ true → reached (if f then Refuses Finished else if d then Refuses Idle else x) ≡ None
nothing_done true d x h = refl
nothing_done false true x h = refl
nothing_done false false x h = cc

-- where nothing is left to do there is no step
pub over_refuses : (s : State) (k : ℕ) → is_over s ≡ true → reached (step s k) ≡ None
over_refuses s k h = nothing_done s.finished (is_done s.queue) (happened (tables_of s.design) (with_activation s) k (peeked s.queue k)) h

no_such : (f d : Bool) → reached (if f then Refuses Finished else if d then Refuses Idle else Refuses NoSuchChoice) ≡ None
no_such true d = refl
no_such false true = refl
no_such false false = refl

-- there is no step after the last of the eligible events
pub beyond_refuses : (s : State) (k : ℕ) → length (eligible s) ≤ k → reached (step s k) ≡ None
beyond_refuses s k h =
    ap (λ o. reached (if s.finished then Refuses Finished else if is_done s.queue then Refuses Idle else happened (tables_of s.design) (with_activation s) k (option_and_then (slice_get (activated s.queue).active) o)))
    (slice_get_past (ready s.queue) k h)
    ∙ no_such s.finished (is_done s.queue)

followed_at : (o p : Option State) (choices : List ℕ) → o ≡ p → followed o choices ≡ followed p choices
followed_at o p choices h = ap (λ q. followed q choices) h

none_leads : (choices : List ℕ) (e : State) → followed None choices ≡ Some e → ⊥
none_leads choices e h = cc

-- a choice that leads on is one of the eligible events
pub first_small : (s : State) (k : ℕ) (ks : List ℕ) (e : State) → followed (Some s) (k ∷ ks) ≡ Some e → nat_lt 1 (length (eligible s)) ≡ false → k ≡ 0
first_small s zero ks e h one = refl
first_small s (suc k) ks e h one =
    let few : length (eligible s) ≤ 1 = ltb-false 1 (length (eligible s)) one in
    let none = beyond_refuses s (suc k) (omega (arith, few)) in
    absurd (none_leads ks e (followed_at None (reached (step s (suc k))) ks (sym none) ∙ h))

pub left_false : (a b : Bool) → (a || b) ≡ false → (a ≡ false) × (b ≡ false)
left_false true b h = cc
left_false false b h = (refl, h)

stopped : (s : State) (k : ℕ) (ks : List ℕ) (e : State) → is_over s ≡ true → followed (Some s) (k ∷ ks) ≡ Some e → ⊥
stopped s k ks e over h = none_leads ks e (followed_at None (reached (step s k)) ks (sym (over_refuses s k over)) ∙ h)

pub some_same : (s e : State) → Some s ≡ Some e → s ≡ e
some_same s e h = cc

over_as : (s e : State) → followed (Some s) [] ≡ Some e → is_over e ≡ true → is_over s ≡ true
over_as s e h over = ap is_over (some_same s e h) ∙ over

only_from : (o : Option State) (ks js : List ℕ) (e f : State) → chose_from o ks ≡ false → followed o ks ≡ Some e → is_over e ≡ true → followed o js ≡ Some f → is_over f ≡ true → js ≡ ks
only_from None ks js e f c h over i done = absurd (none_leads ks e h)
only_from (Some s) [] [] e f c h over i done = refl
only_from (Some s) [] (j ∷ js) e f c h over i done = absurd (stopped s j js f (over_as s e h over) i)
only_from (Some s) (k ∷ ks) [] e f c h over i done = absurd (stopped s k ks e (over_as s f i done) h)
only_from (Some s) (k ∷ ks) (j ∷ js) e f c h over i done =
    let both = left_false (nat_lt 1 (length (eligible s))) (chose_from (reached (step s k)) ks) c in
    let same = first_small s j js f i both.0 ∙ sym (first_small s k ks e h both.0) in
    let rest = only_from (reached (step s k)) ks js e f both.1 h over (ap (λ x. followed (reached (step s x)) js) (sym same) ∙ i) done in
    ap (λ x. x ∷ js) same ∙ ap (λ xs. k ∷ xs) rest

-- where there was never a choice, every order is the run's
pub only : (start : State) (order others : List ℕ) (end : State) → HasEnd start order → has_choice start order ≡ false → IsOrder start others end → others ≡ order
only start order others end whole c other =
    only_from (Some start) order others whole.end end c whole.is_order.leads whole.is_order.over other.leads other.over

-- ---- what was chosen, one step more

pub chose_nil : (o : Option State) → chose_from o [] ≡ false
chose_nil None = refl
chose_nil (Some s) = refl

or_assoc : (a b c : Bool) → (a || (b || c)) ≡ ((a || b) || c)
or_assoc true b c = refl
or_assoc false b c = refl

or_false : (a : Bool) → (a || false) ≡ a
or_false true = refl
or_false false = refl

-- one choice more
pub chose_more : (o : Option State) (choices : List ℕ) (s : State) (k : ℕ) → followed o choices ≡ Some s → chose_from o (choices ++ k ∷ []) ≡ (chose_from o choices || nat_lt 1 (length (eligible s)))
chose_more None choices s k h = absurd (none_leads choices s h)
chose_more (Some t) [] s k h =
    ap (λ b. nat_lt 1 (length (eligible t)) || b) (chose_nil (reached (step t k)))
    ∙ or_false (nat_lt 1 (length (eligible t)))
    ∙ ap (λ x. nat_lt 1 (length (eligible x))) (some_same t s h)
chose_more (Some t) (c ∷ choices) s k h =
    ap (λ b. nat_lt 1 (length (eligible t)) || b) (chose_more (reached (step t c)) choices s k h)
    ∙ or_assoc (nat_lt 1 (length (eligible t))) (chose_from (reached (step t c)) choices) (nat_lt 1 (length (eligible s)))
