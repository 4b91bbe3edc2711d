-- What choices beside the run's are refused for, and where they are a race.
use Rattle.std.proofs.Common.{◌≡◌, ◌≢◌, ◌∙◌, ◌++◌, ◌∷◌, [], ℕ, ◌&&◌, Bool, true, false, not, if◌then◌else◌, List, Option, Some, None, inl, inr, refl, sym, ap, subst}
use Rattle.vp_bits.specs.declared.bit.Bit.{Bit}
use Rattle.std.specs.Option.{option_map_or}
use Rattle.vp_race.specs.Segments.{choices_refusal}
use Rattle.vp_text.specs.Refusals.{MayExplain}
use Rattle.vp_bits.specs.Vector.{same_bits}
use Rattle.vp_bits.specs.laws.Words.{same_bits-Decides}
use Rattle.vp_elab.specs.declared.object.ObjectId.{ObjectId}
use Rattle.vp_operand.specs.Values.{no_value}
use Rattle.vp_race.specs.declared.error.RaceError.{RaceError}
use Rattle.vp_race.specs.declared.error.RaceError.TheVariants.{NoMemory, NotAnOrder, NotComplete, SameValue}
use Rattle.vp_race.specs.Orders.{HasEnd, IsOrder, after_choices, differs, followed, is_over, is_signal, reached, value_of}
use Rattle.vp_race.specs.Segments.{AreApart, Beside, Run, apart, check_refusal, order_refusal, refusal_after, value_after}
use Rattle.vp_race.proofs.Alone.{over_refuses}
use Rattle.vp_race.proofs.Apart.{signal_as}
use Rattle.vp_race.proofs.Found.{same_differs}
use Rattle.vp_race.proofs.Designs.{after_design, one_end}
use Rattle.vp_sim.specs.States.{State, step}

-- the refusal after two orders that lead to states
refusal_at : (segment : Run) (choices : List ℕ) (object : ℕ) (first end : State) → after_choices segment.start segment.order ≡ Some first → after_choices segment.start choices ≡ Some end → check_refusal segment choices object ≡ refusal_after (Some first) (Some end) object
refusal_at segment choices object first end h k =
    ap (λ o. refusal_after o (after_choices segment.start choices) object) h ∙ ap (λ o. refusal_after (Some first) o object) k

-- something is left to do
pub not_complete : (segment : Run) (choices : List ℕ) (object : ℕ) (first end : State) → after_choices segment.start segment.order ≡ Some first → after_choices segment.start choices ≡ Some end → is_over end ≡ false → check_refusal segment choices object ≡ Some NotComplete
not_complete segment choices object first end h k left =
    refusal_at segment choices object first end h k
    ∙ ap (λ (b : Bool). if not b then Some NotComplete else if differs first end object then None else Some SameValue) left

-- whether the values differ decides, after an order
decided : (segment : Run) (choices : List ℕ) (object : ℕ) (first end : State) → after_choices segment.start segment.order ≡ Some first → after_choices segment.start choices ≡ Some end → is_over end ≡ true → check_refusal segment choices object ≡ (if differs first end object then None else Some SameValue)
decided segment choices object first end h k over =
    refusal_at segment choices object first end h k
    ∙ ap (λ (b : Bool). if not b then Some NotComplete else if differs first end object then None else Some SameValue) over

none_apart : {X : Type 0} (b : Bool) (x : X) → (if b then Some x else None) ≡ None → b ≡ false
none_apart true x h = cc
none_apart false x h = refl

some_apart : {X : Type 0} (b : Bool) (x y : X) → (if b then Some x else None) ≡ Some y → b ≡ true
some_apart true x y h = refl
some_apart false x y h = cc

-- the values are the same
pub same_value : (segment : Run) (choices : List ℕ) (object : ℕ) (first end : State) → after_choices segment.start segment.order ≡ Some first → after_choices segment.start choices ≡ Some end → is_over end ≡ true → apart first end object ≡ None → check_refusal segment choices object ≡ Some SameValue
same_value segment choices object first end h k over none =
    decided segment choices object first end h k over
    ∙ ap (λ (b : Bool). if b then None else Some SameValue) (none_apart (differs first end object) _ none)

-- the values differ
pub accepted : (segment : Run) (choices : List ℕ) (object : ℕ) (first end : State) (values : List Bit × List Bit) → after_choices segment.start segment.order ≡ Some first → after_choices segment.start choices ≡ Some end → is_over end ≡ true → apart first end object ≡ Some values → check_refusal segment choices object ≡ None
accepted segment choices object first end values h k over some =
    decided segment choices object first end h k over
    ∙ ap (λ (b : Bool). if b then None else Some SameValue) (some_apart (differs first end object) _ values some)

-- what was found is what a test allowed
pub allowed : {X : Type 0} (b : Bool) (o : Option X) (x y : X) → o ≡ Some x → o ≡ (if b then Some y else None) → x ≡ y
allowed true o x y h k = cc
allowed false o x y h k = cc

-- something was found where the values differ
pub found_accepted : {X : Type 0} (segment : Run) (choices : List ℕ) (object : ℕ) (first end : State) (o : Option X) (x y : X) → after_choices segment.start segment.order ≡ Some first → after_choices segment.start choices ≡ Some end → is_over end ≡ true → o ≡ Some x → o ≡ (if differs first end object then Some y else None) → check_refusal segment choices object ≡ None
found_accepted segment choices object first end o x y h k over some found =
    decided segment choices object first end h k over
    ∙ ap (λ (b : Bool). if b then None else Some SameValue) (some_apart (differs first end object) y x (sym found ∙ some))

-- an error that is the refusal explains it
pub explains_own : (o : Option RaceError) (e : RaceError) → o ≡ Some e → MayExplain NoMemory o e
explains_own o e h other = h

-- ---- a finding

both_of : (b c : Bool) → (b && not c) ≡ true → (b ≡ true) × (c ≡ false)
both_of true true h = cc
both_of true false h = (refl, refl)
both_of false c h = cc

given : {X : Type 0} (b : Bool) (x y : X) → (if b then Some x else None) ≡ Some y → x ≡ y
given true x y h = cc
given false x y h = cc

-- a net or reg that has these values after two orders
differ_by : (first end : State) (object : ℕ) (values : List Bit × List Bit) → apart first end object ≡ Some values → ((is_signal first object ≡ true) × (same_bits (value_of first object) (value_of end object) ≡ false)) × ((value_of first object, value_of end object) ≡ values)
differ_by first end object values h = (
  both_of (is_signal first object) (same_bits (value_of first object) (value_of end object)) (some_apart (differs first end object) _ values h),
  given (differs first end object) (value_of first object, value_of end object) values h,
)

unequal : (bits others : List Bit) → same_bits bits others ≡ false → bits ≢ others
unequal bits others h e = let k = (same_bits-Decides bits others).1 e in cc

as_order : (start : State) (choices : List ℕ) (end : State) → HasEnd start choices → after_choices start choices ≡ Some end → IsOrder start choices end
as_order start choices end has leads =
    subst (λ (s : State). IsOrder start choices s) (one_end (after_choices start choices) has.end end has.is_order.leads leads) has.is_order

value_at : (start : State) (choices : List ℕ) (end : State) (object : ℕ) → after_choices start choices ≡ Some end → value_of end object ≡ value_after start choices object
value_at start choices end object leads = sym (ap (λ (o : Option State). option_map_or (λ s. value_of s object) o no_value) leads)

-- two orders of a segment after which a net or reg has these values are a race of it
pub apart_race :
    (b : Beside) (object : ObjectId) (first end : State) (values : List Bit × List Bit)
    → HasEnd b.segment.start b.segment.order → HasEnd b.segment.start b.second
    → after_choices b.segment.start b.segment.order ≡ Some first → after_choices b.segment.start b.second ≡ Some end → apart first end object.0 ≡ Some values
    → AreApart b object values
apart_race b object first end values one other leads led h =
    let d = differ_by first end object.0 values h in
    record {
      race = record {
        first_end = first;
        second_end = end;
        first_order = as_order b.segment.start b.segment.order first one leads;
        second_order = as_order b.segment.start b.second end other led;
        signal = signal_as b.segment.start first object.0 (sym (after_design b.segment.start b.segment.order first leads)) ∙ d.0.0;
        differ = unequal (value_of first object.0) (value_of end object.0) d.0.1;
      };
      first_value = sym (ap (λ (v : List Bit × List Bit). v.0) d.1) ∙ value_at b.segment.start b.segment.order first object.0 leads;
      second_value = sym (ap (λ (v : List Bit × List Bit). v.1) d.1) ∙ value_at b.segment.start b.second end object.0 led;
    }

-- ---- errors

-- where no refusal is due, none is reported
none_due : {A : Type 0} (e : RaceError) → None ≡ Some e → A
none_due e h = absurd (cc)

-- out of memory explains everything
pub memory_refused : (o : Option RaceError) (e : RaceError) → e ≡ NoMemory → MayExplain NoMemory o e
memory_refused o e h other = absurd (other h)

-- choices that are not those of steps are no order
pub choices_refused : (o : Option State) (e : RaceError) → MayExplain NoMemory (choices_refusal o) e → MayExplain NoMemory (order_refusal o) e
choices_refused None e h = h
choices_refused (Some s) e h = λ other. none_due e (h other)

-- why choices are no order is why they are no race
order_refused_at : (over differ : Bool) (e : RaceError) → MayExplain NoMemory (if over then None else Some NotComplete) e → MayExplain NoMemory (if not over then Some NotComplete else if differ then None else Some SameValue) e
order_refused_at true differ e h = λ other. none_due e (h other)
order_refused_at false differ e h = h

order_refused_by : (first : State) (o : Option State) (object : ℕ) (e : RaceError) → MayExplain NoMemory (order_refusal o) e → MayExplain NoMemory (refusal_after (Some first) o object) e
order_refused_by first None object e h = h
order_refused_by first (Some end) object e h = order_refused_at (is_over end) (differs first end object) e h

pub order_refused : (segment : Run) (choices : List ℕ) (object : ℕ) (first : State) (e : RaceError) → after_choices segment.start segment.order ≡ Some first → MayExplain NoMemory (order_refusal (after_choices segment.start choices)) e → MayExplain NoMemory (check_refusal segment choices object) e
order_refused segment choices object first e leads h =
    subst (λ (o : Option State). MayExplain NoMemory (refusal_after o (after_choices segment.start choices) object) e) (sym leads)
    (order_refused_by first (after_choices segment.start choices) object e h)

-- ---- a time slot without a choice

by_over : (over differ : Bool) (e : RaceError) → (if over then None else Some NotComplete) ≡ Some e → (if not over then Some NotComplete else if differ then None else Some SameValue) ≡ Some e
by_over true differ e h = none_due e h
by_over false differ e h = h

by_order : (first : State) (o : Option State) (object : ℕ) (e : RaceError) → order_refusal o ≡ Some e → refusal_after (Some first) o object ≡ Some e
by_order first None object e h = h
by_order first (Some end) object e h = by_over (is_over end) (differs first end object) e h

-- choices that are no order are no race, for the same reason
pub as_no_order : (segment : Run) (choices : List ℕ) (object : ℕ) (e : RaceError) → HasEnd segment.start segment.order → order_refusal (after_choices segment.start choices) ≡ Some e → check_refusal segment choices object ≡ Some e
as_no_order segment choices object e whole h =
    ap (λ (o : Option State). refusal_after o (after_choices segment.start choices) object) whole.is_order.leads
    ∙ by_order whole.end (after_choices segment.start choices) object e h

-- the run's own order is no race
pub own_order : (segment : Run) (choices : List ℕ) (object : ℕ) → HasEnd segment.start segment.order → choices ≡ segment.order → check_refusal segment choices object ≡ Some SameValue
own_order segment choices object whole own =
    let leads = whole.is_order.leads in
    decided segment choices object whole.end whole.end leads (ap (after_choices segment.start) own ∙ leads) whole.is_order.over
    ∙ ap (λ (b : Bool). if b then None else Some SameValue) (same_differs whole.end object)

followed_on : (o : Option State) (ks js : List ℕ) → followed o (ks ++ js) ≡ followed (followed o ks) js
followed_on None ks js = refl
followed_on (Some s) [] js = refl
followed_on (Some s) (k ∷ ks) js = followed_on (reached (step s k)) ks js

past_end : (s : State) (k : ℕ) (ks : List ℕ) → is_over s ≡ true → followed (Some s) (k ∷ ks) ≡ None
past_end s k ks over = ap (λ (o : Option State). followed o ks) (over_refuses s k over)

-- and there is no step after it
pub after_own_order : (segment : Run) (choices : List ℕ) (k : ℕ) (ks : List ℕ) (object : ℕ) → HasEnd segment.start segment.order → choices ≡ segment.order ++ k ∷ ks → check_refusal segment choices object ≡ Some NotAnOrder
after_own_order segment choices k ks object whole more =
    let none : after_choices segment.start choices ≡ None =
    ap (after_choices segment.start) more ∙ followed_on (Some segment.start) segment.order (k ∷ ks)
    ∙ ap (λ (o : Option State). followed o (k ∷ ks)) whole.is_order.leads ∙ past_end whole.end k ks whole.is_order.over in
    as_no_order segment choices object NotAnOrder whole (ap order_refusal none)
