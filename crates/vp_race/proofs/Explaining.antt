-- Why choices are refused, from the first that is no step's on.
use Rattle.std.proofs.Common.{◌≡◌, ℕ, List, Option, Some, None, refl, subst}
use Rattle.vp_race.specs.Segments.{choices_refusal}
use Rattle.vp_text.specs.Refusals.{MayExplain}
use Rattle.vp_race.specs.declared.error.RaceError.{RaceError}
use Rattle.vp_race.specs.declared.error.RaceError.TheVariants.{NotAnOrder, NotComplete, SameValue, SegmentGone, Booked, BookFull, NoMemory}
use Rattle.vp_race.specs.Orders.{followed}
use Rattle.vp_sim.specs.States.{State}

-- out of memory explains everything
pub memory_explains : (o : Option State) (e : RaceError) → e ≡ NoMemory → MayExplain NoMemory (choices_refusal o) e
memory_explains o e h other = absurd (other h)

-- where no refusal is due, none is reported
none_due : {A : Type 0} (e : RaceError) → None ≡ Some e → A
none_due e h = absurd (cc)

-- but out of memory
no_refusal : (e : RaceError) → MayExplain NoMemory None e → e ≡ NoMemory
no_refusal NoMemory h = refl
no_refusal NotAnOrder h = none_due NotAnOrder (h (λ is. cc))
no_refusal NotComplete h = none_due NotComplete (h (λ is. cc))
no_refusal SameValue h = none_due SameValue (h (λ is. cc))
no_refusal SegmentGone h = none_due SegmentGone (h (λ is. cc))
no_refusal Booked h = none_due Booked (h (λ is. cc))
no_refusal BookFull h = none_due BookFull (h (λ is. cc))

-- a refusal of the first choice is one of all
pub first_explains : (o : Option State) (choices : List ℕ) (e : RaceError) → MayExplain NoMemory (choices_refusal o) e → MayExplain NoMemory (choices_refusal (followed o choices)) e
first_explains None choices e h = h
first_explains (Some s) choices e h = λ other. none_due e (h other)

-- choices that lead to a state are refused out of memory alone
pub whole_explains : (o : Option State) (end : State) (e : RaceError) → o ≡ Some end → MayExplain NoMemory (choices_refusal o) e → e ≡ NoMemory
whole_explains o end e there h = no_refusal e (subst (λ (p : Option State). MayExplain NoMemory (choices_refusal p) e) there h)
