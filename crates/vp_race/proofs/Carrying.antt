-- A race of a segment is one of each segment that is the same.
use Rattle.std.proofs.Common.{◌≡◌, ◌∙◌, ◌≤◌, ◌||◌, ◌++◌, ℕ, zero, suc, Bool, true, false, if◌then◌else◌, List, [], ◌∷◌, Option, Some, None, length, replicate, refl, sym, ap, subst, arith}
use Rattle.std.specs.Prelude.{nat_lt, option_map}
use Rattle.std.proofs.lemmas.Bool.{ltb-false}
use Rattle.std.proofs.lemmas.List.{append-nil}
use Rattle.vp_elab.specs.Built.{Elaborated}
use Rattle.vp_elab.specs.declared.object.ObjectId.{ObjectId}
use Rattle.vp_sim.specs.States.{State, eligible, source_of, step}
use Rattle.vp_race.specs.Orders.{FirstChoice, HasEnd, IsOrder, IsRace, chose_from, first_choice, first_choice_from, followed, has_choice, is_over, reached, value_of, with_source}
use Rattle.vp_race.specs.Recording.{Forced}
use Rattle.vp_race.specs.Same.{same_run}
use Rattle.vp_race.specs.Segments.{FindingState, IsRaceOf, Run}
use Rattle.vp_race.specs.laws.Sameness.{OneDesign, same_run_decides}
use Rattle.vp_race.proofs.Alone.{first_small, left_false, only, over_refuses}
use Rattle.vp_race.proofs.Apart.{signal_as}
use Rattle.vp_race.proofs.Designs.{after_design, one_end}
use Rattle.vp_race.proofs.Forcing.{forced_follows, forced_unfinished, zeros}
use Rattle.vp_race.proofs.Standing.{only_first, zeros_lead}

-- ---- an order from its first choice on

-- an order that has a first choice, after the forced steps before it
record Divided (o : Option State) (ks : List ℕ) (c : FirstChoice) : Type 0 where
  forced : Forced o c.sources c.state
  rest : List ℕ
  whole : ks ≡ zeros c.sources ++ rest

record Preceded (source : ObjectId) (first : Option FirstChoice) (c : FirstChoice) : Type 0 where
  later : FirstChoice
  is : first ≡ Some later
  same : c ≡ with_source source later

preceded : (source : ObjectId) (first : Option FirstChoice) (c : FirstChoice) → option_map (with_source source) first ≡ Some c → Preceded source first c
preceded source None c h = cc
preceded source (Some later) c h = record { later = later; is = refl; same = cc }

at_once : (s : State) (c : FirstChoice) (ks : List ℕ) → Some (record { sources = []; state = s }) ≡ Some c → Divided (Some s) ks c
at_once s c ks h =
    let same : record { sources = []; state = s } ≡ c = cc in
    subst (λ (x : FirstChoice). Divided (Some s) ks x) same (record { forced = refl; rest = ks; whole = refl })

record Reached (o : Option State) : Type 0 where
  state : State
  is : o ≡ Some state

goes : (o : Option State) (ks : List ℕ) (c : FirstChoice) → first_choice_from o ks ≡ Some c → Reached o
goes None ks c h = cc
goes (Some s) ks c h = record { state = s; is = refl }

one_later :
    (s : State) (k : ℕ) (ks : List ℕ) (c later : FirstChoice) → nat_lt 1 (length (eligible s)) ≡ false → k ≡ 0 → c ≡ with_source (source_of s k) later
    → Divided (reached (step s k)) ks later → Divided (Some s) (k ∷ ks) c
one_later s k ks c later few first same d =
    let after : Forced (reached (step s 0)) later.sources later.state = subst (λ x. Forced (reached (step s x)) later.sources later.state) first d.forced in
    let forced : Forced (Some s) (source_of s k ∷ later.sources) later.state = (few, ap (source_of s) (sym first), after) in
    let all : Divided (Some s) (k ∷ ks) (with_source (source_of s k) later) = record {
      forced = forced;
      rest = d.rest;
      whole = ap (λ x. x ∷ ks) first ∙ ap (λ xs. 0 ∷ xs) d.whole;
    } in
    subst (λ (x : FirstChoice). Divided (Some s) (k ∷ ks) x) (sym same) all

divided_by :
    (b : Bool) (s : State) (k : ℕ) (ks : List ℕ) (c : FirstChoice) → nat_lt 1 (length (eligible s)) ≡ b
    → ((later : FirstChoice) → first_choice_from (reached (step s k)) ks ≡ Some later → Divided (reached (step s k)) ks later)
    → (if b then Some (record { sources = []; state = s }) else option_map (with_source (source_of s k)) (first_choice_from (reached (step s k)) ks)) ≡ Some c
    → Divided (Some s) (k ∷ ks) c
divided_by true s k ks c is rest h = at_once s c (k ∷ ks) h
divided_by false s k ks c is rest h =
    let p = preceded (source_of s k) (first_choice_from (reached (step s k)) ks) c h in
    let r = goes (reached (step s k)) ks p.later p.is in
    one_later s k ks c p.later is (only_first s r.state k is r.is) p.same (rest p.later p.is)

-- an order with a first choice begins with forced steps
divided : (o : Option State) (ks : List ℕ) (c : FirstChoice) → first_choice_from o ks ≡ Some c → Divided o ks c
divided None ks c h = cc
divided (Some s) [] c h = cc
divided (Some s) (k ∷ ks) c h = divided_by (nat_lt 1 (length (eligible s))) s k ks c refl (λ later is. divided (reached (step s k)) ks later is) h

none_before : (source : ObjectId) (first : Option FirstChoice) → option_map (with_source source) first ≡ None → first ≡ None
none_before source None h = refl
none_before source (Some later) h = cc

never_by :
    (b : Bool) (s : State) (k : ℕ) (ks : List ℕ) → (first_choice_from (reached (step s k)) ks ≡ None → chose_from (reached (step s k)) ks ≡ false)
    → (if b then Some (record { sources = []; state = s }) else option_map (with_source (source_of s k)) (first_choice_from (reached (step s k)) ks)) ≡ None
    → (b || chose_from (reached (step s k)) ks) ≡ false
never_by true s k ks rest h = cc
never_by false s k ks rest h = rest (none_before (source_of s k) (first_choice_from (reached (step s k)) ks) h)

-- where an order has no first choice there was never a choice
never_chose : (o : Option State) (ks : List ℕ) → first_choice_from o ks ≡ None → chose_from o ks ≡ false
never_chose None ks h = refl
never_chose (Some s) [] h = refl
never_chose (Some s) (k ∷ ks) h = never_by (nat_lt 1 (length (eligible s))) s k ks (λ none. never_chose (reached (step s k)) ks none) h

-- ---- another order after forced steps

-- an order begins with the forced steps that there are
record Joined (ks : List ℕ) (sources : List ObjectId) (t e : State) : Type 0 where
  rest : List ℕ
  whole : ks ≡ zeros sources ++ rest
  leads : followed (Some t) rest ≡ Some e

over_at : (s e : State) → Some s ≡ Some e → is_over e ≡ true → is_over s ≡ true
over_at s e same over = let is : s ≡ e = cc in ap is_over is ∙ over

not_both : (b : Bool) → b ≡ true → b ≡ false → ⊥
not_both b h k = cc

joined_one : (k : ℕ) (ks : List ℕ) (o : ObjectId) (os : List ObjectId) (t e : State) → k ≡ 0 → Joined ks os t e → Joined (k ∷ ks) (o ∷ os) t e
joined_one k ks o os t e first j = record { rest = j.rest; whole = ap (λ x. x ∷ ks) first ∙ ap (λ xs. 0 ∷ xs) j.whole; leads = j.leads }

joined : (sources : List ObjectId) (o : Option State) (ks : List ℕ) (t e : State) → Forced o sources t → followed o ks ≡ Some e → is_over e ≡ true → Joined ks sources t e
joined sources None ks t e h leads over = absurd h
joined [] (Some s) ks t e h leads over = record { rest = ks; whole = refl; leads = ap (λ (x : State). followed (Some x) ks) (sym h) ∙ leads }
joined (o ∷ os) (Some s) [] t e h leads over = absurd (not_both (is_over s) (over_at s e leads over) (forced_unfinished s o os t h))
joined (o ∷ os) (Some s) (k ∷ ks) t e h leads over =
    let first = first_small s k ks e leads h.0 in
    joined_one k ks o os t e first (joined os (reached (step s 0)) ks t e h.2 (ap (λ x. followed (reached (step s x)) ks) (sym first) ∙ leads) over)

-- ---- a race carried over

-- an order of one segment, from the first choice that another has too
order_there :
    (from start : State) (sources : List ObjectId) (t : State) (ks : List ℕ) (e : State)
    → Forced (Some from) sources t → Forced (Some start) sources t → IsOrder from ks e → IsOrder start ks e
order_there from start sources t ks e there here order =
    let j = joined sources (Some from) ks t e there order.leads order.over in
    record {
      leads = ap (followed (Some start)) j.whole ∙ forced_follows (Some start) sources t j.rest here ∙ j.leads;
      over = order.over;
    }

-- with one order there is no race
not_alone : (f : FindingState) → IsRaceOf f → has_choice f.segment.start f.segment.order ≡ false → ⊥
not_alone f race none =
    let same = only f.segment.start f.segment.order f.second race.second_end (record { end = race.first_end; is_order = race.first_order }) none race.second_order in
    let one = one_end (followed (Some f.segment.start) f.segment.order) race.first_end race.second_end race.first_order.leads (ap (followed (Some f.segment.start)) (sym same) ∙ race.second_order.leads) in
    race.differ (ap (λ (s : State). value_of s f.object.0) one)

carried_by :
    (run : Run) (f : FindingState) (first : Option FirstChoice) → IsRaceOf f → run.start.design ≡ f.segment.start.design
    → run.order ≡ f.segment.order → first_choice run.start run.order ≡ first → first_choice f.segment.start f.segment.order ≡ first
    → IsRaceOf (record f { segment = run })
carried_by run f None race design order here there =
    absurd (not_alone f race (never_chose (Some f.segment.start) f.segment.order there))
carried_by run f (Some c) race design order here there =
    let from = f.segment.start in
    let d = divided (Some from) f.segment.order c there in
    let e = divided (Some run.start) run.order c here in
    let first : IsOrder run.start f.segment.order race.first_end = order_there from run.start c.sources c.state f.segment.order race.first_end d.forced e.forced race.first_order in
    record {
      first_end = race.first_end;
      second_end = race.second_end;
      first_order = subst (λ (ks : List ℕ). IsOrder run.start ks race.first_end) (sym order) first;
      second_order = order_there from run.start c.sources c.state f.second race.second_end d.forced e.forced race.second_order;
      signal = signal_as run.start from f.object.0 design ∙ race.signal;
      differ = race.differ;
    }

-- ---- of one design

-- the state of a first choice is of the design of the start
abbrev FirstOf : Elaborated → Option FirstChoice → Type 0
FirstOf d None = Unit {0}
FirstOf d (Some c) = c.state.design ≡ d

first_design : (s : State) (ks : List ℕ) (first : Option FirstChoice) → first_choice s ks ≡ first → FirstOf s.design first
first_design s ks None is = tt
first_design s ks (Some c) is =
    let d = divided (Some s) ks c is in
    after_design s (zeros c.sources) c.state (zeros_lead (Some s) c.sources c.state d.forced)

one_design : (first second : Option FirstChoice) (d e : Elaborated) → d ≡ e → FirstOf d first → FirstOf e second → OneDesign first second
one_design None None d e same h k = tt
one_design None (Some b) d e same h k = tt
one_design (Some a) None d e same h k = tt
one_design (Some a) (Some b) d e same h k = h ∙ same ∙ sym k

-- segments of one design have their first choices of one design
pub of_one_design : (a b : Run) → a.start.design ≡ b.start.design → OneDesign (first_choice a.start a.order) (first_choice b.start b.order)
of_one_design a b same =
    one_design (first_choice a.start a.order) (first_choice b.start b.order) a.start.design b.start.design same
    (first_design a.start a.order (first_choice a.start a.order) refl) (first_design b.start b.order (first_choice b.start b.order) refl)

-- a race of a segment is one of each that is the same
pub carried : (run : Run) (f : FindingState) → IsRaceOf f → run.start.design ≡ f.segment.start.design → same_run run f.segment ≡ true → IsRaceOf (record f { segment = run })
carried run f race design same =
    let is = (same_run_decides run f.segment (of_one_design run f.segment design)).0 same in
    carried_by run f (first_choice f.segment.start f.segment.order) race design is.0.1 is.1 refl
