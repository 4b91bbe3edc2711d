-- The steps of a segment before its first choice, each the only one that there was.
use Rattle.std.proofs.Common.{◌≡◌, ◌∙◌, ◌≤◌, ◌<◌, ◌+◌, ◌-◌, ◌/◌, ◌%◌, ◌^◌, ◌==◌, ◌&&◌, ◌||◌, ◌++◌, ℕ, zero, suc, Bool, true, false, if◌then◌else◌, List, [], ◌∷◌, Option, Some, None, length, min, replicate, refl, sym, ap, subst, arith}
use Rattle.std.specs.Prelude.{nat_lt, option_map}
use Rattle.std.proofs.lemmas.Bool.{ltb-false}
use Rattle.std.proofs.lemmas.List.{append-nil, append_assoc}
use Rattle.vp_elab.specs.declared.object.ObjectId.{ObjectId}
use Rattle.vp_sim.specs.States.{State, eligible, source_of, step}
use Rattle.vp_race.specs.Orders.{FirstChoice, after_choices, chose_from, first_choice_from, followed, is_over, with_source, reached, sources_from}
use Rattle.vp_race.specs.Recording.{Forced}
use Rattle.vp_race.specs.Search.{choice, next_number, number_after, tried_after, tried_from}
use Rattle.vp_race.specs.Segments.{order_refusal}
use Rattle.vp_race.specs.declared.error.RaceError.TheVariants.{NotAnOrder, NotComplete}
use Rattle.vp_race.proofs.Alone.{beyond_refuses, first_small, left_false, over_refuses, some_same}
use Rattle.vp_race.proofs.Designs.{one_end}
use Rattle.vp_race.proofs.Trying.{tried_on}

-- as many choices as there were forced steps
abbrev pub zeros : (sources : List ObjectId) → List ℕ
zeros sources = replicate (length sources) 0

-- ---- what comes after forced steps

-- they lead where their last one does
pub forced_follows : (o : Option State) (sources : List ObjectId) (t : State) (ks : List ℕ) → Forced o sources t → followed o (zeros sources ++ ks) ≡ followed (Some t) ks
forced_follows None sources t ks h = absurd h
forced_follows (Some s) [] t ks h = ap (λ (x : State). followed (Some x) ks) h
forced_follows (Some s) (o ∷ os) t ks h = forced_follows (reached (step s 0)) os t ks h.2

-- their sources come first
pub forced_sources : (o : Option State) (sources : List ObjectId) (t : State) (ks : List ℕ) → Forced o sources t → sources_from o (zeros sources ++ ks) ≡ sources ++ sources_from (Some t) ks
forced_sources None sources t ks h = absurd h
forced_sources (Some s) [] t ks h = ap (λ (x : State). sources_from (Some x) ks) h
forced_sources (Some s) (o ∷ os) t ks h =
    ap (λ (x : ObjectId). x ∷ sources_from (reached (step s 0)) (zeros os ++ ks)) h.1
    ∙ ap (λ (xs : List ObjectId). o ∷ xs) (forced_sources (reached (step s 0)) os t ks h.2)

-- there is no choice among them
pub forced_chose : (o : Option State) (sources : List ObjectId) (t : State) (ks : List ℕ) → Forced o sources t → chose_from o (zeros sources ++ ks) ≡ chose_from (Some t) ks
forced_chose None sources t ks h = absurd h
forced_chose (Some s) [] t ks h = ap (λ (x : State). chose_from (Some x) ks) h
forced_chose (Some s) (o ∷ os) t ks h =
    ap (λ (b : Bool). b || chose_from (reached (step s 0)) (zeros os ++ ks)) h.0
    ∙ forced_chose (reached (step s 0)) os t ks h.2

-- a first choice after these sources
abbrev pub with_sources : (sources : List ObjectId) → FirstChoice → FirstChoice
with_sources sources first = record { sources = sources ++ first.sources; state = first.state }

-- the same, if there is one
abbrev pub after_sources : (sources : List ObjectId) → Option FirstChoice → Option FirstChoice
after_sources sources first = option_map (with_sources sources) first

after_none : (first : Option FirstChoice) → first ≡ after_sources [] first
after_none None = refl
after_none (Some c) = refl

one_before : (o : ObjectId) (os : List ObjectId) (first : Option FirstChoice) → option_map (with_source o) (after_sources os first) ≡ after_sources (o ∷ os) first
one_before o os None = refl
one_before o os (Some c) = refl

-- and the first one comes after them
pub forced_first : (o : Option State) (sources : List ObjectId) (t : State) (ks : List ℕ) → Forced o sources t → first_choice_from o (zeros sources ++ ks) ≡ after_sources sources (first_choice_from (Some t) ks)
forced_first None sources t ks h = absurd h
forced_first (Some s) [] t ks h = ap (λ (x : State). first_choice_from (Some x) ks) h ∙ after_none (first_choice_from (Some t) ks)
forced_first (Some s) (o ∷ os) t ks h =
    let rest = first_choice_from (reached (step s 0)) (zeros os ++ ks) in
    ap (λ (b : Bool). if b then Some (record { sources = []; state = s }) else option_map (with_source (source_of s 0)) rest) h.0
    ∙ ap (λ (x : ObjectId). option_map (with_source x) rest) h.1
    ∙ ap (option_map (with_source o)) (forced_first (reached (step s 0)) os t ks h.2)
    ∙ one_before o os (first_choice_from (Some t) ks)

-- one forced step more
pub forced_more : (o : Option State) (sources : List ObjectId) (t u : State) → Forced o sources t → nat_lt 1 (length (eligible t)) ≡ false → reached (step t 0) ≡ Some u → Forced o (sources ++ source_of t 0 ∷ []) u
forced_more None sources t u h few goes = absurd h
forced_more (Some s) [] t u h few goes =
    let next : Forced (reached (step t 0)) [] u = subst (λ (x : Option State). Forced x [] u) (sym goes) refl in
    let at_end : Forced (Some t) (source_of t 0 ∷ []) u = (few, refl, next) in
    subst (λ (x : State). Forced (Some x) (source_of t 0 ∷ []) u) (sym h) at_end
forced_more (Some s) (o ∷ os) t u h few goes = (h.0, h.1, forced_more (reached (step s 0)) os t u h.2 few goes)

-- ---- a state with a forced step

lost : (o : Option State) (sources : List ObjectId) (t : State) → o ≡ None → Forced o sources t → ⊥
lost None sources t none h = h
lost (Some s) sources t none h = cc

over_as : (b : Bool) → (b ≡ true → ⊥) → b ≡ false
over_as true h = absurd (h refl)
over_as false h = refl

-- something is left to do where a forced step comes
pub forced_unfinished : (s : State) (o : ObjectId) (os : List ObjectId) (t : State) → Forced (Some s) (o ∷ os) t → is_over s ≡ false
forced_unfinished s o os t h = over_as (is_over s) (λ over. lost (reached (step s 0)) os t (over_refuses s 0 over) h.2)

none_such : (n : ℕ) (s : State) (os : List ObjectId) (t : State) → n ≡ length (eligible s) → n ≤ 0 → Forced (reached (step s 0)) os t → ⊥
none_such n s os t is none h = lost (reached (step s 0)) os t (beyond_refuses s 0 (omega (arith, is, none))) h

one_event : (n : ℕ) → n ≤ 1 → (n ≤ 0 → ⊥) → n ≡ 1
one_event zero few some = absurd (some (omega arith))
one_event (suc zero) few some = refl
one_event (suc (suc n)) few some = absurd (omega (arith, few))

rest_of_one : (n : ℕ) → n % 1 ≡ 0
rest_of_one n = omega arith

first_by : (b : Bool) (number : ℕ) → (if b then min (1 - 1) (2 ^ 32 - 1) else (number / 2 ^ 33) % 1) ≡ 0
first_by true number = refl
first_by false number = rest_of_one (number / 2 ^ 33)

-- every seed takes it
pub forced_choice : (seed number : ℕ) (s : State) (o : ObjectId) (os : List ObjectId) (t : State) → Forced (Some s) (o ∷ os) t → 0 ≡ choice seed number (length (eligible s))
forced_choice seed number s o os t h =
    let few : length (eligible s) ≤ 1 = ltb-false 1 (length (eligible s)) h.0 in
    let one : length (eligible s) ≡ 1 = one_event (length (eligible s)) few (λ none. none_such (length (eligible s)) s os t refl none h.2) in
    sym (ap (choice seed number) one ∙ first_by (seed == 0) number)

-- ---- what is tried from before forced steps on

no_more : (rest : Option (List ℕ)) → rest ≡ tried_after [] rest
no_more None = refl
no_more (Some ks) = refl

one_more : (k : ℕ) (ks : List ℕ) (rest : Option (List ℕ)) → option_map (λ js. k ∷ js) (tried_after ks rest) ≡ tried_after (k ∷ ks) rest
one_more k ks None = refl
one_more k ks (Some js) = refl

-- each seed takes them, and tries from there on
pub forced_tried :
    (sources : List ObjectId) (limit seed number n : ℕ) (o : Option State) (t : State) → n ≡ length sources + limit → Forced o sources t
    → tried_from n seed number o ≡ tried_after (zeros sources) (tried_from limit seed (number_after (length sources) number) (Some t))
forced_tried sources limit seed number n None t is h = absurd h
forced_tried [] limit seed number n (Some s) t is h =
    let same : n ≡ limit = omega (arith, is) in
    ap (λ m. tried_from m seed number (Some s)) same
    ∙ ap (λ (x : State). tried_from limit seed number (Some x)) h ∙ no_more (tried_from limit seed number (Some t))
forced_tried (o ∷ os) limit seed number n (Some s) t is h =
    let rest = length os + limit in
    let more : n ≡ suc rest = omega (arith, is) in
    ap (λ m. tried_from m seed number (Some s)) more
    ∙ tried_on rest seed number s 0 (forced_unfinished s o os t h) (forced_choice seed (next_number number) s o os t h)
    ∙ ap (option_map (λ ks. 0 ∷ ks)) (forced_tried os limit seed (next_number number) rest (reached (step s 0)) t refl h.2)
    ∙ one_more 0 (zeros os) (tried_from limit seed (number_after (length os) (next_number number)) (Some t))

none_left : (b : Bool) (nothing : Option (List ℕ)) → b ≡ false → nothing ≡ None → (if b then Some [] else None) ≡ nothing
none_left true nothing h none = cc
none_left false nothing h none = sym none

-- where there are more of them than steps may be tried, nothing is
pub forced_beyond : (limit : ℕ) (sources : List ObjectId) (seed number : ℕ) (o : Option State) (t : State) → Forced o sources t → limit < length sources → tried_from limit seed number o ≡ None
forced_beyond limit sources seed number None t h less = absurd h
forced_beyond limit [] seed number (Some s) t h less = absurd (omega (arith, less))
forced_beyond zero (o ∷ os) seed number (Some s) t h less = none_left (is_over s) None (forced_unfinished s o os t h) refl
forced_beyond (suc limit) (o ∷ os) seed number (Some s) t h less =
    tried_on limit seed number s 0 (forced_unfinished s o os t h) (forced_choice seed (next_number number) s o os t h)
    ∙ ap (option_map (λ ks. 0 ∷ ks)) (forced_beyond limit os seed (next_number number) (reached (step s 0)) t h.2 (omega (arith, less)))

-- ---- other choices

none_follow : (ks : List ℕ) → followed None ks ≡ None
none_follow ks = refl

-- a state that forced steps reach on their way, and the rest of them
record Before (o : Option State) (count : ℕ) (sources : List ObjectId) (t : State) : Type 0 where
  state : State
  source : ObjectId
  rest : List ObjectId
  leads : followed o (replicate count 0) ≡ Some state
  forced : Forced (Some state) (source ∷ rest) t

before : (sources : List ObjectId) (o : Option State) (t : State) (i : ℕ) → Forced o sources t → i < length sources → Before o i sources t
before sources None t i h less = absurd h
before [] (Some s) t i h less = absurd (omega (arith, less))
before (o ∷ os) (Some s) t zero h less = record { state = s; source = o; rest = os; leads = refl; forced = h }
before (o ∷ os) (Some s) t (suc i) h less =
    let b = before os (reached (step s 0)) t i h.2 (omega (arith, less)) in
    record { state = b.state; source = b.source; rest = b.rest; leads = b.leads; forced = b.forced }

-- choices that do not begin with forced steps are no order
pub forced_else : (sources : List ObjectId) (o : Option State) (t : State) (i k : ℕ) (ks : List ℕ) → Forced o sources t → i < length sources → 0 < k → followed o (replicate i 0 ++ k ∷ ks) ≡ None
forced_else sources None t i k ks h less other = absurd h
forced_else [] (Some s) t i k ks h less other = absurd (omega (arith, less))
forced_else (o ∷ os) (Some s) t zero k ks h less other =
    let few : length (eligible s) ≤ 1 = ltb-false 1 (length (eligible s)) h.0 in
    ap (λ (x : Option State). followed x ks) (beyond_refuses s k (omega (arith, few, other)))
    ∙ none_follow ks
forced_else (o ∷ os) (Some s) t (suc i) k ks h less other = forced_else os (reached (step s 0)) t i k ks h.2 (omega (arith, less)) other

-- why choices are no order that leave the forced steps
pub refused_else :
    (start t : State) (sources : List ObjectId) (i k : ℕ) (ks : List ℕ) → Forced (Some start) sources t → i < length sources → 0 < k
    → order_refusal (after_choices start (replicate i 0 ++ k ∷ ks)) ≡ Some NotAnOrder
refused_else start t sources i k ks h less other = ap order_refusal (forced_else sources (Some start) t i k ks h less other)

-- and why those that end within them
pub refused_within : (start t : State) (sources : List ObjectId) (i : ℕ) → Forced (Some start) sources t → i < length sources → order_refusal (after_choices start (replicate i 0)) ≡ Some NotComplete
refused_within start t sources i h less =
    let b = before sources (Some start) t i h less in
    ap order_refusal b.leads
    ∙ ap (λ (x : Bool). if x then None else Some NotComplete) (forced_unfinished b.state b.source b.rest t b.forced)

-- ---- a time slot without a choice

none_leads : (o : Option State) (e : State) → o ≡ None → o ≡ Some e → ⊥
none_leads o e none leads = cc

one_more_forced : (s : State) (k : ℕ) (sources : List ObjectId) (e : State) → nat_lt 1 (length (eligible s)) ≡ false → k ≡ 0 → Forced (reached (step s k)) sources e → Forced (Some s) (source_of s k ∷ sources) e
one_more_forced s k sources e few first h = (few, ap (source_of s) (sym first), subst (λ x. Forced (reached (step s x)) sources e) first h)

-- each of its steps is forced
pub forced_of : (o : Option State) (ks : List ℕ) (e : State) → chose_from o ks ≡ false → followed o ks ≡ Some e → Forced o (sources_from o ks) e
forced_of None ks e none leads = absurd (none_leads (followed None ks) e (none_follow ks) leads)
forced_of (Some s) [] e none leads = some_same s e leads
forced_of (Some s) (k ∷ ks) e none leads =
    let both = left_false (nat_lt 1 (length (eligible s))) (chose_from (reached (step s k)) ks) none in
    one_more_forced s k (sources_from (reached (step s k)) ks) e both.0 (first_small s k ks e leads both.0) (forced_of (reached (step s k)) ks e both.1 leads)

-- there is a source for each choice
pub sources_counted : (o : Option State) (ks : List ℕ) (e : State) → followed o ks ≡ Some e → length (sources_from o ks) ≡ length ks
sources_counted None ks e leads = absurd (none_leads (followed None ks) e (none_follow ks) leads)
sources_counted (Some s) [] e leads = refl
sources_counted (Some s) (k ∷ ks) e leads = ap suc (sources_counted (reached (step s k)) ks e leads)
