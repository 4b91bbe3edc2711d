-- An open segment in which the run takes a step.
use Rattle.std.proofs.Common.{◌≡◌, ◌∙◌, ◌≤◌, ◌+◌, ◌++◌, ℕ, zero, suc, Bool, true, false, List, [], ◌∷◌, Option, Some, None, length, replicate, ap, arith, refl, subst, sym}
use Rattle.std.specs.Prelude.{IsSome, nat_lt, option_map}
use Rattle.std.proofs.lemmas.Bool.{ltb-false}
use Rattle.std.proofs.lemmas.List.{append-nil, append_assoc, length-append, replicate_more}
use Rattle.vp_elab.specs.declared.object.ObjectId.{ObjectId}
use Rattle.vp_sim.specs.Change.{Change}
use Rattle.vp_sim.specs.States.{Goes, Outcome, State, eligible, source_of, step}
use Rattle.vp_race.specs.Orders.{HasEnd, followed, has_choice, is_over, reached}
use Rattle.vp_race.specs.Recording.{BeginsWith, Begun, Chosen, Forced, HasRoom, IsClosed, IsKept, LeadsTo, Opened, Stands, opened_by, order_from, with_choice, with_choice_in}
use Rattle.vp_race.proofs.Alone.{beyond_refuses, chose_nil, over_refuses}
use Rattle.vp_race.proofs.Forcing.{forced_chose, forced_follows, forced_more, zeros}
use Rattle.vp_race.proofs.Trying.{followed_more}

-- ---- a step that goes on

none_goes : (o : Option State) (next : State) → o ≡ None → o ≡ Some next → ⊥
none_goes o next none goes = cc

unfinished_by : (b : Bool) → (b ≡ true → ⊥) → b ≡ false
unfinished_by true h = absurd (h refl)
unfinished_by false h = refl

-- something is left to do where a step goes on
unfinished : (s next : State) (k : ℕ) → reached (step s k) ≡ Some next → is_over s ≡ false
unfinished s next k goes = unfinished_by (is_over s) (λ over. none_goes (reached (step s k)) next (over_refuses s k over) goes)

-- where there is one event, a step takes it
pub only_first : (s next : State) (k : ℕ) → nat_lt 1 (length (eligible s)) ≡ false → reached (step s k) ≡ Some next → k ≡ 0
only_first s next zero few goes = refl
only_first s next (suc k) few goes =
    let one : length (eligible s) ≤ 1 = ltb-false 1 (length (eligible s)) few in
    absurd (none_goes (reached (step s (suc k))) next (beyond_refuses s (suc k) (omega (arith, one))) goes)

-- ---- after it

more_in :
    (begun : Begun) (chosen : Option Chosen) (s next : State) (k : ℕ) (source : ObjectId)
    → LeadsTo s begun.start begun.sources chosen → (chosen ≡ None → is_over s ≡ false → nat_lt 1 (length (eligible s)) ≡ false)
    → reached (step s k) ≡ Some next → source ≡ source_of s k
    → LeadsTo next (with_choice_in begun chosen k source).start (with_choice_in begun chosen k source).sources (with_choice_in begun chosen k source).chosen
more_in begun None s next k source stands kept goes is =
    let few = kept refl (unfinished s next k goes) in
    let first = only_first s next k few goes in
    subst (λ (o : ObjectId). Forced (Some begun.start) (begun.sources ++ o ∷ []) next) (sym (is ∙ ap (source_of s) first))
    (forced_more (Some begun.start) begun.sources s next stands few (ap (λ x. reached (step s x)) (sym first) ∙ goes))
more_in begun (Some c) s next k source stands kept goes is = (
  record { forced = stands.0.forced; several = stands.0.several; unfinished = stands.0.unfinished },
  followed_more (Some c.state) c.order s k stands.1 ∙ goes,
)

-- after a step what the run chose leads to where it stands
pub stands_more :
    (begun : Option Begun) (s next : State) (k : ℕ) (source : ObjectId) (change : Option Change)
    → Stands begun s → IsKept begun s → step s k ≡ Goes next change → source ≡ source_of s k → Stands (option_map (λ b. with_choice b k source) begun) next
stands_more None s next k source change stands kept goes is = tt
stands_more (Some begun) s next k source change stands kept goes is =
    more_in begun begun.chosen s next k source stands kept (ap (λ (o : Outcome). reached o) goes) is

order_in :
    (begun : Begun) (chosen : Option Chosen) (s next : State) (k : ℕ) (source : ObjectId)
    → (chosen ≡ None → is_over s ≡ false → nat_lt 1 (length (eligible s)) ≡ false) → reached (step s k) ≡ Some next
    → order_from (length (with_choice_in begun chosen k source).sources) (with_choice_in begun chosen k source).chosen ≡ order_from (length begun.sources) chosen ++ k ∷ []
order_in begun None s next k source kept goes =
    let first = only_first s next k (kept refl (unfinished s next k goes)) goes in
    ap (λ n. replicate n 0) (length-append begun.sources (source ∷ []))
    ∙ sym (replicate_more (length begun.sources) 0)
    ∙ ap (λ x. replicate (length begun.sources) 0 ++ x ∷ []) (sym first)
order_in begun (Some c) s next k source kept goes = sym (append_assoc (replicate (length c.sources) 0) c.order (k ∷ []))

start_in : (begun : Begun) (chosen : Option Chosen) (k : ℕ) (source : ObjectId) → (with_choice_in begun chosen k source).start ≡ begun.start
start_in begun None k source = refl
start_in begun (Some c) k source = refl

-- and its choice is seen as one more
pub opened_more :
    (begun : Option Begun) (s next : State) (k : ℕ) (source : ObjectId) (change : Option Change)
    → HasRoom begun → IsKept begun s → step s k ≡ Goes next change
    → opened_by (option_map (λ b. with_choice b k source) begun) next ≡ record (opened_by begun s) { order = (opened_by begun s).order ++ k ∷ [] }
opened_more None s next k source change room kept goes = absurd room
opened_more (Some begun) s next k source change room kept goes =
    let more = with_choice_in begun begun.chosen k source in
    let order = order_in begun begun.chosen s next k source kept (ap (λ (o : Outcome). reached o) goes) in
    ap (λ (x : State). record { start = x; order = order_from (length more.sources) more.chosen }) (start_in begun begun.chosen k source)
    ∙ ap (λ (ks : List ℕ). record { start = begun.start; order = ks }) order

-- ---- at its end

-- forced steps lead to their end
pub zeros_lead : (o : Option State) (sources : List ObjectId) (t : State) → Forced o sources t → followed o (zeros sources) ≡ Some t
zeros_lead o sources t h = ap (followed o) (sym (append-nil (zeros sources))) ∙ forced_follows o sources t [] h

-- where nothing is left to do, a segment closes
pub closes : (s start : State) (sources : List ObjectId) (chosen : Option Chosen) → LeadsTo s start sources chosen → is_over s ≡ true → IsClosed start (length sources) chosen
closes s start sources None h over = (
  record { end = s; is_order = record { leads = zeros_lead (Some start) sources s h; over = over } },
  ap (has_choice start) (sym (append-nil (zeros sources))) ∙ forced_chose (Some start) sources s [] h ∙ chose_nil (Some s),
)
closes s start sources (Some c) h over = (h.0, record { end = s; is_order = record { leads = h.1; over = over } })

-- ---- where the run has its first choice

-- an open segment whose choices these are
abbrev pub begun_with : (sources : List ObjectId) → (room : ℕ) → Option Chosen → State → Begun
begun_with sources room chosen start = record { start = start; sources = sources; room = room; chosen = chosen }

-- it is begun as it was
pub some_begun : (start : Option State) (others sources : List ObjectId) (wide room : ℕ) (old new : Option Chosen) → IsSome (option_map (begun_with sources room old) start) → IsSome (option_map (begun_with others wide new) start)
some_begun None others sources wide room old new h = h
some_begun (Some x) others sources wide room old new h = refl

-- what it chose is seen as before
pub kept_seen :
    (start : Option State) (others sources : List ObjectId) (wide room : ℕ) (c : Chosen) (s : State) → c.sources ≡ sources → c.order ≡ []
    → opened_by (option_map (begun_with others wide (Some c)) start) s ≡ opened_by (option_map (begun_with sources room None) start) s
kept_seen None others sources wide room c s os none = refl
kept_seen (Some x) others sources wide room c s os none =
    ap (λ (ks : List ℕ). record { start = x; order = zeros c.sources ++ ks }) none
    ∙ ap (λ (ks : List ℕ). record { start = x; order = ks }) (append-nil (zeros c.sources) ∙ ap zeros os)

-- and leads to where it stands
pub kept_stands :
    (start : Option State) (others sources : List ObjectId) (wide room : ℕ) (c : Chosen) (s : State) → c.sources ≡ sources → c.order ≡ [] → c.state ≡ s
    → nat_lt 1 (length (eligible s)) ≡ true → is_over s ≡ false
    → Stands (option_map (begun_with sources room None) start) s → Stands (option_map (begun_with others wide (Some c)) start) s
kept_stands None others sources wide room c s os none at several left h = tt
kept_stands (Some x) others sources wide room c s os none at several left h =
    let moved : Forced (Some x) c.sources s = subst (λ (l : List ObjectId). Forced (Some x) l s) (sym os) h in (
      record {
        forced = subst (λ (t : State). Forced (Some x) c.sources t) (sym at) moved;
        several = ap (λ (t : State). nat_lt 1 (length (eligible t))) at ∙ several;
        unfinished = ap is_over at ∙ left;
      },
      ap (λ (ks : List ℕ). followed (Some c.state) ks) none ∙ ap (λ (t : State). Some t) at,
    )

-- the first choice is kept then
pub is_kept : (start : Option State) (others : List ObjectId) (wide : ℕ) (c : Chosen) (s : State) → IsSome (option_map (begun_with others wide (Some c)) start) → IsKept (option_map (begun_with others wide (Some c)) start) s
is_kept None others wide c s h = absurd (cc)
is_kept (Some x) others wide c s h = λ none. absurd (cc)
