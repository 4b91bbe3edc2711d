-- A closed segment, and what is kept from its first choice on.
use Rattle.std.proofs.Common.{◌≡◌, ◌∙◌, ◌||◌, ◌++◌, ℕ, Bool, true, false, if◌then◌else◌, List, [], ◌∷◌, Option, Some, None, length, replicate, refl, sym, ap}
use Rattle.std.specs.Prelude.{nat_lt, is_some, option_map}
use Rattle.std.proofs.lemmas.List.{append-nil}
use Rattle.vp_elab.specs.declared.object.ObjectId.{ObjectId}
use Rattle.vp_sim.specs.States.{State, eligible, source_of, step}
use Rattle.vp_race.specs.Orders.{FirstChoice, HasEnd, chose_from, first_choice, first_choice_from, followed, has_choice, is_over, with_source, reached, sources_of}
use Rattle.vp_race.specs.Recording.{BeginsWith, Chosen, IsClosed, IsFirstOf, order_from}
use Rattle.vp_race.specs.Search.{IsRunOf}
use Rattle.vp_race.specs.Segments.{Run}
use Rattle.vp_race.proofs.Alone.{left_false, some_same}
use Rattle.vp_race.proofs.Forcing.{after_sources, forced_chose, forced_first, forced_follows, forced_sources, zeros}

-- an order from the first choice on is one from the start on
pub end_from : (start : State) (c : Chosen) → BeginsWith start c → HasEnd c.state c.order → HasEnd start (zeros c.sources ++ c.order)
end_from start c b e = record {
  end = e.end;
  is_order = record { leads = forced_follows (Some start) c.sources c.state c.order b.forced ∙ e.is_order.leads; over = e.is_order.over };
}

-- a closed segment has an order
pub closed_end : (start : State) (forced : ℕ) (chosen : Option Chosen) → IsClosed start forced chosen → HasEnd start (order_from forced chosen)
closed_end start forced None h = h.0
closed_end start forced (Some c) h = end_from start c h.0 h.1

-- ---- its first choice

-- choices of which there is one at least
record Stepped (ks : List ℕ) : Type 0 where
  first : ℕ
  rest : List ℕ
  is : ks ≡ first ∷ rest

over_now : (s e : State) → Some s ≡ Some e → is_over e ≡ true → is_over s ≡ true
over_now s e same over = ap is_over (some_same s e same) ∙ over

not_both : (b : Bool) → b ≡ true → b ≡ false → ⊥
not_both b h k = cc

stepped : (s : State) (ks : List ℕ) (e : State) → is_over s ≡ false → followed (Some s) ks ≡ Some e → is_over e ≡ true → Stepped ks
stepped s [] e going leads over = absurd (not_both (is_over s) (over_now s e leads over) going)
stepped s (k ∷ ks) e going leads over = record { first = k; rest = ks; is = refl }

chose_at : (s : State) (k : ℕ) (ks : List ℕ) → nat_lt 1 (length (eligible s)) ≡ true → chose_from (Some s) (k ∷ ks) ≡ true
chose_at s k ks several = ap (λ (b : Bool). b || chose_from (reached (step s k)) ks) several

first_at : (s : State) (k : ℕ) (ks : List ℕ) → nat_lt 1 (length (eligible s)) ≡ true → first_choice_from (Some s) (k ∷ ks) ≡ Some (record { sources = []; state = s })
first_at s k ks several =
    ap (λ (b : Bool). if b then Some (record { sources = []; state = s }) else option_map (with_source (source_of s k)) (first_choice_from (reached (step s k)) ks)) several

-- where there was never a choice there is no first one
pub none_first : (o : Option State) (ks : List ℕ) → chose_from o ks ≡ false → first_choice_from o ks ≡ None
none_first None ks h = refl
none_first (Some s) [] h = refl
none_first (Some s) (k ∷ ks) h =
    let both = left_false (nat_lt 1 (length (eligible s))) (chose_from (reached (step s k)) ks) h in
    ap (λ (b : Bool). if b then Some (record { sources = []; state = s }) else option_map (with_source (source_of s k)) (first_choice_from (reached (step s k)) ks)) both.0
    ∙ ap (option_map (with_source (source_of s k))) (none_first (reached (step s k)) ks both.1)

-- a run had a choice where one is kept
pub closed_choice : (start : State) (forced : ℕ) (chosen : Option Chosen) → IsClosed start forced chosen → is_some chosen ≡ has_choice start (order_from forced chosen)
closed_choice start forced None h = sym h.1
closed_choice start forced (Some c) h =
    let step = stepped c.state c.order h.1.end h.0.unfinished h.1.is_order.leads h.1.is_order.over in
    sym (forced_chose (Some start) c.sources c.state c.order h.0.forced ∙ ap (chose_from (Some c.state)) step.is ∙ chose_at c.state step.first step.rest h.0.several)

-- the first choice that is kept
abbrev pub first_of : Chosen → FirstChoice
first_of c = record { sources = c.sources; state = c.state }

-- and that is its first
pub closed_first : (start : State) (forced : ℕ) (chosen : Option Chosen) → IsClosed start forced chosen → first_choice start (order_from forced chosen) ≡ option_map first_of chosen
closed_first start forced None h = none_first (Some start) (replicate forced 0) h.1
closed_first start forced (Some c) h =
    let step = stepped c.state c.order h.1.end h.0.unfinished h.1.is_order.leads h.1.is_order.over in
    forced_first (Some start) c.sources c.state c.order h.0.forced
    ∙ ap (λ (ks : List ℕ). after_sources c.sources (first_choice_from (Some c.state) ks)) step.is
    ∙ ap (after_sources c.sources) (first_at c.state step.first step.rest h.0.several)
    ∙ ap (λ (os : List ObjectId). Some (record { sources = os; state = c.state })) (append-nil c.sources)

-- what is kept of it
pub closed_first_of : (number : ℕ) (start : State) (forced : ℕ) (c : Chosen) → IsClosed start forced (Some c) → IsFirstOf (record { number = number; start = start; order = order_from forced (Some c) }) c
closed_first_of number start forced c h = record { begins = h.0; order = refl; has_end = h.1 }

-- ---- the run's order by it

-- the run's choices and their sources, from the first choice on
pub run_of_first :
    (run : Run) (c : Chosen) (choices : List ℕ) (sources : List ObjectId) (end : State) → IsFirstOf run c → choices ≡ zeros c.sources ++ c.order
    → sources ≡ c.sources ++ sources_of c.state c.order → followed (Some c.state) c.order ≡ Some end → IsRunOf run choices sources end
run_of_first run c choices sources end first choices_are sources_are leads = record {
  choices_are = choices_are ∙ sym first.order;
  sources_are =
      sources_are
      ∙ sym (ap (sources_of run.start) first.order ∙ forced_sources (Some run.start) c.sources c.state c.order first.begins.forced);
  leads = ap (λ (ks : List ℕ). followed (Some run.start) ks) first.order ∙ forced_follows (Some run.start) c.sources c.state c.order first.begins.forced ∙ leads;
}

-- ---- other choices by it

-- choices that begin with the forced steps lead where the rest of them leads from the first choice
pub after_first : (start : State) (c : Chosen) (choices rest : List ℕ) (sources : List ObjectId) → BeginsWith start c → sources ≡ c.sources → choices ≡ zeros sources ++ rest → followed (Some start) choices ≡ followed (Some c.state) rest
after_first start c choices rest sources b same whole =
    ap (followed (Some start)) (whole ∙ ap (λ (os : List ObjectId). zeros os ++ rest) same) ∙ forced_follows (Some start) c.sources c.state rest b.forced

-- and their sources are those of the forced steps, and then those of the rest
pub sources_first : (start : State) (c : Chosen) (choices rest : List ℕ) (sources : List ObjectId) → BeginsWith start c → sources ≡ c.sources → choices ≡ zeros sources ++ rest → sources_of start choices ≡ c.sources ++ sources_of c.state rest
sources_first start c choices rest sources b same whole =
    ap (sources_of start) (whole ∙ ap (λ (os : List ObjectId). zeros os ++ rest) same) ∙ forced_sources (Some start) c.sources c.state rest b.forced
