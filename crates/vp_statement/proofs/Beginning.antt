-- One turn of beginning a statement.
use Rattle.std.proofs.Common.{ℕ, suc, ◌≡◌, ◌+◌, ◌-◌, ◌<◌, List, Some, None, arith, ap, sym, ◌∙◌, get_or}
use Rattle.vp_expr.specs.declared.tables.Action.{Action}
use Rattle.vp_expr.specs.declared.tables.Action.TheVariants.{Nothing}
use Rattle.vp_statement.specs.Walking.{event_in, first_event, first_part}

event_turn : (actions : List Action) (n i place : ℕ) → i < n → first_event actions (n - i) place ≡ event_in (first_event actions (n - (i + 1))) place (first_part actions (get_or actions place Nothing))
event_turn actions n i place h = let e : n - i ≡ suc (n - (i + 1)) = omega arith in ap (λ m. first_event actions m place) e

-- the first event is that of the first part
pub event_goes : (actions : List Action) (n i place part : ℕ) (x : Action) → i < n → x ≡ get_or actions place Nothing → Some part ≡ first_part actions x → first_event actions (n - i) place ≡ first_event actions (n - (i + 1)) part
event_goes actions n i place part x h e is =
    event_turn actions n i place h ∙ ap (λ o. event_in (first_event actions (n - (i + 1))) place o) (ap (first_part actions) (sym e) ∙ sym is)

-- a statement without a first part is its first event
pub event_ends : (actions : List Action) (n i place : ℕ) (x : Action) → i < n → x ≡ get_or actions place Nothing → None ≡ first_part actions x → first_event actions (n - i) place ≡ place
event_ends actions n i place x h e is =
    event_turn actions n i place h ∙ ap (λ o. event_in (first_event actions (n - (i + 1))) place o) (ap (first_part actions) (sym e) ∙ sym is)
