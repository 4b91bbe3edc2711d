use Rattle.std.proofs.Common.{◌≡◌, drop}
use Rattle.vp_expr.specs.Tables.{tables_of}
use Rattle.vp_statement.specs.Effects.{default_of, first_of, is_taken}
use Rattle.vp_statement.proofs.effect.chosen.Given as goal

-- the first of all is that of those that are left
abbrev pub invariant-loop-choice : goal.invariant-loop-choice
invariant-loop-choice l =
    first_of (is_taken (tables_of l.checked) (drop l.instance.0 l.values) l.is_wild l.selected) (default_of l.choices) (drop l.choice-index l.choices)
    ≡ first_of (is_taken (tables_of l.checked) (drop l.instance.0 l.values) l.is_wild l.selected) (default_of l.choices) l.choices
