use Rattle.std.proofs.Common.{◌≡◌, drop}
use Rattle.std.specs.List.{fold}
use Rattle.vp_expr.specs.Awaits.{choices_at}
use Rattle.vp_expr.specs.Tables.{size_at, with_label}
use Rattle.vp_expr.proofs.actions.selector_for.Given as goal

-- the size so far, and after it the labels of the choices that are left
abbrev pub invariant-loop-choice : goal.invariant-loop-choice
invariant-loop-choice l =
    fold (with_label l.sizes) l.size (drop l.choice-index l.choice-items)
    ≡ fold (with_label l.sizes) (size_at l.sizes l.selector) (choices_at l.source l.fn.choices)
