use Rattle.std.proofs.Common.{◌≡◌, ◌++◌, drop}
use Rattle.std.specs.Prelude.{option_map}
use Rattle.std.specs.List.{filter_map}
use Rattle.vp_expr.specs.Awaits.{term_change}
use Rattle.vp_expr.proofs.awaited.add_terms.Given as goal

-- the changes so far, and those of the terms that are left
abbrev pub invariant-loop-term : goal.invariant-loop-term
invariant-loop-term l =
    let scope = option_map (λ o. o.0) l.scope in
    l.awaited.items ++ filter_map (term_change l.design scope) (drop l.term-index l.terms)
    ≡ l.fn.awaited.items ++ filter_map (term_change l.design scope) l.terms
