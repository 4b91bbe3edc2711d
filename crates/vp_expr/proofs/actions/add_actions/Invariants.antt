use Rattle.std.proofs.Common.{◌≡◌, ◌++◌, drop, map}
use Rattle.vp_expr.specs.Tables.{action_of, actions_in}
use Rattle.vp_resolve.specs.Names.{scope_of}
use Rattle.vp_expr.proofs.actions.add_actions.Given as goal

-- the actions so far, and those of what is left of the module
abbrev pub invariant-loop-statement : goal.invariant-loop-statement
invariant-loop-statement l =
    l.actions.items ++ map (action_of l.design (scope_of l.design l.fn.module) l.sizes) (drop l.statement-index l.statement-items)
    ≡ l.fn.actions.items ++ actions_in l.design l.sizes l.fn.module
