use Rattle.std.proofs.Common.{◌≡◌, ◌++◌, drop}
use Rattle.std.specs.List.{flat_map}
use Rattle.vp_expr.specs.Tables.{actions_in, actions_of}
use Rattle.vp_expr.proofs.actions.actions_of.Given as goal

-- the actions so far, and those of the modules that are left
abbrev pub invariant-loop-number : goal.invariant-loop-number
invariant-loop-number l =
    l.actions.items ++ flat_map (actions_in l.design l.sizes) (drop l.number l.design.source.modules) ≡ actions_of l.design l.sizes
