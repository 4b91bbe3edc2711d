use Rattle.std.proofs.Common.{◌≡◌, map, take}
use Rattle.vp_expr.specs.Start.{start_of}
use Rattle.vp_expr.proofs.values.Values.new.Given as goal

-- the values of the objects so far
abbrev pub invariant-loop-number : goal.invariant-loop-number
invariant-loop-number l = l.values.items ≡ map (start_of l.checked) (take l.number l.checked.tree.nodes)
