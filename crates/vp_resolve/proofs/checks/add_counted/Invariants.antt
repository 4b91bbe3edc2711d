use Rattle.std.proofs.Common.{◌≡◌, drop}
use Rattle.std.specs.List.{fold}
use Rattle.vp_resolve.specs.Checks.{with_size, with_sizes}
use Rattle.vp_resolve.specs.Names.{scope_of}
use Rattle.vp_resolve.proofs.checks.add_counted.Given as goal

-- the sizes so far, and after them those of what is left of the module
abbrev pub invariant-loop-expression : goal.invariant-loop-expression
invariant-loop-expression l =
    fold (with_size l.design (scope_of l.design l.fn.module)) l.sizes.items (drop l.expression-index l.expression-items)
    ≡ with_sizes l.design l.fn.sizes.items l.fn.module
