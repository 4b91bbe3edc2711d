use Rattle.std.proofs.Common.{◌≡◌, drop}
use Rattle.std.specs.List.{fold}
use Rattle.vp_resolve.specs.Checks.{counted_sizes, with_sizes}
use Rattle.vp_resolve.proofs.checks.counted_sizes.Given as goal

-- the sizes so far, and after them those of the modules that are left
abbrev pub invariant-loop-number : goal.invariant-loop-number
invariant-loop-number l =
    fold (with_sizes l.design) l.sizes.items (drop l.number l.design.source.modules) ≡ counted_sizes l.design
