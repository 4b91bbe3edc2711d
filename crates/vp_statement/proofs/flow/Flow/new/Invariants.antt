use Rattle.std.proofs.Common.{◌≡◌, length, map}
use Rattle.vp_elab.specs.Tree.{below}
use Rattle.vp_statement.specs.Walking.{next_after}
use Rattle.vp_statement.proofs.flow.Flow.new.Given as goal

-- what comes after the statements before this one
abbrev pub invariant-loop-place : goal.invariant-loop-place
invariant-loop-place l = l.afters.items ≡ map (next_after l.parts.items (length l.parts.items)) (below l.place)
