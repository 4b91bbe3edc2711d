use Rattle.std.proofs.Common.{◌≡◌, length, replicate, None}
use Rattle.std.specs.List.{flat_map, fold}
use Rattle.vp_elab.specs.Tree.{below}
use Rattle.vp_statement.specs.Noting.{noted}
use Rattle.vp_statement.specs.Walking.{action_at, parts_of}
use Rattle.vp_statement.proofs.flow.parts_by_place.Given as goal

-- the parts of the statements before this one are noted
abbrev pub invariant-loop-place : goal.invariant-loop-place
invariant-loop-place l =
    l.parts.items
    ≡ fold noted (replicate (length l.actions) None) (flat_map (λ place. parts_of l.source place (action_at l.actions place)) (below l.place))
