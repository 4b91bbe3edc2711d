use Rattle.std.proofs.Common.{◌≡◌, ◌++◌, ◌∷◌, [], drop}
use Rattle.std.specs.List.{position_from}
use Rattle.vp_replay.specs.Objects.{names_to}
use Rattle.vp_replay.proofs.Numbers.{has_names}
use Rattle.vp_replay.proofs.names.find.Given as goal

-- the first of what is left is the first of all
abbrev pub invariant-loop-number : goal.invariant-loop-number
invariant-loop-number l =
    position_from (has_names l.view.nodes (names_to l.view.nodes l.scope ++ l.name ∷ [])) l.number (drop l.number l.view.nodes)
    ≡ position_from (has_names l.view.nodes (names_to l.view.nodes l.scope ++ l.name ∷ [])) 0 l.view.nodes
