use Rattle.std.proofs.Common.{◌≡◌, ◌++◌, map}
use Rattle.std.specs.Prelude.{reverse}
use Rattle.vp_replay.specs.Objects.{most_steps, names_to}
use Rattle.vp_replay.specs.Seen.{names_seen}
use Rattle.vp_replay.proofs.path.names_upward.Given as goal

-- the names so far, and after them those that are left
abbrev pub invariant-loop-object : goal.invariant-loop-object
invariant-loop-object l =
    map (λ name. name.now) l.names.items ++ reverse (names_to l.view.nodes l.scope) ≡ reverse (names_seen l.view l.number)

abbrev pub decreases-loop-object : goal.decreases-loop-object
decreases-loop-object l = most_steps l.scope
