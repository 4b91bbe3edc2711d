use Rattle.std.proofs.Common.{◌≡◌}
use Rattle.vp_policy.specs.SeenObjects.{path_to}
use Rattle.vp_replay.specs.Objects.{most_steps, names_to}
use Rattle.vp_replay.specs.Seen.{is_named_seen}
use Rattle.vp_replay.proofs.names.is_same_scope.Given as goal

-- the names to the scopes that were reached decide
abbrev pub invariant-loop-first : goal.invariant-loop-first
invariant-loop-first l =
    is_named_seen (names_to l.view.nodes l.first) (path_to l.view.nodes l.second)
    ≡ is_named_seen (names_to l.view.nodes l.fn.first) (path_to l.view.nodes l.fn.second)

abbrev pub decreases-loop-first : goal.decreases-loop-first
decreases-loop-first l = most_steps l.first
