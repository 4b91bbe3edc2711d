use Rattle.std.proofs.Common.{◌≡◌}
use Rattle.std.specs.Prelude.{find, option_map}
use Rattle.std.specs.Option.{option_or}
use Rattle.vp_policy.specs.SeenObjects.{own_step, path_to}
use Rattle.vp_replay.specs.Objects.{most_steps}
use Rattle.vp_replay.specs.Seen.{path_seen}
use Rattle.vp_replay.proofs.Missing.{is_missing}
use Rattle.vp_replay.proofs.path.first_missing_step.Given as goal

-- the first step among those to the scope, else the one found so far
abbrev pub invariant-loop-object : goal.invariant-loop-object
invariant-loop-object l =
    option_or (find (is_missing l.right) (path_to l.view.nodes l.scope)) (option_map (λ o. own_step o.now) l.found)
    ≡ find (is_missing l.right) (path_seen l.view l.number)

abbrev pub decreases-loop-object : goal.decreases-loop-object
decreases-loop-object l = most_steps l.scope
