use Rattle.std.proofs.Common.{◌≡◌, ◌++◌, drop}
use Rattle.vp_policy.specs.Users.{member_at}
use Rattle.vp_world.specs.Races.{steps_seen}
use Rattle.vp_world.proofs.shown_races.steps_seen.Given as goal

-- the names so far, and those of the remaining steps
abbrev pub invariant-loop-object : goal.invariant-loop-object
invariant-loop-object l =
    steps_seen l.design.tree (member_at l.policy.members l.user.0) l.sources
    ≡ l.names.items ++ steps_seen l.design.tree (member_at l.policy.members l.user.0) (drop l.object-index l.sources)
