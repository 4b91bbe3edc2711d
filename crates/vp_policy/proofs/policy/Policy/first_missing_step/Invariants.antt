use Rattle.std.proofs.Common.{◌≡◌}
use Rattle.vp_policy.specs.Filter.{denial_at}
use Rattle.vp_policy.specs.Users.{member_at}
use Rattle.vp_policy.proofs.Steps.{steps_left}
use Rattle.vp_policy.proofs.Walks.{denial_left, first_denial}
use Rattle.vp_policy.proofs.policy.Policy.first_missing_step.Given as goal

-- the denial by what is left of the path, else the one found so far
abbrev pub invariant-loop-step : goal.invariant-loop-step
invariant-loop-step l =
    first_denial (denial_left l.design.tree (member_at l.self.members l.user.0) l.right l.step) l.found
    ≡ denial_at l.design.tree (member_at l.self.members l.user.0) l.right l.fn.object.0

abbrev pub decreases-loop-step : goal.decreases-loop-step
decreases-loop-step l = steps_left l.step
