use Rattle.std.proofs.Common.{◌≤◌, ◌-◌}
use Rattle.vp_hub.proofs.hub.Hub.run_sim.Given as goal

-- no more than were asked for
abbrev pub invariant-loop-events : goal.invariant-loop-events
invariant-loop-events g l = l.events ≤ l.most

abbrev pub decreases-loop-events : goal.decreases-loop-events
decreases-loop-events g l = l.most - l.events
