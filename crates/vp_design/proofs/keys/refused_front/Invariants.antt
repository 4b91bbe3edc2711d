use Rattle.std.proofs.Common.{◌-◌, ◌≤◌, length}
use Rattle.vp_design.proofs.keys.refused_front.Given as goal

abbrev pub invariant-loop-refused : goal.invariant-loop-refused
invariant-loop-refused l = (l.accepted ≤ l.refused) × (l.refused ≤ length l.users)

abbrev pub decreases-loop-refused : goal.decreases-loop-refused
decreases-loop-refused l = l.refused - l.accepted
