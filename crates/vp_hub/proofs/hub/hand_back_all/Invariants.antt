use Rattle.std.proofs.Common.{◌≡◌, ◌++◌, length}
use Rattle.vp_hub.proofs.hub.hand_back_all.Given as goal

-- those that were handed back, and those that are to be
abbrev pub invariant-loop-pass : goal.invariant-loop-pass
invariant-loop-pass g l = l.desk.handed_back ++ l.passes.items ≡ l.initial.desk.handed_back ++ l.initial.passes.items

abbrev pub decreases-loop-pass : goal.decreases-loop-pass
decreases-loop-pass g l = length l.passes.items
