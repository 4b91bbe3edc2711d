use Rattle.std.proofs.Common.{length}
use Rattle.vp_cow_list.specs.Tracked.{Lags}
use Rattle.vp_cow_list.proofs.tracked.renew.Given as goal

-- one chunk less is to be taken
abbrev pub decreases-loop-number : goal.decreases-loop-number
decreases-loop-number g l = length l.changed.items

-- the copy is behind by those that are still to be taken
abbrev pub invariant-loop-number : goal.invariant-loop-number
invariant-loop-number g l = Lags l.copy l.items l.changed.items l.written.items
