use Rattle.std.proofs.Common.{◌+◌, ◌*◌}
use Rattle.vp_operand.proofs.reads.+reads.Given as goal

abbrev pub decreases-add_below : goal.decreases-add_below
decreases-add_below l = 3 * l.end

abbrev pub decreases-add_both : goal.decreases-add_both
decreases-add_both l = 3 * l.end + 1

abbrev pub decreases-add_of : goal.decreases-add_of
decreases-add_of l = 3 * l.place + 2
