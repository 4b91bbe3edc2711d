use Rattle.std.proofs.Common.{◌+◌, ◌*◌}
use Rattle.vp_expr.proofs.evaluation.+evaluation.Given as goal

abbrev pub decreases-value_below : goal.decreases-value_below
decreases-value_below l = 4 * l.end

abbrev pub decreases-own_value : goal.decreases-own_value
decreases-own_value l = 4 * l.end + 1

abbrev pub decreases-value_of : goal.decreases-value_of
decreases-value_of l = 4 * l.place + 3

abbrev pub decreases-value_of_pair : goal.decreases-value_of_pair
decreases-value_of_pair l = 4 * l.place + 2

abbrev pub decreases-value_of_choice : goal.decreases-value_of_choice
decreases-value_of_choice l = 4 * l.place + 2
