use Rattle.std.proofs.Common.{◌+◌, ◌*◌, ◌≤◌, length}
use Rattle.std.specs.Prelude.{vec_len}
use Rattle.vp_parse_expr.specs.Placing.{further_parts_into, more_into, expr_into}
use Rattle.vp_parse_expr.proofs.Loops.{PartsGoOn, OperatorsGoOn}
use Rattle.vp_parse_expr.proofs.parsing.+expression.Given as goal

abbrev pub decreases-expression_at : goal.decreases-expression_at
decreases-expression_at l = 10 * l.depth

abbrev pub decreases-chain : goal.decreases-chain
decreases-chain l = 10 * l.depth + 9

abbrev pub decreases-operand : goal.decreases-operand
decreases-operand l = 10 * l.depth + 8

abbrev pub decreases-braces : goal.decreases-braces
decreases-braces l = 10 * l.depth + 7

abbrev pub decreases-replication : goal.decreases-replication
decreases-replication l = 10 * l.depth + 6

abbrev pub decreases-concatenation : goal.decreases-concatenation
decreases-concatenation l = 10 * l.depth + 5

abbrev pub decreases-parts : goal.decreases-parts
decreases-parts l = 10 * l.depth + 4

abbrev pub decreases-further_parts : goal.decreases-further_parts
decreases-further_parts l = 10 * l.depth + 3

abbrev pub decreases-further_part : goal.decreases-further_part
decreases-further_part l = 10 * l.depth + 2

abbrev pub decreases-first_part : goal.decreases-first_part
decreases-first_part l = 10 * l.depth + 2

abbrev pub decreases-part : goal.decreases-part
decreases-part l = 10 * l.depth + 1

abbrev pub decreases-named : goal.decreases-named
decreases-named l = 10 * l.depth + 3

abbrev pub decreases-select : goal.decreases-select
decreases-select l = 10 * l.depth + 2

abbrev pub decreases-bit : goal.decreases-bit
decreases-bit l = 10 * l.depth + 1

abbrev pub decreases-group : goal.decreases-group
decreases-group l = 10 * l.depth + 1

abbrev pub decreases-unary : goal.decreases-unary
decreases-unary l = 10 * l.depth + 1

abbrev pub decreases-more : goal.decreases-more
decreases-more l = 10 * l.depth + 2

abbrev pub decreases-binary : goal.decreases-binary
decreases-binary l = 10 * l.depth + 1

abbrev pub decreases-conditional : goal.decreases-conditional
decreases-conditional l = 10 * l.depth + 1

abbrev pub invariant-further_parts-loop-expressions : goal.invariant-further_parts-loop-expressions
invariant-further_parts-loop-expressions l = record {
  lighter : vec_len l.expressions + length l.list.rest.now ≤ vec_len l.fn.expressions + length l.fn.first.rest.now;
  no_longer : length l.list.rest.now ≤ length l.fn.first.rest.now;
  within : l.list.depth ≤ l.depth;
  goes_on : PartsGoOn (expr_into l.depth) l.brace l.list.place l.list.depth l.expressions.items l.list.rest.now (further_parts_into (expr_into l.depth) (length l.fn.first.rest.now) l.brace l.fn.first.place l.fn.first.depth l.fn.expressions.items l.fn.first.rest.now);
}

abbrev pub decreases-further_parts-loop-expressions : goal.decreases-further_parts-loop-expressions
decreases-further_parts-loop-expressions l = length l.list.rest.now

abbrev pub invariant-more-loop-operator : goal.invariant-more-loop-operator
invariant-more-loop-operator l = record {
  lighter : vec_len l.expressions + length l.left.rest.now ≤ vec_len l.fn.expressions + length l.fn.first.rest.now;
  no_longer : length l.left.rest.now ≤ length l.fn.first.rest.now;
  within : l.left.depth ≤ l.depth + 1;
  goes_on : OperatorsGoOn (expr_into l.depth) l.depth l.least l.left.place l.left.depth l.expressions.items l.left.rest.now (more_into (expr_into l.depth) l.depth (length l.fn.first.rest.now) l.least l.fn.first.place l.fn.first.depth l.fn.expressions.items l.fn.first.rest.now);
}

abbrev pub decreases-more-loop-operator : goal.decreases-more-loop-operator
decreases-more-loop-operator l = length l.left.rest.now
