use Rattle.vp_operand.proofs.Arenas.{found_term}
use Rattle.vp_operand.proofs.operand.operand_before.Goals as goal

pub returns-clause-term : goal.returns-clause-term
returns-clause-term c = found_term c.args.operands.now c.args.end c.args.place c.operand_at.result c.if-place-end.false c.operand_at.ensures
