use Rattle.std.proofs.Common.{◌∙◌, rules}
use Rattle.vp_expr.specs.Tables.{awaited_of}
use Rattle.vp_expr.proofs.Cutting.{awaited_there}
use Rattle.vp_expr.proofs.checked.Checked.awaited.Goals as goal

pub returns-clause-cut : goal.returns-clause-cut
unfolding awaited_of
returns-clause-cut c = search rules

pub returns-clause-awaited : goal.returns-clause-awaited
returns-clause-awaited c = returns-clause-cut c ∙ awaited_there c.args.self.now c.args.place
