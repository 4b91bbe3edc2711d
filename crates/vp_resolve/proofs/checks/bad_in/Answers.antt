use Rattle.std.proofs.Common.{◌∙◌, ap}
use Rattle.vp_source.specs.declared.source.Source.{Source}
use Rattle.vp_modules.specs.Items.{expressions_in, statements_in}
use Rattle.vp_resolve.proofs.Scopes.{bad_there}
use Rattle.vp_resolve.proofs.checks.bad_in.Goals as goal

pub returns : goal.returns
returns c =
    let m = c.args.module in
    c.earlier.ensures
    ∙ bad_there c.args.design.now m _ c.statements_of.result.now c.expressions_of.result.now c.first_bad_target-target.result c.first_bad_operand-operand.result c.requires
    (c.statements_of.ensures ∙ ap (λ (s : Source). statements_in s m) c.source-source.ensures)
    (c.expressions_of.ensures ∙ ap (λ (s : Source). expressions_in s m) c.source-source.ensures)
    c.first_bad_target-target.ensures
    c.first_bad_operand-operand.ensures
