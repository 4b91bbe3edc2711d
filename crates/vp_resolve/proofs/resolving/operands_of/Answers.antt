use Rattle.std.proofs.Common.{◌∙◌, ap}
use Rattle.vp_source.specs.declared.source.Source.{Source}
use Rattle.vp_resolve.proofs.Scopes.{scope_there}
use Rattle.vp_resolve.proofs.resolving.operands_of.Goals as goal

pub add_operands-requires : goal.add_operands-requires
add_operands-requires c =
    scope_there c.args.design.now c.as_slice-module-items.result.now c.loop-number.number _ _ (c.as_slice-module-items.ensures ∙ ap (λ (s : Source). s.modules) c.source.ensures)
    c.scope_of-scope.ensures c.loop-number-test.true
