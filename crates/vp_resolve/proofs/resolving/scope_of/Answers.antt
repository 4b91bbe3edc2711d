use Rattle.std.proofs.Common.{◌∙◌}
use Rattle.vp_resolve.proofs.Scopes.{scope_by_name}
use Rattle.vp_resolve.proofs.resolving.scope_of.Goals as goal

pub returns : goal.returns
returns c =
    let d = c.args.design.now in
    c.first_instance.ensures ∙ scope_by_name d d.source.modules c.args.number
