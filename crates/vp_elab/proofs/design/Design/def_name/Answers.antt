use Rattle.std.proofs.Common.{◌∙◌, refl}
use Rattle.vp_elab.proofs.Designed.{definition_found}
use Rattle.vp_elab.proofs.design.Design.def_name.Goals as goal

pub returns : goal.returns
returns c =
    let s = c.self.inside in
    c.module_name.ensures ∙ definition_found s.source s.envelopes s.tables s.scopes s.objects c.self.invariant c.args.self.now c.self.view_is c.as_slice.result.now s.tables.modules c.args.id.0 c.as_slice.ensures refl
