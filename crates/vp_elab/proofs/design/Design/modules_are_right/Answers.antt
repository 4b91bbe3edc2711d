use Rattle.std.proofs.Common.{◌≡◌, None, subst}
use Rattle.vp_modules.specs.ModuleRefusals as modules
use Rattle.vp_elab.specs.Built.{Elaborated}
use Rattle.vp_elab.proofs.design.Design.modules_are_right.Goals as goal

pub returns : goal.returns
returns c = subst (λ (d : Elaborated). modules.refusal_of d.source ≡ None) c.self.view_is c.self.invariant.right
