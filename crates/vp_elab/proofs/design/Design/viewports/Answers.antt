use Rattle.std.proofs.Common.{◌∙◌, ap}
use Rattle.vp_elab.specs.Built.{Elaborated}
use Rattle.vp_elab.proofs.design.Design.viewports.Goals as goal

pub returns : goal.returns
returns c = c.viewports.ensures ∙ ap (λ (d : Elaborated). d.tree.viewports) c.self.view_is
