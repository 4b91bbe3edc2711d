use Rattle.std.proofs.Common.{subst}
use Rattle.vp_source.specs.Whole.{AreWhole}
use Rattle.vp_elab.specs.Built.{Elaborated}
use Rattle.vp_elab.proofs.design.Design.source_is_whole.Goals as goal

pub returns : goal.returns
returns c = subst (λ (d : Elaborated). AreWhole d.source) c.self.view_is c.self.invariant.whole
