use Rattle.std.proofs.Common.{refl, subst}
use Rattle.vp_elab.specs.Built.{ItemsAreFound, design_of}
use Rattle.vp_elab.proofs.Designed.{item_found}
use Rattle.vp_elab.proofs.design.Design.items_are_found.Goals as goal

pub returns : goal.returns
returns c =
    let s = c.self.inside in
    let own = design_of s.source s.envelopes in
    subst ItemsAreFound c.self.view_is
    (λ number id m name i there is named. item_found s.source s.envelopes s.tables s.scopes s.objects c.self.invariant own refl number id m name i there is named)
