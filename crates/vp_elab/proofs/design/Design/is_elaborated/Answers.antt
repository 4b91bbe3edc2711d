use Rattle.std.proofs.Common.{◌∙◌, sym, ap}
use Rattle.vp_elab.specs.Built.{Elaborated, design_of}
use Rattle.vp_elab.proofs.design.Design.is_elaborated.Goals as goal

pub returns : goal.returns
returns c =
    let s = c.self.inside in
    record {
      protection = s.envelopes;
      is = sym c.self.view_is ∙ ap (λ (d : Elaborated). design_of d.source s.envelopes) c.self.view_is;
    }
