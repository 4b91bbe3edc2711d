use Rattle.std.proofs.Common.{◌∙◌, ap, sym, length}
use Rattle.std.proofs.lemmas.List.{length-map}
use Rattle.vp_pragma.specs.declared.envelope.Envelope.{Envelope}
use Rattle.vp_elab.specs.Built.{Elaborated}
use Rattle.vp_elab.proofs.design.Design.envelope_count.Goals as goal

pub returns : goal.returns
returns c =
    c.count.ensures ∙ sym (length-map c.self.inside.envelopes.envelopes (λ (e : Envelope). e.author))
    ∙ ap (λ (d : Elaborated). length d.tree.authors) c.self.view_is
