use Rattle.std.proofs.Common.{◌∙◌, ap}
use Rattle.vp_elab.specs.Tree.{author_in}
use Rattle.vp_elab.specs.Built.{Elaborated}
use Rattle.vp_elab.proofs.Authors.{author_is}
use Rattle.vp_elab.proofs.design.Design.author.Goals as goal

pub returns : goal.returns
returns c =
    c.author.ensures ∙ author_is c.self.inside.envelopes.envelopes c.args.envelope
    ∙ ap (λ (d : Elaborated). author_in d.tree.authors c.args.envelope) c.self.view_is
