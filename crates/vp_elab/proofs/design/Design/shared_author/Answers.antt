use Rattle.std.proofs.Common.{◌≡◌, List, ℕ, ◌∙◌, ap}
use Rattle.std.proofs.lemmas.Result.{IfOk-weaker}
use Rattle.vp_elab.specs.Tree.{author_in}
use Rattle.vp_elab.specs.Built.{Elaborated}
use Rattle.vp_elab.proofs.Authors.{author_is}
use Rattle.vp_pragma.specs.Envelopes.{author_of}
use Rattle.vp_elab.proofs.design.Design.shared_author.Goals as goal

pub returns : goal.returns
returns c =
    let envelopes = c.self.inside.envelopes.envelopes in
    let same = author_is envelopes c.args.envelope ∙ ap (λ (d : Elaborated). author_in d.tree.authors c.args.envelope) c.self.view_is in
    IfOk-weaker c.shared_author.result (λ (a : List ℕ). a ≡ author_of envelopes c.args.envelope) (λ (a : List ℕ). a ≡ author_in c.args.self.now.tree.authors c.args.envelope)
    (λ a h. h ∙ same) c.shared_author.ensures
