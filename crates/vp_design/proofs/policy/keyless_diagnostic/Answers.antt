use Rattle.std.proofs.Common.{◌∙◌, ℕ, List, ap}
use Rattle.std.proofs.lemmas.Result.{IfOk-weaker}
use Rattle.vp_policy.specs.Faults.{code_of}
use Rattle.vp_design.specs.Rendering.{head_without_line}
use Rattle.vp_design.proofs.policy.keyless_diagnostic.Goals as goal

pub returns : goal.returns
returns c =
    IfOk-weaker c.lineless.result _ _
    (λ text is.
    is ∙ ap (λ (code : ℕ). head_without_line c.args.name.now code c.policy_words.result.now) c.code.ensures
    ∙ ap (λ (words : List ℕ). head_without_line c.args.name.now (code_of c.args.fault.now) words) c.policy_words.ensures)
    c.lineless.ensures
