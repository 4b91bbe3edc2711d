use Rattle.std.proofs.Common.{◌∙◌, [], sym}
use Rattle.std.proofs.lemmas.List.{append-nil}
use Rattle.std.proofs.lemmas.Result.{IfOk-weaker}
use Rattle.vp_script.proofs.failure.Sources.keyless.Goals as goal

pub returns : goal.returns
returns c = IfOk-weaker c.keyless_diagnostic.result _ _ (λ text is. record { note = []; is = is ∙ sym (append-nil _) }) c.keyless_diagnostic.ensures
