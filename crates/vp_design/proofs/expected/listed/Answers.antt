use Rattle.std.proofs.Common.{◌∙◌}
use Rattle.std.proofs.lemmas.Result.{IfOk-weaker}
use Rattle.vp_design.proofs.Notes.{listed_whole}
use Rattle.vp_design.proofs.expected.listed.Goals as goal

pub returns-then-words-le-TOLD_LIMIT : goal.returns-then-words-le-TOLD_LIMIT
returns-then-words-le-TOLD_LIMIT c =
    IfOk-weaker c.join.result _ _ (λ text is. is ∙ listed_whole c.args.words.now c.if-words-le-TOLD_LIMIT.true) c.join.ensures.ok
