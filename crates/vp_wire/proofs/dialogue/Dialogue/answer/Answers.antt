use Rattle.std.proofs.Common.{◌∙◌}
use Rattle.std.proofs.lemmas.Bool.{or_left, or_right}
use Rattle.vp_wire.proofs.Progressing.{line_answered}
use Rattle.vp_wire.proofs.dialogue.Dialogue.answer.Goals as goal

pub returns-in-Ok-clause-reply : goal.returns-in-Ok-clause-reply
returns-in-Ok-clause-reply g c = λ line begun.
    let told = c.in-Ok.ensures {u = tt} in
    line_answered _ _ _ c.write.result c.in-Ok.line.items _ (λ was. told.out_of_memory ∙ was) (λ none. cc) (told.reply line begun) c.deref.ensures.value c.write.ensures.ok c.write.ensures.failed

pub returns-in-Err-clause-reply : goal.returns-in-Err-clause-reply
returns-in-Err-clause-reply g c = λ line begun.
    let told = c.in-Err.ensures {u = tt} in
    let missing = c.is_no_memory_or-self.ensures in
    line_answered _ _ _ c.write-in-Err.result _ _ (λ was. missing ∙ or_left _ _ (told.out_of_memory ∙ was)) (λ none. missing ∙ or_right _ _ none) (told.reply line begun) c.line.ensures c.write-in-Err.ensures.ok c.write-in-Err.ensures.failed
