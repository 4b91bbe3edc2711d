use Rattle.std.proofs.Common.{◌∙◌, ℕ, List, ap}
use Rattle.std.proofs.lemmas.Result.{IfOk-weaker}
use Rattle.vp_design.specs.LeftOut.{left_out_note, reason_in}
use Rattle.vp_design.specs.Tables.{IsLeftOutNote, other_reason, reasons}
use Rattle.vp_design.proofs.unsupported.left_out_note.Goals as goal

pub returns : goal.returns
unfolding IsLeftOutNote
returns c =
    IfOk-weaker c.note.result _ _
    (λ note is. is ∙ ap (λ (r : List ℕ). left_out_note c.text-word.result.now r) c.reason_of.ensures
    ∙ ap (λ (w : List ℕ). left_out_note w (reason_in reasons other_reason w)) c.text-word.ensures)
    c.note.ensures
