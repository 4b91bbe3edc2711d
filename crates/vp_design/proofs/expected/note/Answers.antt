use Rattle.std.proofs.Common.{◌∙◌, ◌++◌, ℕ, List, ap, sym}
use Rattle.std.specs.Prelude.{codes}
use Rattle.std.proofs.lemmas.Result.{IfOk-weaker}
use Rattle.vp_design.proofs.Notes.{note_long}
use Rattle.vp_design.proofs.expected.note.Goals as goal

pub returns : goal.returns
returns c =
    IfOk-weaker c.listed_note.result _ _
    (λ text is.
    is ∙ ap (λ (l : List ℕ). codes "found " ++ (c.args.found.now ++ (codes "; here would be read: " ++ (l ++ codes "\n")))) (c.as_str.ensures.value ∙ c.in_ok-list.ensures)
    ∙ note_long c.args.found.now c.args.words.now (sym c.is_empty.ensures ∙ c.if-is_empty.false))
    c.listed_note.ensures
