use Rattle.std.proofs.Common.{◌∙◌, inl, inr}
use Rattle.vp_design.proofs.one_token_lines.fault_line.Goals as goal
use Rattle.vp_design.proofs.one_token_lines.fault_line.Goals.{in-Ok, in-Err}

pub returns : goal.returns
returns c =
    elim c.match-read_design.branch [
      | in-Ok w ↦ inl (w.in-Ok.field-0, w.in-Ok.ensures.design, w.result-is)
      | in-Err w ↦ inr (w.in-Err.fault, w.in-Err.ensures.refused, w.result-is ∙ w.line.ensures)
    ]
