use Rattle.std.proofs.Common.{◌∙◌, sym}
use Rattle.vp_design.proofs.Steps.{text_absent, text_there}
use Rattle.vp_design.proofs.lines.text_in.Goals as goal

pub returns-in-Ok : goal.returns-in-Ok
returns-in-Ok c = c.in-Ok.ensures.cases.0 ∙ sym (text_there c.args.bytes.now c.in-Ok.ensures.cases.1)

pub returns-in-Err : goal.returns-in-Err
returns-in-Err c = sym (text_absent c.args.bytes.now c.in-Err.ensures.cases.0)
