use Rattle.std.proofs.Common.{ℕ, Option, subst}
use Rattle.std.specs.Prelude.{IfOk}
use Rattle.vp_design.specs.Faults.{line_of}
use Rattle.vp_design.specs.Places.{IsTokenAt, IsTokenOn}
use Rattle.vp_design.proofs.place.token_at_fault.Goals as goal

pub returns-in-None : goal.returns-in-None
returns-in-None c =
    subst (λ (w : Option ℕ). IfOk c.token_on.result (IsTokenAt c.args.text.now c.args.tokens.now w (line_of c.args.fault.now))) c.in-None.ensures
    (subst (λ (n : ℕ). IfOk c.token_on.result (IsTokenOn c.args.text.now c.args.tokens.now n)) c.line.ensures c.token_on.ensures)
