use Rattle.std.proofs.Common.{Option, Some, subst, sym}
use Rattle.std.proofs.lemmas.Result.{IfOk-weaker}
use Rattle.vp_lex.specs.declared.error.LexError.{LexError}
use Rattle.vp_design.specs.Diagnostics.{IsFoundBy}
use Rattle.vp_design.proofs.Found.{found_elsewhere}
use Rattle.vp_design.proofs.design.found.Goals as goal

pub returns-in_ok-at_front-in-Some : goal.returns-in_ok-at_front-in-Some
returns-in_ok-at_front-in-Some c =
    subst (λ (e : Option LexError). IsFoundBy c.args.text.now e c.args.fault.now (Some c.in_ok-at_front-in-Some.field-0)) c.in-Some.ensures
    c.in_ok-at_front-in-Some.ensures

pub returns-in-None : goal.returns-in-None
returns-in-None c =
    IfOk-weaker c.located_in.result _ _
    (λ located is. found_elsewhere c.args.text.now c.args.fault.now located (sym c.in-None.ensures) is) c.located_in.ensures
