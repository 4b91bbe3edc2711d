use Rattle.std.proofs.Common.{◌∙◌, List, subst}
use Rattle.std.specs.Prelude.{IfOk}
use Rattle.vp_lex.specs.declared.token.Token.{Token}
use Rattle.vp_design.specs.Places.{IsTokenAmong}
use Rattle.vp_design.proofs.place.token_on.Goals as goal

pub returns : goal.returns
returns c =
    subst (λ (on : List Token). IfOk c.token_among.result (IsTokenAmong c.args.text.now c.args.line on))
    (c.as_slice.ensures.value ∙ c.in_ok-on.ensures) c.token_among.ensures
