use Rattle.std.proofs.Common.{subst}
use Rattle.vp_source.specs.Whole.{AreWhole}
use Rattle.vp_elab.specs.Built.{Elaborated}
use Rattle.vp_expr.proofs.Derivations.{has_term}
use Rattle.vp_expr.proofs.checked.Checked.derivations_are_expressions.Goals as goal

pub returns : goal.returns
returns c = λ m place e s.
    has_term c.args.self.now m place e (subst (λ (d : Elaborated). AreWhole d.source) c.self.view_is c.source_is_whole.ensures) s
