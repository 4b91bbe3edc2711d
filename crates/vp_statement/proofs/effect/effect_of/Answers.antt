use Rattle.std.proofs.Common.{subst}
use Rattle.vp_source.specs.Whole.{AreWhole}
use Rattle.vp_elab.specs.Built.{Elaborated}
use Rattle.vp_statement.proofs.Derivations.{derived}
use Rattle.vp_statement.proofs.Readings.{awaits_derived}
use Rattle.vp_statement.proofs.effect.effect_of.Goals as goal

pub returns-clause-derived : goal.returns-clause-derived
returns-clause-derived c = λ m s h.
    derived c.args.checked.now m c.args.place s (subst (λ (d : Elaborated). AreWhole d.source) c.design.ensures c.source_is_whole.ensures) h

pub returns-clause-awaits : goal.returns-clause-awaits
returns-clause-awaits c = λ m s h.
    awaits_derived c.args.checked.now m c.args.place s (subst (λ (d : Elaborated). AreWhole d.source) c.design.ensures c.source_is_whole.ensures) h
