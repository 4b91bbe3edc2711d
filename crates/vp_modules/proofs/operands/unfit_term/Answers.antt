use Rattle.std.proofs.Common.{Some, ap, ◌∙◌}
use Rattle.vp_source.specs.declared.statement.Edge.TheVariants as edge
use Rattle.vp_source.specs.declared.statement.EventTerm.{EventTerm}
use Rattle.vp_source.specs.Places.{earlier}
use Rattle.vp_modules.specs.Purposes.{fits}
use Rattle.vp_modules.specs.Refusals.{unfit}
use Rattle.vp_modules.proofs.Earliest.{earliest_step}
use Rattle.vp_modules.proofs.operands.unfit_term.Goals as goal

-- a term, for a place past the end
abbrev no_term : EventTerm
no_term = record { edge = edge.Any; name = 0 }

pub loop-term-preserved : goal.loop-term-preserved
loop-term-preserved c =
    earliest_step (λ (t : EventTerm). unfit c.args.source.now c.args.module (fits c.args.purpose) (Some t.name))
    c.terms_of-term-items.result.now c.loop-term.term-index no_term c.loop-term.first c.earlier-first.result _
    c.loop-term-test.true (c.earlier-first.ensures ∙ ap (earlier c.loop-term.first) c.unfit.ensures) c.loop-term.invariant
