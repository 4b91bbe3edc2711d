use Rattle.std.proofs.Common.{ap, inl, refl, subst, sym}
use Rattle.std.proofs.lemmas.Result.{IfErr-weaker, IfOk-weaker}
use Rattle.std.specs.Arc.{arc_value}
use Rattle.vp_elab.specs.Built.{Elaborated}
use Rattle.vp_audit.specs.Openings.{IsRight}
use Rattle.vp_design.proofs.Results.{told_as}
use Rattle.vp_script.specs.Audits.{EndsOpenedBy}
use Rattle.vp_script.specs.Scripts.{Script, opening_of}
use Rattle.vp_script.proofs.Auditing.{audit_of_own, ends_own, opens_lent}
use Rattle.vp_script.proofs.audits.script_audit.Goals as goal

pub script_session_for-requires : goal.script_session_for-requires
script_session_for-requires g c = c.requires.fits

pub returns-in_err-script_session-clause-refused : goal.returns-in_err-script_session-clause-refused
returns-in_err-script_session-clause-refused g c =
    let opening = opening_of (arc_value c.args.checked.now) c.args.policy.now in
    told_as _ (EndsOpenedBy c.args.seeds opening _ _) c.from_residual.result c.from_residual.ensures.1
    (λ f told. subst (EndsOpenedBy c.args.seeds opening _ _) (sym told) (inl ((c.in_err-script_session.ensures {u = tt}).refused, refl)))

pub run_and_audit-audited-requires-clause-right : goal.run_and_audit-audited-requires-clause-right
run_and_audit-audited-requires-clause-right g c =
    subst (λ (d : Elaborated). IsRight (opening_of d c.args.policy.now)) (sym c.deref.ensures) c.requires

pub run_and_audit-audited-requires-clause-fresh : goal.run_and_audit-audited-requires-clause-fresh
run_and_audit-audited-requires-clause-fresh g c =
    opens_lent c.args.seeds _ (arc_value c.args.checked.now) _ c.args.policy.now (c.in_ok-script_session.ensures {u = tt}).script (sym c.deref.ensures)

pub returns-clause-audit : goal.returns-clause-audit
returns-clause-audit g c =
    let asked = ap (λ (s : Script). s.running.seeds) (c.in_ok-script_session.ensures {u = tt}).script in
    IfOk-weaker c.run_and_audit-audited.result _ _
    (λ audited is. audit_of_own _ _ c.deref.ensures _ _ asked c.args.policy.now _ _ c.args.explain c.args.user.0 audited is)
    c.run_and_audit-audited.ensures.audit

pub returns-clause-refused : goal.returns-clause-refused
returns-clause-refused g c =
    let asked = ap (λ (s : Script). s.running.seeds) (c.in_ok-script_session.ensures {u = tt}).script in
    IfErr-weaker c.run_and_audit-audited.result _ _
    (λ f ends. ends_own _ _ c.deref.ensures _ _ asked c.args.policy.now _ _ f ends)
    c.run_and_audit-audited.ensures.refused
