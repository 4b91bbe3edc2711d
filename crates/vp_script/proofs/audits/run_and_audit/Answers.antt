use Rattle.std.proofs.Common.{◌∙◌, ap, subst, sym}
use Rattle.std.proofs.lemmas.Result.{IfErr-weaker, IfOk-weaker}
use Rattle.vp_audit.specs.Openings.{IsRight}
use Rattle.vp_world.specs.Worlds.{Opening}
use Rattle.vp_design.proofs.Results.{told_as}
use Rattle.vp_script.specs.Audits.{EndsRunBy}
use Rattle.vp_script.specs.Keeping.{script_of}
use Rattle.vp_script.specs.Scripts.{Script, opening_of}
use Rattle.vp_script.proofs.Auditing.{audit_after, lacks_after}
use Rattle.vp_script.proofs.audits.run_and_audit.Goals as goal

pub returns-in_err-out_of_memory-clause-refused : goal.returns-in_err-out_of_memory-clause-refused
returns-in_err-out_of_memory-clause-refused g c =
    let opening = opening_of c.args.checked.now c.args.policy.now in
    let seeds = c.args.script_session.now.running.seeds in
    told_as _ (EndsRunBy seeds opening _ _) c.from_residual.result c.from_residual.ensures.1
    (λ f told. subst (EndsRunBy seeds opening _ _) (sym told) ((c.in_err-out_of_memory.ensures {u = tt}).stopped opening seeds c.requires.fresh))

pub log_audited-requires-clause-right : goal.log_audited-requires-clause-right
log_audited-requires-clause-right g c =
    subst IsRight (sym ((c.in_ok-out_of_memory.ensures {u = tt}).opening ∙ ap (λ (s : Script). s.running.world.opening) c.requires.fresh)) c.requires.right

pub log_audited-requires-clause-design : goal.log_audited-requires-clause-design
log_audited-requires-clause-design g c =
    ap (λ (o : Opening). o.design) ((c.in_ok-out_of_memory.ensures {u = tt}).opening ∙ ap (λ (s : Script). s.running.world.opening) c.requires.fresh)

pub log_audited-requires-clause-policy : goal.log_audited-requires-clause-policy
log_audited-requires-clause-policy g c =
    ap (λ (o : Opening). o.policy) ((c.in_ok-out_of_memory.ensures {u = tt}).opening ∙ ap (λ (s : Script). s.running.world.opening) c.requires.fresh)

pub returns-clause-audit : goal.returns-clause-audit
returns-clause-audit g c =
    let opening = opening_of c.args.checked.now c.args.policy.now in
    let seeds = c.args.script_session.now.running.seeds in
    let runs = (c.in_ok-out_of_memory.ensures {u = tt}).ran opening seeds c.requires.fresh in
    let began = (c.in_ok-out_of_memory.ensures {u = tt}).opening ∙ ap (λ (s : Script). s.running.world.opening) c.requires.fresh in
    IfOk-weaker c.log_audited.result _ _
    (λ audited is. audit_after seeds opening _ _ _ (script_of c.run_to_end.new.script_session) runs began c.args.explain c.args.user.0 audited is)
    c.log_audited.ensures.audited

pub returns-clause-refused : goal.returns-clause-refused
returns-clause-refused g c =
    let opening = opening_of c.args.checked.now c.args.policy.now in
    let seeds = c.args.script_session.now.running.seeds in
    let runs = (c.in_ok-out_of_memory.ensures {u = tt}).ran opening seeds c.requires.fresh in
    IfErr-weaker c.log_audited.result _ _
    (λ fault is. lacks_after seeds opening _ _ _ (script_of c.run_to_end.new.script_session) runs fault is)
    c.log_audited.ensures.refused
