use Rattle.std.proofs.Common.{rules, ◌≡◌, ◌∙◌, None, Some, refl}
use Rattle.std.proofs.lemmas.Result.{IfErr-weaker, IfOk-weaker}
use Rattle.std.specs.Arc.{arc_value}
use Rattle.vp_policy.specs.Users.{user_of}
use Rattle.vp_script.specs.declared.error.ServeFault.TheVariants as fault
use Rattle.vp_script.specs.Audits.{EndsAuditBy}
use Rattle.vp_script.proofs.Auditing.{audited, ended, no_such_user, read_of, right_of}
use Rattle.vp_design.proofs.Results.{told_as}
use Rattle.vp_script.proofs.audits.audit_script.Goals as goal

pub returns-in_err-user-clause-refused : goal.returns-in_err-user-clause-refused
returns-in_err-user-clause-refused g c =
    let policy = c.in_ok-policy.ensures {u = tt} in
    let read = read_of c.args.design.now c.args.policy.now (arc_value c.in_ok-checked.checked) c.design.result.now c.in_ok-policy.policy (c.in_ok-checked.ensures {u = tt}).design (c.design.ensures ∙ c.deref.ensures) policy.fits policy.file policy.design in
    let none : user_of c.in_ok-policy.policy.members c.args.user.now ≡ None = search rules in
    let missing : c.in_err-user.field-0.0 ≡ fault.NoSuchUser = search rules in
    told_as _ (EndsAuditBy c.args.seeds c.args.design.now c.args.policy.now c.args.user.now _ _) c.from_residual-in_err-user.result c.from_residual-in_err-user.ensures.1
    (λ f told. no_such_user _ _ _ _ read c.args.seeds c.args.user.now _ _ f (told ∙ missing) none refl)

pub script_audit-requires : goal.script_audit-requires
script_audit-requires g c =
    let policy = c.in_ok-policy.ensures {u = tt} in
    let read = read_of c.args.design.now c.args.policy.now (arc_value c.in_ok-checked.checked) c.design.result.now c.in_ok-policy.policy (c.in_ok-checked.ensures {u = tt}).design (c.design.ensures ∙ c.deref.ensures) policy.fits policy.file policy.design in
    right_of _ _ _ _ read

pub returns-clause-audit : goal.returns-clause-audit
returns-clause-audit g c =
    let policy = c.in_ok-policy.ensures {u = tt} in
    let read = read_of c.args.design.now c.args.policy.now (arc_value c.in_ok-checked.checked) c.design.result.now c.in_ok-policy.policy (c.in_ok-checked.ensures {u = tt}).design (c.design.ensures ∙ c.deref.ensures) policy.fits policy.file policy.design in
    let named : user_of c.in_ok-policy.policy.members c.args.user.now ≡ Some c.in_ok-user.user.0 = search rules in
    IfOk-weaker c.script_audit.result _ _ (λ given is. audited _ _ _ _ read c.args.seeds c.args.user.now _ _ c.in_ok-user.user.0 named c.args.explain given is) c.script_audit.ensures.audit

pub returns-clause-refused : goal.returns-clause-refused
returns-clause-refused g c =
    let policy = c.in_ok-policy.ensures {u = tt} in
    let read = read_of c.args.design.now c.args.policy.now (arc_value c.in_ok-checked.checked) c.design.result.now c.in_ok-policy.policy (c.in_ok-checked.ensures {u = tt}).design (c.design.ensures ∙ c.deref.ensures) policy.fits policy.file policy.design in
    let named : user_of c.in_ok-policy.policy.members c.args.user.now ≡ Some c.in_ok-user.user.0 = search rules in
    IfErr-weaker c.script_audit.result _ _ (λ f ends. ended _ _ _ _ read c.args.seeds c.args.user.now _ _ c.in_ok-user.user.0 named f ends) c.script_audit.ensures.refused
