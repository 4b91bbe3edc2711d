use Rattle.std.proofs.Common.{◌≡◌, [], List, subst, sym}
use Rattle.std.proofs.lemmas.Result.{IfOk-at_ok}
use Rattle.vp_world.specs.Entries.{Entry}
use Rattle.vp_world.specs.History.{IsLegal}
use Rattle.vp_world.specs.Worlds.{WorldLog}
use Rattle.vp_audit.specs.declared.audit.Audit.{Audit}
use Rattle.vp_script.specs.Audits.{audit_of}
use Rattle.vp_script.proofs.audits.log_audit.Goals as goal

pub returns-in-Ok-clause-audit : goal.returns-in-Ok-clause-audit
returns-in-Ok-clause-audit c =
    let w : WorldLog = c.args.script_session.now.running.world in
    let u = c.args.user.0 in
    let log : List Entry = c.log.result.now.entries in
    let legal : IsLegal w.opening [] log = subst (IsLegal w.opening []) (sym c.log.ensures.log) c.log.ensures.legal in
    let same = c.audit_user.ensures.same w.opening c.requires.right c.requires.design c.requires.policy legal in
    subst (λ (es : List Entry). c.in-Ok.audit ≡ audit_of u es) c.log.ensures.log (IfOk-at_ok (λ (a : Audit). a ≡ audit_of u log) c.in-Ok.is same)
