use Rattle.std.proofs.Common.{◌≤◌, length, inl, refl, ap, arith, sym, subst}
use Rattle.std.proofs.lemmas.Result.{IfErr-weaker, IfOk-weaker}
use Rattle.vp_script.specs.Scripts.{EndsBundleBy, bundle_limit}
use Rattle.vp_script.proofs.Bundling.{bundle_fault, bundle_script, parts_of, text_refused}
use Rattle.vp_design.proofs.Results.{told_as}
use Rattle.vp_script.proofs.bundle.run_bundle.Goals as goal

pub returns-in_err-text-clause-fault : goal.returns-in_err-text-clause-fault
returns-in_err-text-clause-fault g c =
    let fits : length c.args.bundle.now ≤ bundle_limit = omega arith in
    let has = parts_of (λ c. (c.0.now, c.1.now)) c.args.bundle.now c.cut.result c.cut-2.result _ _ fits c.cut.ensures c.in_ok-design.ensures.ok_part c.cut-2.ensures c.in_ok-policy.ensures.ok_part in
    let said = c.in_err-text.ensures {u = tt} in
    told_as _ (EndsBundleBy c.args.bundle.now _ _) c.from_residual-in_err-text.result c.from_residual-in_err-text.ensures.1
    (λ fault told. subst (EndsBundleBy c.args.bundle.now _ _) (sym told) (inl (text_refused c.args.bundle.now _ has c.in_err-text.field-0.0 said.too_long said.no_text, refl)))

pub returns-clause-script : goal.returns-clause-script
returns-clause-script g c =
    let fits : length c.args.bundle.now ≤ bundle_limit = omega arith in
    let has = parts_of (λ c. (c.0.now, c.1.now)) c.args.bundle.now c.cut.result c.cut-2.result _ _ fits c.cut.ensures c.in_ok-design.ensures.ok_part c.cut-2.ensures c.in_ok-policy.ensures.ok_part in
    let text = c.in_ok-text.ensures {u = tt} in
    IfOk-weaker c.run_script.result _ _
    (λ ran is. bundle_script c.args.bundle.now _ has text.accepted.1 _ _ _ _ text.ok (ap (λ r. r.inner.now) c.new-reader.ensures) ran.out_of_memory _ ran.lines is)
    c.run_script.ensures.script

pub returns-clause-fault : goal.returns-clause-fault
returns-clause-fault g c =
    let fits : length c.args.bundle.now ≤ bundle_limit = omega arith in
    let has = parts_of (λ c. (c.0.now, c.1.now)) c.args.bundle.now c.cut.result c.cut-2.result _ _ fits c.cut.ensures c.in_ok-design.ensures.ok_part c.cut-2.ensures c.in_ok-policy.ensures.ok_part in
    let text = c.in_ok-text.ensures {u = tt} in
    IfErr-weaker c.run_script.result _ _
    (λ fault is. bundle_fault c.args.bundle.now _ has text.accepted.1 _ _ _ _ text.ok (ap (λ r. r.inner.now) c.new-reader.ensures) _ fault is)
    c.run_script.ensures.fault
