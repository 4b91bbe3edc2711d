use Rattle.std.proofs.Common.{◌≡◌, ◌∙◌, ap, sym, Option, true, false}
use Rattle.vp_pragma.specs.Rights.{has}
use Rattle.vp_elab.specs.declared.object.ObjectId.{ObjectId}
use Rattle.vp_elab.specs.Tree.{step_rights_at}
use Rattle.vp_policy.specs.Users.{Member, member_at}
use Rattle.vp_policy.proofs.Walks.{denial_left, denied_at, first_denial, having_step, missing_step, opened_at}
use Rattle.vp_policy.proofs.policy.Policy.first_missing_step.Goals as goal

pub loop-step-preserved-then-not-has : goal.loop-step-preserved-then-not-has
loop-step-preserved-then-not-has c =
    let tree = c.args.design.now.tree in
    let user : Member = member_at c.args.self.now.members c.args.user.0 in
    let here = c.in-Some-object.here in
    let known = c.in-Some-object.ensures {u = tt} in
    let lacks : has c.args.right (opened_at user here.envelope (step_rights_at tree c.in-Some.id.0)) ≡ false =
    sym (ap (has c.args.right) (c.opened.ensures ∙ ap (opened_at user here.envelope) c.step_rights-step_rights.ensures)) ∙ sym c.has.ensures ∙ c.if-not-has.true in
    missing_step tree user c.args.right c.in-Some.id.0 here c.loop-step.found c.denial.result known.node lacks (c.denial.ensures ∙ ap (denied_at user c.args.right here.envelope) c.step_rights-step_rights.ensures)
    ∙ ap (λ (s : Option ObjectId). first_denial (denial_left tree user c.args.right s) c.loop-step.found) (sym c.in-Some.is) ∙ c.loop-step.invariant

pub loop-step-preserved : goal.loop-step-preserved
loop-step-preserved c =
    let tree = c.args.design.now.tree in
    let user : Member = member_at c.args.self.now.members c.args.user.0 in
    let here = c.in-Some-object.here in
    let known = c.in-Some-object.ensures {u = tt} in
    let his : has c.args.right (opened_at user here.envelope (step_rights_at tree c.in-Some.id.0)) ≡ true =
    sym (ap (has c.args.right) (c.opened.ensures ∙ ap (opened_at user here.envelope) c.step_rights-step_rights.ensures)) ∙ sym c.has.ensures ∙ c.if-not-has.false in
    having_step tree user c.args.right c.in-Some.id.0 here c.loop-step.found known.node his
    ∙ ap (λ (s : Option ObjectId). first_denial (denial_left tree user c.args.right s) c.loop-step.found) (sym c.in-Some.is) ∙ c.loop-step.invariant
