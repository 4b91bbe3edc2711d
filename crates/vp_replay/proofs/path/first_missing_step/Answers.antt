use Rattle.std.proofs.Common.{◌∙◌, sym}
use Rattle.std.specs.Prelude.{option_map}
use Rattle.vp_policy.specs.SeenObjects.{own_step, path_to}
use Rattle.vp_replay.proofs.Missing.{having_step, missing_step}
use Rattle.vp_replay.proofs.path.first_missing_step.Goals as goal

pub loop-object-preserved-then-not-has : goal.loop-object-preserved-then-not-has
loop-object-preserved-then-not-has c =
    let nodes = c.args.view.now.nodes in
    missing_step c.args.right (path_to nodes c.loop-object.scope) (path_to nodes c.in-Some.above) (own_step c.in-Some.object.now)
    (option_map (λ o. own_step o.now) c.loop-object.found) c.in-Some.ensures.steps (sym c.has.ensures ∙ c.if-not-has.true)
    ∙ c.loop-object.invariant

pub loop-object-preserved : goal.loop-object-preserved
loop-object-preserved c =
    let nodes = c.args.view.now.nodes in
    having_step c.args.right (path_to nodes c.loop-object.scope) (path_to nodes c.in-Some.above) (own_step c.in-Some.object.now)
    (option_map (λ o. own_step o.now) c.loop-object.found) c.in-Some.ensures.steps (sym c.has.ensures ∙ c.if-not-has.false)
    ∙ c.loop-object.invariant
