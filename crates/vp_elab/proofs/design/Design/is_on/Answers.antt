use Rattle.std.proofs.Common.{◌∙◌}
use Rattle.vp_pragma.specs.Reading.{viewport_of}
use Rattle.vp_elab.proofs.LastSteps.{match_inside, match_top}
use Rattle.vp_elab.proofs.design.Design.is_on.Goals as goal

pub returns-in-Some-module_of : goal.returns-in-Some-module_of
returns-in-Some-module_of c =
    let known = c.in-Some.ensures {u = tt} in
    c.is_on.ensures
    ∙ match_inside c.args.self.now.tree c.args.id.0 c.in-Some.object known.node (viewport_of c.args.viewport.now) c.in-Some-module_of.«module».now c.name.result.now
    (c.in-Some-module_of.ensures {u = tt}) c.name.ensures

pub returns-in-None : goal.returns-in-None
returns-in-None c =
    let known = c.in-Some.ensures {u = tt} in
    match_top c.args.self.now.tree c.args.id.0 c.in-Some.object known.node (viewport_of c.args.viewport.now) (c.in-None.ensures {u = tt})
