use Rattle.std.proofs.Common.{◌∙◌, Some, sym}
use Rattle.vp_policy.specs.SeenObjects.{own_step, path_to}
use Rattle.vp_replay.proofs.NamedSteps.{last_is}
use Rattle.vp_replay.proofs.path.name.Goals as goal

pub returns-in-Some : goal.returns-in-Some
returns-in-Some c =
    let nodes = c.args.view.now.nodes in
    c.as_str.ensures
    ∙ sym (last_is (path_to nodes (Some c.args.number)) (path_to nodes c.in-Some.field-0-1) (own_step c.in-Some.object.now) (c.in-Some.ensures {u = tt}).steps)
