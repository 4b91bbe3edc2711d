use Rattle.std.proofs.Common.{◌∙◌, Some, ap, sym}
use Rattle.vp_policy.specs.SeenObjects.{own_step, path_to}
use Rattle.vp_replay.specs.Objects.{names_to}
use Rattle.vp_replay.specs.Seen.{is_in_seen}
use Rattle.vp_replay.proofs.NamedSteps.{in_end, in_none}
use Rattle.vp_replay.proofs.names.is_in.Goals as goal

pub returns-in-Some : goal.returns-in-Some
returns-in-Some c =
    let nodes = c.args.view.now.nodes in
    let names = names_to nodes c.args.scope in
    c.is_same_scope.ensures ∙ sym (ap (is_in_seen names) (c.in-Some.ensures {u = tt}).steps ∙ in_end names (path_to nodes c.in-Some.above) (own_step c.in-Some.field-0-0.now))

pub returns-in-None : goal.returns-in-None
returns-in-None c =
    let nodes = c.args.view.now.nodes in
    sym (in_none (names_to nodes c.args.scope) (path_to nodes (Some c.args.number)) (c.in-None.ensures {u = tt}).steps)
