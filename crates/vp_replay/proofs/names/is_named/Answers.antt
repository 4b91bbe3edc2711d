use Rattle.std.proofs.Common.{◌∙◌, ◌++◌, ◌∷◌, [], Some, ap, sym}
use Rattle.std.specs.Str.{bytes_eq}
use Rattle.vp_policy.specs.SeenObjects.{own_step, path_to}
use Rattle.vp_replay.specs.Objects.{names_to}
use Rattle.vp_replay.specs.Seen.{is_named_seen}
use Rattle.vp_replay.proofs.NamedSteps.{name_other, name_same, named_none}
use Rattle.vp_replay.proofs.names.is_named.Goals as goal

pub returns-then-eq : goal.returns-then-eq
returns-then-eq c =
    let nodes = c.args.view.now.nodes in
    let name = c.args.name.now in
    c.is_same_scope.ensures
    ∙ name_same (names_to nodes c.args.scope) name (path_to nodes (Some c.args.number)) (path_to nodes c.in-Some.above) (own_step c.in-Some.object.now) (c.in-Some.ensures {u = tt}).steps
    (ap (bytes_eq name) (sym c.as_str.ensures) ∙ sym c.eq.ensures ∙ c.if-eq.true)

pub returns-else-eq : goal.returns-else-eq
returns-else-eq c =
    let nodes = c.args.view.now.nodes in
    let name = c.args.name.now in
    c.if-eq.false
    ∙ name_other (names_to nodes c.args.scope) name (path_to nodes (Some c.args.number)) (path_to nodes c.in-Some.above) (own_step c.in-Some.object.now) (c.in-Some.ensures {u = tt}).steps
    (ap (bytes_eq name) (sym c.as_str.ensures) ∙ sym c.eq.ensures ∙ c.if-eq.false)

pub returns-in-None : goal.returns-in-None
returns-in-None c =
    let nodes = c.args.view.now.nodes in
    let names = names_to nodes c.args.scope in
    sym (ap (is_named_seen (names ++ c.args.name.now ∷ [])) (c.in-None.ensures {u = tt}).steps ∙ named_none names c.args.name.now)
