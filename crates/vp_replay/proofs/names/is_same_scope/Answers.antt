use Rattle.std.proofs.Common.{◌∙◌, ap, sym, true, false}
use Rattle.vp_policy.specs.SeenObjects.{own_step, path_to}
use Rattle.vp_replay.specs.Objects.{names_to}
use Rattle.vp_replay.specs.Seen.{is_named_seen}
use Rattle.vp_replay.proofs.NamedSteps.{compared, first_longer, named_self, other_end, same_end, same_number}
use Rattle.vp_replay.proofs.names.is_same_scope.Goals as goal

pub returns-in_default-last_step : goal.returns-in_default-last_step
returns-in_default-last_step c =
    let nodes = c.args.view.now.nodes in
    first_longer (path_to nodes c.loop-first.first) (path_to nodes c.loop-first.second) (path_to nodes c.in-Some.above) (own_step c.in-Some.one.now)
    (c.in-Some.ensures {u = tt}).steps (c.in_default-last_step.ensures {u = tt}).steps
    ∙ c.loop-first.invariant

pub returns-then-ne : goal.returns-then-ne
returns-then-ne c =
    let nodes = c.args.view.now.nodes in
    let one = c.in-Some.one.now in
    let other = c.in-Some-last_step.other.now in
    other_end (path_to nodes c.loop-first.first) (path_to nodes c.loop-first.second) (path_to nodes c.in-Some.above) (path_to nodes c.in-Some-last_step.beside)
    (own_step one) (own_step other) (c.in-Some.ensures {u = tt}).steps (c.in-Some-last_step.ensures {u = tt}).steps
    (compared c.as_str.result.now c.as_str-in-loop-first.result.now one.name other.name c.ne-in-loop-first.result true
    c.as_str.ensures c.as_str-in-loop-first.ensures c.ne-in-loop-first.ensures c.if-ne.true)
    ∙ c.loop-first.invariant

pub loop-first-preserved : goal.loop-first-preserved
loop-first-preserved c =
    let nodes = c.args.view.now.nodes in
    let one = c.in-Some.one.now in
    let other = c.in-Some-last_step.other.now in
    same_end (path_to nodes c.loop-first.first) (path_to nodes c.loop-first.second) (path_to nodes c.in-Some.above) (path_to nodes c.in-Some-last_step.beside)
    (own_step one) (own_step other) (c.in-Some.ensures {u = tt}).steps (c.in-Some-last_step.ensures {u = tt}).steps
    (compared c.as_str.result.now c.as_str-in-loop-first.result.now one.name other.name c.ne-in-loop-first.result false
    c.as_str.ensures c.as_str-in-loop-first.ensures c.ne-in-loop-first.ensures c.if-ne.false)
    ∙ c.loop-first.invariant

pub returns : goal.returns
returns c =
    let nodes = c.args.view.now.nodes in
    sym (named_self (path_to nodes c.loop-first.second))
    ∙ ap (λ s. is_named_seen (names_to nodes s) (path_to nodes c.loop-first.second))
    (same_number c.loop-first.first c.loop-first.second c.ne.result c.ne.ensures c.loop-first-test.false)
    ∙ c.loop-first.invariant
