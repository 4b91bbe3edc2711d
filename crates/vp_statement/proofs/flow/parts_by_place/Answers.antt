use Rattle.std.proofs.Common.{◌≡◌, ◌∙◌, ℕ, None, ap, arith, length, replicate}
use Rattle.std.specs.List.{flat_map, fold}
use Rattle.vp_elab.specs.Tree.{below}
use Rattle.vp_statement.specs.Noting.{noted}
use Rattle.vp_statement.specs.Walking.{action_at, all_parts, parts_of}
use Rattle.vp_statement.proofs.Noted.{all_noted}
use Rattle.vp_statement.proofs.flow.parts_by_place.Goals as goal

pub returns : goal.returns
returns c =
    let actions = c.args.actions.now in
    let end : c.loop-place.place ≡ length actions = omega (arith, c.requires, c.loop-place-test.false, c.loop-place.auto.place-end) in
    c.loop-place.invariant
    ∙ ap (λ (k : ℕ). fold noted (replicate (length actions) None) (flat_map (λ place. parts_of c.args.source.now place (action_at actions place)) (below k))) end
    ∙ all_noted (length actions) (all_parts c.args.source.now actions)
