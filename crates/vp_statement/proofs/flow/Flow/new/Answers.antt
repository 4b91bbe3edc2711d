use Rattle.std.proofs.Common.{◌≡◌, ◌∙◌, ℕ, List, Option, ap, arith, length, map}
use Rattle.vp_elab.specs.Tree.{below}
use Rattle.vp_statement.specs.declared.flow.Part.{Part}
use Rattle.vp_statement.specs.Walking.{next_after, flow_of, parts_by_place}
use Rattle.vp_statement.proofs.flow.Flow.new.Goals as goal

pub returns : goal.returns
unfolding flow_of
returns c =
    let parts = parts_by_place c.args.source.now c.args.actions.now in
    let many = c.in-Ok.ensures in
    let end : c.loop-place.place ≡ length c.args.actions.now = omega (arith, many, c.loop-place-test.false, c.loop-place.auto.place-end) in
    c.loop-place.invariant
    ∙ ap (λ (ps : List (Option Part)). map (next_after ps (length ps)) (below c.loop-place.place)) c.in_ok-parts.ensures
    ∙ ap (λ (k : ℕ). map (next_after parts (length parts)) (below k)) end
