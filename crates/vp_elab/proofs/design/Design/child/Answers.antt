use Rattle.std.proofs.Common.{◌≡◌, ◌+◌, ◌∙◌, ap, sym, subst, Some, ℕ, arith}
use Rattle.std.specs.Prelude.{option_map}
use Rattle.vp_elab.specs.declared.object.ObjectId.{ObjectId}
use Rattle.vp_elab.specs.Tree.{find_in}
use Rattle.vp_elab.proofs.Designed.{child_none, child_some}
use Rattle.vp_elab.proofs.design.Design.child.Goals as goal

pub returns-in_err-index : goal.returns-in_err-index
returns-in_err-index c =
    let s = c.self.inside in
    ap (option_map (λ (o : ObjectId). o.0)) c.from_residual.ensures
    ∙ child_none s.source s.envelopes s.tables s.scopes s.objects c.self.invariant c.args.self.now c.self.view_is c.as_slice-objects.result.now c.as_slice.result.now c.args.object.0 c.args.name.now c.as_slice-objects.ensures c.as_slice.ensures (c.in_err-index.ensures {u = tt})

pub overflow_add-result : goal.overflow_add-result
overflow_add-result c =
    let s = c.self.inside in
    let there =
    child_some s.source s.envelopes s.tables s.scopes s.objects c.self.invariant c.args.self.now c.self.view_is c.as_slice-objects.result.now c.as_slice.result.now c.as_slice-2.result.now c.args.object.0 c.in_ok-index.index c.args.name.now
    c.as_slice-objects.ensures c.as_slice.ensures c.as_slice-2.ensures (c.in_ok-index.ensures {u = tt}) in
    let slot = c.slot_at-slot.ensures in
    omega (arith, there.1)

pub returns : goal.returns
returns c =
    let s = c.self.inside in
    let there =
    child_some s.source s.envelopes s.tables s.scopes s.objects c.self.invariant c.args.self.now c.self.view_is c.as_slice-objects.result.now c.as_slice.result.now c.as_slice-2.result.now c.args.object.0 c.in_ok-index.index c.args.name.now
    c.as_slice-objects.ensures c.as_slice.ensures c.as_slice-2.ensures (c.in_ok-index.ensures {u = tt}) in
    subst (λ (n : ℕ). Some (c.args.object.0 + n) ≡ find_in c.args.self.now.tree.nodes (Some c.args.object.0) c.args.name.now) (sym c.slot_at-slot.ensures) there.0
