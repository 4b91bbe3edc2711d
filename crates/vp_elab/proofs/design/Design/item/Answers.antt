use Rattle.std.proofs.Common.{◌∙◌}
use Rattle.vp_elab.proofs.Designed.{item_child, item_none, item_root}
use Rattle.vp_elab.proofs.design.Design.item.Goals as goal

pub returns-in_err-object : goal.returns-in_err-object
returns-in_err-object c =
    let s = c.self.inside in
    c.from_residual.ensures ∙ item_none s.source s.envelopes s.tables s.scopes s.objects c.self.invariant c.args.self.now c.self.view_is c.as_slice-objects.result.now c.args.id.0 c.as_slice-objects.ensures (c.in_err-object.ensures {u = tt})

pub returns-in-Some : goal.returns-in-Some
returns-in-Some c =
    let s = c.self.inside in
    c.child_item.ensures
    ∙ item_child s.source s.envelopes s.tables s.scopes s.objects c.self.invariant c.args.self.now c.self.view_is c.as_slice-objects.result.now c.args.id.0 c.in_ok-object.object c.in-Some.«module»
    c.as_slice-objects.ensures (c.in_ok-object.ensures {u = tt}) c.in-Some.is

pub returns-in-None : goal.returns-in-None
returns-in-None c =
    let s = c.self.inside in
    item_root s.source s.envelopes s.tables s.scopes s.objects c.self.invariant c.args.self.now c.self.view_is c.as_slice-objects.result.now c.args.id.0 c.in_ok-object.object c.as_slice-objects.ensures (c.in_ok-object.ensures {u = tt}) c.in-None.is
