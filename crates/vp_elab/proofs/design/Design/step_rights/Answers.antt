use Rattle.std.proofs.Common.{◌∙◌}
use Rattle.vp_elab.proofs.Designed.{step_rights_child, step_rights_none, step_rights_root}
use Rattle.vp_elab.proofs.design.Design.step_rights.Goals as goal

pub returns-in_default : goal.returns-in_default
returns-in_default c =
    let s = c.self.inside in
    c.none.ensures ∙ step_rights_none s.source s.envelopes s.tables s.scopes s.objects c.self.invariant c.args.self.now c.self.view_is c.as_slice-objects.result.now c.args.id.0 c.as_slice-objects.ensures (c.in_default.ensures {u = tt})

pub returns-in-Some-parent : goal.returns-in-Some-parent
returns-in-Some-parent c =
    let s = c.self.inside in
    c.child_step_rights.ensures
    ∙ step_rights_child s.source s.envelopes s.tables s.scopes s.objects c.self.invariant c.args.self.now c.self.view_is c.as_slice-objects.result.now c.as_slice.result.now c.args.id.0 c.in-Some.object c.in-Some-parent.module
    c.as_slice-objects.ensures c.as_slice.ensures (c.in-Some.ensures {u = tt}) c.in-Some-parent.is

pub returns-in-None : goal.returns-in-None
returns-in-None c =
    let s = c.self.inside in
    c.none-in-None.ensures ∙ step_rights_root s.source s.envelopes s.tables s.scopes s.objects c.self.invariant c.args.self.now c.self.view_is c.as_slice-objects.result.now c.args.id.0 c.in-Some.object c.as_slice-objects.ensures (c.in-Some.ensures {u = tt}) c.in-None.is
