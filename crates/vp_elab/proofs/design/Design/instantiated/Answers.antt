use Rattle.std.proofs.Common.{◌∙◌}
use Rattle.vp_elab.proofs.Designed.{instance_found, instance_none, instance_root}
use Rattle.vp_elab.proofs.design.Design.instantiated.Goals as goal

pub returns-in_err-object : goal.returns-in_err-object
returns-in_err-object c =
    let s = c.self.inside in
    c.from_residual.ensures ∙ instance_none s.source s.envelopes s.tables s.scopes s.objects c.self.invariant c.args.self.now c.self.view_is c.as_slice.result.now c.args.id.0 c.as_slice.ensures (c.in_err-object.ensures {u = tt})

pub returns-in-Some : goal.returns-in-Some
returns-in-Some c =
    let s = c.self.inside in
    c.module_at.ensures
    ∙ instance_found s.source s.envelopes s.tables s.scopes s.objects c.self.invariant c.args.self.now c.self.view_is c.as_slice.result.now c.args.id.0 c.in_ok-object.object _
    c.as_slice.ensures (c.in_ok-object.ensures {u = tt}) c.in-Some.is

pub returns-in-None : goal.returns-in-None
returns-in-None c =
    let s = c.self.inside in
    instance_root s.source s.envelopes s.tables s.scopes s.objects c.self.invariant c.args.self.now c.self.view_is c.as_slice.result.now c.args.id.0 c.in_ok-object.object c.as_slice.ensures (c.in_ok-object.ensures {u = tt}) c.in-None.is
