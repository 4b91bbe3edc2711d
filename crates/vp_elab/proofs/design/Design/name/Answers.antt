use Rattle.std.proofs.Common.{◌∙◌}
use Rattle.vp_elab.proofs.Designed.{name_child, name_none, name_root}
use Rattle.vp_elab.proofs.design.Design.name.Goals as goal

pub returns-in_default : goal.returns-in_default
returns-in_default c =
    let s = c.self.inside in
    name_none s.source s.envelopes s.tables s.scopes s.objects c.self.invariant c.args.self.now c.self.view_is c.as_slice-objects.result.now c.args.id.0 c.as_slice-objects.ensures (c.in_default.ensures {u = tt})

pub returns-in-Some-parent : goal.returns-in-Some-parent
returns-in-Some-parent c =
    let s = c.self.inside in
    c.child_name.ensures
    ∙ name_child s.source s.envelopes s.tables s.scopes s.objects c.self.invariant c.args.self.now c.self.view_is c.as_slice-objects.result.now c.as_slice-names.result.now c.args.id.0 c.in-Some.object c.in-Some-parent.module
    c.as_slice-objects.ensures c.as_slice-names.ensures (c.in-Some.ensures {u = tt}) c.in-Some-parent.is

pub returns-in-None : goal.returns-in-None
returns-in-None c =
    let s = c.self.inside in
    c.word.ensures ∙ name_root s.source s.envelopes s.tables s.scopes s.objects c.self.invariant c.args.self.now c.self.view_is c.as_slice-objects.result.now c.args.id.0 c.in-Some.object c.as_slice-objects.ensures (c.in-Some.ensures {u = tt}) c.in-None.is
