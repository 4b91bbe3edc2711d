use Rattle.std.proofs.Common.{◌∙◌}
use Rattle.std.specs.Prelude.{option_map}
use Rattle.vp_elab.specs.declared.object.ObjectId.{ObjectId}
use Rattle.vp_elab.proofs.Contained.{ids_same}
use Rattle.vp_elab.proofs.Designed.{declared_none, declared_some}
use Rattle.vp_elab.proofs.design.Design.is_declared_in.Goals as goal

pub returns-in-Some : goal.returns-in-Some
returns-in-Some c =
    let s = c.self.inside in
    c.eq.ensures ∙ ids_same c.in-Some.object.parent c.args.scope
    ∙ declared_some s.source s.envelopes s.tables s.scopes s.objects c.self.invariant c.args.self.now c.self.view_is c.as_slice.result.now c.args.id.0 c.in-Some.object (option_map (λ (o : ObjectId). o.0) c.args.scope) c.as_slice.ensures (c.in-Some.ensures {u = tt})

pub returns-in-None : goal.returns-in-None
returns-in-None c =
    let s = c.self.inside in
    declared_none s.source s.envelopes s.tables s.scopes s.objects c.self.invariant c.args.self.now c.self.view_is c.as_slice.result.now c.args.id.0 (option_map (λ (o : ObjectId). o.0) c.args.scope) c.as_slice.ensures (c.in-None.ensures {u = tt})
