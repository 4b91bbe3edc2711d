use Rattle.vp_elab.proofs.Designed.{object_node, object_scope}
use Rattle.vp_elab.proofs.design.Design.object.Goals as goal

pub returns-clause-node : goal.returns-clause-node
returns-clause-node c =
    let s = c.self.inside in
    object_node s.source s.envelopes s.tables s.scopes s.objects c.self.invariant c.args.self.now c.self.view_is c.as_slice.result.now c.args.id.0 c.object_at.result c.as_slice.ensures c.object_at.ensures

pub returns-clause-scope : goal.returns-clause-scope
returns-clause-scope c =
    let s = c.self.inside in
    object_scope s.source s.envelopes s.tables s.scopes s.objects c.self.invariant c.args.self.now c.self.view_is c.as_slice.result.now c.args.id.0 c.object_at.result c.as_slice.ensures c.object_at.ensures
