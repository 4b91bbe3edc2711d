use Rattle.std.proofs.Common.{◌∙◌}
use Rattle.vp_elab.proofs.Designed.{line_none, line_some}
use Rattle.vp_elab.proofs.design.Design.line.Goals as goal

pub returns-in-Some : goal.returns-in-Some
returns-in-Some c =
    let s = c.self.inside in
    c.line.ensures ∙ line_some s.source s.envelopes s.tables s.scopes s.objects c.self.invariant c.args.self.now c.self.view_is c.as_slice.result.now c.args.id.0 c.in-Some.object c.as_slice.ensures (c.in-Some.ensures {u = tt})

pub returns-in-None : goal.returns-in-None
returns-in-None c =
    let s = c.self.inside in
    line_none s.source s.envelopes s.tables s.scopes s.objects c.self.invariant c.args.self.now c.self.view_is c.as_slice.result.now c.args.id.0 c.as_slice.ensures (c.in-None.ensures {u = tt})
