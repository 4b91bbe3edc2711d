use Rattle.vp_elab.proofs.Designed.{alike}
use Rattle.vp_elab.proofs.design.Design.instances_are_alike.Goals as goal

pub returns : goal.returns
returns c =
    let s = c.self.inside in
    alike s.source s.envelopes s.tables s.scopes s.objects c.self.invariant c.args.self.now c.self.view_is
