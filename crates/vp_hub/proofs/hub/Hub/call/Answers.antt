use Rattle.vp_hub.proofs.Receiving.{answered}
use Rattle.vp_hub.proofs.hub.Hub.call.Goals as goal

pub returns : goal.returns
returns g c = answered g.L.NamesOpening.opening c.deref_mut.result.now c.call-answered.new.self c.args.pass c.call-answered.result.0 c.args.call c.call-answered.result.1 c.call-answered.ensures.called c.call-answered.ensures.legal
