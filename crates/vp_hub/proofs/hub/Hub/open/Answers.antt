use Rattle.std.proofs.Common.{[], subst}
use Rattle.vp_world.specs.History.{IsLegal}
use Rattle.vp_hub.specs.Desks.{Desked}
use Rattle.vp_hub.proofs.Receiving.{opened}
use Rattle.vp_hub.proofs.hub.Hub.open.Goals as goal

pub returns : goal.returns
returns g c =
    let opens = c.in_ok-pass.ensures {u = tt} in
    opened g.L.NamesOpening.opening c.deref_mut.result.now c.open.new.self c.in_ok-pass.pass c.args.user c.args.token opens.desk opens.session opens.indexes opens.seen opens.share
    (subst (λ (d : Desked). IsLegal g.L.NamesOpening.opening [] d.world.log) c.deref.ensures c.log-log.ensures.legal)
