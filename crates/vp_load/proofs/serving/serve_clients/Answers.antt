use Rattle.std.proofs.Common.{[], subst}
use Rattle.vp_elab.specs.Built.{Elaborated}
use Rattle.vp_load.specs.Logs.{AreWellFormed}
use Rattle.vp_load.proofs.Legal.{formed_all}
use Rattle.vp_load.proofs.serving.serve_clients.Goals as goal

pub returns : goal.returns
returns g c =
    let closed = c.in_ok-closed.closed in
    let is = (c.in_ok-closed.ensures {u = tt}).closed in
    let opening = c.in-Some.world.opening in
    subst (λ (d : Elaborated). AreWellFormed d closed.world.log) (c.in-Some.ensures {u = tt}).design (formed_all opening [] closed.world.log is.legal)
