use Rattle.std.proofs.Common.{ap, sym}
use Rattle.vp_world.specs.Worlds.{WorldState}
use Rattle.vp_world.proofs.Designs.{kept_design}
use Rattle.vp_world.proofs.live_world.LiveWorld.kept.Goals as goal

pub returns-clause-design : goal.returns-clause-design
returns-clause-design c =
    kept_design c.self.inside.run c.args.number c.kept.result c.args.self.now.opening.design c.kept.ensures
    (ap (λ (v : WorldState). v.opening.design) (sym c.self.view_is)) c.self.invariant.2
