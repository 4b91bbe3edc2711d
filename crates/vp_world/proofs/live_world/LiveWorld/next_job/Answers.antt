use Rattle.std.proofs.Common.{ap, sym}
use Rattle.vp_world.specs.Worlds.{WorldState}
use Rattle.vp_world.proofs.Designs.{job_design}
use Rattle.vp_world.proofs.live_world.LiveWorld.next_job.Goals as goal

pub returns-clause-design : goal.returns-clause-design
returns-clause-design c =
    job_design c.self.inside.run c.next_job.result c.args.self.now.opening.design c.next_job.ensures
    (ap (λ (v : WorldState). v.opening.design) (sym c.self.view_is)) c.self.invariant.2
