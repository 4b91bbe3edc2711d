use Rattle.std.proofs.Common.{◌∙◌, ap, sym}
use Rattle.vp_world.specs.Worlds.{WorldState}
use Rattle.vp_world.proofs.Designs.{kept_design}
use Rattle.vp_world.proofs.live_world.LiveWorld.check_booking.Goals as goal

pub check-requires : goal.check-requires
check-requires c =
    kept_design c.self.inside.run c.number.result c.kept-kept.result c.args.finding.now.segment.start.design c.kept-kept.ensures
    (c.requires ∙ ap (λ (v : WorldState). v.opening.design) (sym c.self.view_is)) c.self.invariant.2
