use Rattle.std.proofs.Common.{subst, sym}
use Rattle.vp_world.specs.declared.event.Event.{Event}
use Rattle.vp_world.specs.History.{Applies}
use Rattle.vp_world.proofs.world.World.apply.Goals as goal

pub returns-in-Open-clause-applied : goal.returns-in-Open-clause-applied
returns-in-Open-clause-applied c =
    subst (λ (e : Event). Applies c.args.self.now e c.apply_open.result c.apply_open.new.self) (sym c.in-Open.is) c.apply_open.ensures.applied
