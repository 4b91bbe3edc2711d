use Rattle.std.proofs.Common.{IfSome, subst}
use Rattle.vp_world.specs.Events.{IsWellFormed}
use Rattle.vp_cases.proofs.events.answer_line.Goals as goal

pub apply-requires : goal.apply-requires
apply-requires c =
    let design = c.args.world.now.opening.design in
    subst (λ found. IfSome found (IsWellFormed design)) c.in-Some-event_of.is (c.event_of.ensures design)
