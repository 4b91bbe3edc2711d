use Rattle.std.proofs.Common.{subst}
use Rattle.vp_race.specs.Orders.{HasEnd}
use Rattle.vp_race.specs.Segments.{Run}
use Rattle.vp_race.proofs.Closing.{closed_end}
use Rattle.vp_race.proofs.segment.Segment.number.Goals as goal

pub returns-clause-end : goal.returns-clause-end
returns-clause-end c =
    let i = c.self.inside in
    subst (λ (r : Run). HasEnd r.start r.order) c.self.view_is (closed_end i.start i.forced i.choice c.self.invariant)
