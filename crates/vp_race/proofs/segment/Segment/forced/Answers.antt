use Rattle.std.proofs.Common.{◌≡◌, ◌∙◌, ap, sym}
use Rattle.vp_race.specs.Orders.{has_choice}
use Rattle.vp_race.specs.Segments.{Run}
use Rattle.vp_race.proofs.Matching.{counted}
use Rattle.vp_race.proofs.segment.Segment.forced.Goals as goal

pub returns : goal.returns
returns c none =
    let i = c.self.inside in
    sym (ap (λ (r : Run). r.order) c.self.view_is)
    ∙ counted i.start i.forced i.choice c.self.invariant (ap (λ (r : Run). has_choice r.start r.order) c.self.view_is ∙ none)
