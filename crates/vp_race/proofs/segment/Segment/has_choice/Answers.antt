use Rattle.std.proofs.Common.{◌≡◌, ◌∙◌, [], ap, sym}
use Rattle.vp_race.specs.Orders.{has_choice}
use Rattle.vp_race.specs.Recording.{order_from}
use Rattle.vp_race.specs.Search.{found}
use Rattle.vp_race.specs.Segments.{Run}
use Rattle.vp_race.proofs.Closing.{closed_choice, closed_end}
use Rattle.vp_race.proofs.Found.{found_none}
use Rattle.vp_race.proofs.segment.Segment.has_choice.Goals as goal

pub returns-clause-choice : goal.returns-clause-choice
returns-clause-choice c =
    let i = c.self.inside in
    c.is_some.ensures ∙ closed_choice i.start i.forced i.choice c.self.invariant
    ∙ ap (λ (r : Run). has_choice r.start r.order) c.self.view_is

pub returns-clause-alone : goal.returns-clause-alone
returns-clause-alone c none limit seeds =
    let i = c.self.inside in
    let run : Run = record { number = i.number; start = i.start; order = order_from i.forced i.choice } in
    let never = sym (closed_choice i.start i.forced i.choice c.self.invariant) ∙ sym c.is_some.ensures ∙ none in
    let alone : found run limit seeds ≡ [] = sym (found_none run limit seeds (closed_end i.start i.forced i.choice c.self.invariant) never) in
    ap (λ (r : Run). found r limit seeds) (sym c.self.view_is) ∙ alone
