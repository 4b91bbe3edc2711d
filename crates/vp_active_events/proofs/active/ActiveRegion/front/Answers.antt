use Rattle.std.proofs.Common.{◌≡◌, ◌<◌, IfSome, length, rules, subst, take}
use Rattle.vp_active_events.specs.Events.{Region}
use Rattle.vp_active_events.specs.Slots.{count_empty, events_at}
use Rattle.vp_active_events.proofs.Region.{front_event, front_some}
use Rattle.vp_active_events.proofs.active.ActiveRegion.front.Goals as goal

pub returns-then-is_full-clause-oldest : goal.returns-then-is_full-clause-oldest
returns-then-is_full-clause-oldest c =
    let ss = c.self.inside.slots.slots in
    let full : count_empty ss ≡ 0 = search rules in
    let P : Region → Type 0 = λ r. IfSome c.front.result (λ s. events_at s.now ≡ take 1 r.events) in
    subst P c.self.view_is (front_event (λ s. s.now) ss c.front.result full c.front.ensures)

pub returns-then-is_full-clause-some : goal.returns-then-is_full-clause-some
returns-then-is_full-clause-some c =
    let ss = c.self.inside.slots.slots in
    let full : count_empty ss ≡ 0 = search rules in
    let P : Region → Type 0 = λ r. IfSome c.front.result (λ s. 0 < length r.events) in
    subst P c.self.view_is (front_some (λ s. s.now) ss c.front.result full c.front.ensures)
