use Rattle.std.proofs.Common.{◌≡◌, ◌∙◌, ◌<◌, ◌+◌, ℕ, List, ap, arith, get_or, length, ltb, rules, set, subst, sym}
use Rattle.std.proofs.lemmas.List.Sums.{count_by-le-length}
use Rattle.vp_active_events.specs.declared.slot.Slot.{Slot}
use Rattle.vp_active_events.specs.Events.{Region, drives}
use Rattle.vp_active_events.specs.Slots.{AreMarked, events_of}
use Rattle.vp_active_events.proofs.Region.{update_more}
use Rattle.vp_active_events.proofs.active.ActiveRegion.push_net_update.Goals as goal

pub overflow_add-count : goal.overflow_add-count
overflow_add-count c =
    let q = c.args.process in
    let es = events_of c.self.inside.slots.slots in
    let count : c.count_at-count.result ≡ get_or c.self.inside.updates.items q 0 = search rules in
    let counted = c.self.invariant.counted q in
    omega (arith, count, counted, count_by-le-length (drives q) es)

pub invariant_of-self : goal.invariant_of-self
invariant_of-self c =
    let us = c.self.inside.updates.items in
    let q = c.args.process in
    let within : q < length us = subst (λ (r : Region). q < r.processes) (sym c.self.view_is) c.requires.within in
    let count : c.count_at-count.result ≡ get_or us q 0 = search rules in
    let counts = c.set_count.ensures ∙ ap (λ (n : ℕ). set us q (n + 1)) count in
    let P : List Slot → Type 0 = λ ss. AreMarked ss c.set_count.new.counts.items in
    subst P (sym c.push.ensures.slots) (update_more c.self.inside.slots.slots us c.set_count.new.counts.items q c.args.value (ltb 0 c.count_at-count.result) c.self.invariant within (ap (ltb 0) count) counts)
