use Rattle.std.proofs.Common.{◌∙◌, ap, arith, not, rules}
use Rattle.std.specs.List.{filter}
use Rattle.std.proofs.lemmas.Fn.{filter_same}
use Rattle.vp_active_events.specs.declared.slot.Slot.{Slot}
use Rattle.vp_active_events.specs.Slots.{SlotsKept, is_empty}
use Rattle.vp_active_events.proofs.Blocks.{none_past}
use Rattle.vp_active_events.proofs.Indexed.{indexed_compact}
use Rattle.vp_active_events.proofs.slots.ActiveSlots.compact.Goals as goal

pub uncount_all-requires : goal.uncount_all-requires
uncount_all-requires c = λ n past. none_past c.self.inside.empty c.self.inside.slots.items c.self.inside.counts n c.self.invariant.blocks_counted (omega (arith, past))

pub invariant_of-self : goal.invariant_of-self
invariant_of-self c =
    let slots = c.self.inside.slots.items in
    let kept = filter_same _ (λ (s : Slot). not (is_empty s)) _ (λ x b f h. search rules) slots c.retain.new.self.items c.retain.ensures.filtered in
    indexed_compact slots _ c.self.inside.empty c.self.inside.waiting c.self.inside.counts _ c.self.invariant kept c.uncount_all.ensures.counted c.uncount_all.ensures.len

pub returns-clause-slots : goal.returns-clause-slots
returns-clause-slots c =
    let slots = c.self.inside.slots.items in
    let kept = filter_same _ (λ (s : Slot). not (is_empty s)) _ (λ x b f h. search rules) slots c.retain.new.self.items c.retain.ensures.filtered in
    kept ∙ ap (λ (v : SlotsKept). filter (λ (s : Slot). not (is_empty s)) v.slots) c.self.view_is
