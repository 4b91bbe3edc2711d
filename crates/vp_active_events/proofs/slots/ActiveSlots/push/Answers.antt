use Rattle.std.proofs.Common.{◌≡◌, ◌∙◌, ℕ, ◌+◌, ap, cond, rules, arith, length}
use Rattle.vp_active_events.specs.Slots.{SlotsKept, counted_more, is_waiting}
use Rattle.vp_active_events.proofs.Blocks.{counted_few}
use Rattle.vp_active_events.proofs.Indexed.{indexed_push, same_indexed}
use Rattle.vp_active_events.proofs.slots.ActiveSlots.push.Goals as goal

pub count_more-requires : goal.count_more-requires
count_more-requires c = counted_few c.self.inside.empty c.self.inside.slots.items c.self.inside.counts _ c.self.invariant.blocks_counted

pub invariant_of-self : goal.invariant_of-self
invariant_of-self c =
    let slots = c.self.inside.slots.items in
    let long : c.len.result ≡ length slots = omega arith in
    let e = c.self.inside.empty in
    let cs = c.self.inside.counts in
    let s = c.args.slot in
    let room = ap (λ (v : SlotsKept). v.room) c.self.view_is in
    let waits : c.from.result ≡ cond (is_waiting s) 1 0 = search rules in
    same_indexed _ _ e _ _ _ _ (indexed_push slots s e c.self.inside.waiting cs c.self.invariant c.requires.event (omega (arith, room, c.requires.room))) c.push_back_reserved.ensures.items (ap (λ (n : ℕ). c.self.inside.waiting + n) waits) (c.count_more.ensures ∙ ap (λ (n : ℕ). counted_more e n c.is_ready.result cs) long ∙ ap (λ t. counted_more e (length slots) t cs) c.is_ready.ensures)
