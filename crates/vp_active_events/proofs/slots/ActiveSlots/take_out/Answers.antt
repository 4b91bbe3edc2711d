use Rattle.std.proofs.Common.{◌≡◌, ◌∙◌, ◌<◌, ◌+◌, ◌/◌, true, ap, refl, rules, arith, get_or, length, subst, sym}
use Rattle.std.specs.Prelude.{slice_get, IfSome}
use Rattle.std.proofs.lemmas.List.{get_or_default}
use Rattle.std.proofs.lemmas.Option.{slice_get_read}
use Rattle.vp_active_events.specs.declared.slot.Slot.TheVariants.{Empty}
use Rattle.vp_active_events.specs.Slots.{SlotsKept, is_ready}
use Rattle.vp_active_events.proofs.Blocks.{block_few, some_counted}
use Rattle.vp_active_events.proofs.Indexed.{indexed_taken, ready_here, same_indexed}
use Rattle.vp_active_events.proofs.slots.ActiveSlots.take_out.Goals as goal

pub overflow_sub-count : goal.overflow_sub-count
overflow_sub-count c =
    let slots = c.self.inside.slots.items in
    let p = c.args.place in
    let there : IfSome (slice_get slots p) (λ x. is_ready x ≡ true) = subst (λ (v : SlotsKept). IfSome (slice_get v.slots p) (λ x. is_ready x ≡ true)) (sym c.self.view_is) c.requires.ready in
    let within : p < length slots = subst (λ (v : SlotsKept). p < length v.slots) (sym c.self.view_is) c.requires.within in
    let s = get_or slots p Empty in
    let is = get_or_default slots p Empty s within in
    let ds = c.count_first.new.counts in
    let some = some_counted slots p s ds c.count_first.ensures.counted within is (ready_here slots p s within is there) in
    let count : c.at-count.result ≡ get_or ds (p / 16) 0 = search rules in
    omega (arith, some, count)

pub invariant_of-self : goal.invariant_of-self
invariant_of-self c =
    let slots = c.self.inside.slots.items in
    let p = c.args.place in
    let there : IfSome (slice_get slots p) (λ x. is_ready x ≡ true) = subst (λ (v : SlotsKept). IfSome (slice_get v.slots p) (λ x. is_ready x ≡ true)) (sym c.self.view_is) c.requires.ready in
    let within : p < length slots = subst (λ (v : SlotsKept). p < length v.slots) (sym c.self.view_is) c.requires.within in
    let s = c.index-slot.result.now in
    let is = c.index-slot.ensures in
    let ds = c.count_first.new.counts in
    let ready = ready_here slots p s within is there in
    let some = some_counted slots p s ds c.count_first.ensures.counted within is ready in
    let count : c.at-count.result ≡ get_or ds (p / 16) 0 = search rules in
    same_indexed _ _ (c.self.inside.empty + 1) _ _ _ _ (
    indexed_taken slots p _ s c.self.inside.empty c.self.inside.waiting c.self.inside.counts ds c.self.invariant within is ready c.count_first.ensures.counted c.count_first.ensures.len (omega (arith, some, count)))
    refl refl c.set.ensures

pub returns-clause-slot : goal.returns-clause-slot
returns-clause-slot c =
    let slots = c.self.inside.slots.items in
    let p = c.args.place in
    let within : p < length slots = subst (λ (v : SlotsKept). p < length v.slots) (sym c.self.view_is) c.requires.within in
    ap (λ (v : SlotsKept). slice_get v.slots p) (sym c.self.view_is) ∙ slice_get_read slots (length slots) p c.index-slot.result.now refl within c.index-slot.ensures

pub set-requires : goal.set-requires
set-requires c =
    let ds = c.count_first.new.counts in
    let p = c.args.place in
    let count : c.at-count.result ≡ get_or ds (p / 16) 0 = search rules in
    let few = c.count_first.ensures.counted (p / 16) in
    omega (arith, count, few, block_few (p / 16) c.self.inside.slots.items)
