use Rattle.std.proofs.Common.{◌≡◌, ◌∙◌, ◌<◌, true, ap, refl, arith, length, subst, set, sym}
use Rattle.std.specs.Prelude.{slice_get, IfSome}
use Rattle.vp_active_events.specs.Slots.{SlotsKept, counted_more, freed, is_ready, is_waiting}
use Rattle.vp_active_events.proofs.Blocks.{counted_few}
use Rattle.vp_active_events.proofs.Indexed.{indexed_freed, is_freed, same_indexed, some_waits, waits_here}
use Rattle.vp_active_events.proofs.slots.ActiveSlots.free.Goals as goal

pub count_more-requires : goal.count_more-requires
count_more-requires c = counted_few c.self.inside.empty c.self.inside.slots.items c.self.inside.counts _ c.self.invariant.blocks_counted

pub overflow_sub-self : goal.overflow_sub-self
overflow_sub-self c =
    let slots = c.self.inside.slots.items in
    let p = c.args.place in
    let s = c.index.result.now in
    let there : IfSome (slice_get slots p) (λ x. is_waiting x ≡ true) = subst (λ (v : SlotsKept). IfSome (slice_get v.slots p) (λ x. is_waiting x ≡ true)) (sym c.self.view_is) c.requires.waits in
    let within : p < length slots = subst (λ (v : SlotsKept). p < length v.slots) (sym c.self.view_is) c.requires.within in
    let some = some_waits slots p s within c.index.ensures (waits_here slots p s within c.index.ensures there) in
    omega (arith, some, c.self.invariant.waiting_counted)

pub invariant_of-self : goal.invariant_of-self
invariant_of-self c =
    let slots = c.self.inside.slots.items in
    let cs = c.self.inside.counts in
    let e = c.self.inside.empty in
    let p = c.args.place in
    let s = c.index.result.now in
    let there : IfSome (slice_get slots p) (λ x. is_waiting x ≡ true) = subst (λ (v : SlotsKept). IfSome (slice_get v.slots p) (λ x. is_waiting x ≡ true)) (sym c.self.view_is) c.requires.waits in
    let within : p < length slots = subst (λ (v : SlotsKept). p < length v.slots) (sym c.self.view_is) c.requires.within in
    let freed_is = c.freed-slot.ensures in
    same_indexed _ _ e _ _ _ _ (indexed_freed slots p s e c.self.inside.waiting cs c.self.invariant within c.index.ensures (waits_here slots p s within c.index.ensures there))
    (ap (set slots p) freed_is) refl (c.count_more.ensures ∙ ap (λ t. counted_more e p t cs) (c.is_ready.ensures ∙ ap is_ready freed_is))

pub returns-clause-slots : goal.returns-clause-slots
returns-clause-slots c =
    let slots = c.self.inside.slots.items in
    let p = c.args.place in
    let r = c.freed-slot.result in
    let within : p < length slots = subst (λ (v : SlotsKept). p < length v.slots) (sym c.self.view_is) c.requires.within in
    let P : SlotsKept → Type 0 = λ v. IfSome (slice_get v.slots p) (λ x. set slots p r ≡ set v.slots p (freed x)) in
    subst P c.self.view_is (is_freed slots p c.index.result.now r within c.index.ensures c.freed-slot.ensures)
