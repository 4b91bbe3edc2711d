use Rattle.std.proofs.Common.{◌≡◌, ◌∙◌, ap, sym, arith, length}
use Rattle.std.specs.Prelude.{slice_get}
use Rattle.std.specs.List.{count_by}
use Rattle.std.proofs.lemmas.Option.{slice_get-get_or, slice_get_past}
use Rattle.vp_active_events.specs.declared.slot.Slot.TheVariants.{Empty}
use Rattle.vp_active_events.specs.Slots.{SlotsKept, is_ready, ready_from}
use Rattle.vp_active_events.proofs.Places.{all_ready_at, count_kinds}
use Rattle.vp_active_events.proofs.slots.ActiveSlots.find.Goals as goal

pub returns-then-k-len : goal.returns-then-k-len
returns-then-k-len c =
    let slots = c.self.inside.slots.items in
    let k = c.args.k in
    let all : count_by is_ready slots ≡ length slots = omega (arith, count_kinds slots) in
    sym (all_ready_at slots k _ all (slice_get-get_or slots k Empty (omega arith)))
    ∙ ap (λ (v : SlotsKept). slice_get (ready_from 0 v.slots) k) c.self.view_is

pub returns-else-k-len : goal.returns-else-k-len
returns-else-k-len c =
    let slots = c.self.inside.slots.items in
    let k = c.args.k in
    let all : count_by is_ready slots ≡ length slots = omega (arith, count_kinds slots) in
    sym (all_ready_at slots k _ all (slice_get_past slots k (omega arith)))
    ∙ ap (λ (v : SlotsKept). slice_get (ready_from 0 v.slots) k) c.self.view_is
