use Rattle.std.proofs.Common.{◌≡◌, ◌∙◌, ◌*◌, ℕ, Bool, [], false, ap, cond, eqb, subst, arith, drop, ne_eqb}
use Rattle.std.specs.Prelude.{slice_get}
use Rattle.vp_active_events.specs.Slots.{AreBlocksCounted, SlotsKept, count_empty, ready_from}
use Rattle.vp_active_events.proofs.Places.{blocks_after}
use Rattle.vp_active_events.proofs.slots.ActiveSlots.block_of.Goals as goal

pub returns : goal.returns
returns c =
    let slots = c.self.inside.slots.items in
    let cs = c.self.inside.counts in
    let n = c.find-block.result.0 in
    let left = c.find-block.result.1 in
    let same = ap (λ (v : SlotsKept). count_empty v.slots) c.self.view_is in
    let some : eqb c.self.inside.empty 0 ≡ false = ne_eqb c.self.inside.empty 0 (omega (arith, same)) in
    let P : Bool → Type 0 = λ b. AreBlocksCounted (cond b [] slots) cs in
    let counted : AreBlocksCounted slots cs = subst P some c.self.invariant.blocks_counted in
    let found = blocks_after slots cs c.args.k n left counted c.find-block.ensures.within c.find-block.ensures.sum in
    let times : n * 16 ≡ 16 * n = omega arith in
    let Q : SlotsKept → Type 0 = λ v. slice_get (ready_from (n * 16) (drop (n * 16) v.slots)) left ≡ slice_get (ready_from 0 v.slots) c.args.k in
    subst Q c.self.view_is (ap (λ (m : ℕ). slice_get (ready_from m (drop m slots)) left) times ∙ found)
