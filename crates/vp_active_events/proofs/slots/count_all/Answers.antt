use Rattle.std.proofs.Common.{◌∙◌, ◌/◌, ◌+◌, ap, arith, cond, get_or, length, set, take}
use Rattle.std.proofs.lemmas.List.{length-set}
use Rattle.vp_active_events.proofs.Blocks.{block_few, blocks_more}
use Rattle.vp_active_events.proofs.slots.count_all.Goals as goal

pub count_slot-requires : goal.count_slot-requires
count_slot-requires c =
    let p = c.loop-place.place in
    let counted = c.loop-place.invariant.counted (p / 16) in
    omega (arith, counted, block_few (p / 16) (take p c.args.slots.now.items))

pub loop-place-preserved : goal.loop-place-preserved
loop-place-preserved c =
    let slots = c.args.slots.now.items in
    let p = c.loop-place.place in
    let so_far = c.loop-place.invariant in
    record {
      counted = blocks_more slots p c.index.result.now _ _ so_far.counted (omega arith) c.index.ensures (omega arith) (c.count_slot.ensures ∙ ap (λ t. set c.loop-place.counts (p / 16) (get_or c.loop-place.counts (p / 16) 0 + cond t 1 0)) c.is_ready.ensures);
      len = ap length c.count_slot.ensures ∙ length-set _ _ _ ∙ so_far.len;
    }
