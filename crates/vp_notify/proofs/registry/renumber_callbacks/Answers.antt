use Rattle.std.proofs.Common.{◌≡◌, ◌∙◌, ◌<◌, ap, arith, get_or, length, sym}
use Rattle.std.specs.Prelude.{slice_set}
use Rattle.std.proofs.lemmas.List.Edits.{map_over_more}
use Rattle.vp_notify.specs.declared.registry.Callback.{Callback}
use Rattle.vp_notify.specs.Renumbered.{moved_callback, number_now}
use Rattle.vp_notify.proofs.Rising.{as_many}
use Rattle.vp_notify.proofs.registry.renumber_callbacks.Goals as goal

pub loop-index-preserved : goal.loop-index-preserved
loop-index-preserved c =
    let f : Callback → Callback = moved_callback (number_now c.args.numbers.now) in
    let so_far = c.loop-index.callbacks.items in
    let index = c.loop-index.index in
    let here : Callback = c.index.result.now in
    let long : length so_far ≡ length c.args.callbacks.now.items = as_many f c.args.callbacks.now.items so_far index c.loop-index.invariant in
    let within : index < length so_far = omega (arith, long) in
    let same : here ≡ get_or so_far index here = c.index.ensures in
    ap (λ (x : Callback). slice_set so_far index x) c.renumbered.ensures ∙ map_over_more f c.args.callbacks.now.items so_far index here (omega (arith, long, within)) c.loop-index.invariant same
