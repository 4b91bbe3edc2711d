use Rattle.std.proofs.Common.{◌≡◌, ◌∙◌, ◌<◌, ap, arith, get_or, length}
use Rattle.std.specs.Prelude.{slice_set}
use Rattle.std.proofs.lemmas.List.Edits.{map_over_more}
use Rattle.vp_notify.specs.Renumbered.{number_now}
use Rattle.vp_notify.proofs.Rising.{as_many}
use Rattle.vp_vpi.specs.HandleTables.{moved_open}
use Rattle.vp_vpi.specs.declared.session.handle_table.OpenHandle.{OpenHandle}
use Rattle.vp_vpi.proofs.session.handle_table.renumber_opened.Goals as goal

pub loop-place-preserved : goal.loop-place-preserved
loop-place-preserved c =
    let f : OpenHandle → OpenHandle = moved_open (number_now c.args.numbers.now) in
    let so_far = c.loop-place.opened.items in
    let place = c.loop-place.place in
    let here : OpenHandle = c.index.result.now in
    let long : length so_far ≡ length c.args.opened.now.items = as_many f c.args.opened.now.items so_far place c.loop-place.invariant in
    let within : place < length so_far = omega (arith, long) in
    let same : here ≡ get_or so_far place here = c.index.ensures in
    ap (λ (x : OpenHandle). slice_set so_far place x) c.renumbered.ensures ∙ map_over_more f c.args.opened.now.items so_far place here (omega (arith, long, within)) c.loop-place.invariant same
