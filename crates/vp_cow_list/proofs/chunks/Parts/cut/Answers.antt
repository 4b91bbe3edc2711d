use Rattle.std.proofs.Common.{◌∙◌, ◌+◌, ◌-◌, ◌*◌, ◌/◌, ◌<◌, ◌≤◌, length, lit<, arith}
use Rattle.std.proofs.Math.Nat.{mod-lt}
use Rattle.std.proofs.lemmas.Nat.{div-add-mod'}
use Rattle.std.proofs.lemmas.List.{take_all}
use Rattle.vp_cow_list.specs.laws.Chunks.{piece_within, taken_whole, taken_full, piece_length, cut_more, cut_all}
use Rattle.vp_cow_list.proofs.chunks.Parts.cut.Goals.{then-start-list+in_ok-add-2, else-start-list}
use Rattle.vp_cow_list.proofs.chunks.Parts.cut.Goals as goal

pub add-requires : goal.add-requires
add-requires g c =
    let size = g.row.SIZE in
    let from = c.loop-number.number * size in
    let fits : from + size ≤ length c.args.list.now = piece_within size c.loop-number.number (length c.args.list.now) c.loop-number-test.true in
    let long = piece_length c.args.list.now from (from + size) fits in
    (lit< tt, (taken_full size c.loop-number.number c.args.list.now c.loop-number.parts c.loop-number.invariant (omega arith), (omega (arith, long, c.requires.size), (omega (arith, long), c.requires.can_make))))

pub loop-number-preserved : goal.loop-number-preserved
loop-number-preserved g c =
    cut_more g.row.SIZE c.loop-number.number c.args.list.now c.loop-number.parts c.add.new.self c.loop-number.invariant (c.in_ok-add.ensures {u = tt}).added

pub add-requires-then-start-list : goal.add-requires-then-start-list
add-requires-then-start-list g c =
    let size = g.row.SIZE in
    let whole = length c.args.list.now / size in
    let taken = taken_whole size c.loop-number.number whole c.args.list.now c.loop-number.parts c.loop-number.auto.number-end c.loop-number-test.false c.loop-number.invariant in
    let long = piece_length c.args.list.now (whole * size) (length c.args.list.now) (omega arith) in
    let rest : length c.args.list.now - whole * size < size = omega (arith, div-add-mod' (length c.args.list.now) size, mod-lt (length c.args.list.now) c.requires.size) in
    (lit< tt, (taken_full size whole c.args.list.now c.loop-number.parts taken (omega arith), (omega (arith, long), (omega (arith, long), c.requires.can_make))))

pub returns : goal.returns
returns g c =
    let whole = length c.args.list.now / g.row.SIZE in
    let taken = taken_whole g.row.SIZE c.loop-number.number whole c.args.list.now c.loop-number.parts c.loop-number.auto.number-end c.loop-number-test.false c.loop-number.invariant in
    elim c.if-start-list.branch [
      | then-start-list+in_ok-add-2 w ↦ w.parts-is ∙ cut_all (whole * g.row.SIZE) c.args.list.now c.loop-number.parts w.add-then-start-list.new.self taken (w.in_ok-add-2.ensures {u = tt}).added
      | else-start-list w ↦ w.parts-is ∙ taken ∙ take_all (whole * g.row.SIZE) c.args.list.now w.if-start-list.false
    ]
