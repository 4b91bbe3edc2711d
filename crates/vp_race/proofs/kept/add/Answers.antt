use Rattle.std.proofs.Common.{◌∙◌, ap, arith, sym}
use Rattle.circular_buffer.specs.Buffer.{Buffer}
use Rattle.vp_race.specs.Recording.{choices_of}
use Rattle.vp_race.specs.Segments.{Run}
use Rattle.vp_race.proofs.Within.{choices_full}
use Rattle.vp_race.proofs.kept.add.Goals as goal

pub returns-in-Some-clause-choices : goal.returns-in-Some-clause-choices
returns-in-Some-clause-choices c =
    let ring = c.args.ring.now in
    let full = choices_full ring.capacity ring.items c.args.segment c.in-Some.oldest (omega (arith, c.len-len.ensures.within.0, c.len-len.ensures.len)) (sym c.in-Some.is ∙ c.push_back.ensures.value) in
    let now = ap (λ (b : Buffer Run). choices_of b.items) c.push_back.ensures.items in
    omega (arith, now, full, c.requires.choices, c.choices.ensures, c.choices-in-Some.ensures)

pub overflow_sub-result : goal.overflow_sub-result
overflow_sub-result c =
    let ring = c.args.ring.now in
    let full = choices_full ring.capacity ring.items c.args.segment c.in-Some.oldest (omega (arith, c.len-len.ensures.within.0, c.len-len.ensures.len)) (sym c.in-Some.is ∙ c.push_back.ensures.value) in
    omega (arith, full, c.requires.choices, c.choices.ensures, c.choices-in-Some.ensures)
