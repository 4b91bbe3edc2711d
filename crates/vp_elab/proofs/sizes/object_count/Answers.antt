use Rattle.std.proofs.Common.{◌<◌, ◌∙◌, length, arith}
use Rattle.vp_elab.proofs.Counting.{rest_is, top_is}
use Rattle.vp_elab.proofs.sizes.object_count.Goals as goal

pub loop-number-preserved : goal.loop-number-preserved
loop-number-preserved c =
    let number = c.loop-number.number in
    let within : number < length c.args.source.now.modules = omega arith in
    let here = c.top_size.ensures ∙ top_is c.args.source.now c.args.tops.now c.args.sizes.now number c.requires.tops c.requires.sizes within in
    let rest = rest_is c.args.source.now number within in
    let next = c.min-total.ensures in
    let before = c.loop-number.invariant.sum in
    record { few = omega arith; sum = omega arith }
