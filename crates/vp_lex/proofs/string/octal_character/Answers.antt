use Rattle.std.proofs.Common.{◌<◌, arith}
use Rattle.vp_lex.proofs.StringLaws.{power_small, small_scalar}
use Rattle.vp_lex.proofs.string.octal_character.Goals as goal

pub returns-in-None : goal.returns-in-None
returns-in-None c =
    let power = power_small c.loop-digit.digit-index (omega (arith, c.requires.few)) in
    let small : c.loop-digit.number < 512 = omega (arith, c.loop-digit.invariant.small, power) in
    absurd (c.in-None.ensures.value (small_scalar c.loop-digit.number small))
