use Rattle.std.proofs.Common.{◌∙◌, ap, sym}
use Rattle.vp_bits.specs.Arithmetic.{bits_of_number}
use Rattle.vp_bits.proofs.Comparisons.{xor_of_all_unknown, xor_of_all_known}
use Rattle.vp_bits.proofs.bits.Bits.reduce_xor.Goals as goal

pub returns-then-self-ne0 : goal.returns-then-self-ne0
returns-then-self-ne0 c =
    c.of_bit.ensures ∙ sym (xor_of_all_unknown c.self.inside c.args.self c.self.view_is c.self.invariant c.if-self-ne0.true)

pub returns : goal.returns
returns c =
    c.of_number.ensures
    ∙ ap (bits_of_number 1) c.from.ensures
    ∙ sym (xor_of_all_known c.self.inside c.args.self c.self.view_is c.self.invariant c.if-self-ne0.false)
