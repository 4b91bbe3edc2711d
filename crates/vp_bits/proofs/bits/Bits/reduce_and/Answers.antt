use Rattle.std.proofs.Common.{◌∙◌, refl}
use Rattle.std.specs.Int.Bits.{bit_or, bit_xor}
use Rattle.vp_bits.proofs.Comparisons.{above, not_above, and_of_all_words}
use Rattle.vp_bits.proofs.bits.Bits.reduce_and.Goals as goal

pub returns-then-zeros-ne0 : goal.returns-then-zeros-ne0
returns-then-zeros-ne0 c =
    c.of_bit.ensures
    ∙ rw (
      and_of_all_words c.self.inside c.args.self c.self.view_is c.self.invariant,
      ← c.ones.ensures,
      above (bit_xor (bit_or c.self.inside.aval c.self.inside.bval) c.ones.result) c.if-zeros-ne0.true,
    )
    refl

pub returns-then-self-ne0 : goal.returns-then-self-ne0
returns-then-self-ne0 c =
    c.of_bit-then-self-ne0.ensures
    ∙ rw (
      and_of_all_words c.self.inside c.args.self c.self.view_is c.self.invariant,
      ← c.ones.ensures,
      not_above (bit_xor (bit_or c.self.inside.aval c.self.inside.bval) c.ones.result) c.if-zeros-ne0.false,
      above c.self.inside.bval c.if-self-ne0.true,
    )
    refl

pub returns : goal.returns
returns c =
    c.of_bit-2.ensures
    ∙ rw (
      and_of_all_words c.self.inside c.args.self c.self.view_is c.self.invariant,
      ← c.ones.ensures,
      not_above (bit_xor (bit_or c.self.inside.aval c.self.inside.bval) c.ones.result) c.if-zeros-ne0.false,
      not_above c.self.inside.bval c.if-self-ne0.false,
    )
    refl
