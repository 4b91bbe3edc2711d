use Rattle.std.proofs.Common.{◌∙◌, refl}
use Rattle.vp_bits.proofs.Comparisons.{above, not_above, or_of_all_words}
use Rattle.vp_bits.proofs.bits.Bits.reduce_or.Goals as goal

pub returns-then-and_not-ne0 : goal.returns-then-and_not-ne0
returns-then-and_not-ne0 c =
    c.of_bit.ensures
    ∙ rw (or_of_all_words c.self.inside c.args.self c.self.view_is c.self.invariant, ← c.and_not.ensures, above c.and_not.result c.if-and_not-ne0.true) refl

pub returns-then-self-ne0 : goal.returns-then-self-ne0
returns-then-self-ne0 c =
    c.of_bit-then-self-ne0.ensures
    ∙ rw (
      or_of_all_words c.self.inside c.args.self c.self.view_is c.self.invariant,
      ← c.and_not.ensures,
      not_above c.and_not.result c.if-and_not-ne0.false,
      above c.self.inside.bval c.if-self-ne0.true,
    )
    refl

pub returns : goal.returns
returns c =
    c.of_bit-2.ensures
    ∙ rw (
      or_of_all_words c.self.inside c.args.self c.self.view_is c.self.invariant,
      ← c.and_not.ensures,
      not_above c.and_not.result c.if-and_not-ne0.false,
      not_above c.self.inside.bval c.if-self-ne0.false,
    )
    refl
