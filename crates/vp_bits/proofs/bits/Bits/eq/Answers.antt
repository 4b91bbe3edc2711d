use Rattle.std.proofs.Common.{◌∙◌, refl}
use Rattle.std.specs.Int.Bits.{bit_or}
use Rattle.vp_bits.proofs.Operands.{same_width}
use Rattle.vp_bits.proofs.Comparisons.{above, not_above, equal_words}
use Rattle.vp_bits.proofs.bits.Bits.eq.Goals as goal

pub returns-then-and_not-ne0 : goal.returns-then-and_not-ne0
returns-then-and_not-ne0 c =
    c.of_bit.ensures
    ∙ rw (
      equal_words c.self.inside c.other.inside c.args.self c.args.other c.self.view_is c.other.view_is c.self.invariant c.other.invariant (same_width c.self.inside c.other.inside c.args.self c.args.other c.self.view_is c.other.view_is c.requires),
      ← c.and_not.ensures,
      above c.and_not.result c.if-and_not-ne0.true,
    )
    refl

pub returns-then-unknown-ne0 : goal.returns-then-unknown-ne0
returns-then-unknown-ne0 c =
    c.of_bit-then-unknown-ne0.ensures
    ∙ rw (
      equal_words c.self.inside c.other.inside c.args.self c.args.other c.self.view_is c.other.view_is c.self.invariant c.other.invariant (same_width c.self.inside c.other.inside c.args.self c.args.other c.self.view_is c.other.view_is c.requires),
      ← c.and_not.ensures,
      not_above c.and_not.result c.if-and_not-ne0.false,
      above (bit_or c.self.inside.bval c.other.inside.bval) c.if-unknown-ne0.true,
    )
    refl

pub returns : goal.returns
returns c =
    c.of_bit-2.ensures
    ∙ rw (
      equal_words c.self.inside c.other.inside c.args.self c.args.other c.self.view_is c.other.view_is c.self.invariant c.other.invariant (same_width c.self.inside c.other.inside c.args.self c.args.other c.self.view_is c.other.view_is c.requires),
      ← c.and_not.ensures,
      not_above c.and_not.result c.if-and_not-ne0.false,
      not_above (bit_or c.self.inside.bval c.other.inside.bval) c.if-unknown-ne0.false,
    )
    refl
