use Rattle.std.proofs.Common.{◌*◌, ◌∙◌, sym}
use Rattle.vp_bits.proofs.Numbers.{computed_known, computed_unknown, bits_of_number-wrapped}
use Rattle.vp_bits.proofs.bits.Bits.mul.Goals as goal

pub returns-then-self-other-ne0 : goal.returns-then-self-other-ne0
returns-then-self-other-ne0 c =
    c.unknown.ensures
    ∙ sym (computed_unknown (λ n m. n * m) c.self.inside c.other.inside c.args.self c.args.other c.self.view_is c.other.view_is c.self.invariant c.other.invariant c.if-self-other-ne0.true)

pub returns : goal.returns
returns c =
    c.of_number.ensures
    ∙ bits_of_number-wrapped c.self.inside.width (c.self.inside.aval * c.other.inside.aval) c.self.invariant.has_width.1
    ∙ sym (computed_known (λ n m. n * m) c.self.inside c.other.inside c.args.self c.args.other c.self.view_is c.other.view_is c.self.invariant c.other.invariant c.if-self-other-ne0.false)
