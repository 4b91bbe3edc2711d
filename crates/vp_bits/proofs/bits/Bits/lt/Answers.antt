use Rattle.std.proofs.Common.{◌∙◌, ap, sym, nat_lt, [], ◌∷◌}
use Rattle.vp_bits.specs.Comparing.{bit_of_answer}
use Rattle.vp_bits.proofs.Numbers.{with_numbers_known, with_numbers_unknown}
use Rattle.vp_bits.proofs.bits.Bits.lt.Goals as goal

pub returns-then-self-other-ne0 : goal.returns-then-self-other-ne0
returns-then-self-other-ne0 c =
    c.of_bit.ensures
    ∙ ap (λ answer. bit_of_answer answer ∷ []) (sym (with_numbers_unknown nat_lt c.self.inside c.other.inside c.args.self c.args.other c.self.view_is c.other.view_is c.self.invariant c.other.invariant c.if-self-other-ne0.true))

pub returns : goal.returns
returns c =
    c.of_test.ensures
    ∙ ap (λ answer. bit_of_answer answer ∷ []) (sym (with_numbers_known nat_lt c.self.inside c.other.inside c.args.self c.args.other c.self.view_is c.other.view_is c.self.invariant c.other.invariant c.if-self-other-ne0.false))
