use Rattle.std.proofs.Common.{◌+◌, ◌-◌, ◌^◌, ◌∙◌, ◌<◌, ap, sym, length}
use Rattle.vp_bits.proofs.Numbers.{computed_known, computed_unknown, bits_of_number-wrapped, bits_of_number-borrowed, length_of_view}
use Rattle.vp_bits.proofs.Operands.{same_width}
use Rattle.vp_bits.specs.Arithmetic.{bits_of_number}
use Rattle.vp_bits.proofs.bits.Bits.sub.Goals as goal

pub returns-then-self-other-ne0 : goal.returns-then-self-other-ne0
returns-then-self-other-ne0 c =
    c.unknown.ensures
    ∙ sym (computed_unknown (λ n m. (n + 2 ^ length c.args.self) - m) c.self.inside c.other.inside c.args.self c.args.other c.self.view_is c.other.view_is c.self.invariant c.other.invariant c.if-self-other-ne0.true)

fits : (c : goal.After-of_number) → c.other.inside.aval < 2 ^ c.self.inside.width
fits c =
    rw (← same_width c.self.inside c.other.inside c.args.self c.args.other c.self.view_is c.other.view_is c.requires)
    c.other.invariant.aval_fits

pub returns : goal.returns
returns c =
    c.of_number.ensures
    ∙ bits_of_number-wrapped c.self.inside.width (c.self.inside.aval + (2 ^ 64 - c.other.inside.aval)) c.self.invariant.has_width.1
    ∙ bits_of_number-borrowed c.self.inside.width c.self.inside.aval c.other.inside.aval c.self.invariant.has_width.1 (fits c)
    ∙ ap (λ w. bits_of_number c.self.inside.width ((c.self.inside.aval + 2 ^ w) - c.other.inside.aval)) (sym (length_of_view c.self.inside c.args.self c.self.view_is))
    ∙ sym (computed_known (λ n m. (n + 2 ^ length c.args.self) - m) c.self.inside c.other.inside c.args.self c.args.other c.self.view_is c.other.view_is c.self.invariant c.other.invariant c.if-self-other-ne0.false)
