use Rattle.std.proofs.Common.{[], ◌∷◌, Some, ◌∙◌, ap, sym}
use Rattle.vp_bits.specs.Comparing.{bit_of_answer}
use Rattle.vp_bits.proofs.Operands.{same_width}
use Rattle.vp_bits.proofs.Comparisons.{same_bits_stored}
use Rattle.vp_bits.proofs.bits.Bits.case_eq.Goals as goal

pub returns : goal.returns
returns c =
    c.of_test.ensures
    ∙ ap (λ test. bit_of_answer (Some test) ∷ [])
    (sym (same_bits_stored c.self.inside c.other.inside c.args.self c.args.other c.self.view_is c.other.view_is c.self.invariant c.other.invariant (same_width c.self.inside c.other.inside c.args.self c.args.other c.self.view_is c.other.view_is c.requires)))
