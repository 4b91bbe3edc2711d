use Rattle.vp_bits.proofs.Operands.{negated_words, negated_below}
use Rattle.vp_bits.proofs.bits.Bits.not.Goals as goal

pub invariant_of-result : goal.invariant_of-result
invariant_of-result c =
    rw c.ones.ensures
    record {
      has_width = c.self.invariant.has_width;
      aval_fits = negated_below c.self.inside.width c.self.inside.aval c.self.inside.bval c.self.invariant.aval_fits c.self.invariant.bval_fits;
      bval_fits = c.self.invariant.bval_fits;
    }

pub returns : goal.returns
returns c = rw (← c.self.view_is, c.ones.ensures) (negated_words c.self.inside.width c.self.inside.aval c.self.inside.bval)
