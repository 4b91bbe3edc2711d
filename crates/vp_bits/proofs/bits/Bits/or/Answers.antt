use Rattle.std.proofs.Common.{refl}
use Rattle.vp_bits.specs.Tables.{or_bit}
use Rattle.vp_bits.proofs.Formulas.{Formula, Aval, Bval, OtherAval, OtherBval, And, Or, Xor}
use Rattle.vp_bits.proofs.Operands.{same_width, stored_by_formulas, made_by_formulas}
use Rattle.vp_bits.proofs.bits.Bits.or.Goals as goal

abbrev unknown : Formula
unknown = Or Bval OtherBval

abbrev ones : Formula
ones = Or (Xor Aval (And Aval Bval)) (Xor OtherAval (And OtherAval OtherBval))

abbrev aval : Formula
aval = Or ones unknown

abbrev bval : Formula
bval = Xor unknown (And unknown ones)

pub invariant_of-result : goal.invariant_of-result
invariant_of-result c =
    rw (c.and_not-3.ensures, c.and_not.ensures, c.and_not-2.ensures) (stored_by_formulas aval bval c.self.inside c.other.inside c.self.invariant c.other.invariant
    (same_width c.self.inside c.other.inside c.args.self c.args.other c.self.view_is c.other.view_is c.requires))

pub returns : goal.returns
returns c = rw (c.and_not-3.ensures, c.and_not.ensures, c.and_not-2.ensures) (made_by_formulas aval bval or_bit refl c.self.inside c.other.inside c.args.self c.args.other c.self.view_is c.other.view_is c.requires)
