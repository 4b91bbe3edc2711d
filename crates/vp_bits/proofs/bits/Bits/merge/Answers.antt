use Rattle.std.proofs.Common.{refl}
use Rattle.vp_bits.specs.Tables.{merge_bit}
use Rattle.vp_bits.proofs.Formulas.{Formula, Aval, Bval, OtherAval, OtherBval, Or, Xor}
use Rattle.vp_bits.proofs.Operands.{same_width, stored_by_formulas, made_by_formulas}
use Rattle.vp_bits.proofs.bits.Bits.merge.Goals as goal

abbrev bval : Formula
bval = Or (Or (Xor Aval OtherAval) Bval) OtherBval

abbrev aval : Formula
aval = Or Aval bval

pub invariant_of-result : goal.invariant_of-result
invariant_of-result c =
    stored_by_formulas aval bval c.self.inside c.other.inside c.self.invariant c.other.invariant
    (same_width c.self.inside c.other.inside c.args.self c.args.other c.self.view_is c.other.view_is c.requires)

pub returns : goal.returns
returns c = made_by_formulas aval bval merge_bit refl c.self.inside c.other.inside c.args.self c.args.other c.self.view_is c.other.view_is c.requires
