use Rattle.std.proofs.Common.{refl}
use Rattle.vp_bits.specs.laws.Words.{aval_of-bits_of, bval_of-bits_of}
use Rattle.vp_bits.proofs.bits.Bits.words.Goals as goal

pub returns-clause-aval : goal.returns-clause-aval
returns-clause-aval c =
    let v = c.self.inside in
    rw (← c.self.view_is, aval_of-bits_of v.width v.aval v.bval c.self.invariant.aval_fits) refl

pub returns-clause-bval : goal.returns-clause-bval
returns-clause-bval c =
    let v = c.self.inside in
    rw (← c.self.view_is, bval_of-bits_of v.width v.aval v.bval c.self.invariant.bval_fits) refl
