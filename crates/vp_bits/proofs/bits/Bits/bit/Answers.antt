use Rattle.std.proofs.Common.{◌<◌, ap, length, arith}
use Rattle.vp_bits.specs.laws.Words.{length-bits_of}
use Rattle.vp_bits.proofs.Vectors.{slice_get-bits_of}
use Rattle.vp_bits.proofs.bits.Bits.bit.Goals as goal

pub overflow_shr-self-inside : goal.overflow_shr-self-inside
overflow_shr-self-inside c = omega (arith, ap length c.self.view_is, length-bits_of c.self.inside.width c.self.inside.aval c.self.inside.bval)

pub overflow_shr-self-inside-2 : goal.overflow_shr-self-inside-2
overflow_shr-self-inside-2 c = omega (arith, ap length c.self.view_is, length-bits_of c.self.inside.width c.self.inside.aval c.self.inside.bval)

pub returns : goal.returns
returns c =
    let within : c.args.place < c.self.inside.width = omega (arith, ap length c.self.view_is, length-bits_of c.self.inside.width c.self.inside.aval c.self.inside.bval) in
    rw (← c.self.view_is, c.from_words.ensures) (slice_get-bits_of c.self.inside.width c.self.inside.aval c.self.inside.bval c.args.place within)
