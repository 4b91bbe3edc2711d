use Rattle.std.proofs.Common.{arith}
use Rattle.vp_bits.proofs.Vectors.{bits_of_zeros_ones}
use Rattle.vp_bits.proofs.bits.Bits.high_impedance.Goals as goal

pub returns : goal.returns
returns c = rw c.ones.ensures (bits_of_zeros_ones c.args.width c.args.width (omega arith))
