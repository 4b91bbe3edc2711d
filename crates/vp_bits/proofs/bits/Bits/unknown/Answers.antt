use Rattle.std.proofs.Common.{arith}
use Rattle.vp_bits.proofs.Vectors.{bits_of_ones}
use Rattle.vp_bits.proofs.bits.Bits.unknown.Goals as goal

pub returns : goal.returns
returns c = rw c.ones-all.ensures (bits_of_ones c.args.width c.args.width (omega arith))
