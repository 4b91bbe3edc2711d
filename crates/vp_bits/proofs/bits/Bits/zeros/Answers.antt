use Rattle.vp_bits.proofs.Vectors.{bits_of_zeros}
use Rattle.vp_bits.proofs.bits.Bits.zeros.Goals as goal

pub returns : goal.returns
returns c = bits_of_zeros c.args.width
