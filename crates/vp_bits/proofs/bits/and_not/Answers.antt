use Rattle.vp_bits.proofs.Operands.{and-not_is_xor}
use Rattle.vp_bits.proofs.bits.and_not.Goals as goal

pub returns : goal.returns
returns c = and-not_is_xor 64 c.args.word c.args.other c.ranges.word.fits c.ranges.other.fits
