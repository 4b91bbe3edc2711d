use Rattle.vp_bits.proofs.Vectors.{bits_of-low, bits_of-resized}
use Rattle.vp_bits.proofs.bits.Bits.resize.Goals as goal

pub returns : goal.returns
returns c =
    rw (← c.self.view_is, c.lowest.ensures, c.lowest-2.ensures, bits_of-low c.args.width c.self.inside.aval c.self.inside.bval)
    (bits_of-resized c.args.width c.self.inside.width c.self.inside.aval c.self.inside.bval c.self.invariant.aval_fits c.self.invariant.bval_fits)
