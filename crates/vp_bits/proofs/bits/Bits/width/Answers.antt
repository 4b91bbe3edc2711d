use Rattle.std.proofs.Common.{sym}
use Rattle.vp_bits.specs.laws.Words.{length-bits_of}
use Rattle.vp_bits.proofs.bits.Bits.width.Goals as goal

pub returns-clause-length : goal.returns-clause-length
returns-clause-length c = rw (← c.self.view_is) (sym (length-bits_of c.self.inside.width c.self.inside.aval c.self.inside.bval))
