use Rattle.std.proofs.Common.{sym}
use Rattle.vp_bits.proofs.Numbers.{number_of_stored, no_number_of_stored}
use Rattle.vp_bits.proofs.bits.Bits.number.Goals as goal

pub returns-then-self-ne0 : goal.returns-then-self-ne0
returns-then-self-ne0 c = sym (no_number_of_stored c.self.inside c.args.self c.self.view_is c.self.invariant c.if-self-ne0.true)

pub returns : goal.returns
returns c = sym (number_of_stored c.self.inside c.args.self c.self.view_is c.self.invariant c.if-self-ne0.false)
