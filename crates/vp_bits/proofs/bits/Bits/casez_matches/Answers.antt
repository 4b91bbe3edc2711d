use Rattle.std.proofs.Common.{sym}
use Rattle.vp_bits.proofs.Operands.{same_width}
use Rattle.vp_bits.proofs.Comparisons.{casez_matches_stored}
use Rattle.vp_bits.proofs.bits.Bits.casez_matches.Goals as goal

pub returns : goal.returns
returns c =
    let told = casez_matches_stored c.self.inside c.other.inside c.args.self c.args.other c.self.view_is c.other.view_is c.self.invariant c.other.invariant (same_width c.self.inside c.other.inside c.args.self c.args.other c.self.view_is c.other.view_is c.requires) in
    rw (c.and_not-3.ensures, c.and_not.ensures, c.and_not-2.ensures) (sym told)
