use Rattle.std.proofs.lemmas.Nat.{and_mask}
use Rattle.vp_bits.proofs.bits.lowest.Goals as goal

pub returns : goal.returns
returns c = rw c.ones.ensures (and_mask c.args.word c.args.width)
