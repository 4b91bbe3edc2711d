use Rattle.vp_pragma.proofs.RightBits.{set_of-both}
use Rattle.vp_pragma.proofs.rights.Rights.both.Goals as goal

pub returns : goal.returns
returns c = set_of-both c.args.self.0 c.args.other.0
