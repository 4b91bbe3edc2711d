use Rattle.vp_pragma.proofs.RightBits.{set_of-either}
use Rattle.vp_pragma.proofs.rights.Rights.either.Goals as goal

pub returns : goal.returns
returns c = set_of-either c.args.self.0 c.args.other.0
