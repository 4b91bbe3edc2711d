use Rattle.std.proofs.Common.{refl}
use Rattle.vp_elab.specs.Elaboration.{further_limit}
use Rattle.vp_elab.proofs.sizes.further_limit.Goals as goal

pub returns : goal.returns
unfolding further_limit
returns c = refl
