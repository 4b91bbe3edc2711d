use Rattle.std.proofs.Common.{◌≡◌}
use Rattle.vp_elab.specs.Sizes.{sizes_in}
use Rattle.vp_elab.proofs.sizes.sizes_of.Given as goal

abbrev pub invariant-loop-further : goal.invariant-loop-further
invariant-loop-further l = l.sizes.items ≡ sizes_in l.source l._further
