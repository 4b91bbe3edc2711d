use Rattle.std.proofs.Common.{◌≡◌, [], drop}
use Rattle.vp_modules.specs.ModuleRefusals.{repeated}
use Rattle.vp_modules.proofs.drivers.repeated.Given as goal

abbrev pub invariant-loop-place : goal.invariant-loop-place
invariant-loop-place l =
    repeated l.source l.words (drop l.place-index l.places) ≡ repeated l.source [] l.places
