use Rattle.std.proofs.Common.{◌≡◌, ◌++◌, drop}
use Rattle.vp_modules.specs.ModuleRefusals.{driven_through}
use Rattle.vp_modules.proofs.drivers.add_driven.Given as goal

abbrev pub invariant-loop-before : goal.invariant-loop-before
invariant-loop-before l =
    l.places.items ++ driven_through l.source l.target.module l.before (drop l.before l.connections) ≡ l.initial.places.items ++ driven_through l.source l.target.module 0 l.connections
