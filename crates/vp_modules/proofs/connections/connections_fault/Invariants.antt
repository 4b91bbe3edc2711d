use Rattle.std.proofs.Common.{◌≡◌, [], drop}
use Rattle.vp_source.specs.Places.{earlier}
use Rattle.vp_modules.specs.Refusals.{connections_fault}
use Rattle.vp_modules.proofs.connections.connections_fault.Given as goal

abbrev pub invariant-loop-before : goal.invariant-loop-before
invariant-loop-before l =
    earlier l.first (connections_fault l.source l.outer.module l.target.module l.named l.before (drop l.before l.connections))
    ≡ connections_fault l.source l.outer.module l.target.module [] 0 l.connections
