use Rattle.std.proofs.Common.{◌≡◌, drop}
use Rattle.vp_source.specs.Places.{earlier, earliest}
use Rattle.vp_modules.specs.Refusals.{instance_fault}
use Rattle.vp_modules.proofs.connections.bad_connection.Given as goal

abbrev pub invariant-loop-item : goal.invariant-loop-item
invariant-loop-item l =
    earlier l.first (earliest (instance_fault l.source l.outer.module) (drop l.item-index l.item-items)) ≡ earliest (instance_fault l.source l.outer.module) l.item-items
