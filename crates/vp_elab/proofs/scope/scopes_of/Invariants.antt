use Rattle.std.proofs.Common.{◌≡◌, map, take}
use Rattle.vp_elab.specs.Objects.{declared_in}
use Rattle.vp_elab.proofs.scope.scopes_of.Given as goal

abbrev pub invariant-loop-number : goal.invariant-loop-number
invariant-loop-number l = l.scopes.items ≡ map (declared_in l.source l.envelopes) (take l.number l.module-items)
