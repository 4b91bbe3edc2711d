use Rattle.std.proofs.Common.{take}
use Rattle.vp_elab.specs.Objects.{AreFirsts}
use Rattle.vp_elab.proofs.first_instances.firsts_of.Given as goal

-- they are the first of the objects so far
abbrev pub invariant-loop-id : goal.invariant-loop-id
invariant-loop-id l = AreFirsts (take l.id l.objects) l.count l.firsts.items
