use Rattle.std.proofs.Common.{◌≡◌, take}
use Rattle.vp_pragma.specs.Reading.{objects_of}
use Rattle.vp_pragma.proofs.envelope.objects_of.Given as goal

-- the objects of those before
abbrev pub invariant-loop-viewport : goal.invariant-loop-viewport
invariant-loop-viewport l = l.objects.items ≡ objects_of (take l.viewport-index l.viewports)
