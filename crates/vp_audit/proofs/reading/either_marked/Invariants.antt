use Rattle.std.proofs.Common.{◌≡◌, ◌++◌, drop}
use Rattle.vp_audit.specs.Readings.{either_marked}
use Rattle.vp_audit.proofs.reading.either_marked.Given as goal

-- the marks so far, and those of the objects that remain
abbrev pub invariant-loop-index : goal.invariant-loop-index
invariant-loop-index l = either_marked l.first l.second ≡ l.marks.items ++ either_marked (drop l.index l.first) (drop l.index l.second)
