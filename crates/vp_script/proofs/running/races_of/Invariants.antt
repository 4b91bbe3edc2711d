use Rattle.std.proofs.Common.{◌≡◌, ◌++◌, length}
use Rattle.vp_script.proofs.running.races_of.Given as goal

-- the races so far, and those that are to come
abbrev pub invariant-loop-finding : goal.invariant-loop-finding
invariant-loop-finding l = l.races.items ++ l.findings.items ≡ l.initial.findings.items

abbrev pub decreases-loop-finding : goal.decreases-loop-finding
decreases-loop-finding l = length l.findings.items
