use Rattle.std.proofs.Common.{◌≡◌, ◌++◌, ◌≤◌, drop}
use Rattle.vp_policy.specs.SeenObjects.{numbers_from}
use Rattle.vp_audit.proofs.reading.numbers_of.Given as goal

-- the numbers so far, and those of the objects that remain
abbrev pub invariant-loop-number : goal.invariant-loop-number
invariant-loop-number l = record {
  numbers : numbers_from 0 l.marks ≡ l.numbers.items ++ numbers_from l.count (drop l.number l.marks);
  few : l.count ≤ l.number;
}
