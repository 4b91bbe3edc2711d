use Rattle.std.proofs.Common.{◌≡◌, ◌++◌, ◌≤◌, drop, length}
use Rattle.vp_vpi.proofs.RaceLists.{told_from}
use Rattle.vp_replay.proofs.races.lines_of.Given as goal

-- the races that are reported so far, and those of what is left
abbrev pub invariant-loop-before : goal.invariant-loop-before
invariant-loop-before l = record {
  told : told_from l.from 0 l.races ≡ l.lines.items ++ told_from l.from l.before (drop l.before l.races);
  few : length l.lines.items ≤ 100;
}
