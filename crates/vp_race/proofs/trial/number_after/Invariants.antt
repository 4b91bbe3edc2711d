use Rattle.std.proofs.Common.{◌≡◌, ◌-◌}
use Rattle.vp_race.specs.Search.{number_after}
use Rattle.vp_race.proofs.trial.number_after.Given as goal

-- the turns that are left lead from here to the same number
abbrev pub invariant-loop-turn : goal.invariant-loop-turn
invariant-loop-turn l = record {
  numbers : number_after l.turns l.number ≡ number_after (l.turns - l._turn) l.after;
}
