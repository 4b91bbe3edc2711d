use Rattle.std.proofs.Common.{◌≡◌, take}
use Rattle.vp_replay.proofs.part.copied_races.Given as goal

-- those so far
abbrev pub invariant-loop-race : goal.invariant-loop-race
invariant-loop-race l = l.copies.items ≡ take l.race-index l.races
