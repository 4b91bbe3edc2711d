use Rattle.std.proofs.Common.{◌≡◌, map}
use Rattle.vp_replay.proofs.Numbers.{listed_below}
use Rattle.vp_replay.proofs.names.listed.Given as goal

-- the numbers so far
abbrev pub invariant-loop-number : goal.invariant-loop-number
invariant-loop-number l = map (λ o. o.0) l.ids.items ≡ listed_below l.view l.scope l.number
