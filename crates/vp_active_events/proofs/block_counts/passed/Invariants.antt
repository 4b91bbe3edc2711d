use Rattle.std.proofs.Common.{◌≡◌, ◌+◌, take}
use Rattle.std.specs.List.{sum}
use Rattle.vp_active_events.proofs.block_counts.passed.Given as goal

-- the counts so far and what is left come to the same
abbrev pub invariant-loop-place : goal.invariant-loop-place
invariant-loop-place l = sum (take l.place l.counts) + l.left ≡ sum (take l.start l.counts) + l.fn.number
