use Rattle.std.proofs.Common.{◌≡◌, take}
use Rattle.vp_text.proofs.same.are_same.Given as goal

-- those so far are the same
abbrev pub invariant-loop-place : goal.invariant-loop-place
invariant-loop-place g l = take l.place l.first ≡ take l.place l.second
