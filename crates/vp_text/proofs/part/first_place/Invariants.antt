use Rattle.std.proofs.Common.{◌≡◌, ◌+◌, ◌==◌, drop}
use Rattle.std.specs.List.{position_or_len}
use Rattle.vp_text.proofs.part.first_place.Given as goal

-- the first place in what is left is that in the whole
abbrev pub invariant-loop-place : goal.invariant-loop-place
invariant-loop-place l = l.place + position_or_len (λ b. b == l.byte) (drop l.place l.bytes) ≡ position_or_len (λ b. b == l.byte) l.bytes
