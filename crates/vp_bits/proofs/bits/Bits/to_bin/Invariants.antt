use Rattle.std.proofs.Common.{◌≡◌, ◌≤◌, length, drop, map, reverse, string_bytes}
use Rattle.vp_bits.specs.Digits.{digit_of}
use Rattle.vp_bits.proofs.bits.Bits.to_bin.Given as goal

-- the digits of the bits from `place` on
abbrev pub invariant-loop-place : goal.invariant-loop-place
invariant-loop-place l = record {
  within : l.place ≤ length l.self;
  written : string_bytes l.digits ≡ map digit_of (reverse (drop l.place l.self));
}

abbrev pub decreases-loop-place : goal.decreases-loop-place
decreases-loop-place l = l.place
