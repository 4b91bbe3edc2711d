use Rattle.std.proofs.Common.{◌≡◌, ◌^◌, ◌<◌, Some, take, reverse}
use Rattle.vp_bits.specs.Digits.{digits_bits}
use Rattle.vp_bits.specs.Vector.{bits_of}
use Rattle.vp_bits.proofs.bits.Bits.from_bin.Given as goal

-- the vector of the digits so far
abbrev pub invariant-loop-digit : goal.invariant-loop-digit
invariant-loop-digit l = record {
  aval_fits : l.aval < 2 ^ l.digit-index;
  bval_fits : l.bval < 2 ^ l.digit-index;
  read : digits_bits (take l.digit-index l.digits) ≡ Some (reverse (bits_of l.digit-index l.aval l.bval));
}
