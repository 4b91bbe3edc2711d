use Rattle.std.proofs.Common.{◌≡◌, drop}
use Rattle.std.specs.Prelude.{slice_get}
use Rattle.std.specs.List.{filter_map}
use Rattle.vp_operand.specs.Literals.{digit_at}
use Rattle.vp_operand.proofs.literal.first_digit.Given as goal

-- none of the bytes so far stands for a digit
abbrev pub invariant-loop-byte : goal.invariant-loop-byte
invariant-loop-byte l = slice_get (filter_map digit_at (drop l.byte-index l.bytes)) 0 ≡ slice_get (filter_map digit_at l.bytes) 0
