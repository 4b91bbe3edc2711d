use Rattle.std.proofs.Common.{◌≡◌, drop, replicate}
use Rattle.std.specs.List.{filter_map, fold}
use Rattle.vp_operand.specs.Literals.{digit_at, pad_of}
use Rattle.vp_operand.specs.LiteralSteps.{with_byte}
use Rattle.vp_operand.proofs.literal.sized_bits.Given as goal

-- the digits that are left make of the vector so far what all make of the padding
abbrev pub invariant-loop-byte : goal.invariant-loop-byte
invariant-loop-byte l = fold (with_byte l.width) l.value (drop l.byte-index l.bytes) ≡ fold (with_byte l.width) (replicate l.fn.size (pad_of (filter_map digit_at l.bytes))) l.bytes
