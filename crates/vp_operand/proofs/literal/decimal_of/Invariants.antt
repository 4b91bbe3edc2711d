use Rattle.std.proofs.Common.{◌≡◌, ◌%◌, ◌^◌, take}
use Rattle.std.specs.List.{fold}
use Rattle.vp_operand.specs.LiteralSteps.{number_with}
use Rattle.vp_operand.proofs.literal.decimal_of.Given as goal

-- the number of the digits so far
abbrev pub invariant-loop-byte : goal.invariant-loop-byte
invariant-loop-byte l = l.number ≡ fold number_with 0 (take l.byte-index l.bytes) % 2 ^ 64
