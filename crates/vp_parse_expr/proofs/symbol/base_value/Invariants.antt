use Rattle.std.proofs.Common.{◌≡◌, take}
use Rattle.vp_parse_expr.specs.Symbols.{base_value}
use Rattle.vp_parse_expr.proofs.symbol.base_value.Given as goal

abbrev pub invariant-loop-byte : goal.invariant-loop-byte
invariant-loop-byte l = l.value ≡ base_value l.radix (take l.byte-index l.digits)
