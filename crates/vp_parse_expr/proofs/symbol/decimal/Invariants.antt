use Rattle.std.proofs.Common.{◌≡◌, take}
use Rattle.vp_parse_expr.specs.Symbols.{decimal_value}
use Rattle.vp_parse_expr.proofs.symbol.decimal.Given as goal

abbrev pub invariant-loop-byte : goal.invariant-loop-byte
invariant-loop-byte l = l.value ≡ decimal_value (take l.byte-index l.byte-items)
