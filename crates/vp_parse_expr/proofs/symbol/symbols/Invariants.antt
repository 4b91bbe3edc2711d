use Rattle.std.proofs.Common.{◌≡◌, ◌≤◌, take, vec_len}
use Rattle.vp_parse_expr.specs.Symbols.{symbols_of}
use Rattle.vp_parse_expr.proofs.symbol.symbols.Given as goal

abbrev pub invariant-loop-place : goal.invariant-loop-place
invariant-loop-place l = record {
  count : vec_len l.symbols ≤ l.place;
  so_far : l.symbols.items ≡ symbols_of l.text (take l.place l.tokens);
}
