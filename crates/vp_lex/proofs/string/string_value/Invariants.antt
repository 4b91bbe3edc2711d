use Rattle.std.proofs.Common.{◌≡◌, ◌-◌, ◌≤◌, ◌++◌, length, drop}
use Rattle.std.specs.Prelude.{string_bytes}
use Rattle.std.specs.Str.{encode_utf8_all}
use Rattle.vp_lex.specs.Strings.{value_after}
use Rattle.vp_lex.proofs.string.string_value.Given as goal

abbrev pub invariant-loop-at : goal.invariant-loop-at
invariant-loop-at l = record {
  within : l.at ≤ length l.inner;
  so_far : string_bytes l.value ++ encode_utf8_all (value_after 0 (drop l.at l.inner)) ≡ encode_utf8_all (value_after 0 l.inner);
}

abbrev pub decreases-loop-at : goal.decreases-loop-at
decreases-loop-at l = length l.inner - l.at
