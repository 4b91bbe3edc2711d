use Rattle.std.proofs.Common.{◌≡◌, ◌+◌, ◌-◌, ◌≤◌, length, drop, take_while}
use Rattle.vp_lex.specs.Strings.{is_octal}
use Rattle.vp_lex.proofs.string.octal_len.Given as goal

abbrev pub invariant-loop-end : goal.invariant-loop-end
invariant-loop-end l = record {
  within : l.end ≤ length l.characters;
  so_far : length (take_while is_octal l.characters) ≡ l.end + length (take_while is_octal (drop l.end l.characters));
}

abbrev pub decreases-loop-end : goal.decreases-loop-end
decreases-loop-end l = length l.characters - l.end
