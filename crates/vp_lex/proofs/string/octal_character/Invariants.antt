use Rattle.std.proofs.Common.{◌≡◌, ◌<◌, ◌^◌, ◌-◌, ◌+◌, ◌*◌, fold, drop}
use Rattle.vp_lex.specs.Strings.{octal_number}
use Rattle.vp_lex.proofs.string.octal_character.Given as goal

abbrev pub invariant-loop-digit : goal.invariant-loop-digit
invariant-loop-digit l = record {
  so_far : fold (λ number digit. number * 8 + (digit - 48)) l.number (drop l.digit-index l.digits) ≡ octal_number l.digits;
  small : l.number < 8 ^ l.digit-index;
}
