use Rattle.std.proofs.Common.{◌≡◌, ◌-◌, ◌≤◌, ◌++◌, length, vec_len}
use Rattle.vp_lex.specs.Positions.{IsPlace}
use Rattle.vp_lex.specs.Tokens.{scan_of}
use Rattle.vp_lex.proofs.TokenSteps.{scan_left, on_tokens}
use Rattle.vp_lex.proofs.token.scan.Given as goal

abbrev pub invariant-loop-here : goal.invariant-loop-here
invariant-loop-here l = record {
  one_each : vec_len l.tokens ≤ l.here.at;
  place : IsPlace l.text l.here;
  remainder : scan_of l.text ≡ on_tokens (λ more. l.tokens.items ++ more) (scan_left l.text l.here.at l.here.directive);
}

abbrev pub decreases-loop-here : goal.decreases-loop-here
decreases-loop-here l = length l.text - l.here.at
