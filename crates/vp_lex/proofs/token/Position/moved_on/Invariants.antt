use Rattle.std.proofs.Common.{◌≡◌, ◌-◌, ◌≤◌}
use Rattle.std.specs.Prelude.{◌&&◌, ◌||◌, not, slice_range}
use Rattle.std.specs.List.{list_all}
use Rattle.vp_lex.specs.Bytes.{is_newline}
use Rattle.vp_lex.specs.Positions.{IsPlace}
use Rattle.vp_lex.specs.Scanning.{kind_of}
use Rattle.vp_lex.specs.Tokens.{is_mark}
use Rattle.vp_lex.proofs.token.Position.moved_on.Given as goal

abbrev pub invariant-loop-here : goal.invariant-loop-here
invariant-loop-here l = record {
  begun : l.fn.self.at ≤ l.here.at;
  within : l.here.at ≤ l.end;
  place : IsPlace l.bytes l.here;
  directive : l.here.directive ≡ ((is_mark (kind_of l.fn.kind) || l.fn.self.directive) && list_all (λ byte. not (is_newline byte)) (slice_range l.bytes l.fn.self.at l.here.at));
}

abbrev pub decreases-loop-here : goal.decreases-loop-here
decreases-loop-here l = l.end - l.here.at
