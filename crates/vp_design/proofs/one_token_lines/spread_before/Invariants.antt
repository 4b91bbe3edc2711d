use Rattle.std.proofs.Common.{◌≡◌, ◌++◌, drop, string_bytes}
use Rattle.vp_design.specs.Spreading.{spread_from}
use Rattle.vp_design.proofs.one_token_lines.spread_before.Given as goal

abbrev pub invariant-loop-token : goal.invariant-loop-token
invariant-loop-token l =
    string_bytes l.lines ++ spread_from l.text l.at (drop l.token-index l.tokens) ≡ spread_from l.text 0 l.tokens
