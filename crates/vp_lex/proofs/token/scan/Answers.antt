use Rattle.std.proofs.Common.{◌≡◌, ◌≤◌, ◌++◌, drop, vec_len, sym, arith}
use Rattle.std.specs.Prelude.{option_to_list, slice_range}
use Rattle.std.proofs.lemmas.List.{append-nil}
use Rattle.vp_lex.specs.Scanning.{kind_of}
use Rattle.vp_lex.proofs.TokenSteps.{left_moved, first_is_piece}
use Rattle.vp_lex.proofs.token.scan.Goals as goal
use Rattle.vp_lex.proofs.token.scan.Goals.{in-Some+in_ok-push, in_default}

pub token-requires-clause-piece : goal.token-requires-clause-piece
token-requires-clause-piece c =
    let first = rw c.as_bytes-bytes.ensures.value at c.in-Ok.ensures.ok in
    first_is_piece (drop c.loop-here.here.at c.args.text.now) (record { kind = kind_of c.in-Ok.found.0; bytes = slice_range c.args.text.now c.loop-here.here.at c.in-Ok.found.1 }) first

pub loop-here-preserved : goal.loop-here-preserved
loop-here-preserved c =
    let same = c.as_bytes-bytes.ensures.value in
    let first = rw same at c.in-Ok.ensures.ok in
    let within = rw same at c.in-Ok.ensures.within in
    let place = rw same at c.moved_on-here.ensures.place in
    let directive = rw same at c.moved_on-here.ensures.directive in
    let pushed : c.match-token.tokens.items ≡ c.loop-here.tokens.items ++ option_to_list c.token.result =
    elim c.match-token.branch [
      | in-Some+in_ok-push w ↦ rw (w.tokens-is, w.in-Some.is) w.in_ok-push.ensures.items
      | in_default w ↦ rw (w.tokens-is, w.in_default.is) (sym (append-nil c.loop-here.tokens.items))
    ] in
    let remainder = left_moved c.args.text.now c.loop-here.here.at c.in-Ok.found.1 c.loop-here.here.directive (kind_of c.in-Ok.found.0) c.loop-here.tokens.items within.0 within.1 first c.loop-here.invariant.remainder c.token.result c.match-token.tokens.items c.moved_on-here.result.at c.moved_on-here.result.directive c.token.ensures pushed c.moved_on-here.ensures.at directive in
    let one_each : vec_len c.match-token.tokens ≤ c.moved_on-here.result.at =
    elim c.match-token.branch [
      | in-Some+in_ok-push w ↦ let one = w.in_ok-push.ensures.len in rw w.tokens-is (omega (arith, one, within.0))
      | in_default w ↦ rw w.tokens-is (omega (arith, within.0))
    ] in
    record { one_each = one_each; place = place; remainder = remainder }
