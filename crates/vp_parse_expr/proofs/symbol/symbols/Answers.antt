use Rattle.std.proofs.Common.{sym, arith}
use Rattle.std.proofs.lemmas.List.{append-nil}
use Rattle.vp_parse_expr.proofs.Seen.{symbols_more}
use Rattle.vp_parse_expr.proofs.symbol.symbols.Goals as goal
use Rattle.vp_parse_expr.proofs.symbol.symbols.Goals.{in-Some+in_ok-push, in_default}

pub loop-place-preserved : goal.loop-place-preserved
loop-place-preserved c =
    let more = symbols_more c.args.text.now c.args.tokens.now c.loop-place.place _ c.symbol_kind.result (omega arith) c.symbol_kind.ensures in
    elim c.match-symbol_kind.branch [
      | in-Some+in_ok-push w ↦ record {
        count = rw w.symbols-is (omega (arith, w.in_ok-push.ensures.len));
        so_far = rw (w.symbols-is, w.in_ok-push.ensures.items, c.loop-place.invariant.so_far) (sym (rw w.in-Some.is at more));
      }
      | in_default w ↦ record {
        count = rw w.symbols-is (omega arith);
        so_far = rw (w.symbols-is, c.loop-place.invariant.so_far) (sym (rw (w.in_default.is, append-nil) at more));
      }
    ]
