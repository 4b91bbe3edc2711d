use Rattle.std.proofs.Common.{sym}
use Rattle.vp_lex.proofs.Scans.{directive_at}
use Rattle.vp_lex.proofs.piece.directive_end.Goals as goal

pub returns-then-is_known : goal.returns-then-is_known
returns-then-is_known c =
    let known = directive_at c.args.bytes.now c.args.start c.in-Some.end c.in-Some.ensures.end in
    sym (rw (sym c.if-is_known.ensures) at known)

pub returns-else-is_known : goal.returns-else-is_known
returns-else-is_known c =
    let known = directive_at c.args.bytes.now c.args.start c.in-Some.end c.in-Some.ensures.end in
    sym (rw (sym c.if-is_known.ensures) at known)
