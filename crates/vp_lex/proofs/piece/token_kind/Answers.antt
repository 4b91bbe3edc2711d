use Rattle.std.proofs.Common.{refl}
use Rattle.vp_lex.specs.Pieces.{Word}
use Rattle.vp_lex.proofs.PieceEnds.{piece_part}
use Rattle.vp_lex.proofs.piece.token_kind.Goals as goal

pub range-requires-clause-start_boundary : goal.range-requires-clause-start_boundary
range-requires-clause-start_boundary c =
    let word = rw c.in-Word.is at c.requires.piece in
    let part = piece_part c.args.text.now c.args.start c.args.end Word c.utf8.text c.requires.within.0 c.requires.within.1 (λ e. absurd cc) word refl in
    λ _. part.before

pub range-requires-clause-end_boundary : goal.range-requires-clause-end_boundary
range-requires-clause-end_boundary c =
    let word = rw c.in-Word.is at c.requires.piece in
    let part = piece_part c.args.text.now c.args.start c.args.end Word c.utf8.text c.requires.within.0 c.requires.within.1 (λ e. absurd cc) word refl in
    part.following
