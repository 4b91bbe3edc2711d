-- The text of each token of a text is its bytes: they may be cut out, since a token begins and ends with an ASCII byte.
use Rattle.std.proofs.Common.{◌≡◌, ℕ, ◌≤◌, Bool, true, false, List, [], ◌∷◌, ◌++◌, length, Option, Some, None, refl, sym, ◌∙◌, ap, arith}
use Rattle.std.specs.Prelude.{IsUtf8, All, slice_range}
use Rattle.std.proofs.lemmas.List.{length-append, append_assoc}
use Rattle.std.proofs.lemmas.List.Elements.{All-nil, All-cons, All-same}
use Rattle.vp_lex.specs.declared.token.Token.{Token}
use Rattle.vp_lex.specs.declared.token.TokenKind.{TokenKind}
use Rattle.vp_lex.specs.Pieces.{PieceKind, Comment, Piece, is_piece, IsRead, unread}
use Rattle.vp_lex.specs.Cuts.{Cut}
use Rattle.vp_lex.specs.Texts.{text_of}
use Rattle.vp_lex.specs.Tokens.{is_mark, marks, token_kind, token_at, with_token, tokens_following, bytes_of, AreTokens}
use Rattle.vp_lex.proofs.CutLaws.{piece_has_byte}
use Rattle.vp_lex.proofs.Parts.{part_there}
use Rattle.vp_lex.proofs.PieceEnds.{piece_part}
use Rattle.vp_lex.proofs.TokenBytes.{own_bytes, of_pieces}

-- the token's text is its bytes
abbrev pub IsItsBytes : List ℕ → Token → Type 0
IsItsBytes text token = text_of text token ≡ bytes_of text token

one_text : (text before rest : List ℕ) (marked : Bool) (piece : Piece) (kind : TokenKind) → IsUtf8 text → text ≡ before ++ (piece.bytes ++ rest) → (piece.kind ≡ Comment → ⊥) → is_piece piece.kind piece.bytes ≡ true → IsRead piece → IsItsBytes text (token_at before marked piece.bytes kind (is_mark piece.kind))
one_text text before rest marked piece kind utf8 e other h r =
    let token : Token = token_at before marked piece.bytes kind (is_mark piece.kind) in
    let own : slice_range text token.start token.end ≡ piece.bytes =
    ap (λ (x : List ℕ). bytes_of x token) e ∙ own_bytes before piece.bytes rest marked kind (is_mark piece.kind) in
    let some = piece_has_byte piece.kind piece.bytes h in
    let within : token.end ≤ length text = omega (arith, ap length e, length-append before (piece.bytes ++ rest), length-append piece.bytes rest) in
    let part = piece_part text token.start token.end piece.kind utf8 (omega arith) within other (ap (is_piece piece.kind) own ∙ h) (ap (unread piece.kind) own ∙ r) in
    part_there text token.start token.end (omega arith) within part.utf8

-- a comment is no token
no_comment : (kind : PieceKind) (bytes : List ℕ) (its : TokenKind) → token_kind kind bytes ≡ Some its → kind ≡ Comment → ⊥
no_comment kind bytes its k e = let none : None ≡ Some its = ap (λ (x : PieceKind). token_kind x bytes) (sym e) ∙ k in absurd cc

texts_with : (text before : List ℕ) (marked : Bool) (piece : Piece) (kind : Option TokenKind) (tokens : List Token) → ((its : TokenKind) → kind ≡ Some its → IsItsBytes text (token_at before marked piece.bytes its (is_mark piece.kind))) → All (IsItsBytes text) tokens → All (IsItsBytes text) (with_token before marked piece kind tokens)
texts_with text before marked piece None tokens one h = h
texts_with text before marked piece (Some its) tokens one h = All-cons (IsItsBytes text) (token_at before marked piece.bytes its (is_mark piece.kind)) tokens (one its refl) h

texts_after : (text before rest : List ℕ) (marked : Bool) (pieces : List Piece) → IsUtf8 text → text ≡ before ++ rest → Cut rest pieces → All (IsItsBytes text) (tokens_following before marked pieces)
texts_after text before rest marked [] utf8 e h = All-nil (IsItsBytes text)
texts_after text before rest marked (piece ∷ pieces) utf8 e h =
    let splits : text ≡ before ++ (piece.bytes ++ h.0) = e ∙ ap (λ (x : List ℕ). before ++ x) h.1.splits in
    let more = texts_after text (before ++ piece.bytes) h.0 (marks marked piece) pieces utf8 (splits ∙ sym (append_assoc before piece.bytes h.0)) h.3 in
    texts_with text before marked piece (token_kind piece.kind piece.bytes) (tokens_following (before ++ piece.bytes) (marks marked piece) pieces) (λ its k. one_text text before h.0 marked piece its utf8 splits (no_comment piece.kind piece.bytes its k) h.1.is h.2) more

-- the text of each of the tokens is its bytes
pub token_texts : (text : List ℕ) (tokens : List Token) → IsUtf8 text → AreTokens text tokens → All (λ token. text_of text token ≡ bytes_of text token) tokens
token_texts text tokens utf8 h =
    let cut = of_pieces text tokens h in
    All-same (IsItsBytes text) tokens (tokens_following [] false cut.0) cut.2 (texts_after text [] text false cut.0 utf8 refl cut.1)
