-- The tokens of a text stand in it, in order, each with the bytes of its piece.
use Rattle.std.proofs.Common.{◌≡◌, ℕ, ◌+◌, ◌-◌, ◌≤◌, ◌<◌, Bool, false, List, [], ◌∷◌, ◌++◌, length, take, drop, map, Option, Some, None, Ok, inl, inr, refl, sym, ◌∙◌, ap, subst, arith}
use Rattle.std.proofs.Math.Seq.{take-append_seam, drop-append_seam}
use Rattle.std.proofs.lemmas.List.{length-append, append_assoc, append-nil}
use Rattle.vp_lex.specs.declared.error.LexError.{LexError}
use Rattle.vp_lex.specs.declared.token.Token.{Token}
use Rattle.vp_lex.specs.declared.token.TokenKind.{TokenKind}
use Rattle.vp_lex.specs.Pieces.{Piece}
use Rattle.vp_lex.specs.Cuts.{CutTo, Cut, joined}
use Rattle.vp_lex.specs.Tokens.{is_mark, marks, token_kind, token_at, with_token, with_bytes, tokens_following, bytes_of, bytes_of_pieces, AreInOrder, Scan, error_at, told, told_fault, AreTokens}
use Rattle.vp_lex.proofs.CutLaws.{piece_has_byte}

-- a text is its pieces, one after the other, and what is left
pub cut_joins : (text : List ℕ) (pieces : List Piece) (remainder : List ℕ) → CutTo text pieces remainder → text ≡ joined pieces ++ remainder
cut_joins text [] remainder h = h
cut_joins text (piece ∷ pieces) remainder h =
    h.1.splits ∙ ap (λ (x : List ℕ). piece.bytes ++ x) (cut_joins h.0 pieces remainder h.3) ∙ sym (append_assoc piece.bytes (joined pieces) remainder)

pub own_bytes : (before bytes rest : List ℕ) (marked : Bool) (kind : TokenKind) (mark : Bool) → bytes_of (before ++ (bytes ++ rest)) (token_at before marked bytes kind mark) ≡ bytes
own_bytes before bytes rest marked kind mark =
    let long : length before + length bytes - length before ≡ length bytes = omega arith in
    ap (λ (n : ℕ). take n (drop (length before) (before ++ (bytes ++ rest)))) long
    ∙ ap (take (length bytes)) (drop-append_seam before (bytes ++ rest)) ∙ take-append_seam bytes rest

bytes_with : (text before bytes rest : List ℕ) (marked : Bool) (piece : Piece) (kind : Option TokenKind) (tokens : List Token) (others : List (List ℕ)) → text ≡ before ++ (piece.bytes ++ rest) → map (bytes_of text) tokens ≡ others → map (bytes_of text) (with_token before marked piece kind tokens) ≡ with_bytes piece.bytes kind others
bytes_with text before bytes rest marked piece None tokens others e h = h
bytes_with text before bytes rest marked piece (Some kind) tokens others e h =
    let own : bytes_of text (token_at before marked piece.bytes kind (is_mark piece.kind)) ≡ piece.bytes =
    ap (λ (x : List ℕ). bytes_of x (token_at before marked piece.bytes kind (is_mark piece.kind))) e ∙ own_bytes before piece.bytes rest marked kind (is_mark piece.kind) in
    ap (λ (x : List ℕ). x ∷ map (bytes_of text) tokens) own ∙ ap (λ (x : List (List ℕ)). piece.bytes ∷ x) h

bytes_after : (text before : List ℕ) (marked : Bool) (pieces : List Piece) → text ≡ before ++ joined pieces → map (bytes_of text) (tokens_following before marked pieces) ≡ bytes_of_pieces pieces
bytes_after text before marked [] e = refl
bytes_after text before marked (piece ∷ pieces) e =
    bytes_with text before piece.bytes (joined pieces) marked piece (token_kind piece.kind piece.bytes) (tokens_following (before ++ piece.bytes) (marks marked piece) pieces) (bytes_of_pieces pieces) e
    (bytes_after text (before ++ piece.bytes) (marks marked piece) pieces (e ∙ sym (append_assoc before piece.bytes (joined pieces))))

told_of : (o : Option ℕ) (scan : Scan) (tokens : List Token) → told o scan ≡ Ok tokens → (scan.fault ≡ None) × (scan.tokens ≡ tokens)
told_of (Some line) scan tokens h = absurd cc
told_of None scan tokens h = at scan.fault h
  where
    at : (fault : Option LexError) → told_fault fault scan.tokens ≡ Ok tokens → (fault ≡ None) × (scan.tokens ≡ tokens)
    at (Some error) h = absurd cc
    at None h = (refl, cc)

-- the tokens of a text are those of the pieces of its cut
pub of_pieces : (text : List ℕ) (tokens : List Token) → AreTokens text tokens → (pieces : List Piece) × Cut text pieces × (tokens ≡ tokens_following [] false pieces)
of_pieces text tokens h =
    let its = told_of _ h.0 tokens h.2 in
    elim h.1 [
      | inl cut ↦ (cut.0, cut.1, sym its.1 ∙ ap (λ (s : Scan). s.tokens) cut.2)
      | inr refused ↦
          let both : ◌≡◌ {A = Option LexError} None (Some (error_at text refused.0)) = sym its.0 ∙ ap (λ (s : Scan). s.fault) refused.2 in
          absurd cc
    ]

-- the bytes of the tokens are those of the pieces
pub token_bytes : (text : List ℕ) (tokens : List Token) (h : AreTokens text tokens) → map (bytes_of text) tokens ≡ bytes_of_pieces (of_pieces text tokens h).0
token_bytes text tokens h =
    let cut = of_pieces text tokens h in
    ap (map (bytes_of text)) cut.2
    ∙ bytes_after text [] false cut.0 (cut_joins text cut.0 [] cut.1 ∙ append-nil (joined cut.0))

in_order_from : (start other end : ℕ) (tokens : List Token) → start ≤ other → AreInOrder other end tokens → AreInOrder start end tokens
in_order_from start other end [] l h = omega arith
in_order_from start other end (token ∷ tokens) l h = (let first = h.0 in omega arith, h.1, h.2)

order_with : (before : List ℕ) (marked : Bool) (piece : Piece) (end : ℕ) (kind : Option TokenKind) (tokens : List Token) → 0 < length piece.bytes → AreInOrder (length before + length piece.bytes) end tokens → AreInOrder (length before) end (with_token before marked piece kind tokens)
order_with before marked piece end None tokens l h = in_order_from (length before) (length before + length piece.bytes) end tokens (omega arith) h
order_with before marked piece end (Some kind) tokens l h = (omega arith, omega arith, h)

order_after : (before : List ℕ) (marked : Bool) (text : List ℕ) (pieces : List Piece) → Cut text pieces → AreInOrder (length before) (length before + length text) (tokens_following before marked pieces)
order_after before marked text [] h = omega arith
order_after before marked text (piece ∷ pieces) h =
    let long : length (before ++ piece.bytes) ≡ length before + length piece.bytes = length-append before piece.bytes in
    let all : length text ≡ length piece.bytes + length h.0 = ap length h.1.splits ∙ length-append piece.bytes h.0 in
    let more = order_after (before ++ piece.bytes) (marks marked piece) h.0 pieces h.3 in
    let tokens : List Token = tokens_following (before ++ piece.bytes) (marks marked piece) pieces in
    let ends : length (before ++ piece.bytes) + length h.0 ≡ length before + length text = omega arith in
    let more : AreInOrder (length (before ++ piece.bytes)) (length before + length text) tokens = subst (λ (n : ℕ). AreInOrder (length (before ++ piece.bytes)) n tokens) ends more in
    let more : AreInOrder (length before + length piece.bytes) (length before + length text) tokens = subst (λ (n : ℕ). AreInOrder n (length before + length text) tokens) long more in
    order_with before marked piece (length before + length text) (token_kind piece.kind piece.bytes) tokens (piece_has_byte piece.kind piece.bytes h.1.is) more

-- the tokens stand in the text, one after the other
pub tokens_in_order : (text : List ℕ) (tokens : List Token) → AreTokens text tokens → AreInOrder 0 (length text) tokens
tokens_in_order text tokens h =
    let cut = of_pieces text tokens h in
    let e : 0 + length text ≡ length text = omega arith in
    let ordered : AreInOrder 0 (length text) (tokens_following [] false cut.0) = subst (λ (n : ℕ). AreInOrder 0 n (tokens_following [] false cut.0)) e (order_after [] false text cut.0 cut.1) in
    subst (λ (x : List Token). AreInOrder 0 (length text) x) (sym cut.2) ordered
