-- The tokens of what is left of a text after a place, and how they go on by one piece: what a loop over the text keeps.
use Rattle.std.proofs.Common.{◌≡◌, ℕ, ◌+◌, ◌-◌, ◌<◌, ◌≤◌, Bool, true, false, List, [], ◌∷◌, ◌++◌, length, take, drop, Option, Some, None, Result, Ok, Err, refl, sym, ◌∙◌, ap, arith}
use Rattle.std.proofs.Math.Seq.{take-add, take-append_seam}
use Rattle.std.specs.Prelude.{option_map, option_to_list, slice_range}
use Rattle.std.proofs.lemmas.List.{drop-drop, append_assoc, append-nil, length-take, length-drop}
use Rattle.vp_lex.specs.declared.piece.Fault.{Fault}
use Rattle.vp_lex.specs.declared.token.Token.{Token}
use Rattle.vp_lex.specs.declared.token.TokenKind.{TokenKind}
use Rattle.vp_lex.specs.Pieces.{PieceKind, Piece, is_piece}
use Rattle.vp_lex.specs.Cuts.{Refusal}
use Rattle.vp_lex.specs.Cutting.{first_piece, on_piece, following_piece, cut_from}
use Rattle.vp_lex.specs.Tokens.{error_of, line_after, is_mark, marks, token_kind, token_at, with_token, Scan, scanned, scan_of}
use Rattle.vp_lex.proofs.CutLaws.{first_piece_found}
use Rattle.vp_lex.proofs.Complete.{cut_more}

-- what is read of what is left of a text after so many bytes
abbrev pub scan_left : List ℕ → ℕ → Bool → Scan
scan_left text at marked = scanned text (take at text) marked (cut_from (length (drop at text)) at (drop at text))

-- with more tokens
abbrev pub on_tokens : (List Token → List Token) → Scan → Scan
on_tokens more scan = record { tokens = more scan.tokens; fault = scan.fault }

-- at the beginning all is left
pub all_left : (text : List ℕ) → scan_of text ≡ scan_left text 0 false
all_left text = refl

-- at the end nothing is left
pub none_left : (text : List ℕ) (at : ℕ) (marked : Bool) → drop at text ≡ [] → scan_left text at marked ≡ record { tokens = []; fault = None }
none_left text at marked e = ap (λ (x : List ℕ). scanned text (take at text) marked (cut_from (length x) at x)) e

on_fault : (text : List ℕ) (at : ℕ) (marked : Bool) (rest before : List ℕ) (fault : Fault) → 1 ≤ length rest → first_piece rest ≡ Err fault → scanned text before marked (cut_from (length rest) at rest) ≡ record { tokens = []; fault = Some (error_of fault (line_after (take at text))) }
on_fault text at marked [] before fault l e = absurd (omega arith)
on_fault text at marked (b ∷ bytes) before fault l e =
    let next : Piece → Result (List Piece) Refusal = λ piece. following_piece piece (cut_from (length bytes) (at + length piece.bytes) (drop (length piece.bytes) (b ∷ bytes))) in
    ap (λ (r : Result Piece Fault). scanned text before marked (on_piece at r next)) e

-- where no piece is read, its fault is reported, by the line
pub fault_left : (text : List ℕ) (at : ℕ) (marked : Bool) (fault : Fault) → 1 ≤ length (drop at text) → first_piece (drop at text) ≡ Err fault → scan_left text at marked ≡ record { tokens = []; fault = Some (error_of fault (line_after (take at text))) }
fault_left text at marked fault l e = on_fault text at marked (drop at text) (take at text) fault l e

after_piece : (text before : List ℕ) (marked : Bool) (piece : Piece) (r : Result (List Piece) Refusal) → scanned text before marked (following_piece piece r) ≡ on_tokens (with_token before marked piece (token_kind piece.kind piece.bytes)) (scanned text (before ++ piece.bytes) (marks marked piece) r)
after_piece text before marked piece (Ok pieces) = refl
after_piece text before marked piece (Err refusal) = refl

-- after a piece that is read the tokens go on, and its own is before them
pub piece_left : (text : List ℕ) (at : ℕ) (marked : Bool) (piece : Piece) → first_piece (drop at text) ≡ Ok piece → scan_left text at marked ≡ on_tokens (with_token (take at text) marked piece (token_kind piece.kind piece.bytes)) (scan_left text (at + length piece.bytes) (marks marked piece))
piece_left text at marked piece e =
    let found = first_piece_found (drop at text) piece e in
    let bytes : take (length piece.bytes) (drop at text) ≡ piece.bytes = ap (take (length piece.bytes)) found.1.splits ∙ take-append_seam piece.bytes found.0 in
    let before : take at text ++ piece.bytes ≡ take (at + length piece.bytes) text = ap (λ (x : List ℕ). take at text ++ x) (sym bytes) ∙ sym (take-add at (length piece.bytes) text) in
    let following : drop (length piece.bytes) (drop at text) ≡ drop (at + length piece.bytes) text = drop-drop (length piece.bytes) at text in
    let more : List Token → List Token = with_token (take at text) marked piece (token_kind piece.kind piece.bytes) in
    ap (scanned text (take at text) marked) (cut_more at (drop at text) piece e)
    ∙ after_piece text (take at text) marked piece _
    ∙ ap (λ (x : List ℕ). on_tokens more (scanned text x (marks marked piece) (cut_from (length (drop (length piece.bytes) (drop at text))) (at + length piece.bytes) (drop (length piece.bytes) (drop at text))))) before
    ∙ ap (λ (x : List ℕ). on_tokens more (scanned text (take (at + length piece.bytes) text) (marks marked piece) (cut_from (length x) (at + length piece.bytes) x))) following

more_tokens : (before : List ℕ) (marked : Bool) (piece : Piece) (o : Option TokenKind) (items : List Token) (scan : Scan) → on_tokens (λ more. items ++ more) (on_tokens (with_token before marked piece o) scan) ≡ on_tokens (λ more. (items ++ option_to_list (option_map (λ its. token_at before marked piece.bytes its (is_mark piece.kind)) o)) ++ more) scan
more_tokens before marked piece None items scan = ap (λ (x : List Token). (let s : Scan = record { tokens = x ++ scan.tokens; fault = scan.fault } in s)) (sym (append-nil items))
more_tokens before marked piece (Some its) items scan = ap (λ (x : List Token). (let s : Scan = record { tokens = x; fault = scan.fault } in s)) (sym (append_assoc items (token_at before marked piece.bytes its (is_mark piece.kind) ∷ []) scan.tokens))

-- what is left after a piece, and its token after those that there were
pub left_next : (text : List ℕ) (at end : ℕ) (marked : Bool) (kind : PieceKind) (items : List Token) → at < end → end ≤ length text → first_piece (drop at text) ≡ Ok (record { kind = kind; bytes = slice_range text at end }) → scan_of text ≡ on_tokens (λ more. items ++ more) (scan_left text at marked) → scan_of text ≡ on_tokens (λ more. (items ++ option_to_list (option_map (λ its. token_at (take at text) marked (slice_range text at end) its (is_mark kind)) (token_kind kind (slice_range text at end)))) ++ more) (scan_left text end (marks marked (record { kind = kind; bytes = slice_range text at end })))
left_next text at end marked kind items l m first remainder =
    let bytes : List ℕ = slice_range text at end in
    let piece : Piece = record { kind = kind; bytes = bytes } in
    let long : at + length bytes ≡ end = omega (arith, length-take (end - at) (drop at text), length-drop at text) in
    remainder ∙ ap (on_tokens (λ more. items ++ more)) (piece_left text at marked piece first)
    ∙ more_tokens (take at text) marked piece (token_kind kind bytes) items (scan_left text (at + length bytes) (marks marked piece))
    ∙ ap (λ (n : ℕ). on_tokens (λ more. (items ++ option_to_list (option_map (λ its. token_at (take at text) marked bytes its (is_mark kind)) (token_kind kind bytes))) ++ more) (scan_left text n (marks marked piece))) long

-- the first piece of what is left is one
pub first_is_piece : (text : List ℕ) (piece : Piece) → first_piece text ≡ Ok piece → is_piece piece.kind piece.bytes ≡ true
first_is_piece text piece e = (first_piece_found text piece e).1.is

-- the same for what a loop has then: the token in a list, the place and the mark
pub left_moved : (text : List ℕ) (at end : ℕ) (marked : Bool) (kind : PieceKind) (items : List Token) → at < end → end ≤ length text → first_piece (drop at text) ≡ Ok (record { kind = kind; bytes = slice_range text at end }) → scan_of text ≡ on_tokens (λ more. items ++ more) (scan_left text at marked) → (token : Option Token) (moved : List Token) (here : ℕ) (mark : Bool) → token ≡ option_map (λ its. token_at (take at text) marked (slice_range text at end) its (is_mark kind)) (token_kind kind (slice_range text at end)) → moved ≡ items ++ option_to_list token → here ≡ end → mark ≡ marks marked (record { kind = kind; bytes = slice_range text at end }) → scan_of text ≡ on_tokens (λ more. moved ++ more) (scan_left text here mark)
left_moved text at end marked kind items l m first remainder token moved here mark t i h k =
    let all : moved ≡ items ++ option_to_list (option_map (λ its. token_at (take at text) marked (slice_range text at end) its (is_mark kind)) (token_kind kind (slice_range text at end))) =
    i ∙ ap (λ (o : Option Token). items ++ option_to_list o) t in
    left_next text at end marked kind items l m first remainder
    ∙ ap (λ (x : List Token). on_tokens (λ more. x ++ more) (scan_left text end (marks marked (record { kind = kind; bytes = slice_range text at end })))) (sym all)
    ∙ ap (λ (n : ℕ). on_tokens (λ more. moved ++ more) (scan_left text n (marks marked (record { kind = kind; bytes = slice_range text at end })))) (sym h)
    ∙ ap (λ (v : Bool). on_tokens (λ more. moved ++ more) (scan_left text here v)) (sym k)
