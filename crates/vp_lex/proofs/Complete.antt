-- A cut is what is computed, and what is computed needs no more turns than bytes.
use Rattle.std.proofs.Common.{◌≡◌, ℕ, zero, suc, ◌+◌, ◌≤◌, true, inl, inr, List, [], ◌∷◌, ◌++◌, length, drop, Option, Some, None, Result, Ok, Err, refl, sym, ◌∙◌, ap, subst, arith}
use Rattle.std.proofs.lemmas.List.{length-append}
use Rattle.vp_lex.specs.declared.piece.Fault.{Fault}
use Rattle.vp_lex.specs.declared.piece.Fault.TheVariants.{BadCharacter, OpenComment, OpenString, UnknownDirective}
use Rattle.vp_lex.specs.Pieces.{PieceKind, Comment, Piece, is_piece, IsRead, unread}
use Rattle.vp_lex.specs.Cuts.{Longest, Cut, NoPiece, NotRead, Explains, Refusal}
use Rattle.vp_lex.specs.Cutting.{kind_in_front, front_of, piece_of, piece_begun, first_piece, on_piece, following_piece, cut_from, cut_text}
use Rattle.vp_lex.proofs.FirstBytes.{begins-from, front_kind, no_empty_piece, ends_decide}
use Rattle.vp_lex.proofs.Shows.{Shows, shows}
use Rattle.vp_lex.proofs.CutLaws.{first_piece_found, longest_shown, two_bytes, one_longest, piece_has_byte, no_piece_of_nothing, rest_is, rest_shorter, none_left}

-- ---- one piece

no_tail : (kind : PieceKind) (b : ℕ) (bytes : List ℕ) → kind_in_front b bytes ≡ Some kind → Shows kind b bytes (Err BadCharacter) → (its rest : List ℕ) → is_piece kind its ≡ true → b ∷ bytes ≡ its ++ rest → ⊥
no_tail kind b bytes k s [] rest is splits = no_empty_piece kind is
no_tail kind b bytes k s (c ∷ tail) rest is splits =
    let byte : c ≡ b = cc in
    let tails : bytes ≡ tail ++ rest = cc in
    let is : is_piece kind (b ∷ tail) ≡ true = subst (λ (x : ℕ). is_piece kind (x ∷ tail) ≡ true) byte is in
    s tail rest tails (sym (ends_decide kind b (begins-from b bytes kind k) tail) ∙ is)

-- nothing may stand after the first byte: there is no piece
no_piece_shown : (kind : PieceKind) (b : ℕ) (bytes : List ℕ) → kind_in_front b bytes ≡ Some kind → Shows kind b bytes (Err BadCharacter) → NoPiece (b ∷ bytes)
no_piece_shown kind b bytes k s piece rest is splits =
    elim (front_kind (b ∷ bytes) piece.kind piece.bytes rest is splits) [
      | inl its ↦
          let both : ◌≡◌ {A = Option PieceKind} (Some piece.kind) (Some kind) = sym its ∙ k in
          let same : piece.kind ≡ kind = cc in
          no_tail kind b bytes k s piece.bytes rest (subst (λ (x : PieceKind). is_piece x piece.bytes ≡ true) same is) splits
      | inr short ↦
          let both : ◌≡◌ {A = Option PieceKind} (Some Comment) (Some kind) = sym short.0 ∙ k in
          let same : Comment ≡ kind = cc in
          let two = two_bytes (b ∷ bytes) short.0 in
          no_tail kind b bytes k s two.0 two.1 (subst (λ (x : PieceKind). is_piece x two.0 ≡ true) same two.2) two.3
    ]

-- no kind begins there: there is no piece
no_kind_begun : (b : ℕ) (bytes : List ℕ) → kind_in_front b bytes ≡ None → NoPiece (b ∷ bytes)
no_kind_begun b bytes k piece rest is splits =
    elim (front_kind (b ∷ bytes) piece.kind piece.bytes rest is splits) [
      | inl its ↦ let both : ◌≡◌ {A = Option PieceKind} None (Some piece.kind) = sym k ∙ its in absurd cc
      | inr short ↦ let both : ◌≡◌ {A = Option PieceKind} None (Some Comment) = sym k ∙ short.0 in absurd cc
    ]

-- the longest piece in front of a text is not read, by this fault, or there is none
explains_shown : (kind : PieceKind) (b : ℕ) (bytes : List ℕ) (fault : Fault) → kind_in_front b bytes ≡ Some kind → Shows kind b bytes (Err fault) → Explains fault (b ∷ bytes)
explains_shown kind b bytes BadCharacter k s = no_piece_shown kind b bytes k s
explains_shown kind b bytes OpenComment k s = (record { kind = kind; bytes = b ∷ s.0 }, s.1.rest, longest_shown kind b bytes s.0 k s.1, s.2)
explains_shown kind b bytes OpenString k s = (record { kind = kind; bytes = b ∷ s.0 }, s.1.rest, longest_shown kind b bytes s.0 k s.1, s.2)
explains_shown kind b bytes UnknownDirective k s = (record { kind = kind; bytes = b ∷ s.0 }, s.1.rest, longest_shown kind b bytes s.0 k s.1, s.2)

fault_of_piece : (kind : PieceKind) (b : ℕ) (r : Result (List ℕ) Fault) (fault : Fault) → piece_of kind b r ≡ Err fault → r ≡ Err fault
fault_of_piece kind b (Err other) fault h = let same : other ≡ fault = cc in ap (λ (x : Fault). (let r : Result (List ℕ) Fault = Err x in r)) same
fault_of_piece kind b (Ok bytes) fault h = absurd cc

explains_begun : (o : Option PieceKind) (b : ℕ) (bytes : List ℕ) (fault : Fault) → kind_in_front b bytes ≡ o → piece_begun o b bytes ≡ Err fault → Explains fault (b ∷ bytes)
explains_begun None b bytes fault k h =
    let bad : BadCharacter ≡ fault = cc in
    subst (λ (x : Fault). Explains x (b ∷ bytes)) bad (no_kind_begun b bytes k)
explains_begun (Some kind) b bytes fault k h =
    explains_shown kind b bytes fault k (subst (λ (r : Result (List ℕ) Fault). Shows kind b bytes r) (fault_of_piece kind b (front_of kind b bytes) fault h) (shows kind b bytes k))

-- the fault that is computed is that of the text
pub first_piece_explains : (b : ℕ) (bytes : List ℕ) (fault : Fault) → first_piece (b ∷ bytes) ≡ Err fault → Explains fault (b ∷ bytes)
first_piece_explains b bytes fault h = explains_begun (kind_in_front b bytes) b bytes fault refl h

read_and_not : (text : List ℕ) (piece : Piece) (rest : List ℕ) (fault : Fault) → Longest text piece rest → IsRead piece → NotRead fault text → ⊥
read_and_not text piece rest fault h known k =
    let same : k.0 ≡ piece = one_longest text k.0 piece k.1 rest k.2 h in
    let not_known : unread piece.kind piece.bytes ≡ Some fault = subst (λ (x : Piece). unread x.kind x.bytes ≡ Some fault) same k.3 in
    let both : None ≡ Some fault = sym known ∙ not_known in
    absurd cc

-- where the longest piece is read, there is no fault
pub read_no_fault : (text : List ℕ) (piece : Piece) (rest : List ℕ) (fault : Fault) → Longest text piece rest → IsRead piece → Explains fault text → ⊥
read_no_fault text piece rest BadCharacter h known k = k piece rest h.is h.splits
read_no_fault text piece rest OpenComment h known k = read_and_not text piece rest OpenComment h known k
read_no_fault text piece rest OpenString h known k = read_and_not text piece rest OpenString h known k
read_no_fault text piece rest UnknownDirective h known k = read_and_not text piece rest UnknownDirective h known k

first_piece_by : (text : List ℕ) (piece : Piece) (rest : List ℕ) (r : Result Piece Fault) → 1 ≤ length text → first_piece text ≡ r → Longest text piece rest → IsRead piece → r ≡ Ok piece
first_piece_by text piece rest (Ok found) l e h known =
    let its = first_piece_found text found e in
    ap (λ (x : Piece). (let r : Result Piece Fault = Ok x in r)) (one_longest text found piece its.0 rest its.1 h)
first_piece_by [] piece rest (Err fault) l e h known = absurd (omega arith)
first_piece_by (b ∷ bytes) piece rest (Err fault) l e h known = absurd (read_no_fault (b ∷ bytes) piece rest fault h known (first_piece_explains b bytes fault e))

-- the longest piece, if it is read, is computed
pub first_piece_is : (text : List ℕ) (piece : Piece) (rest : List ℕ) → Longest text piece rest → IsRead piece → first_piece text ≡ Ok piece
first_piece_is text piece rest h known =
    let some : 1 ≤ length text = omega (arith, ap length h.splits, length-append piece.bytes rest, piece_has_byte piece.kind piece.bytes h.is) in
    first_piece_by text piece rest (first_piece text) some refl h known

-- ---- the whole cut

-- it makes no difference how many turns there are, if they are enough
pub turns_same : (turns more at : ℕ) (text : List ℕ) → length text ≤ turns → length text ≤ more → cut_from turns at text ≡ cut_from more at text
turns_same zero zero at text l m = refl
turns_same zero (suc more) at [] l m = refl
turns_same zero (suc more) at (b ∷ bytes) l m = absurd (omega arith)
turns_same (suc turns) zero at [] l m = refl
turns_same (suc turns) zero at (b ∷ bytes) l m = absurd (omega arith)
turns_same (suc turns) (suc more) at [] l m = refl
turns_same (suc turns) (suc more) at (b ∷ bytes) l m =
    let text : List ℕ = b ∷ bytes in
    let next : ℕ → Piece → Result (List Piece) Refusal = λ n piece. following_piece piece (cut_from n (at + length piece.bytes) (drop (length piece.bytes) text)) in
    let on : (r : Result Piece Fault) → first_piece text ≡ r → on_piece at r (next turns) ≡ on_piece at r (next more) =
    λ r. elim r as (λ r. first_piece text ≡ r → on_piece at r (next turns) ≡ on_piece at r (next more)) [
      | Err fault ↦ (λ e. refl)
      | Ok piece ↦ (λ e.
          let found = first_piece_found text piece e in
          let shorter = rest_shorter text piece found.0 found.1 in
          let rest : drop (length piece.bytes) text ≡ found.0 = rest_is text piece found.0 found.1 in
          let remainder : length (drop (length piece.bytes) text) ≡ length found.0 = ap length rest in
          ap (following_piece piece) (turns_same turns more (at + length piece.bytes) (drop (length piece.bytes) text) (omega arith) (omega arith)))
    ] in
    on (first_piece text) refl

after_is : (piece : Piece) (r : Result (List Piece) Refusal) (pieces : List Piece) → r ≡ Ok pieces → following_piece piece r ≡ Ok (piece ∷ pieces)
after_is piece r pieces e = ap (following_piece piece) e

pub cut_from_is : (turns at : ℕ) (text : List ℕ) (pieces : List Piece) → length text ≤ turns → Cut text pieces → cut_from turns at text ≡ Ok pieces
cut_from_is zero at text [] l h = refl
cut_from_is zero at text (piece ∷ pieces) l h = absurd (no_piece_of_nothing text piece h.0 (none_left text l) h.1)
cut_from_is (suc turns) at [] [] l h = refl
cut_from_is (suc turns) at [] (piece ∷ pieces) l h = absurd (no_piece_of_nothing [] piece h.0 refl h.1)
cut_from_is (suc turns) at (b ∷ bytes) [] l h = absurd cc
cut_from_is (suc turns) at (b ∷ bytes) (piece ∷ pieces) l h =
    let text : List ℕ = b ∷ bytes in
    let next : Piece → Result (List Piece) Refusal = λ piece. following_piece piece (cut_from turns (at + length piece.bytes) (drop (length piece.bytes) text)) in
    let shorter = rest_shorter text piece h.0 h.1 in
    let rest : drop (length piece.bytes) text ≡ h.0 = rest_is text piece h.0 h.1 in
    let more : cut_from turns (at + length piece.bytes) h.0 ≡ Ok pieces = cut_from_is turns (at + length piece.bytes) h.0 pieces (omega arith) h.3 in
    ap (λ (r : Result Piece Fault). on_piece at r next) (first_piece_is text piece h.0 h.1 h.2)
    ∙ after_is piece _ pieces (ap (cut_from turns (at + length piece.bytes)) rest ∙ more)

-- a cut is what is computed
pub cut_text_is : (text : List ℕ) (pieces : List Piece) → Cut text pieces → cut_text text ≡ Ok pieces
cut_text_is text pieces h = cut_from_is (length text) 0 text pieces (omega arith) h

-- a text that is refused has no cut
pub refused_has_no_cut : (text : List ℕ) (refusal : Refusal) (pieces : List Piece) → cut_text text ≡ Err refusal → Cut text pieces → ⊥
refused_has_no_cut text refusal pieces e h = let f = cut_text_is text pieces h in cc

-- what is left after a piece is cut with as many turns as it has bytes
pub cut_more : (at : ℕ) (text : List ℕ) (piece : Piece) → first_piece text ≡ Ok piece → cut_from (length text) at text ≡ following_piece piece (cut_from (length (drop (length piece.bytes) text)) (at + length piece.bytes) (drop (length piece.bytes) text))
cut_more at [] piece e = absurd cc
cut_more at (b ∷ bytes) piece e =
    let text : List ℕ = b ∷ bytes in
    let next : Piece → Result (List Piece) Refusal = λ piece. following_piece piece (cut_from (length bytes) (at + length piece.bytes) (drop (length piece.bytes) text)) in
    let found = first_piece_found text piece e in
    let shorter = rest_shorter text piece found.0 found.1 in
    let remainder : length (drop (length piece.bytes) text) ≡ length found.0 = ap length (rest_is text piece found.0 found.1) in
    ap (λ (r : Result Piece Fault). on_piece at r next) e
    ∙ ap (following_piece piece) (turns_same (length bytes) (length (drop (length piece.bytes) text)) (at + length piece.bytes) (drop (length piece.bytes) text) (omega arith) (omega arith))
