-- A text that is refused is so for the fault that is computed, at the place that is computed.
use Rattle.std.proofs.Common.{◌≡◌, ℕ, zero, suc, ◌+◌, ◌≤◌, List, [], ◌∷◌, length, drop, Some, Result, Ok, Err, refl, sym, ◌∙◌, ap, subst, arith}
use Rattle.std.proofs.lemmas.List.{length-append}
use Rattle.vp_lex.specs.declared.piece.Fault.{Fault}
use Rattle.vp_lex.specs.declared.piece.Fault.TheVariants.{BadCharacter, OpenComment, OpenString, UnknownDirective}
use Rattle.vp_lex.specs.Pieces.{Piece, IsRead, unread}
use Rattle.vp_lex.specs.Cuts.{Longest, CutTo, NoPiece, NotRead, Explains, Refusal, IsRefused}
use Rattle.vp_lex.specs.Cutting.{first_piece, on_piece, following_piece, cut_from, cut_text}
use Rattle.vp_lex.proofs.CutLaws.{first_piece_found, one_longest, no_piece_of_nothing, rest_is, rest_shorter, none_left}
use Rattle.vp_lex.proofs.Complete.{first_piece_explains, read_no_fault, first_piece_is}

-- ---- one fault

none_and_one : (text : List ℕ) (fault : Fault) → NoPiece text → NotRead fault text → ⊥
none_and_one text fault h k = h k.0 k.1 k.2.is k.2.splits

not_read_one : (text : List ℕ) (fault other : Fault) → NotRead fault text → NotRead other text → fault ≡ other
not_read_one text fault other h k =
    let same : h.0 ≡ k.0 = one_longest text h.0 k.0 h.1 k.1 h.2 k.2 in
    let why : unread k.0.kind k.0.bytes ≡ Some fault = subst (λ (x : Piece). unread x.kind x.bytes ≡ Some fault) same h.3 in
    let both : Some fault ≡ Some other = sym why ∙ k.3 in
    cc

explains_one : (text : List ℕ) (fault other : Fault) → Explains fault text → Explains other text → fault ≡ other
explains_one text BadCharacter BadCharacter h k = refl
explains_one text BadCharacter OpenComment h k = absurd (none_and_one text OpenComment h k)
explains_one text BadCharacter OpenString h k = absurd (none_and_one text OpenString h k)
explains_one text BadCharacter UnknownDirective h k = absurd (none_and_one text UnknownDirective h k)
explains_one text OpenComment BadCharacter h k = absurd (none_and_one text OpenComment k h)
explains_one text OpenString BadCharacter h k = absurd (none_and_one text OpenString k h)
explains_one text UnknownDirective BadCharacter h k = absurd (none_and_one text UnknownDirective k h)
explains_one text OpenComment OpenComment h k = refl
explains_one text OpenComment OpenString h k = not_read_one text OpenComment OpenString h k
explains_one text OpenComment UnknownDirective h k = not_read_one text OpenComment UnknownDirective h k
explains_one text OpenString OpenComment h k = not_read_one text OpenString OpenComment h k
explains_one text OpenString OpenString h k = refl
explains_one text OpenString UnknownDirective h k = not_read_one text OpenString UnknownDirective h k
explains_one text UnknownDirective OpenComment h k = not_read_one text UnknownDirective OpenComment h k
explains_one text UnknownDirective OpenString h k = not_read_one text UnknownDirective OpenString h k
explains_one text UnknownDirective UnknownDirective h k = refl

first_piece_fault_of : (b : ℕ) (bytes : List ℕ) (fault : Fault) (r : Result Piece Fault) → first_piece (b ∷ bytes) ≡ r → Explains fault (b ∷ bytes) → r ≡ Err fault
first_piece_fault_of b bytes fault (Err other) e h =
    ap (λ (x : Fault). (let r : Result Piece Fault = Err x in r)) (explains_one (b ∷ bytes) other fault (first_piece_explains b bytes other e) h)
first_piece_fault_of b bytes fault (Ok piece) e h =
    let found = first_piece_found (b ∷ bytes) piece e in
    absurd (read_no_fault (b ∷ bytes) piece found.0 fault found.1 found.2 h)

-- the fault of a text is computed
pub first_piece_fault : (text : List ℕ) (fault : Fault) → 1 ≤ length text → Explains fault text → first_piece text ≡ Err fault
first_piece_fault [] fault l h = absurd (omega arith)
first_piece_fault (b ∷ bytes) fault l h = first_piece_fault_of b bytes fault (first_piece (b ∷ bytes)) refl h

-- ---- the whole text

-- what is left of a text after so many bytes is refused
record RefusedFrom (start : ℕ) (text : List ℕ) (refusal : Refusal) : Type 0 where
  remainder : List ℕ
  cut : CutTo text refusal.pieces remainder
  at : refusal.at + length remainder ≡ start + length text
  more : 1 ≤ length remainder
  why : Explains refusal.fault remainder

-- a refusal after one more piece
abbrev refusal_after : Piece → Refusal → Refusal
refusal_after piece refusal = record { fault = refusal.fault; at = refusal.at; pieces = piece ∷ refusal.pieces }

fault_after_piece : (piece : Piece) (r : Result (List Piece) Refusal) (refusal : Refusal) → following_piece piece r ≡ Err refusal → (other : Refusal) × (r ≡ Err other) × (refusal_after piece other ≡ refusal)
fault_after_piece piece (Err other) refusal h = (other, refl, cc)
fault_after_piece piece (Ok pieces) refusal h = absurd cc

refused_here : (at b : ℕ) (bytes : List ℕ) (fault : Fault) (refusal : Refusal) → first_piece (b ∷ bytes) ≡ Err fault → ◌≡◌ {A = Result (List Piece) Refusal} (Err (record { fault = fault; at = at; pieces = [] })) (Err refusal) → RefusedFrom at (b ∷ bytes) refusal
refused_here at b bytes fault refusal e h =
    let here : Refusal = record { fault = fault; at = at; pieces = [] } in
    let same : here ≡ refusal = cc in
    let refused : RefusedFrom at (b ∷ bytes) here = record { remainder = b ∷ bytes; cut = refl; at = refl; more = omega arith; why = first_piece_explains b bytes fault e } in
    subst (λ (x : Refusal). RefusedFrom at (b ∷ bytes) x) same refused

refused_after : (at : ℕ) (text : List ℕ) (refusal : Refusal) (piece : Piece) (rest : List ℕ) → Longest text piece rest → IsRead piece → RefusedFrom (at + length piece.bytes) rest refusal → RefusedFrom at text (refusal_after piece refusal)
refused_after at text refusal piece rest h known r = record {
  remainder = r.remainder;
  cut = (rest, h, known, r.cut);
  at = omega (arith, r.at, length-append piece.bytes rest, ap length h.splits);
  more = r.more;
  why = r.why;
}

cut_from_refused : (turns at : ℕ) (text : List ℕ) (refusal : Refusal) → length text ≤ turns → cut_from turns at text ≡ Err refusal → RefusedFrom at text refusal
cut_from_refused zero at text refusal l h = absurd cc
cut_from_refused (suc turns) at [] refusal l h = absurd cc
cut_from_refused (suc turns) at (b ∷ bytes) refusal l h =
    let text : List ℕ = b ∷ bytes in
    let next : Piece → Result (List Piece) Refusal = λ piece. following_piece piece (cut_from turns (at + length piece.bytes) (drop (length piece.bytes) text)) in
    let on : (r : Result Piece Fault) → first_piece text ≡ r → on_piece at r next ≡ Err refusal → RefusedFrom at text refusal =
    λ r. elim r as (λ r. first_piece text ≡ r → on_piece at r next ≡ Err refusal → RefusedFrom at text refusal) [
      | Err fault ↦ (λ e h. refused_here at b bytes fault refusal e h)
      | Ok piece ↦ (λ e h.
          let found = first_piece_found text piece e in
          let shorter = rest_shorter text piece found.0 found.1 in
          let rest : drop (length piece.bytes) text ≡ found.0 = rest_is text piece found.0 found.1 in
          let g = fault_after_piece piece (cut_from turns (at + length piece.bytes) (drop (length piece.bytes) text)) refusal h in
          let remainder : cut_from turns (at + length piece.bytes) found.0 ≡ Err g.0 = ap (cut_from turns (at + length piece.bytes)) (sym rest) ∙ g.1 in
          subst (λ (x : Refusal). RefusedFrom at text x) g.2
          (refused_after at text g.0 piece found.0 found.1 found.2 (cut_from_refused turns (at + length piece.bytes) found.0 g.0 (omega arith) remainder)))
    ] in
    on (first_piece text) refl h

-- what is refused is so for the fault that is reported, after pieces that are read
pub cut_text_refused : (text : List ℕ) (refusal : Refusal) → cut_text text ≡ Err refusal → IsRefused text refusal
cut_text_refused text refusal h =
    let r = cut_from_refused (length text) 0 text refusal (omega arith) h in
    record { remainder = r.remainder; cut = r.cut; at = omega (arith, r.at); more = r.more; why = r.why }

refused_is : (turns at told : ℕ) (text : List ℕ) (pieces : List Piece) (remainder : List ℕ) (fault : Fault) → length text ≤ turns → CutTo text pieces remainder → 1 ≤ length remainder → Explains fault remainder → told + length remainder ≡ at + length text → cut_from turns at text ≡ Err (record { fault = fault; at = told; pieces = pieces })
refused_is zero at told text [] remainder fault l h m why e = absurd (omega (arith, ap length h))
refused_is zero at told text (piece ∷ pieces) remainder fault l h m why e = absurd (no_piece_of_nothing text piece h.0 (none_left text l) h.1)
refused_is (suc turns) at told [] [] remainder fault l h m why e = absurd (omega (arith, ap length h))
refused_is (suc turns) at told [] (piece ∷ pieces) remainder fault l h m why e = absurd (no_piece_of_nothing [] piece h.0 refl h.1)
refused_is (suc turns) at told (b ∷ bytes) [] remainder fault l h m why e =
    let text : List ℕ = b ∷ bytes in
    let next : Piece → Result (List Piece) Refusal = λ piece. following_piece piece (cut_from turns (at + length piece.bytes) (drop (length piece.bytes) text)) in
    let why : Explains fault text = subst (λ (x : List ℕ). Explains fault x) (sym h) why in
    let here : at ≡ told = omega (arith, ap length h) in
    ap (λ (r : Result Piece Fault). on_piece at r next) (first_piece_fault text fault (omega arith) why)
    ∙ ap (λ (n : ℕ). (let r : Result (List Piece) Refusal = Err (record { fault = fault; at = n; pieces = [] }) in r)) here
refused_is (suc turns) at told (b ∷ bytes) (piece ∷ pieces) remainder fault l h m why e =
    let text : List ℕ = b ∷ bytes in
    let next : Piece → Result (List Piece) Refusal = λ piece. following_piece piece (cut_from turns (at + length piece.bytes) (drop (length piece.bytes) text)) in
    let shorter = rest_shorter text piece h.0 h.1 in
    let rest : drop (length piece.bytes) text ≡ h.0 = rest_is text piece h.0 h.1 in
    let sum : length text ≡ length piece.bytes + length h.0 = ap length h.1.splits ∙ length-append piece.bytes h.0 in
    let more = refused_is turns (at + length piece.bytes) told h.0 pieces remainder fault (omega arith) h.3 m why (omega arith) in
    ap (λ (r : Result Piece Fault). on_piece at r next) (first_piece_is text piece h.0 h.1 h.2)
    ∙ ap (following_piece piece) (ap (cut_from turns (at + length piece.bytes)) rest ∙ more)

-- and that fault is reported, at that place
pub refused_is_told : (text : List ℕ) (refusal : Refusal) → IsRefused text refusal → cut_text text ≡ Err refusal
refused_is_told text refusal h = refused_is (length text) 0 refusal.at text refusal.pieces h.remainder refusal.fault (omega arith) h.cut h.more h.why (omega (arith, h.at))
