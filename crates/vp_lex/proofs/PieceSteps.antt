-- The piece that begins at a place, from the kind of its first byte and the end of what goes on.
use Rattle.std.proofs.Common.{◌≡◌, ℕ, ◌+◌, ◌-◌, ◌<◌, ◌≤◌, List, ◌∷◌, length, get_or, take, drop, Option, Some, Result, Ok, Err, sym, ◌∙◌, ap, arith}
use Rattle.std.specs.Prelude.{slice_range}
use Rattle.std.proofs.Math.Seq.{take-append_seam}
use Rattle.std.proofs.lemmas.List.{drop_more, length-append, length-drop}
use Rattle.vp_lex.specs.declared.piece.Fault.{Fault}
use Rattle.vp_lex.specs.Pieces.{PieceKind, Piece}
use Rattle.vp_lex.specs.Cutting.{kind_in_front, front_of, piece_of, piece_begun, first_piece}
use Rattle.vp_lex.specs.Scanning.{end_of}
use Rattle.vp_lex.proofs.CutLaws.{first_piece_found}

by_kind : (text : List ℕ) (start : ℕ) (kind : PieceKind) → start < length text → kind_in_front (get_or text start 0) (drop (start + 1) text) ≡ Some kind → first_piece (drop start text) ≡ piece_of kind (get_or text start 0) (front_of kind (get_or text start 0) (drop (start + 1) text))
by_kind text start kind l k =
    ap first_piece (drop_more text start 0 l)
    ∙ ap (λ (o : Option PieceKind). piece_begun o (get_or text start 0) (drop (start + 1) text)) k

-- a piece at a place: its bytes stand there, and it has some
pub record Stands (text : List ℕ) (start end : ℕ) (kind : PieceKind) : Type 0 where
  pub begins : start < end
  pub ends : end ≤ length text
  pub first : first_piece (drop start text) ≡ Ok (record { kind = kind; bytes = slice_range text start end })

stands_of : (text : List ℕ) (start end : ℕ) (kind : PieceKind) (r : Result (List ℕ) Fault) → start < length text → first_piece (drop start text) ≡ piece_of kind (get_or text start 0) r → Ok end ≡ end_of (start + 1) r → Stands text start end kind
stands_of text start end kind (Err fault) l p e = absurd cc
stands_of text start end kind (Ok tail) l p e =
    let bytes : List ℕ = get_or text start 0 ∷ tail in
    let piece : Piece = record { kind = kind; bytes = bytes } in
    let found = first_piece_found (drop start text) piece p in
    let ends : end ≡ start + 1 + length tail = cc in
    let long : end - start ≡ length bytes = omega arith in
    let all : length text - start ≡ length bytes + length found.0 = sym (length-drop start text) ∙ ap length found.1.splits ∙ length-append bytes found.0 in
    let same : slice_range text start end ≡ bytes =
    ap (λ (n : ℕ). take n (drop start text)) long ∙ ap (take (length bytes)) found.1.splits ∙ take-append_seam bytes found.0 in
    record {
      begins = omega arith;
      ends = omega arith;
      first = p ∙ ap (λ (x : List ℕ). (let r : Result Piece Fault = Ok (record { kind = kind; bytes = x }) in r)) (sym same);
    }

-- where the first byte begins a kind and what goes on ends, a piece stands
pub piece_stands : (text : List ℕ) (start end : ℕ) (kind : PieceKind) → start < length text → kind_in_front (get_or text start 0) (drop (start + 1) text) ≡ Some kind → Ok end ≡ end_of (start + 1) (front_of kind (get_or text start 0) (drop (start + 1) text)) → Stands text start end kind
piece_stands text start end kind l k e =
    stands_of text start end kind (front_of kind (get_or text start 0) (drop (start + 1) text)) l (by_kind text start kind l k) e

fault_of : (text : List ℕ) (start : ℕ) (kind : PieceKind) (fault : Fault) (r : Result (List ℕ) Fault) → first_piece (drop start text) ≡ piece_of kind (get_or text start 0) r → Err fault ≡ end_of (start + 1) r → first_piece (drop start text) ≡ Err fault
fault_of text start kind fault (Ok tail) p e = absurd cc
fault_of text start kind fault (Err other) p e = let same : fault ≡ other = cc in p ∙ ap (λ (x : Fault). (let r : Result Piece Fault = Err x in r)) (sym same)

-- and where it does not, its fault is that of the place
pub piece_faults : (text : List ℕ) (start : ℕ) (kind : PieceKind) (fault : Fault) → start < length text → kind_in_front (get_or text start 0) (drop (start + 1) text) ≡ Some kind → Err fault ≡ end_of (start + 1) (front_of kind (get_or text start 0) (drop (start + 1) text)) → first_piece (drop start text) ≡ Err fault
piece_faults text start kind fault l k e =
    fault_of text start kind fault (front_of kind (get_or text start 0) (drop (start + 1) text)) (by_kind text start kind l k) e
