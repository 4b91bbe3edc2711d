-- What is computed is the cut of a text, and a text has one cut.
use Rattle.std.proofs.Common.{◌≡◌, ℕ, zero, suc, ◌+◌, ◌≤◌, ◌<◌, Bool, true, false, cond, ◌&&◌, ◌||◌, inl, inr, List, [], ◌∷◌, ◌++◌, length, take, drop, Option, Some, None, Result, Ok, Err, refl, sym, ◌∙◌, ap, subst, arith}
use Rattle.std.proofs.Math.Seq.{take-append_seam}
use Rattle.std.proofs.lemmas.List.{length-append, append_cancel_left}
use Rattle.std.proofs.lemmas.List.Prefix.{front_rest}
use Rattle.vp_lex.specs.declared.piece.Fault.{Fault}
use Rattle.vp_lex.specs.Bytes.{is_solidus, is_asterisk}
use Rattle.vp_lex.specs.Pieces.{PieceKind, Comment, Piece, is_piece, IsPiece, IsRead}
use Rattle.vp_lex.specs.Cuts.{Longest, Cut, Refusal}
use Rattle.vp_lex.specs.Cutting.{goes_on_comment, kind_in_front, front_of, piece_of, piece_begun, first_piece, on_piece, following_piece, cut_from, cut_text}
use Rattle.vp_lex.proofs.Fronts.{Reaches, reaches_more}
use Rattle.vp_lex.proofs.FirstBytes.{ends, begins-from, comment_goes_on, kind_at, no_empty_piece, front_kind, ends_decide}
use Rattle.vp_lex.proofs.Shows.{Shows, shows}

-- ---- one piece

-- a piece has a byte
pub piece_has_byte : (kind : PieceKind) (bytes : List ℕ) → is_piece kind bytes ≡ true → 0 < length bytes
piece_has_byte kind [] h = absurd (no_empty_piece kind h)
piece_has_byte kind (b ∷ bytes) h = omega arith

-- the longest piece of the kind that begins there is the longest of any kind
no_kind_longer : (kind : PieceKind) (b : ℕ) (bytes tail : List ℕ) → kind_in_front b bytes ≡ Some kind → Reaches (is_piece kind) (b ∷ bytes) (b ∷ tail) → (other : Piece) (following : List ℕ) → IsPiece other → b ∷ bytes ≡ other.bytes ++ following → length other.bytes ≤ length (b ∷ tail)
no_kind_longer kind b bytes tail k h other following is e =
    elim (front_kind (b ∷ bytes) other.kind other.bytes following is e) [
      | inl its ↦
          let both : ◌≡◌ {A = Option PieceKind} (Some other.kind) (Some kind) = sym its ∙ k in
          let same : other.kind ≡ kind = cc in
          h.longest other.bytes following e (subst (λ (x : PieceKind). is_piece x other.bytes ≡ true) same is)
      | inr short ↦ omega (arith, short.1)
    ]

-- and so is what is shown after its first byte
pub longest_shown : (kind : PieceKind) (b : ℕ) (bytes tail : List ℕ) → kind_in_front b bytes ≡ Some kind → (h : Reaches (ends kind b) bytes tail) → Longest (b ∷ bytes) (record { kind = kind; bytes = b ∷ tail }) h.rest
longest_shown kind b bytes tail k h =
    let whole : Reaches (is_piece kind) (b ∷ bytes) (b ∷ tail) = reaches_more (ends kind b) (is_piece kind) b bytes tail (ends_decide kind b (begins-from b bytes kind k)) h in
    record {
      splits = ap (λ (x : List ℕ). b ∷ x) h.splits;
      is = whole.passes;
      none_longer = no_kind_longer kind b bytes tail k whole;
    }

-- a piece with what is after it, the longest, and read
abbrev pub Found : List ℕ → Piece → Type 0
Found text piece = (rest : List ℕ) × Longest text piece rest × IsRead piece

found_of : (kind : PieceKind) (b : ℕ) (bytes : List ℕ) (r : Result (List ℕ) Fault) (piece : Piece) → kind_in_front b bytes ≡ Some kind → Shows kind b bytes r → piece_of kind b r ≡ Ok piece → Found (b ∷ bytes) piece
found_of kind b bytes (Err fault) piece k s h = absurd cc
found_of kind b bytes (Ok tail) piece k s h =
    let whole : Piece = record { kind = kind; bytes = b ∷ tail } in
    let same : whole ≡ piece = cc in
    subst (λ (x : Piece). Found (b ∷ bytes) x) same (s.0.rest, longest_shown kind b bytes tail k s.0, s.1)

found_begun : (o : Option PieceKind) (b : ℕ) (bytes : List ℕ) (piece : Piece) → kind_in_front b bytes ≡ o → piece_begun o b bytes ≡ Ok piece → Found (b ∷ bytes) piece
found_begun None b bytes piece k h = absurd cc
found_begun (Some kind) b bytes piece k h = found_of kind b bytes (front_of kind b bytes) piece k (shows kind b bytes k) h

-- the piece that is computed is the longest, and is read
pub first_piece_found : (text : List ℕ) (piece : Piece) → first_piece text ≡ Ok piece → Found text piece
first_piece_found [] piece h = absurd cc
first_piece_found (b ∷ bytes) piece h = found_begun (kind_in_front b bytes) b bytes piece refl h

-- ---- one longest piece

pub same_front : (a b c d : List ℕ) → a ++ c ≡ b ++ d → length a ≡ length b → a ≡ b
same_front a b c d e l =
    sym (take-append_seam a c) ∙ ap (λ (x : List ℕ). take (length a) x) e ∙ ap (λ (n : ℕ). take n (b ++ d)) l ∙ take-append_seam b d

same_piece : (piece other : Piece) → piece.kind ≡ other.kind → piece.bytes ≡ other.bytes → piece ≡ other
same_piece piece other e f =
    let make : PieceKind → List ℕ → Piece = λ k bytes. record { kind = k; bytes = bytes } in
    ap (λ (k : PieceKind). make k piece.bytes) e ∙ ap (λ (bytes : List ℕ). make other.kind bytes) f

-- where a comment begins, two bytes are one
pub two_bytes : (text : List ℕ) → kind_at text ≡ Some Comment → (its : List ℕ) × (following : List ℕ) × (is_piece Comment its ≡ true) × (text ≡ its ++ following) × (2 ≤ length its)
two_bytes [] k = absurd cc
two_bytes (b ∷ []) k = let none = comment_goes_on b [] k in absurd cc
two_bytes (b ∷ c ∷ bytes) k =
    let first : is_solidus b ≡ true = begins-from b (c ∷ bytes) Comment k in
    let second : goes_on_comment (c ∷ bytes) ≡ true = comment_goes_on b (c ∷ bytes) k in
    (b ∷ c ∷ [], bytes, rw first (short (is_solidus c) (is_asterisk c) second), refl, omega arith)
  where
    short : (solidus asterisk : Bool) → (solidus || asterisk) ≡ true → cond solidus true (asterisk && true) ≡ true
    short true asterisk h = refl
    short false true h = refl
    short false false h = h

-- the kind of the longest piece in front of a text begins there
pub longest_kind : (text : List ℕ) (piece : Piece) (rest : List ℕ) → Longest text piece rest → kind_at text ≡ Some piece.kind
longest_kind text piece rest h =
    elim (front_kind text piece.kind piece.bytes rest h.is h.splits) [
      | inl its ↦ its
      | inr short ↦
          let two = two_bytes text short.0 in
          let longer = h.none_longer (record { kind = Comment; bytes = two.0 }) two.1 two.2 two.3 in
          absurd (omega (arith, short.1, two.4))
    ]

-- the longest piece in front of a text is one
pub one_longest : (text : List ℕ) (piece other : Piece) (rest following : List ℕ) → Longest text piece rest → Longest text other following → piece ≡ other
one_longest text piece other rest following h k =
    let up : length piece.bytes ≤ length other.bytes = k.none_longer piece rest h.is h.splits in
    let down : length other.bytes ≤ length piece.bytes = h.none_longer other following k.is k.splits in
    let bytes : piece.bytes ≡ other.bytes = same_front piece.bytes other.bytes rest following (sym h.splits ∙ k.splits) (omega arith) in
    let both : ◌≡◌ {A = Option PieceKind} (Some piece.kind) (Some other.kind) = sym (longest_kind text piece rest h) ∙ longest_kind text other following k in
    same_piece piece other (cc) bytes

-- and so is what is after it
pub one_rest : (text : List ℕ) (piece other : Piece) (rest following : List ℕ) → Longest text piece rest → Longest text other following → rest ≡ following
one_rest text piece other rest following h k =
    let same = one_longest text piece other rest following h k in
    append_cancel_left piece.bytes rest following (sym h.splits ∙ k.splits ∙ ap (λ (x : Piece). x.bytes ++ following) (sym same))

pub no_piece_of_nothing : (text : List ℕ) (piece : Piece) (rest : List ℕ) → text ≡ [] → Longest text piece rest → ⊥
no_piece_of_nothing text piece rest e h =
    omega (arith, piece_has_byte piece.kind piece.bytes h.is, length-append piece.bytes rest, ap length (sym h.splits ∙ e))

-- two cuts of one text are the same
pub one_cut : (text : List ℕ) (pieces others : List Piece) → Cut text pieces → Cut text others → pieces ≡ others
one_cut text [] [] h k = refl
one_cut text [] (other ∷ others) h k = absurd (no_piece_of_nothing text other k.0 h k.1)
one_cut text (piece ∷ pieces) [] h k = absurd (no_piece_of_nothing text piece h.0 k h.1)
one_cut text (piece ∷ pieces) (other ∷ others) h k =
    let first : piece ≡ other = one_longest text piece other h.0 k.0 h.1 k.1 in
    let rests : h.0 ≡ k.0 = one_rest text piece other h.0 k.0 h.1 k.1 in
    let remainder : Cut k.0 pieces = subst (λ (x : List ℕ). Cut x pieces) rests h.3 in
    let more : pieces ≡ others = one_cut k.0 pieces others remainder k.3 in
    cc

-- ---- the whole cut

pub rest_is : (text : List ℕ) (piece : Piece) (rest : List ℕ) → Longest text piece rest → drop (length piece.bytes) text ≡ rest
rest_is text piece rest h = front_rest text piece.bytes rest h.splits

-- what is left after a piece is shorter
pub rest_shorter : (text : List ℕ) (piece : Piece) (rest : List ℕ) → Longest text piece rest → length rest < length text
rest_shorter text piece rest h =
    omega (arith, piece_has_byte piece.kind piece.bytes h.is, length-append piece.bytes rest, ap length h.splits)

one_after : (piece : Piece) (r : Result (List Piece) Refusal) (pieces : List Piece) → following_piece piece r ≡ Ok pieces → (others : List Piece) × (r ≡ Ok others) × (piece ∷ others ≡ pieces)
one_after piece (Err refusal) pieces h = absurd cc
one_after piece (Ok others) pieces h = (others, refl, cc)

one_on : (at : ℕ) (r : Result Piece Fault) (next : Piece → Result (List Piece) Refusal) (pieces : List Piece) → on_piece at r next ≡ Ok pieces → (piece : Piece) × (r ≡ Ok piece) × (next piece ≡ Ok pieces)
one_on at (Err fault) next pieces h = absurd cc
one_on at (Ok piece) next pieces h = (piece, refl, h)

pub none_left : (text : List ℕ) → length text ≤ 0 → text ≡ []
none_left [] h = refl
none_left (b ∷ text) h = absurd (omega arith)

cut_of_nothing : (text : List ℕ) (pieces : List Piece) → text ≡ [] → ◌≡◌ {A = Result (List Piece) Refusal} (Ok []) (Ok pieces) → Cut text pieces
cut_of_nothing text pieces e h = let same : [] ≡ pieces = cc in subst (λ (x : List Piece). Cut text x) same e

pub cut_from_cuts : (turns at : ℕ) (text : List ℕ) (pieces : List Piece) → length text ≤ turns → cut_from turns at text ≡ Ok pieces → Cut text pieces
cut_from_cuts zero at text pieces l h = cut_of_nothing text pieces (none_left text l) h
cut_from_cuts (suc turns) at [] pieces l h = cut_of_nothing [] pieces refl h
cut_from_cuts (suc turns) at (b ∷ bytes) pieces l h =
    let text : List ℕ = b ∷ bytes in
    let next : Piece → Result (List Piece) Refusal = λ piece. following_piece piece (cut_from turns (at + length piece.bytes) (drop (length piece.bytes) text)) in
    let f = one_on at (first_piece text) next pieces h in
    let g = one_after f.0 (cut_from turns (at + length f.0.bytes) (drop (length f.0.bytes) text)) pieces f.2 in
    let found = first_piece_found text f.0 f.1 in
    let shorter = rest_shorter text f.0 found.0 found.1 in
    let rest = rest_is text f.0 found.0 found.1 in
    let remainder : cut_from turns (at + length f.0.bytes) found.0 ≡ Ok g.0 = ap (cut_from turns (at + length f.0.bytes)) (sym rest) ∙ g.1 in
    let more = cut_from_cuts turns (at + length f.0.bytes) found.0 g.0 (omega arith) remainder in
    subst (λ (x : List Piece). Cut text x) g.2 (found.0, found.1, found.2, more)

-- what is computed is a cut
pub cut_text_cuts : (text : List ℕ) (pieces : List Piece) → cut_text text ≡ Ok pieces → Cut text pieces
cut_text_cuts text pieces h = cut_from_cuts (length text) 0 text pieces (omega arith) h
