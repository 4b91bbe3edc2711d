-- What the cut of a text into pieces is, and when a text has none.
use Rattle.std.specs.Prelude.{◌≡◌, ℕ, ◌+◌, ◌≤◌, List, [], ◌∷◌, ◌++◌, length, Some}
use Rattle.vp_lex.specs.declared.piece.Fault.{Fault}
use Rattle.vp_lex.specs.declared.piece.Fault.TheVariants.{BadCharacter}
use Rattle.vp_lex.specs.Pieces.{Piece, IsPiece, IsRead, unread}

-- the piece is at the front of the text, with this rest after it, and no longer piece of any kind is (IEEE Std 1364-2005, 3.1)
pub record Longest (text : List ℕ) (piece : Piece) (rest : List ℕ) : Type 0 where
  pub splits : text ≡ piece.bytes ++ rest
  pub is : IsPiece piece
  pub none_longer : (other : Piece) (following : List ℕ) → IsPiece other → text ≡ other.bytes ++ following → length other.bytes ≤ length piece.bytes

-- the text is these pieces, one after the other, and then what is left; each is the longest that begins where it does, and is read (IEEE Std 1364-2005, 3.1; profile)
abbrev pub CutTo : List ℕ → List Piece → List ℕ → Type 0
CutTo text [] remainder = text ≡ remainder
CutTo text (piece ∷ pieces) remainder = (rest : List ℕ) × Longest text piece rest × IsRead piece × CutTo rest pieces remainder

-- the text is these pieces, and nothing is left (IEEE Std 1364-2005, 3.1; profile)
abbrev pub Cut : List ℕ → List Piece → Type 0
Cut text pieces = CutTo text pieces []

-- the bytes of pieces, one piece after the other
abbrev pub joined : List Piece → List ℕ
joined [] = []
joined (piece ∷ pieces) = piece.bytes ++ joined pieces

-- ---- faults

-- no piece of any kind is at the front of the text
abbrev pub NoPiece : List ℕ → Type 0
NoPiece text = (piece : Piece) (rest : List ℕ) → IsPiece piece → text ≡ piece.bytes ++ rest → ⊥

-- the longest piece at the front of the text is not read, by this fault
abbrev pub NotRead : Fault → List ℕ → Type 0
NotRead fault text = (piece : Piece) × (rest : List ℕ) × Longest text piece rest × (unread piece.kind piece.bytes ≡ Some fault)

-- the fault of what is left of a text: no piece is there, or one that is not read (profile)
abbrev pub Explains : Fault → List ℕ → Type 0
Explains BadCharacter remainder = NoPiece remainder
Explains fault remainder = NotRead fault remainder

-- a fault, how many bytes of the text stand before it, and which pieces
pub record Refusal : Type 0 where
  pub fault : Fault
  pub at : ℕ
  pub pieces : List Piece

-- the text is these pieces up to this place, and the fault is that of what is left, which is not empty
pub record IsRefused (text : List ℕ) (refusal : Refusal) : Type 0 where
  pub remainder : List ℕ
  pub cut : CutTo text refusal.pieces remainder
  pub at : refusal.at + length remainder ≡ length text
  pub more : 1 ≤ length remainder
  pub why : Explains refusal.fault remainder
