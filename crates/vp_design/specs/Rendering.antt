-- The text of a diagnostic (profile).
use Rattle.std.specs.Prelude.{◌≡◌, ◌≤◌, ℕ, ◌+◌, ◌⊎◌, List, [], ◌∷◌, ◌++◌, codes, decimal, drop, length, take}
use Rattle.std.specs.Str.{IsCharBoundary}
use Rattle.vp_design.specs.declared.rendering.Place.{Place}
use Rattle.vp_design.specs.Lines.{blanks, column_after, line_of}

-- ---- a line that is cut

-- what stands where a part of a line is cut off
abbrev pub ellipsis : List ℕ
ellipsis = 226 ∷ 128 ∷ 166 ∷ []

-- a line of more bytes is cut, to so many before the caret and so many after it at most
abbrev pub width_limit : ℕ
width_limit = 200

abbrev pub half_width : ℕ
half_width = 100

-- a part of a line before the caret is shown by this: whole, or the end of it that begins with a character, after an ellipsis
abbrev pub IsFrontShown : List ℕ → List ℕ → Type 0
IsFrontShown front shown =
    (shown ≡ front) ⊎ ((at : ℕ) × IsCharBoundary front at × (length front ≤ at + half_width) × (shown ≡ ellipsis ++ drop at front))

-- a part of a line after the caret is shown by this: whole, or the front of it that ends with a character, and an ellipsis
abbrev pub IsRestShown : List ℕ → List ℕ → Type 0
IsRestShown rest shown =
    (shown ≡ rest) ⊎ ((at : ℕ) × IsCharBoundary rest at × (at ≤ half_width) × (shown ≡ take at rest ++ ellipsis))

-- a line is shown by these two parts round the caret, whole where it has no more than 200 bytes
pub record IsShown (front rest shown_front shown_rest : List ℕ) : Type 0 where
  pub front_shown : IsFrontShown front shown_front
  pub rest_shown : IsRestShown rest shown_rest
  pub whole : length front + length rest ≤ width_limit → (shown_front ≡ front) × (shown_rest ≡ rest)

-- ---- a diagnostic

-- the head of a fault at a place of a file: NAME:LINE:COLUMN: fault CODE: WORDS
abbrev pub head_at : (name : List ℕ) (line column code : ℕ) (words : List ℕ) → List ℕ
head_at name line column code words =
    name ++ (codes ":" ++ (decimal line ++ (codes ":" ++ (decimal column ++ (codes ": fault " ++ (decimal code ++ (codes ": " ++ (words ++ 10 ∷ []))))))))

-- the line, and the caret under it
abbrev pub picture : (shown_front shown_rest : List ℕ) → List ℕ
picture shown_front shown_rest =
    codes "  " ++ (shown_front ++ (shown_rest ++ (10 ∷ codes "  " ++ (blanks shown_front ++ codes "^" ++ 10 ∷ []))))

-- the head of a fault without a line
abbrev pub head_without_line : (name : List ℕ) (code : ℕ) (words : List ℕ) → List ℕ
head_without_line name code words =
    name ++ (codes ": fault " ++ (decimal code ++ (codes ": " ++ (words ++ codes " (no line is known for it)\n"))))

-- a line is split at a place: where a character begins there, or the line ends
pub record IsSplit (line : List ℕ) (offset : ℕ) (front rest : List ℕ) : Type 0 where
  pub joined : line ≡ front ++ rest
  pub at : IsCharBoundary line offset → front ≡ take offset line

-- the text of a fault at a place of a text: its head, its line and the notes
pub record IsLocated (name text : List ℕ) (place : Place) (code : ℕ) (words notes result : List ℕ) : Type 0 where
  pub front : List ℕ
  pub rest : List ℕ
  pub split : IsSplit (line_of place.line text) place.offset front rest
  pub shown_front : List ℕ
  pub shown_rest : List ℕ
  pub shown : IsShown front rest shown_front shown_rest
  pub is : result ≡ head_at name place.line (column_after front) code words ++ (picture shown_front shown_rest ++ notes)

-- the text of a fault of no file
abbrev pub plain_text : (code : ℕ) (words : List ℕ) → List ℕ
plain_text code words = codes "fault " ++ (decimal code ++ (codes ": " ++ (words ++ codes "\n")))

-- the text of a fault of a file as a whole
abbrev pub file_text : (name : List ℕ) (code : ℕ) (words : List ℕ) → List ℕ
file_text name code words = name ++ (codes ": " ++ plain_text code words)
