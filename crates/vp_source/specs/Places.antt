-- The tokens of a source by their places.
use Rattle.std.specs.Prelude.{ℕ, min, List, [], ◌∷◌, slice_get, Option, Some, None}
use Rattle.std.specs.Option.{option_map_or}
use Rattle.vp_lex.specs.Texts.{text_of}
use Rattle.vp_lex.specs.declared.token.Token.{Token}
use Rattle.vp_source.specs.declared.source.Source.{Source}

-- the token at a place; none past the end
abbrev pub token_at : Source → ℕ → Option Token
token_at source place = slice_get source.tokens place

-- the text of the token at a place; empty past the end
abbrev pub word_at : Source → ℕ → List ℕ
word_at source place = option_map_or (text_of source.text) (token_at source place) []

-- the line of the token at a place; 0 past the end
abbrev pub line_at : Source → ℕ → ℕ
line_at source place = option_map_or (λ (t : Token). t.line) (token_at source place) 0

-- the column of the token at a place; 0 past the end
abbrev pub column_at : Source → ℕ → ℕ
column_at source place = option_map_or (λ (t : Token). t.column) (token_at source place) 0

-- ---- the first of places

-- the first of two places, of which each may be missing
abbrev pub earlier : Option ℕ → Option ℕ → Option ℕ
earlier None b = b
earlier (Some a) None = Some a
earlier (Some a) (Some b) = Some (min a b)

-- the first of the places that f gives
abbrev pub earliest : {X : Type 0} → (X → Option ℕ) → List X → Option ℕ
earliest f [] = None
earliest f (x ∷ xs) = earlier (f x) (earliest f xs)
