-- The timescale directives among the tokens of a text, and whether they say the same.
use Rattle.std.specs.Prelude.{ℕ, ◌&&◌, ◌==◌, Bool, true, not, nat_lt, filter, List, [], ◌∷◌, Option, Some, None, map, take_while, codes, bytes_eq, if◌then◌else◌}
use Rattle.std.specs.Cmp.Lexicographic.{pointwise}
use Rattle.vp_lex.specs.declared.token.Token.{Token}
use Rattle.vp_lex.specs.Texts.{text_of}

-- a timescale directive: its line, and the texts of the tokens after it on its line (IEEE Std 1364-2005, 19.8)
pub record Timescale : Type 0 where
  pub line : ℕ
  pub texts : List (List ℕ)

-- a token that belongs to the directive of a line
abbrev pub is_on : ℕ → Token → Bool
is_on line token = token.directive && (token.line == line)

-- a directive that begins its line of directives, where the last such line before it is this one, or 0: no other stands before it on its line (profile)
abbrev pub begins_line : ℕ → Token → Bool
begins_line line token = token.directive && not (token.line == line)

-- the token is the directive (IEEE Std 1364-2005, 19.8)
abbrev pub is_timescale : List ℕ → Token → Bool
is_timescale text token = bytes_eq (text_of text token) (codes "`timescale")

-- the texts of the tokens in front that belong to the directive of a line
abbrev pub texts_on : List ℕ → ℕ → List Token → List (List ℕ)
texts_on text line tokens = map (text_of text) (take_while (is_on line) tokens)

-- in front of others, the timescale that a directive is with the tokens after it, if it is one
abbrev pub with_timescale : List ℕ → Token → List Token → List Timescale → List Timescale
with_timescale text token tokens others =
    if is_timescale text token then record { line = token.line; texts = texts_on text token.line tokens } ∷ others else others

-- the timescales among tokens, in order, where the last line of directives before them is this one, or 0
abbrev pub timescales_after : List ℕ → ℕ → List Token → List Timescale
timescales_after text line [] = []
timescales_after text line (token ∷ tokens) =
    if begins_line line token
    then with_timescale text token tokens (timescales_after text token.line tokens)
    else timescales_after text line tokens

-- the timescales among the tokens of a text, in order
abbrev pub timescales : List ℕ → List Token → List Timescale
timescales text tokens = timescales_after text 0 tokens

-- the line stands before another, if there is one
abbrev pub is_before : Option ℕ → ℕ → Bool
is_before None line = true
is_before (Some limit) line = nat_lt line limit

-- those of these timescales that stand on a line before another, if there is one
abbrev pub timescales_before : Option ℕ → List Timescale → List Timescale
timescales_before limit timescales = filter (λ t. is_before limit t.line) timescales

-- two lists of texts are the same
abbrev pub are_same : List (List ℕ) → List (List ℕ) → Bool
are_same = pointwise bytes_eq

-- the line of the first of the timescales whose texts are not those of the first one, which may stand before them (profile)
abbrev pub differing : Option (List (List ℕ)) → List Timescale → Option ℕ
differing first [] = None
differing None (timescale ∷ timescales) = differing (Some timescale.texts) timescales
differing (Some texts) (timescale ∷ timescales) =
    if are_same texts timescale.texts then differing (Some texts) timescales else Some timescale.line
