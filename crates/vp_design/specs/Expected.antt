-- What would be read where a text has a syntax error: each candidate is tried there.
use Rattle.std.specs.Prelude.{◌≡◌, ◌≢◌, ◌<◌, ◌≤◌, ◌⊎◌, ◌+◌, ℕ, nat_lt, if◌then◌else◌, Bool, List, [], ◌∷◌, ◌++◌, codes, count_by, length, take, MatchBool}
use Rattle.std.specs.List.{join_by}
use Rattle.vp_lex.specs.declared.token.Token.{Token}
use Rattle.vp_lex.specs.declared.token.TheConstants.{TEXT_LIMIT}
use Rattle.vp_lex.specs.Tokens.{AreTokens}
use Rattle.vp_lex.specs.Bytes.{is_newline}
use Rattle.vp_lex.specs.Texts.{part_of, text_of}
use Rattle.vp_source.specs.Grammar.{Derivation, IsDerivation}
use Rattle.vp_parse_expr.specs.Symbols.{symbols_of}
use Rattle.vp_parse.specs.declared.error.ParseError.{ParseError}
use Rattle.vp_parse.specs.declared.error.ParseError.TheVariants as grammar
use Rattle.vp_parse.specs.Faults.{line_of}
use Rattle.vp_parse.specs.Reading.{read}
use Rattle.vp_parse.specs.Told.{Tells}
use Rattle.vp_design.specs.Fronts.{HasNoTokens}
use Rattle.vp_design.specs.Rendering.{ellipsis}

-- ---- trials

-- a text with a candidate after it, on a line of its own, and a further token on the next
abbrev pub tried : List ℕ → List ℕ → List ℕ
tried front candidate = front ++ (10 ∷ candidate ++ codes "\nendmodule\n")

-- the line of the candidate
abbrev pub line_tried : List ℕ → ℕ
line_tried front = count_by is_newline front + 2

-- the grammar reads a text past a line: to its end, or to a symbol on a later line
abbrev pub GoesOn : (line : ℕ) → List ℕ → Type 0
GoesOn line text =
    (tokens : List Token) × AreTokens text tokens
    × (((d : Derivation) × IsDerivation d (symbols_of text tokens))
    ⊎ ((e : ParseError) × Tells tokens (symbols_of text tokens) e (read (symbols_of text tokens)) × (line < line_of e)))

-- it does not: the text is too long, its tokens are at fault, or reading stops on this line or before it
abbrev pub Stops : (line : ℕ) → List ℕ → Type 0
Stops line text =
    (TEXT_LIMIT < length text)
    ⊎ (HasNoTokens text
    ⊎ ((tokens : List Token) × AreTokens text tokens
    × ((e : ParseError) × (e ≢ grammar.NoMemory) × Tells tokens (symbols_of text tokens) e (read (symbols_of text tokens)) × (line_of e ≤ line))))

-- a candidate is read after a text, or is not
abbrev pub IsReadOrNot : Bool → (front candidate : List ℕ) → Type 0
IsReadOrNot is_read front candidate =
    MatchBool is_read (GoesOn (line_tried front) (tried front candidate)) (Stops (line_tried front) (tried front candidate))

-- the words of those candidates of a table, each with its words, that are read after a text
abbrev pub AreRead : List ℕ → List (List ℕ × List ℕ) → List (List ℕ) → Type 0
AreRead front [] words = words ≡ []
AreRead front (c ∷ table) words =
    (is_read : Bool) × IsReadOrNot is_read front c.0
    × ((rest : List (List ℕ)) × AreRead front table rest × (words ≡ (if is_read then c.1 ∷ rest else rest)))

-- ---- the note

-- at most so many are reported
abbrev pub told_limit : ℕ
told_limit = 6

-- a longer token is not repeated
abbrev pub token_limit : ℕ
token_limit = 40

-- some words; of more than six the first six, and an ellipsis
abbrev pub listed : List (List ℕ) → List ℕ
listed words =
    if nat_lt told_limit (length words) then join_by (λ w. w) (codes ", ") (take told_limit words) ++ (codes ", " ++ ellipsis)
    else join_by (λ w. w) (codes ", ") words

-- a token, as it is reported
abbrev pub quoted : List ℕ → List ℕ
quoted token = if nat_lt token_limit (length token) then codes "a long token" else codes "`" ++ (token ++ codes "`")

-- what was found, and what would be read, if there is anything
abbrev pub expected_note : (found : List ℕ) → List (List ℕ) → List ℕ
expected_note found [] = codes "found " ++ (found ++ codes "\n")
expected_note found (w ∷ words) = codes "found " ++ (found ++ (codes "; here would be read: " ++ (listed (w ∷ words) ++ codes "\n")))

-- at a token: where even the last of the text is read, its end was found, and the candidates are tried there; else before the token
abbrev pub IsExpectedNote : List ℕ → Token → List (List ℕ × List ℕ) → List ℕ → Type 0
IsExpectedNote text token table note =
    (at_end : Bool) × IsReadOrNot at_end text []
    × ((words : List (List ℕ)) × AreRead (if at_end then text else part_of text 0 token.start) table words
    × (note ≡ expected_note (if at_end then codes "the end of the text" else quoted (text_of text token)) words))
