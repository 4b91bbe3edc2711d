-- What the error of a text reports: where reading its symbols stops.
use Rattle.std.specs.Prelude.{◌≡◌, ℕ, ◌-◌, max, List, length, Option, slice_get, Result, Err}
use Rattle.std.specs.Option.{option_and_then, option_map_or}
use Rattle.vp_lex.specs.declared.token.Token.{Token}
use Rattle.vp_parse.specs.declared.error.ParseError.{ParseError}
use Rattle.vp_parse.specs.declared.error.ParseError.TheVariants as error
use Rattle.vp_source.specs.declared.symbol.Symbol.{Symbol}
use Rattle.vp_source.specs.Grammar.{Derivation, IsDerivation, IsSource, source_text}
use Rattle.vp_parse_expr.specs.Stopping.{Stop, Unexpected, TooDeep}

-- the symbol at which reading stops, with so many left; the last one at the end of the text
abbrev pub stopped_at : List Symbol → ℕ → Option Symbol
stopped_at symbols unread = slice_get symbols (length symbols - max unread 1)

-- its place; 0 where there is none
abbrev pub place_told : List Symbol → ℕ → ℕ
place_told symbols unread = option_map_or (λ (s : Symbol). s.place) (stopped_at symbols unread) 0

-- the line of its token; 0 where there is none
abbrev pub line_told : List Token → List Symbol → ℕ → ℕ
line_told tokens symbols unread =
    option_map_or (λ (t : Token). t.line) (option_and_then (λ (s : Symbol). slice_get tokens s.place) (stopped_at symbols unread)) 0

-- an error reports why and where reading stops, a word left out as one that is unexpected; out of memory reports nothing of it
abbrev pub Tells : List Token → List Symbol → ParseError → Result Derivation Stop → Type 0
Tells tokens symbols (error.Syntax line) read =
    (unread : ℕ) × (read ≡ Err (Unexpected unread)) × (line ≡ line_told tokens symbols unread)
Tells tokens symbols (error.LeftOut word line) read =
    (unread : ℕ) × (read ≡ Err (Unexpected unread)) × (word ≡ place_told symbols unread) × (line ≡ line_told tokens symbols unread)
Tells tokens symbols (error.TooDeep line) read =
    (unread : ℕ) × (read ≡ Err (TooDeep unread)) × (line ≡ line_told tokens symbols unread)
Tells tokens symbols error.NoMemory read = Unit {0}

-- an error says that no derivation spells the symbols: however deep it nests, or, where it is of depth, within the limit; want of
-- memory says nothing (annex A, profile)
abbrev pub IsUnderivable : List Symbol → ParseError → Type 0
IsUnderivable symbols (error.Syntax line) = (d : Derivation) → IsSource d → symbols ≡ source_text d → ⊥
IsUnderivable symbols (error.LeftOut word line) = (d : Derivation) → IsSource d → symbols ≡ source_text d → ⊥
IsUnderivable symbols (error.TooDeep line) = (d : Derivation) → IsDerivation d symbols → ⊥
IsUnderivable symbols error.NoMemory = Unit {0}
