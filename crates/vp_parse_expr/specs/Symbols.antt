-- What the grammar sees of a text's tokens.
use Rattle.std.specs.Prelude.{ℕ, ◌+◌, ◌-◌, ◌*◌, ◌==◌, ◌||◌, Bool, nat_lt, min, if◌then◌else◌, List, ◌∷◌, fold, Option, Some, None, option_map, codes, bytes_eq}
use Rattle.std.specs.Char.{is_ascii_digit}
use Rattle.std.specs.Int.{is_in_range}
use Rattle.std.specs.List.{enumerate_from, filter_map, list_any}
use Rattle.std.specs.Option.{option_map_or}
use Rattle.vp_lex.specs.Bytes.{is_any_digit}
use Rattle.vp_lex.specs.Texts.{text_of}
use Rattle.vp_lex.specs.declared.token.Token.{Token}
use Rattle.vp_lex.specs.declared.token.TokenKind.{TokenKind}
use Rattle.vp_lex.specs.declared.token.TokenKind.TheVariants as token
use Rattle.vp_source.specs.declared.symbol.Symbol.{Symbol}
use Rattle.vp_source.specs.declared.symbol.SymbolKind.{SymbolKind}
use Rattle.vp_source.specs.declared.symbol.SymbolKind.TheVariants as symbol
use Rattle.vp_source.specs.declared.symbol.TheConstants.{NUMBER_LIMIT}
use Rattle.vp_parse_expr.specs.declared.symbol.TheConstants.{VALUE_LIMIT}
use Rattle.vp_source.specs.Kinds.{symbol_at}

-- ---- decimal numbers

-- a value with one more decimal digit, at most the limit; an underscore counts for nothing (3.5.1)
abbrev pub with_digit : ℕ → ℕ → ℕ
with_digit value byte = if is_ascii_digit byte then min (value * 10 + (byte - 48)) NUMBER_LIMIT else value

-- the value of decimal digits, at most the limit (3.5.1, profile)
abbrev pub decimal_value : List ℕ → ℕ
decimal_value digits = fold with_digit 0 digits

-- ---- base parts

-- how many digits the base has that a letter names, in either case (3.5.1)
abbrev pub radix_of : ℕ → Option ℕ
radix_of letter =
    (if (letter == 98) || (letter == 66) then Some 2 else
    (if (letter == 111) || (letter == 79) then Some 8 else
    (if (letter == 100) || (letter == 68) then Some 10 else
    (if (letter == 104) || (letter == 72) then Some 16 else
    None))))

-- the value of a digit, in either case; none of an underscore, of white space, and of x, z and ? (3.5.1)
abbrev pub digit_of : ℕ → Option ℕ
digit_of byte =
    (if is_in_range 48 57 byte then Some (byte - 48) else
    (if is_in_range 97 102 byte then Some (byte - 97 + 10) else
    (if is_in_range 65 70 byte then Some (byte - 65 + 10) else
    None)))

-- a value with one more digit of a base, at most the limit (3.5.1)
abbrev pub with_base_digit : ℕ → ℕ → ℕ → ℕ
with_base_digit radix value byte = option_map_or (λ digit. min (value * radix + digit) VALUE_LIMIT) (digit_of byte) value

-- the value of digits of a base, at most the limit (3.5.1, profile)
abbrev pub base_value : ℕ → List ℕ → ℕ
base_value radix digits = fold (with_base_digit radix) 0 digits

-- x, z or ? stands among digits (3.5.1)
abbrev pub has_unknown : List ℕ → Bool
has_unknown digits = list_any is_any_digit digits

-- what the grammar sees of digits among which x, z or ? stands: that is left out of the decimal base (profile)
abbrev pub unknown_kind : ℕ → SymbolKind
unknown_kind radix = if radix == 10 then symbol.OtherBase else symbol.Base

-- what the grammar sees of digits that are all known: a value of more than 32 bits stands after a size alone (profile)
abbrev pub known_kind : ℕ → List ℕ → SymbolKind
known_kind radix digits = if nat_lt (base_value radix digits) VALUE_LIMIT then symbol.ShortBase else symbol.Base

-- what the grammar sees of digits (3.5.1)
abbrev pub digits_kind : ℕ → List ℕ → SymbolKind
digits_kind radix digits = if has_unknown digits then unknown_kind radix else known_kind radix digits

-- what the grammar sees of a base part: after its apostrophe a letter names its base, or makes it signed, which is left
-- out (3.5.1, profile)
abbrev pub base_kind : List ℕ → SymbolKind
base_kind (apostrophe ∷ letter ∷ digits) = option_map_or (λ radix. digits_kind radix digits) (radix_of letter) symbol.OtherBase
base_kind _ = symbol.OtherBase

-- ---- symbols

-- what the grammar sees of a system name (17.4.1)
abbrev pub system_kind : List ℕ → SymbolKind
system_kind word = if bytes_eq word (codes "$finish") then symbol.Finish else symbol.SystemName

-- what the grammar sees of a token of a kind, by its text; nothing of a compiler directive (annex A)
abbrev pub kind_seen : List ℕ → TokenKind → Option SymbolKind
kind_seen word token.Name = Some symbol.Name
kind_seen word (token.Keyword k) = Some (symbol.Keyword k)
kind_seen word token.Number = Some (symbol.Number (decimal_value word))
kind_seen word token.Base = Some (base_kind word)
kind_seen word token.String = Some symbol.String
kind_seen word (token.Punctuator p) = Some (symbol.Punctuator p)
kind_seen word token.SystemName = Some (system_kind word)
kind_seen word token.Directive = None

-- what the grammar sees of a token: nothing, if it stands on the line of a pragma or a timescale (19.8 and 19.10)
abbrev pub symbol_kind : List ℕ → Token → Option SymbolKind
symbol_kind text t = if t.directive then None else kind_seen (text_of text t) t.kind

-- the symbols of a text's tokens, in order, each with the place of its token
abbrev pub symbols_of : List ℕ → List Token → List Symbol
symbols_of text tokens =
    filter_map (λ p. option_map (λ kind. symbol_at kind p.0) (symbol_kind text p.1)) (enumerate_from 0 tokens)
