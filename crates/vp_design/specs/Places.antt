-- The token of a text at which a fault stands.
use Rattle.std.specs.Prelude.{◌≡◌, ℕ, List, slice_get, Option, Some, None}
use Rattle.vp_lex.specs.declared.token.Token.{Token}
use Rattle.vp_parse.specs.declared.error.ParseError.{ParseError}
use Rattle.vp_parse.specs.declared.error.ParseError.TheVariants as grammar
use Rattle.vp_design.specs.declared.error.DesignError.{DesignError}
use Rattle.vp_design.specs.declared.error.DesignError.TheVariants as fault
use Rattle.vp_design.specs.Faults.{line_of}
use Rattle.vp_design.specs.Spreading.{IsNumberAtFault, tokens_on}

-- of the tokens of a line this one is at fault, if there are any
abbrev pub IsTokenAmong : List ℕ → (line : ℕ) → List Token → Option Token → Type 0
IsTokenAmong text line on token = (number : ℕ) × IsNumberAtFault text line on number × (token ≡ slice_get on number)

-- the token of a line that is at fault, if the line has tokens
abbrev pub IsTokenOn : List ℕ → List Token → (line : ℕ) → Option Token → Type 0
IsTokenOn text tokens line token = IsTokenAmong text line (tokens_on line tokens) token

-- the place of the word that is left out, if one is
abbrev pub word_in : ParseError → Option ℕ
word_in (grammar.LeftOut word line) = Some word
word_in _ = None

abbrev pub word_left_out : DesignError → Option ℕ
word_left_out (fault.Source e) = word_in e
word_left_out _ = None

-- the token at this place, or else that of a line which is at fault
abbrev pub IsTokenAt : List ℕ → List Token → Option ℕ → (line : ℕ) → Option Token → Type 0
IsTokenAt text tokens (Some word) line token = token ≡ slice_get tokens word
IsTokenAt text tokens None line token = IsTokenOn text tokens line token

-- the token at fault: the word that is left out; else that of the fault's line
abbrev pub IsTokenAtFault : List ℕ → List Token → DesignError → Option Token → Type 0
IsTokenAtFault text tokens f token = IsTokenAt text tokens (word_left_out f) (line_of f) token
