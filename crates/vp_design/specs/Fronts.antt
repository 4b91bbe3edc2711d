-- Where the tokens of a text are at fault on a line: after the longest front of the line up to which there are none at fault.
use Rattle.std.specs.Prelude.{◌≡◌, ◌<◌, ◌≤◌, ◌⊎◌, ◌+◌, ◌-◌, ℕ, List, length, take, min}
use Rattle.std.specs.Str.{IsCharBoundary}
use Rattle.vp_lex.specs.declared.token.Token.{Token}
use Rattle.vp_lex.specs.declared.error.LexError.{LexError}
use Rattle.vp_lex.specs.declared.error.LexError.TheVariants as error
use Rattle.vp_lex.specs.Tokens.{AreTokens, IsError}
use Rattle.vp_design.specs.Lines.{line_of, line_start}

-- a text has tokens
abbrev pub HasTokens : List ℕ → Type 0
HasTokens text = (tokens : List Token) × AreTokens text tokens

-- a text has none, for a fault
abbrev pub HasNoTokens : List ℕ → Type 0
HasNoTokens text = (e : LexError) × IsError text e

-- of the fronts of a text from a length to another this one is the longest that has tokens, or the first where none has
pub record IsLongestFront (text : List ℕ) (start end at : ℕ) : Type 0 where
  pub from : start ≤ at
  pub to : at ≤ end
  pub has : (at ≡ start) ⊎ HasTokens (take at text)
  pub longest : (n : ℕ) → at < n → n ≤ end → IsCharBoundary text n → HasNoTokens (take n text)

-- so many bytes of a line are looked at
abbrev pub sought : ℕ
sought = 1024

-- where a line begins, and where what is looked at of it ends
abbrev pub line_end : (line : ℕ) → List ℕ → ℕ
line_end line text = line_start line text + min (length (line_of line text)) sought

-- the solidus of a comment that does not end belongs to its fault, though alone it is a token
abbrev pub solidus_of : LexError → ℕ
solidus_of (error.OpenComment line) = 1
solidus_of _ = 0

-- so many bytes of its line stand before a fault of tokens
abbrev pub IsOffset : List ℕ → LexError → (line offset : ℕ) → Type 0
IsOffset text e line offset =
    (at : ℕ) × IsLongestFront text (line_start line text) (line_end line text) at × (offset ≡ at - line_start line text - solidus_of e)
