-- Places in a text, by byte, line and column.
use Rattle.std.specs.Prelude.{◌≡◌, ℕ, ◌+◌, ◌≤◌, List, length, take}
use Rattle.vp_lex.specs.declared.token.Position.{Position}
use Rattle.vp_lex.specs.Tokens.{line_after, column_after}

-- the place is in the text, on the line after the bytes before it, and as far after that line's start as their column says
pub record IsPlace (text : List ℕ) (here : Position) : Type 0 where
  pub within : here.at ≤ length text
  pub line : here.line ≡ line_after (take here.at text)
  pub column : here.line_start + column_after (take here.at text) ≡ here.at + 1
