-- A text with each token of a line on a line of its own, and where its fault lies then.
use Rattle.std.specs.Prelude.{◌≡◌, ◌⊎◌, ◌+◌, ◌-◌, ◌==◌, ◌&&◌, ℕ, nat_le, nat_lt, if◌then◌else◌, Bool, true, List, [], ◌∷◌, ◌++◌, drop, filter, length}
use Rattle.std.specs.List.{list_any}
use Rattle.vp_lex.specs.declared.token.Token.{Token}
use Rattle.vp_lex.specs.Texts.{part_of}
use Rattle.vp_elab.specs.Built.{Elaborated}
use Rattle.vp_design.specs.declared.error.DesignError.{DesignError}
use Rattle.vp_design.specs.Designs.{IsDesignOf, IsRefusedBy}
use Rattle.vp_design.specs.Faults.{line_of}

-- the tokens that begin on a line
abbrev pub tokens_on : ℕ → List Token → List Token
tokens_on line tokens = filter (λ t. t.line == line) tokens

-- a text from a place on, with a newline before each of these tokens
abbrev pub spread_from : List ℕ → ℕ → List Token → List ℕ
spread_from text at [] = part_of text at (length text)
spread_from text at (t ∷ tokens) = part_of text at t.start ++ 10 ∷ spread_from text t.start tokens

-- a text in which each of these tokens of a line has a line of its own: a newline stands before each but the first
abbrev pub spread : List ℕ → List Token → List ℕ
spread text on = spread_from text 0 (drop 1 on)

-- a directive stands among these tokens, which ends with its line
abbrev pub has_directive : List Token → Bool
has_directive on = list_any (λ t. t.directive) on

-- the line of the fault of a text; 0 where it has none, or none is known
abbrev pub IsFaultLine : List ℕ → ℕ → Type 0
IsFaultLine text line =
    ((design : Elaborated) × IsDesignOf text design × (line ≡ 0))
    ⊎ ((fault : DesignError) × IsRefusedBy text fault × (line ≡ line_of fault))

-- which of so many lines from one on a line is, from 0; the first where it is none of them
abbrev pub number_among : (line count : ℕ) → ℕ → ℕ
number_among line count other = if nat_le line other && nat_lt other (line + count) then other - line else 0

-- of these tokens of a line the one of this number is at fault: that on whose line the fault lies when each has its own line; the first
-- where the fault lies elsewhere, and on the line of a directive, which is not spread
abbrev pub IsNumberAtFault : List ℕ → (line : ℕ) → List Token → ℕ → Type 0
IsNumberAtFault text line on number =
    ((has_directive on ≡ true) × (number ≡ 0))
    ⊎ ((other : ℕ) × IsFaultLine (spread text on) other × (number ≡ number_among line (length on) other))
