-- The constants of items, at rows that are worked out by hand.
use Rattle.std.proofs.Common.{◌≡◌, ℕ, ◌+◌, false, [], ◌∷◌, None, refl}
use Rattle.std.specs.Prelude.{codes}
use Rattle.std.specs.Str.{chars, is_utf8}
use Rattle.std.proofs.Math.Utf8.{encode}
use Rattle.vp_bits.specs.declared.bit.Bit.TheVariants.{Zero, One, Unknown}
use Rattle.vp_lex.specs.declared.token.Token.{Token}
use Rattle.vp_lex.specs.declared.token.TokenKind.TheVariants as token
use Rattle.vp_source.specs.declared.expression.Expression.TheVariants.{Literal, Number}
use Rattle.vp_source.specs.declared.source.Item.TheVariants.{LocalParameter, Reg}
use Rattle.vp_source.specs.declared.source.Source.{Source}
use Rattle.vp_resolve.specs.Constants.{item_constant}

abbrev part : (start end : ℕ) → Token
part start end = record { kind = token.Name; start = start; end = end; line = 1; column = start + 1; directive = false }

-- localparam p = 4'd9: its name, its size and its base part have the places 0 to 2
abbrev source : Source
source = record {
  text = codes "p4'd9";
  tokens = part 0 1 ∷ part 1 2 ∷ part 2 5 ∷ [];
  modules = [];
  connections = [];
  items = LocalParameter 0 0 ∷ Reg 0 None ∷ [];
  statements = [];
  expressions = Literal 1 4 2 ∷ Number 1 4 ∷ [];
  terms = [];
  choices = [];
}

nine : item_constant source 4 (LocalParameter 0 0) ≡ One ∷ Zero ∷ Zero ∷ One ∷ []
unfolding is_utf8 chars encode
nine = refl

-- what is no literal with a size has none, and neither has a reg
no_literal : item_constant source 2 (LocalParameter 0 1) ≡ Unknown ∷ Unknown ∷ []
no_literal = refl

of_a_reg : item_constant source 2 (Reg 0 None) ≡ Unknown ∷ Unknown ∷ []
of_a_reg = refl
