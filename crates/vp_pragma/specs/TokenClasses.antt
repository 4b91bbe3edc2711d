-- What the tokens of a pragma's line are in its grammar.
use Rattle.std.specs.Prelude.{ℕ, Bool, true, false, List, [], ◌∷◌}
use Rattle.vp_lex.specs.declared.token.Punctuator.TheVariants as punctuator
use Rattle.vp_lex.specs.declared.token.Token.{Token}
use Rattle.vp_lex.specs.declared.token.TokenKind.{TokenKind}
use Rattle.vp_lex.specs.declared.token.TokenKind.TheVariants as token
use Rattle.vp_pragma.specs.declared.token_class.TokenClass.{TokenClass}
use Rattle.vp_pragma.specs.declared.token_class.TokenClass.TheVariants as token_class

-- a token with its place
abbrev pub Placed : Type 0
Placed = ℕ × Token

-- what a kind of token is in the grammar of a pragma's line: a name is a word, be it a keyword (clauses 3.5.1, 3.6, 3.7, 19.10)
abbrev pub class_of : TokenKind → TokenClass
class_of token.Name = token_class.Word
class_of (token.Keyword k) = token_class.Word
class_of token.String = token_class.Text
class_of token.Number = token_class.Number
class_of token.Base = token_class.Base
class_of (token.Punctuator punctuator.Equals) = token_class.Equals
class_of (token.Punctuator punctuator.Comma) = token_class.Comma
class_of (token.Punctuator punctuator.LeftParenthesis) = token_class.Opening
class_of (token.Punctuator punctuator.RightParenthesis) = token_class.Closing
class_of _ = token_class.Other

-- two signs are the same
abbrev pub same_class : TokenClass → TokenClass → Bool
same_class token_class.Word token_class.Word = true
same_class token_class.Text token_class.Text = true
same_class token_class.Number token_class.Number = true
same_class token_class.Base token_class.Base = true
same_class token_class.Equals token_class.Equals = true
same_class token_class.Comma token_class.Comma = true
same_class token_class.Opening token_class.Opening = true
same_class token_class.Closing token_class.Closing = true
same_class token_class.Other token_class.Other = true
same_class _ _ = false

-- a kind of token is a word
abbrev pub is_word : TokenKind → Bool
is_word kind = same_class token_class.Word (class_of kind)

-- a kind of token is a string
abbrev pub is_string : TokenKind → Bool
is_string kind = same_class token_class.Text (class_of kind)

-- a kind of token is the base part of a number
abbrev pub is_base : TokenKind → Bool
is_base kind = same_class token_class.Base (class_of kind)

-- a kind of token gives a keyword its value
abbrev pub is_equals : TokenKind → Bool
is_equals kind = same_class token_class.Equals (class_of kind)

-- a kind of token stands between expressions
abbrev pub is_comma : TokenKind → Bool
is_comma kind = same_class token_class.Comma (class_of kind)

-- a kind of token ends a list
abbrev pub is_close : TokenKind → Bool
is_close kind = same_class token_class.Closing (class_of kind)

-- the first of these tokens is of a kind
abbrev pub begins_with : (TokenKind → Bool) → List Placed → Bool
begins_with test [] = false
begins_with test (p ∷ ps) = test p.1.kind

-- all but the first
abbrev pub rest_of : List Placed → List Placed
rest_of [] = []
rest_of (p ∷ ps) = ps
