-- The grammar of a pragma's line: derivations, the tokens that each spells, and what each says (clause 19.10).
use Rattle.std.specs.Prelude.{◌≡◌, Bool, true, false, List, [], ◌∷◌, Option, Some, None}
use Rattle.vp_lex.specs.declared.token.Token.{Token}
use Rattle.vp_pragma.specs.declared.line.Value as said
use Rattle.vp_pragma.specs.declared.line.Value.TheVariants as value
use Rattle.vp_pragma.specs.declared.line.Expression as said_expression
use Rattle.vp_pragma.specs.declared.line.Expression.TheVariants as expression
use Rattle.vp_pragma.specs.declared.token_class.TokenClass.{TokenClass}
use Rattle.vp_pragma.specs.declared.token_class.TokenClass.TheVariants as token_class
use Rattle.vp_pragma.specs.TokenClasses.{Placed, begins_with, is_base, is_equals, class_of}

-- ---- derivations

mutual
  -- a value: a string, a number with or without a base part, a base part alone, a word, or a list (clause 19.10)
  pub data PragmaValue : Type 0 where
    Text : Placed → PragmaValue
    Number : Placed → PragmaValue
    Sized : (size base : Placed) → PragmaValue
    Unsized : (base : Placed) → PragmaValue
    Word : Placed → PragmaValue
    Listed : (opening : Placed) → PragmaList → (closing : Placed) → PragmaValue

  -- an expression: a keyword alone, a keyword with a value, or a value that is no word (clause 19.10)
  pub data PragmaExpression : Type 0 where
    Keyword : Placed → PragmaExpression
    Assigned : (keyword equals : Placed) → PragmaValue → PragmaExpression
    Alone : PragmaValue → PragmaExpression

  -- the expressions of a list, with commas between them; there is one at least (clause 19.10)
  pub data PragmaList : Type 0 where
    Last : PragmaExpression → PragmaList
    More : PragmaExpression → (comma : Placed) → PragmaList → PragmaList

-- ---- what a derivation spells

abbrev mutual
  -- a value's tokens, and then these
  pub value_text : PragmaValue → List Placed → List Placed
  value_text (Text string) rest = string ∷ rest
  value_text (Number number) rest = number ∷ rest
  value_text (Sized size base) rest = size ∷ base ∷ rest
  value_text (Unsized base) rest = base ∷ rest
  value_text (Word word) rest = word ∷ rest
  value_text (Listed opening l closing) rest = opening ∷ list_text l (closing ∷ rest)

  -- an expression's tokens, and then these
  pub expression_text : PragmaExpression → List Placed → List Placed
  expression_text (Keyword word) rest = word ∷ rest
  expression_text (Assigned word equals v) rest = word ∷ equals ∷ value_text v rest
  expression_text (Alone v) rest = value_text v rest

  -- a list's tokens, and then these
  pub list_text : PragmaList → List Placed → List Placed
  list_text (Last e) rest = expression_text e rest
  list_text (More e comma l) rest = expression_text e (comma ∷ list_text l rest)

-- ---- which derivations are those of tokens

-- a token has this sign
abbrev pub Has : TokenClass → Placed → Type 0
Has s p = class_of p.1.kind ≡ s

-- a value is a word
abbrev pub is_word_value : PragmaValue → Bool
is_word_value (Word word) = true
is_word_value _ = false

abbrev mutual
  -- a value's tokens have the signs that it needs
  pub IsValue : PragmaValue → Type 0
  IsValue (Text string) = Has token_class.Text string
  IsValue (Number number) = Has token_class.Number number
  IsValue (Sized size base) = Has token_class.Number size × Has token_class.Base base
  IsValue (Unsized base) = Has token_class.Base base
  IsValue (Word word) = Has token_class.Word word
  IsValue (Listed opening l closing) = Has token_class.Opening opening × IsList l × Has token_class.Closing closing

  -- an expression's tokens have the signs that it needs
  pub IsExpression : PragmaExpression → Type 0
  IsExpression (Keyword word) = Has token_class.Word word
  IsExpression (Assigned word equals v) = Has token_class.Word word × Has token_class.Equals equals × IsValue v
  IsExpression (Alone v) = (is_word_value v ≡ false) × IsValue v

  -- a list's tokens have the signs that it needs
  pub IsList : PragmaList → Type 0
  IsList (Last e) = IsExpression e
  IsList (More e comma l) = IsExpression e × Has token_class.Comma comma × IsList l

-- ---- what derivations say

-- a keyword with a string
abbrev pub text_assigned : PragmaExpression → Option (Token × Token)
text_assigned (Assigned keyword equals (Text text)) = Some (keyword.1, text.1)
text_assigned _ = None

-- two keywords with strings, if both are given
abbrev pub pair_said : Option (Token × Token) → Option (Token × Token) → said.Value
pair_said (Some first) (Some second) =
    value.Pairs (record { first = first.0; text = first.1; second = second.0; other = second.1 })
pair_said _ _ = value.Other

-- a list of two keywords with strings says them; another list says nothing that is used (profile)
abbrev pub list_said : PragmaList → said.Value
list_said (More e comma (Last f)) = pair_said (text_assigned e) (text_assigned f)
list_said _ = value.Other

-- what a value says that is used: a string, or a list of two keywords with strings (profile)
abbrev pub value_said : PragmaValue → said.Value
value_said (Text string) = value.Text string.1
value_said (Listed opening l closing) = list_said l
value_said _ = value.Other

-- what an expression says: a keyword with its place, a keyword with a value, or nothing that is used
abbrev pub expression_said : PragmaExpression → said_expression.Expression
expression_said (Keyword word) = expression.Alone word.0 word.1
expression_said (Assigned word equals v) = expression.Assigned word.1 (value_said v)
expression_said (Alone v) = expression.Only

-- ---- the expressions of a line

-- no base part follows with which a number goes on
abbrev pub EndsValue : PragmaValue → List Placed → Type 0
EndsValue (Number number) rest = begins_with is_base rest ≡ false
EndsValue _ rest = Unit {0}

-- nothing follows with which an expression goes on: no value for a keyword, no base part for a number
abbrev pub EndsExpression : PragmaExpression → List Placed → Type 0
EndsExpression (Keyword word) rest = begins_with is_equals rest ≡ false
EndsExpression (Assigned word equals v) rest = EndsValue v rest
EndsExpression (Alone v) rest = EndsValue v rest

-- these tokens begin with an expression, and nothing follows with which it goes on
pub record Begins (ps : List Placed) (e : PragmaExpression) (rest : List Placed) : Type 0 where
  pub spelled : ps ≡ expression_text e rest
  pub is : IsExpression e
  pub ends : EndsExpression e rest

-- what follows an expression, by the first sign: more after a comma; else something that makes the line bad there
abbrev pub FollowsBy : TokenClass → Type 0 → List PragmaExpression → (whole : Bool) → Type 0
FollowsBy token_class.Comma more es whole = more
FollowsBy _ more [] whole = whole ≡ false
FollowsBy _ more (e ∷ es) whole = ⊥

-- what follows an expression: nothing, where it is the last of a whole line
abbrev pub Follows : (List Placed → Type 0) → List Placed → List PragmaExpression → (whole : Bool) → Type 0
Follows more [] [] whole = whole ≡ true
Follows more [] (e ∷ es) whole = ⊥
Follows more (p ∷ ps) es whole = FollowsBy (class_of p.1.kind) (more ps) es whole

-- the expressions of these tokens, separated by commas, up to the place where the line is bad, if it is not whole
abbrev pub AreExpressions : List Placed → List PragmaExpression → (whole : Bool) → Type 0
AreExpressions ps [] whole = (whole ≡ false) × ((e : PragmaExpression) (rest : List Placed) → Begins ps e rest → ⊥)
AreExpressions ps (e ∷ es) whole = (rest : List Placed) × Begins ps e rest × Follows (λ more. AreExpressions more es whole) rest es whole
