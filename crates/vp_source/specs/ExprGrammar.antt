-- The grammar of expressions: derivations, and the symbols that each spells. A derivation holds the places of its terminals.
use Rattle.std.specs.Prelude.{◌≡◌, ℕ, ◌+◌, ◌≤◌, ◌<◌, max, Bool, true, false, List, ◌∷◌}
use Rattle.vp_lex.specs.declared.token.Punctuator.TheVariants as punctuator
use Rattle.vp_source.specs.declared.operator.BinaryOperator.{BinaryOperator}
use Rattle.vp_source.specs.declared.operator.UnaryOperator.{UnaryOperator}
use Rattle.vp_source.specs.declared.symbol.Symbol.{Symbol}
use Rattle.vp_source.specs.declared.symbol.SymbolKind.{SymbolKind}
use Rattle.vp_source.specs.declared.symbol.SymbolKind.TheVariants as symbol
use Rattle.vp_source.specs.declared.symbol.TheConstants.{NUMBER_LIMIT}
use Rattle.vp_source.specs.Kinds.{symbol_at}
use Rattle.vp_source.specs.Operators.{unary_sign, binary_sign, level}

-- ---- derivations

-- a range, by its bounds and the places of its terminals (4.3.1, 5.2.1)
pub record Range : Type 0 where
  pub opening : ℕ
  pub msb_place : ℕ
  pub msb : ℕ
  pub colon : ℕ
  pub lsb_place : ℕ
  pub lsb : ℕ
  pub closing : ℕ

mutual
  -- an expression (5): a name with what is selected of it (5.2.1); a literal with a size, a literal without one, a decimal number
  -- (3.5.1); parentheses (5.1.2); an operator of one operand, or of two (5.1); ?: (5.1.13); braces (5.1.14)
  pub data Expr : Type 0 where
    Name : (place : ℕ) → Selection → Expr
    Sized : (place size : ℕ) → (kind : SymbolKind) → (digits : ℕ) → Expr
    Based : (digits : ℕ) → Expr
    Number : (place value : ℕ) → Expr
    Group : (opening : ℕ) → Expr → (closing : ℕ) → Expr
    Unary : UnaryOperator → (place : ℕ) → Expr → Expr
    Binary : BinaryOperator → Expr → (place : ℕ) → Expr → Expr
    Conditional : Expr → (question : ℕ) → Expr → (colon : ℕ) → Expr → Expr
    Concatenation : (opening : ℕ) → Parts → (closing : ℕ) → Expr
    Replication : (opening count_place count inner_opening : ℕ) → Parts → (inner_closing closing : ℕ) → Expr

  -- what of a named object is selected: all, a bit, or a part (5.2.1)
  pub data Selection : Type 0 where
    Whole : Selection
    Bit : (opening : ℕ) → Expr → (closing : ℕ) → Selection
    Part : Range → Selection

  -- the expressions in braces, of which there is one at least (5.1.14)
  pub data Parts : Type 0 where
    First : Expr → Parts
    More : Parts → (comma : ℕ) → Expr → Parts

-- ---- what a derivation spells

-- a range's symbols, and then these (4.3.1)
abbrev pub range_text : Range → List Symbol → List Symbol
range_text r rest =
    symbol_at (symbol.Punctuator punctuator.LeftBracket) r.opening ∷ symbol_at (symbol.Number r.msb) r.msb_place
    ∷ symbol_at (symbol.Punctuator punctuator.Colon) r.colon ∷ symbol_at (symbol.Number r.lsb) r.lsb_place
    ∷ symbol_at (symbol.Punctuator punctuator.RightBracket) r.closing ∷ rest

abbrev mutual
  -- an expression's symbols, and then these (3.5.1, 5.1)
  pub expr_text : Expr → List Symbol → List Symbol
  expr_text (Name place s) rest = symbol_at symbol.Name place ∷ selection_text s rest
  expr_text (Sized place size kind digits) rest = symbol_at (symbol.Number size) place ∷ symbol_at kind digits ∷ rest
  expr_text (Based digits) rest = symbol_at symbol.ShortBase digits ∷ rest
  expr_text (Number place value) rest = symbol_at (symbol.Number value) place ∷ rest
  expr_text (Group opening e closing) rest =
      symbol_at (symbol.Punctuator punctuator.LeftParenthesis) opening
      ∷ expr_text e (symbol_at (symbol.Punctuator punctuator.RightParenthesis) closing ∷ rest)
  expr_text (Unary o place e) rest = symbol_at (symbol.Punctuator (unary_sign o)) place ∷ expr_text e rest
  expr_text (Binary o a place b) rest = expr_text a (symbol_at (symbol.Punctuator (binary_sign o)) place ∷ expr_text b rest)
  expr_text (Conditional c question a colon b) rest =
      expr_text c (symbol_at (symbol.Punctuator punctuator.Conditional) question
      ∷ expr_text a (symbol_at (symbol.Punctuator punctuator.Colon) colon ∷ expr_text b rest))
  expr_text (Concatenation opening l closing) rest =
      symbol_at (symbol.Punctuator punctuator.LeftBrace) opening
      ∷ parts_text l (symbol_at (symbol.Punctuator punctuator.RightBrace) closing ∷ rest)
  expr_text (Replication opening count_place count inner_opening l inner_closing closing) rest =
      symbol_at (symbol.Punctuator punctuator.LeftBrace) opening ∷ symbol_at (symbol.Number count) count_place
      ∷ symbol_at (symbol.Punctuator punctuator.LeftBrace) inner_opening
      ∷ parts_text l (symbol_at (symbol.Punctuator punctuator.RightBrace) inner_closing
      ∷ symbol_at (symbol.Punctuator punctuator.RightBrace) closing ∷ rest)

  -- a selection's symbols, and then these (5.2.1)
  pub selection_text : Selection → List Symbol → List Symbol
  selection_text Whole rest = rest
  selection_text (Bit opening e closing) rest =
      symbol_at (symbol.Punctuator punctuator.LeftBracket) opening
      ∷ expr_text e (symbol_at (symbol.Punctuator punctuator.RightBracket) closing ∷ rest)
  selection_text (Part r) rest = range_text r rest

  -- the symbols of the expressions in braces, and then these (5.1.14)
  pub parts_text : Parts → List Symbol → List Symbol
  parts_text (First e) rest = expr_text e rest
  parts_text (More l comma e) rest = parts_text l (symbol_at (symbol.Punctuator punctuator.Comma) comma ∷ expr_text e rest)

-- ---- which derivations are expressions

-- how tightly an expression holds together (table 5-4)
abbrev pub tightness : Expr → ℕ
tightness (Binary o a place b) = level o
tightness (Conditional c question a colon b) = 0
tightness _ = 11

-- a literal without a size, or a number, alone (3.5.1)
abbrev pub is_unsized : Expr → Bool
is_unsized (Based digits) = true
is_unsized (Number place value) = true
is_unsized _ = false

-- a literal with a size (3.5.1)
abbrev pub is_sized : Expr → Bool
is_sized (Sized place size kind digits) = true
is_sized _ = false

-- a base part of this kind may stand after a size (profile)
abbrev pub is_sized_base : SymbolKind → Bool
is_sized_base symbol.ShortBase = true
is_sized_base symbol.Base = true
is_sized_base _ = false

-- a range does not ascend, and its bounds are at most 65,535 (profile)
pub record IsRange (r : Range) : Type 0 where
  pub descends : r.lsb ≤ r.msb
  pub fits : r.msb ≤ 65535

abbrev mutual
  -- binary operators go from left to right, and ?: from right to left (5.1.2); a size has 1 to 65,535 bits, and a number without
  -- a base has 31 (profile)
  pub IsExpr : Expr → Type 0
  IsExpr (Name place s) = IsSelection s
  IsExpr (Sized place size kind digits) = (1 ≤ size) × (size ≤ 65535) × (is_sized_base kind ≡ true)
  IsExpr (Based digits) = Unit {0}
  IsExpr (Number place value) = value < NUMBER_LIMIT
  IsExpr (Group opening e closing) = IsExpr e
  IsExpr (Unary o place e) = IsExpr e × (11 ≤ tightness e)
  IsExpr (Binary o a place b) = IsExpr a × IsExpr b × (level o ≤ tightness a) × (level o < tightness b)
  IsExpr (Conditional c question a colon b) = IsExpr c × IsExpr a × IsExpr b × (0 < tightness c)
  IsExpr (Concatenation opening l closing) = AreParts l
  IsExpr (Replication opening count_place count inner_opening l inner_closing closing) = AreParts l × (count < NUMBER_LIMIT)

  -- a selection of expressions (5.2.1)
  pub IsSelection : Selection → Type 0
  IsSelection Whole = Unit {0}
  IsSelection (Bit opening e closing) = IsExpr e
  IsSelection (Part r) = IsRange r

  -- what stands in braces has a size (5.1.14)
  pub AreParts : Parts → Type 0
  AreParts (First e) = IsExpr e × (is_unsized e ≡ false)
  AreParts (More l comma e) = AreParts l × IsExpr e × (is_unsized e ≡ false)

-- ---- how deep a derivation nests

abbrev mutual
  -- how deep an expression nests: the whole has 1, and what stands in it one more (profile)
  pub expr_depth : Expr → ℕ
  expr_depth (Name place s) = selection_depth s + 1
  expr_depth (Sized place size kind digits) = 1
  expr_depth (Based digits) = 1
  expr_depth (Number place value) = 1
  expr_depth (Group opening e closing) = expr_depth e + 1
  expr_depth (Unary o place e) = expr_depth e + 1
  expr_depth (Binary o a place b) = max (expr_depth a) (expr_depth b) + 1
  expr_depth (Conditional c question a colon b) = max (expr_depth c) (max (expr_depth a) (expr_depth b)) + 1
  expr_depth (Concatenation opening l closing) = parts_depth l + 1
  expr_depth (Replication opening count_place count inner_opening l inner_closing closing) = parts_depth l + 1

  -- how deep the index of a selection nests, 0 without one (profile)
  pub selection_depth : Selection → ℕ
  selection_depth Whole = 0
  selection_depth (Bit opening e closing) = expr_depth e
  selection_depth (Part r) = 0

  -- how deep the deepest expression in braces nests (profile)
  pub parts_depth : Parts → ℕ
  parts_depth (First e) = expr_depth e
  parts_depth (More l comma e) = max (parts_depth l) (expr_depth e)
