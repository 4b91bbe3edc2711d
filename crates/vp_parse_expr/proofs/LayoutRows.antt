-- What the grammar sees of base parts, and the list of an expression, computed on examples.
use Rattle.std.proofs.Common.{◌≡◌, [], ◌∷◌, refl}
use Rattle.std.specs.Prelude.{codes}
use Rattle.vp_source.specs.declared.expression.Expression.TheVariants as node_of
use Rattle.vp_source.specs.declared.expression.Selection.TheVariants as selection_of
use Rattle.vp_source.specs.declared.operator.BinaryOperator.TheVariants as binary
use Rattle.vp_source.specs.declared.symbol.SymbolKind.TheVariants as symbol
use Rattle.vp_parse_expr.specs.Symbols.{base_kind}
use Rattle.vp_source.specs.ExprGrammar.{Expr, Name, Number, Group, Binary, Conditional, Replication, Whole, Bit, Part, First, More}
use Rattle.vp_source.specs.ExprLayout.{put_expr}

-- ---- base parts (IEEE Std 1364-2005, 3.5.1)

row_binary : base_kind (codes "'b10_1") ≡ symbol.ShortBase
row_binary = refl

row_unknown : base_kind (codes "'B1x") ≡ symbol.Base
row_unknown = refl

row_high : base_kind (codes "'o7?") ≡ symbol.Base
row_high = refl

row_hexadecimal : base_kind (codes "'h FFFF_fFfF") ≡ symbol.ShortBase
row_hexadecimal = refl

row_hexadecimal_over : base_kind (codes "'H1_0000_0000") ≡ symbol.Base
row_hexadecimal_over = refl

row_decimal : base_kind (codes "'d4294967295") ≡ symbol.ShortBase
row_decimal = refl

row_decimal_over : base_kind (codes "'D 4294967296") ≡ symbol.Base
row_decimal_over = refl

row_decimal_unknown : base_kind (codes "'dx") ≡ symbol.OtherBase
row_decimal_unknown = refl

row_signed : base_kind (codes "'sb1") ≡ symbol.OtherBase
row_signed = refl

-- ---- lists

-- c ? {2{a, b[i]}} : (d[7:0] + 1)
abbrev example : Expr
example =
    Conditional (Name 0 Whole) 1
    (Replication 2 3 2 4 (More (First (Name 5 Whole)) 6 (Name 7 (Bit 8 (Name 9 Whole) 10))) 11 12) 13
    (Group 14 (Binary binary.Add (Name 15 (Part (record { opening = 16; msb_place = 17; msb = 7; colon = 18; lsb_place = 19; lsb = 0; closing = 20 }))) 21 (Number 22 1)) 23)

-- the condition first; a concatenation and one more; the replication after it; no part for parentheses; the whole last
row_list : (put_expr example []).1
    ≡ node_of.Name 0 selection_of.Whole ∷ node_of.Name 5 selection_of.Whole ∷ node_of.Concatenation 4 1 ∷ node_of.Name 9 selection_of.Whole
    ∷ node_of.Name 7 (selection_of.Bit 3) ∷ node_of.Appended 4 2 4 ∷ node_of.Replication 2 2 5
    ∷ node_of.Name 15 (selection_of.Part (record { msb = 7; lsb = 0 })) ∷ node_of.Number 22 1 ∷ node_of.Binary binary.Add 21 7 8
    ∷ node_of.Conditional 0 6 9 ∷ []
row_list = refl
