-- Laws of reading: what is read is spelled so, is well formed, and nests at most so deep.
use Rattle.std.proofs.Common.{◌≡◌, ℕ, zero, suc, ◌+◌, ◌-◌, ◌≤◌, ◌<◌, List, [], ◌∷◌, length, Bool, true, false, cond, eqb, Option, Some, None, Result, Ok, Err, refl, sym, ap, ◌∙◌, arith}
use Rattle.std.specs.Prelude.{◌&&◌, ◌==◌, slice_get, nat_le, nat_lt}
use Rattle.std.proofs.lemmas.Bool.{eqb-true, eq-eqb}
use Rattle.vp_lex.specs.declared.keyword.Keyword.{Keyword}
use Rattle.vp_lex.specs.declared.keyword.Keyword.TheVariants as keyword
use Rattle.vp_lex.specs.declared.token.Punctuator.{Punctuator}
use Rattle.vp_lex.specs.declared.token.Punctuator.TheVariants as punctuator
use Rattle.vp_source.specs.declared.operator.BinaryOperator.{BinaryOperator}
use Rattle.vp_source.specs.declared.operator.UnaryOperator.{UnaryOperator}
use Rattle.vp_source.specs.declared.symbol.Symbol.{Symbol}
use Rattle.vp_source.specs.declared.symbol.SymbolKind.{SymbolKind}
use Rattle.vp_source.specs.declared.symbol.SymbolKind.TheVariants as symbol
use Rattle.vp_source.specs.declared.symbol.TheConstants.{NUMBER_LIMIT}
use Rattle.vp_source.specs.Kinds.{keyword_number, punctuator_number, sort_number, kind_value, same_kind, symbol_at}
use Rattle.vp_source.specs.Operators.{unary_of, unary_sign, binary_sign, level, binds}
use Rattle.vp_parse_expr.specs.laws.Binding.{unary_is, level_above, level_below, binds_is, binds_below, binds-none}
use Rattle.vp_parse_expr.specs.Stopping.{Stop, ◌>>=◌, Reader, is_next, terminal}
use Rattle.vp_source.specs.ExprGrammar.{Range, Expr, Name, Sized, Based, Number, Group, Unary, Binary, Conditional, Concatenation, Replication, Selection, Whole, Bit, Part, Parts, First, More, range_text, expr_text, selection_text, parts_text, tightness, is_unsized, is_sized, is_sized_base, IsRange, IsExpr, IsSelection, AreParts, expr_depth, selection_depth, parts_depth}
use Rattle.vp_parse_expr.specs.Reading.{is_base_next, is_number_before, is_part, is_bare, bound_by, bound_at, range_at, is_size_of, sized_at, number_at, literal_by, literal_at, bit_at, part_select_at, select_at, name_at, group_at, unary_at, part_at, further_part_at, further_parts_at, parts_at, concatenation_at, replication_at, braces_at, operand_by, operand_at, on_operator, binary_at, more_at, conditional_at, is_choice, choice_at, chain_at, expr_at}

-- ---- tools

-- this holds of what is read, if something is
abbrev pub Holds : {A : Type 0} → (A → Type 0) → Result A Stop → Type 0
Holds P (Ok x) = P x
Holds P (Err s) = Unit {0}

pub Holds-bind : {A B : Type 0} (P : A → Type 0) (Q : B → Type 0) (r : Result A Stop) (f : A → Result B Stop) → Holds P r → ((x : A) → P x → Holds Q (f x)) → Holds Q (r >>= f)
Holds-bind P Q (Ok x) f h k = k x h
Holds-bind P Q (Err s) f h k = tt

pub Holds-if : {A : Type 0} (P : A → Type 0) (b : Bool) (x y : Result A Stop) → (b ≡ true → Holds P x) → (b ≡ false → Holds P y) → Holds P (cond b x y)
Holds-if P true x y h k = h refl
Holds-if P false x y h k = k refl

Holds-on : {A : Type 0} (P : A → Type 0) (p : Option BinaryOperator) (f : BinaryOperator → Result A Stop) (x : Result A Stop) → ((o : BinaryOperator) → p ≡ Some o → Holds P (f o)) → (p ≡ None → Holds P x) → Holds P (on_operator p f x)
Holds-on P None f x h k = k refl
Holds-on P (Some o) f x h k = h o refl

pub both_true : (a b : Bool) → (a && b) ≡ true → (a ≡ true) × (b ≡ true)
both_true true true e = (refl, refl)
both_true true false e = absurd cc
both_true false b e = absurd cc

pub le_of : (m n : ℕ) → nat_le m n ≡ true → m ≤ n
le_of m n e = grind arith

pub lt_of : (m n : ℕ) → nat_lt m n ≡ true → m < n
lt_of m n e = grind arith

-- ---- kinds that are the same

keyword_of_number : ℕ → Option Keyword
keyword_of_number n = slice_get (keyword.Module ∷ keyword.Endmodule ∷ keyword.Input ∷ keyword.Output ∷ keyword.Wire ∷ keyword.Reg ∷ keyword.Localparam ∷ keyword.Assign ∷ keyword.Initial ∷ keyword.Always ∷ keyword.Begin ∷ keyword.End ∷ keyword.If ∷ keyword.Else ∷ keyword.Case ∷ keyword.Casez ∷ keyword.Endcase ∷ keyword.Default ∷ keyword.While ∷ keyword.For ∷ keyword.Forever ∷ keyword.Wait ∷ keyword.Posedge ∷ keyword.Negedge ∷ keyword.Or ∷ keyword.Casex ∷ keyword.LeftOut ∷ []) n

keyword_of_number-is : (k : Keyword) → keyword_of_number (keyword_number k) ≡ Some k
unfolding keyword_of_number
keyword_of_number-is keyword.Module = refl
keyword_of_number-is _ = refl

keyword_same : (k l : Keyword) → keyword_number k ≡ keyword_number l → k ≡ l
keyword_same k l e =
    let h : ◌≡◌ {A = Option Keyword} (Some k) (Some l) = sym (keyword_of_number-is k) ∙ ap keyword_of_number e ∙ keyword_of_number-is l in
    cc

punctuator_of_number : ℕ → Option Punctuator
punctuator_of_number n = slice_get (punctuator.ArithmeticShiftLeft ∷ punctuator.ArithmeticShiftRight ∷ punctuator.CaseEquality ∷ punctuator.CaseInequality ∷ punctuator.Power ∷ punctuator.ShiftLeft ∷ punctuator.ShiftRight ∷ punctuator.LessOrEqual ∷ punctuator.GreaterOrEqual ∷ punctuator.LogicalEquality ∷ punctuator.LogicalInequality ∷ punctuator.LogicalAnd ∷ punctuator.LogicalOr ∷ punctuator.ReductionNand ∷ punctuator.ReductionNor ∷ punctuator.ReductionXnor ∷ punctuator.EventTrigger ∷ punctuator.Plus ∷ punctuator.Minus ∷ punctuator.Asterisk ∷ punctuator.Divide ∷ punctuator.Modulus ∷ punctuator.And ∷ punctuator.Or ∷ punctuator.Xor ∷ punctuator.Negation ∷ punctuator.LogicalNegation ∷ punctuator.Conditional ∷ punctuator.LessThan ∷ punctuator.GreaterThan ∷ punctuator.Equals ∷ punctuator.LeftParenthesis ∷ punctuator.RightParenthesis ∷ punctuator.LeftBracket ∷ punctuator.RightBracket ∷ punctuator.LeftBrace ∷ punctuator.RightBrace ∷ punctuator.Comma ∷ punctuator.Semicolon ∷ punctuator.Colon ∷ punctuator.Period ∷ punctuator.Hash ∷ punctuator.At ∷ []) n

punctuator_of_number-is : (p : Punctuator) → punctuator_of_number (punctuator_number p) ≡ Some p
unfolding punctuator_of_number
punctuator_of_number-is punctuator.Equals = refl
punctuator_of_number-is _ = refl

punctuator_same : (p q : Punctuator) → punctuator_number p ≡ punctuator_number q → p ≡ q
punctuator_same p q e =
    let h : ◌≡◌ {A = Option Punctuator} (Some p) (Some q) = sym (punctuator_of_number-is p) ∙ ap punctuator_of_number e ∙ punctuator_of_number-is q in
    cc

by_numbers : (a b : SymbolKind) → sort_number a ≡ sort_number b → kind_value a ≡ kind_value b → a ≡ b
by_numbers symbol.Name symbol.Name s v = refl
by_numbers (symbol.Number m) (symbol.Number n) s v = ap (λ (n : ℕ). symbol.Number n) v
by_numbers symbol.Base symbol.Base s v = refl
by_numbers symbol.String symbol.String s v = refl
by_numbers symbol.SystemName symbol.SystemName s v = refl
by_numbers symbol.OtherBase symbol.OtherBase s v = refl
by_numbers symbol.ShortBase symbol.ShortBase s v = refl
by_numbers symbol.Finish symbol.Finish s v = refl
by_numbers (symbol.Keyword k) (symbol.Keyword l) s v = ap (λ (k : Keyword). symbol.Keyword k) (keyword_same k l v)
by_numbers (symbol.Punctuator p) (symbol.Punctuator q) s v = ap (λ (p : Punctuator). symbol.Punctuator p) (punctuator_same p q v)
by_numbers _ _ s v = absurd (omega arith)

-- kinds that are tested as the same are the same
pub same_kind_is : (a b : SymbolKind) → same_kind a b ≡ true → a ≡ b
same_kind_is a b e =
    let h = both_true (eqb (sort_number a) (sort_number b)) (eqb (kind_value a) (kind_value b)) e in
    by_numbers a b (eqb-true _ _ h.0) (eqb-true _ _ h.1)

-- these symbols are one of this kind, at the place that is read, and those that are left
abbrev pub IsTerminal : SymbolKind → List Symbol → ℕ × List Symbol → Type 0
IsTerminal kind ts x = ts ≡ symbol_at kind x.0 ∷ x.1

pub terminal_takes : (kind : SymbolKind) (ts : List Symbol) → Holds (IsTerminal kind ts) (terminal kind ts)
unfolding terminal
terminal_takes kind [] = tt
terminal_takes kind (s ∷ ts) =
    Holds-if (IsTerminal kind (s ∷ ts)) (same_kind kind s.kind) _ _ (λ e. ap (λ (k : SymbolKind). symbol_at k s.place ∷ ts) (sym (same_kind_is kind s.kind e))) (λ e. tt)

-- a symbol in front of others
abbrev pub before : SymbolKind → ℕ → List Symbol → List Symbol
before kind place ts = symbol_at kind place ∷ ts

-- ---- ranges

-- these symbols are a number at most so great, its value and its place, and those that are left
abbrev IsBound : ℕ → List Symbol → ℕ × ℕ × List Symbol → Type 0
IsBound greatest ts x = (ts ≡ symbol_at (symbol.Number x.0) x.1 ∷ x.2) × (x.0 ≤ greatest)

bound_by_takes : (greatest : ℕ) (kind : SymbolKind) (place : ℕ) (ts : List Symbol) → Holds (IsBound greatest (symbol_at kind place ∷ ts)) (bound_by greatest kind place ts)
unfolding bound_by
bound_by_takes greatest (symbol.Number value) place ts =
    Holds-if (IsBound greatest (symbol_at (symbol.Number value) place ∷ ts)) (nat_le value greatest) _ _ (λ e. (refl, le_of value greatest e)) (λ e. tt)
bound_by_takes greatest _ place ts = tt

bound_takes : (greatest : ℕ) (ts : List Symbol) → Holds (IsBound greatest ts) (bound_at greatest ts)
unfolding bound_at
bound_takes greatest [] = tt
bound_takes greatest (s ∷ ts) = bound_by_takes greatest s.kind s.place ts

-- what is read is a range of these symbols
abbrev pub IsRangeTaken : List Symbol → Range × List Symbol → Type 0
IsRangeTaken ts x = (ts ≡ range_text x.0 x.1) × IsRange x.0

-- what is read as a range is spelled so, and does not ascend
pub range_takes : (ts : List Symbol) → Holds (IsRangeTaken ts) (range_at ts)
unfolding range_at
range_takes ts =
    let left_kind = symbol.Punctuator punctuator.LeftBracket in
    let colon_kind = symbol.Punctuator punctuator.Colon in
    let right_kind = symbol.Punctuator punctuator.RightBracket in
    let all : Range × List Symbol → Type 0 = IsRangeTaken ts in
    Holds-bind (IsTerminal left_kind ts) all (terminal left_kind ts) _ (terminal_takes left_kind ts)
    (λ o a. Holds-bind (IsBound 65535 o.1) all (bound_at 65535 o.1) _ (bound_takes 65535 o.1)
    (λ m b. Holds-bind (IsTerminal colon_kind m.2) all (terminal colon_kind m.2) _ (terminal_takes colon_kind m.2)
    (λ c d. Holds-bind (IsBound m.0 c.1) all (bound_at m.0 c.1) _ (bound_takes m.0 c.1)
    (λ l e. Holds-bind (IsTerminal right_kind l.2) all (terminal right_kind l.2) _ (terminal_takes right_kind l.2)
    (λ z f. (a ∙ ap (before left_kind o.0) (b.0 ∙ ap (before (symbol.Number m.0) m.1) (d ∙ ap (before colon_kind c.0) (e.0 ∙ ap (before (symbol.Number l.0) l.1) f))), record { descends = e.1; fits = b.1 }))))))

-- ---- what is read of an expression

-- what is read is an expression of these symbols, that nests at most so deep and binds at least so tightly, and no operator follows
-- that should be in it
pub record IsTaken (limit least : ℕ) (ts : List Symbol) (x : Expr × List Symbol) : Type 0 where
  pub text : ts ≡ expr_text x.0 x.1
  pub is : IsExpr x.0
  pub fits : expr_depth x.0 ≤ limit
  pub tight : least ≤ tightness x.0
  pub ends : binds least x.1 ≡ None

-- a reader at each level reads so
abbrev pub Sound : ℕ → (ℕ → Reader Expr) → Type 0
Sound limit next = (least : ℕ) (ts : List Symbol) → least ≤ 11 → Holds (IsTaken limit least ts) (next least ts)

-- what is read is an expression of these symbols that nests at most so deep
pub record IsWholeTaken (limit : ℕ) (ts : List Symbol) (x : Expr × List Symbol) : Type 0 where
  pub text : ts ≡ expr_text x.0 x.1
  pub is : IsExpr x.0
  pub fits : expr_depth x.0 ≤ limit

-- a reader of whole expressions reads so
abbrev pub SoundWhole : ℕ → Reader Expr → Type 0
SoundWhole limit read = (ts : List Symbol) → Holds (IsWholeTaken limit ts) (read ts)

Holds-more : {A : Type 0} (P Q : A → Type 0) (r : Result A Stop) → ((x : A) → P x → Q x) → Holds P r → Holds Q r
Holds-more P Q (Ok x) f h = f x h
Holds-more P Q (Err s) f h = tt

pub whole_sound : (limit : ℕ) (next : ℕ → Reader Expr) → Sound limit next → SoundWhole limit (next 0)
whole_sound limit next sound ts =
    Holds-more (IsTaken limit 0 ts) (IsWholeTaken limit ts) (next 0 ts) (λ x t. record { text = t.text; is = t.is; fits = t.fits }) (sound 0 ts (omega arith))

-- what is read is an operand of these symbols
pub record IsOperandTaken (d : ℕ) (ts : List Symbol) (x : Expr × List Symbol) : Type 0 where
  pub text : ts ≡ expr_text x.0 x.1
  pub is : IsExpr x.0
  pub fits : expr_depth x.0 ≤ suc d
  pub tight : tightness x.0 ≡ 11

-- ---- literals

sized_takes : (d size place : ℕ) (ts : List Symbol) → Holds (IsOperandTaken d (symbol_at (symbol.Number size) place ∷ ts)) (sized_at size place ts)
unfolding sized_at
sized_takes d size place [] = tt
sized_takes d size place (s ∷ ts) =
    Holds-if (IsOperandTaken d (symbol_at (symbol.Number size) place ∷ s ∷ ts)) (is_size_of size s.kind) _ _
    (λ e.
    let h = both_true (is_sized_base s.kind) (nat_le 1 size && nat_le size 65535) e in
    let i = both_true (nat_le 1 size) (nat_le size 65535) h.1 in
    record { text = refl; is = (le_of 1 size i.0, le_of size 65535 i.1, h.0); fits = omega arith; tight = refl })
    (λ e. tt)

number_takes : (d value place : ℕ) (ts : List Symbol) → Holds (IsOperandTaken d (symbol_at (symbol.Number value) place ∷ ts)) (number_at value place ts)
unfolding number_at
number_takes d value place ts =
    let all : Expr × List Symbol → Type 0 = IsOperandTaken d (symbol_at (symbol.Number value) place ∷ ts) in
    Holds-if all (is_base_next ts) _ _
    (λ e. sized_takes d value place ts)
    (λ e. Holds-if all (nat_lt value NUMBER_LIMIT) _ _ (λ f. record { text = refl; is = lt_of value NUMBER_LIMIT f; fits = omega arith; tight = refl }) (λ f. tt))

-- what is read is a literal with a size, of these symbols
pub record IsLiteralTaken (ts : List Symbol) (x : Expr × List Symbol) : Type 0 where
  pub text : ts ≡ expr_text x.0 x.1
  pub is : IsExpr x.0
  pub sized : is_sized x.0 ≡ true
  pub fits : expr_depth x.0 ≤ 1

literal_takes_by : (size place : ℕ) (ts : List Symbol) → Holds (IsLiteralTaken (symbol_at (symbol.Number size) place ∷ ts)) (sized_at size place ts)
unfolding sized_at
literal_takes_by size place [] = tt
literal_takes_by size place (s ∷ ts) =
    Holds-if (IsLiteralTaken (symbol_at (symbol.Number size) place ∷ s ∷ ts)) (is_size_of size s.kind) _ _
    (λ e.
    let h = both_true (is_sized_base s.kind) (nat_le 1 size && nat_le size 65535) e in
    let i = both_true (nat_le 1 size) (nat_le size 65535) h.1 in
    record { text = refl; is = (le_of 1 size i.0, le_of size 65535 i.1, h.0); sized = refl; fits = omega arith })
    (λ e. tt)

literal_by_takes : (kind : SymbolKind) (place : ℕ) (ts : List Symbol) → Holds (IsLiteralTaken (symbol_at kind place ∷ ts)) (literal_by kind place ts)
unfolding literal_by
literal_by_takes (symbol.Number size) place ts =
    Holds-if (IsLiteralTaken (symbol_at (symbol.Number size) place ∷ ts)) (is_base_next ts) _ _ (λ e. literal_takes_by size place ts) (λ e. tt)
literal_by_takes _ place ts = tt

-- what is read as a literal is spelled so, and has a size
pub literal_takes : (ts : List Symbol) → Holds (IsLiteralTaken ts) (literal_at ts)
unfolding literal_at
literal_takes [] = tt
literal_takes (s ∷ ts) = literal_by_takes s.kind s.place ts

-- ---- selections

-- what is read is a selection of these symbols, whose index nests at most so deep
pub record IsSelectionTaken (limit : ℕ) (ts : List Symbol) (x : Selection × List Symbol) : Type 0 where
  pub text : ts ≡ selection_text x.0 x.1
  pub is : IsSelection x.0
  pub fits : selection_depth x.0 ≤ limit

bit_takes : (limit : ℕ) (index : Reader Expr) → SoundWhole limit index → (ts : List Symbol) → Holds (IsSelectionTaken limit ts) (bit_at index ts)
unfolding bit_at
bit_takes limit index sound ts =
    let left_kind = symbol.Punctuator punctuator.LeftBracket in
    let right_kind = symbol.Punctuator punctuator.RightBracket in
    let all : Selection × List Symbol → Type 0 = IsSelectionTaken limit ts in
    Holds-bind (IsTerminal left_kind ts) all (terminal left_kind ts) _ (terminal_takes left_kind ts)
    (λ o a. Holds-bind (IsWholeTaken limit o.1) all (index o.1) _ (sound o.1)
    (λ v t. Holds-bind (IsTerminal right_kind v.1) all (terminal right_kind v.1) _ (terminal_takes right_kind v.1)
    (λ z f. record { text = a ∙ ap (before left_kind o.0) (t.text ∙ ap (expr_text v.0) f); is = t.is; fits = t.fits })))

part_select_takes : (limit : ℕ) (ts : List Symbol) → Holds (IsSelectionTaken limit ts) (part_select_at ts)
unfolding part_select_at
part_select_takes limit ts =
    Holds-bind (IsRangeTaken ts) (IsSelectionTaken limit ts) (range_at ts) _ (range_takes ts)
    (λ r t. record { text = t.0; is = t.1; fits = omega arith })

-- what is read as a selection is spelled so, and its index nests at most so deep
pub select_takes : (limit : ℕ) (index : Reader Expr) → SoundWhole limit index → (ts : List Symbol) → Holds (IsSelectionTaken limit ts) (select_at index ts)
unfolding select_at
select_takes limit index sound ts =
    let all : Selection × List Symbol → Type 0 = IsSelectionTaken limit ts in
    Holds-if all (is_next (symbol.Punctuator punctuator.LeftBracket) ts) _ _
    (λ e. Holds-if all (is_part ts) _ _ (λ f. part_select_takes limit ts) (λ f. bit_takes limit index sound ts))
    (λ e. record { text = refl; is = tt; fits = omega arith })

-- ---- lengths

mutual
  -- an expression has a symbol at least
  pub expr_longer : (e : Expr) (rest : List Symbol) → length rest < length (expr_text e rest)
  expr_longer (Name place s) rest = let h = selection_longer s rest in omega arith
  expr_longer (Sized place size kind digits) rest = omega arith
  expr_longer (Based digits) rest = omega arith
  expr_longer (Number place value) rest = omega arith
  expr_longer (Group opening e closing) rest = let h = expr_longer e (before (symbol.Punctuator punctuator.RightParenthesis) closing rest) in omega arith
  expr_longer (Unary o place e) rest = let h = expr_longer e rest in omega arith
  expr_longer (Binary o a place b) rest =
      let h = expr_longer a (before (symbol.Punctuator (binary_sign o)) place (expr_text b rest)) in let k = expr_longer b rest in omega arith
  expr_longer (Conditional c question a colon b) rest =
      let following = before (symbol.Punctuator punctuator.Colon) colon (expr_text b rest) in
      let h = expr_longer c (before (symbol.Punctuator punctuator.Conditional) question (expr_text a following)) in
      let k = expr_longer a following in
      let l = expr_longer b rest in
      omega arith
  expr_longer (Concatenation opening l closing) rest = let h = parts_longer l (before (symbol.Punctuator punctuator.RightBrace) closing rest) in omega arith
  expr_longer (Replication opening count_place count inner_opening l inner_closing closing) rest =
      let h = parts_longer l (before (symbol.Punctuator punctuator.RightBrace) inner_closing (before (symbol.Punctuator punctuator.RightBrace) closing rest)) in omega arith

  pub selection_longer : (s : Selection) (rest : List Symbol) → length rest ≤ length (selection_text s rest)
  selection_longer Whole rest = omega arith
  selection_longer (Bit opening e closing) rest = let h = expr_longer e (before (symbol.Punctuator punctuator.RightBracket) closing rest) in omega arith
  selection_longer (Part r) rest = omega arith

  pub parts_longer : (l : Parts) (rest : List Symbol) → length rest < length (parts_text l rest)
  parts_longer (First e) rest = expr_longer e rest
  parts_longer (More l comma e) rest =
      let h = parts_longer l (before (symbol.Punctuator punctuator.Comma) comma (expr_text e rest)) in let k = expr_longer e rest in omega arith

-- ---- primaries

bare_is : (e : Expr) (rest : List Symbol) → is_bare (expr_text e rest) rest ≡ false → is_unsized e ≡ false
bare_is (Based digits) rest h = let same = eq-eqb (length rest) (length rest) refl in let off : true ≡ false = sym same ∙ h in absurd cc
bare_is (Number place value) rest h = let same = eq-eqb (length rest) (length rest) refl in let off : true ≡ false = sym same ∙ h in absurd cc
bare_is _ rest h = refl

-- what is read is an expression of these symbols that may stand in braces
pub record IsPartTaken (limit : ℕ) (ts : List Symbol) (x : Expr × List Symbol) : Type 0 where
  pub text : ts ≡ expr_text x.0 x.1
  pub is : IsExpr x.0
  pub fits : expr_depth x.0 ≤ limit
  pub is_sized : is_unsized x.0 ≡ false

-- what is read are the expressions in braces of these symbols
pub record ArePartsTaken (limit : ℕ) (ts : List Symbol) (x : Parts × List Symbol) : Type 0 where
  pub text : ts ≡ parts_text x.0 x.1
  pub are : AreParts x.0
  pub fits : parts_depth x.0 ≤ limit

module _ (d : ℕ) (next : ℕ → Reader Expr) (sound : Sound d next) where
  name_takes : (place : ℕ) (ts : List Symbol) → Holds (IsOperandTaken d (symbol_at symbol.Name place ∷ ts)) (name_at next place ts)
  unfolding name_at
  name_takes place ts =
      Holds-bind (IsSelectionTaken d ts) (IsOperandTaken d (symbol_at symbol.Name place ∷ ts)) (select_at (next 0) ts) _ (select_takes d (next 0) (whole_sound d next sound) ts)
      (λ s t. record { text = ap (before symbol.Name place) t.text; is = t.is; fits = omega (arith, t.fits); tight = refl })

  group_takes : (opening : ℕ) (ts : List Symbol) → Holds (IsOperandTaken d (symbol_at (symbol.Punctuator punctuator.LeftParenthesis) opening ∷ ts)) (group_at next opening ts)
  unfolding group_at
  group_takes opening ts =
      let left_kind = symbol.Punctuator punctuator.LeftParenthesis in
      let right_kind = symbol.Punctuator punctuator.RightParenthesis in
      let all : Expr × List Symbol → Type 0 = IsOperandTaken d (symbol_at left_kind opening ∷ ts) in
      Holds-bind (IsWholeTaken d ts) all (next 0 ts) _ (whole_sound d next sound ts)
      (λ v t. Holds-bind (IsTerminal right_kind v.1) all (terminal right_kind v.1) _ (terminal_takes right_kind v.1)
      (λ z f. record { text = ap (before left_kind opening) (t.text ∙ ap (expr_text v.0) f); is = t.is; fits = omega (arith, t.fits); tight = refl }))

  unary_takes : (sign : Punctuator) (place : ℕ) (ts : List Symbol) (p : Option UnaryOperator) → unary_of sign ≡ p → Holds (IsOperandTaken d (symbol_at (symbol.Punctuator sign) place ∷ ts)) (unary_at next p place ts)
  unfolding unary_at
  unary_takes sign place ts None e = tt
  unary_takes sign place ts (Some o) e =
      let is = unary_is sign o e in
      let all : Expr × List Symbol → Type 0 = IsOperandTaken d (symbol_at (symbol.Punctuator sign) place ∷ ts) in
      Holds-bind (IsTaken d 11 ts) all (next 11 ts) _ (sound 11 ts (omega arith))
      (λ v t. record {
        text = ap (λ (p : Punctuator). before (symbol.Punctuator p) place ts) is ∙ ap (before (symbol.Punctuator (unary_sign o)) place) t.text;
        is = (t.is, t.tight);
        fits = omega (arith, t.fits);
        tight = refl;
      })

  part_takes : (ts : List Symbol) → Holds (IsPartTaken d ts) (part_at next ts)
  unfolding part_at
  part_takes ts =
      Holds-bind (IsWholeTaken d ts) (IsPartTaken d ts) (next 0 ts) _ (whole_sound d next sound ts)
      (λ v t. Holds-if (IsPartTaken d ts) (is_bare ts v.1) _ _
      (λ e. tt)
      (λ e. record { text = t.text; is = t.is; fits = t.fits; is_sized = bare_is v.0 v.1 (rw t.text at e) }))

  further_part_takes : (all ts : List Symbol) (l : Parts) → ArePartsTaken d all (l, ts) → Holds (ArePartsTaken d all) (further_part_at next l ts)
  unfolding further_part_at
  further_part_takes all ts l h =
      let comma_kind = symbol.Punctuator punctuator.Comma in
      Holds-bind (IsTerminal comma_kind ts) (ArePartsTaken d all) (terminal comma_kind ts) _ (terminal_takes comma_kind ts)
      (λ c a. Holds-bind (IsPartTaken d c.1) (ArePartsTaken d all) (part_at next c.1) _ (part_takes c.1)
      (λ p t. record { text = h.text ∙ ap (parts_text l) (a ∙ ap (before comma_kind c.0) t.text); are = (h.are, t.is, t.is_sized); fits = omega (arith, h.fits, t.fits) }))

  further_parts_takes : (m : ℕ) (all ts : List Symbol) (l : Parts) → ArePartsTaken d all (l, ts) → Holds (ArePartsTaken d all) (further_parts_at next m l ts)
  unfolding further_parts_at
  further_parts_takes zero all ts l h = h
  further_parts_takes (suc m) all ts l h =
      Holds-if (ArePartsTaken d all) (is_next (symbol.Punctuator punctuator.Comma) ts) _ _
      (λ e. Holds-bind (ArePartsTaken d all) (ArePartsTaken d all) (further_part_at next l ts) _ (further_part_takes all ts l h)
      (λ p t. further_parts_takes m all p.1 p.0 t))
      (λ e. h)

  parts_takes : (ts : List Symbol) → Holds (ArePartsTaken d ts) (parts_at next ts)
  unfolding parts_at
  parts_takes ts =
      Holds-bind (IsPartTaken d ts) (ArePartsTaken d ts) (part_at next ts) _ (part_takes ts)
      (λ p t. further_parts_takes (length p.1) ts p.1 (First p.0) (record { text = t.text; are = (t.is, t.is_sized); fits = t.fits }))

  concatenation_takes : (opening : ℕ) (ts : List Symbol) → Holds (IsOperandTaken d (symbol_at (symbol.Punctuator punctuator.LeftBrace) opening ∷ ts)) (concatenation_at next opening ts)
  unfolding concatenation_at
  concatenation_takes opening ts =
      let left_kind = symbol.Punctuator punctuator.LeftBrace in
      let right_kind = symbol.Punctuator punctuator.RightBrace in
      let all : Expr × List Symbol → Type 0 = IsOperandTaken d (symbol_at left_kind opening ∷ ts) in
      Holds-bind (ArePartsTaken d ts) all (parts_at next ts) _ (parts_takes ts)
      (λ l t. Holds-bind (IsTerminal right_kind l.1) all (terminal right_kind l.1) _ (terminal_takes right_kind l.1)
      (λ z f. record { text = ap (before left_kind opening) (t.text ∙ ap (parts_text l.0) f); is = t.are; fits = omega (arith, t.fits); tight = refl }))

  replication_takes : (opening : ℕ) (ts : List Symbol) → Holds (IsOperandTaken d (symbol_at (symbol.Punctuator punctuator.LeftBrace) opening ∷ ts)) (replication_at next opening ts)
  unfolding replication_at
  replication_takes opening ts =
      let left_kind = symbol.Punctuator punctuator.LeftBrace in
      let right_kind = symbol.Punctuator punctuator.RightBrace in
      let all : Expr × List Symbol → Type 0 = IsOperandTaken d (symbol_at left_kind opening ∷ ts) in
      Holds-bind (IsBound (NUMBER_LIMIT - 1) ts) all (bound_at (NUMBER_LIMIT - 1) ts) _ (bound_takes (NUMBER_LIMIT - 1) ts)
      (λ n a. Holds-bind (IsTerminal left_kind n.2) all (terminal left_kind n.2) _ (terminal_takes left_kind n.2)
      (λ i b. Holds-bind (ArePartsTaken d i.1) all (parts_at next i.1) _ (parts_takes i.1)
      (λ l t. Holds-bind (IsTerminal right_kind l.1) all (terminal right_kind l.1) _ (terminal_takes right_kind l.1)
      (λ y f. Holds-bind (IsTerminal right_kind y.1) all (terminal right_kind y.1) _ (terminal_takes right_kind y.1)
      (λ z g. record {
        text = ap (before left_kind opening) (a.0 ∙ ap (before (symbol.Number n.0) n.1) (b ∙ ap (before left_kind i.0) (t.text ∙ ap (parts_text l.0) (f ∙ ap (before right_kind y.0) g))));
        is = (t.are, omega (arith, a.1));
        fits = omega (arith, t.fits);
        tight = refl;
      })))))

  braces_takes : (opening : ℕ) (ts : List Symbol) → Holds (IsOperandTaken d (symbol_at (symbol.Punctuator punctuator.LeftBrace) opening ∷ ts)) (braces_at next opening ts)
  unfolding braces_at
  braces_takes opening ts =
      Holds-if (IsOperandTaken d (symbol_at (symbol.Punctuator punctuator.LeftBrace) opening ∷ ts)) (is_number_before (symbol.Punctuator punctuator.LeftBrace) ts) _ _
      (λ e. replication_takes opening ts)
      (λ e. concatenation_takes opening ts)

  operand_by_takes : (kind : SymbolKind) (place : ℕ) (ts : List Symbol) → Holds (IsOperandTaken d (symbol_at kind place ∷ ts)) (operand_by next kind place ts)
  unfolding operand_by
  operand_by_takes symbol.Name place ts = name_takes place ts
  operand_by_takes (symbol.Number value) place ts = number_takes d value place ts
  operand_by_takes symbol.ShortBase place ts = record { text = refl; is = tt; fits = omega arith; tight = refl }
  operand_by_takes (symbol.Punctuator punctuator.LeftParenthesis) place ts = group_takes place ts
  operand_by_takes (symbol.Punctuator punctuator.LeftBrace) place ts = braces_takes place ts
  operand_by_takes (symbol.Punctuator sign) place ts = unary_takes sign place ts (unary_of sign) refl
  operand_by_takes _ place ts = tt

  operand_takes : (ts : List Symbol) → Holds (IsOperandTaken d ts) (operand_at next ts)
  unfolding operand_at
  operand_takes [] = tt
  operand_takes (s ∷ ts) = operand_by_takes s.kind s.place ts

-- ---- operators of two operands, and ?:

-- what is read is a chain of these symbols: an operand and operators of two operands, and none follows that should be in its last
-- operand
pub record IsChain (d least : ℕ) (ts : List Symbol) (x : Expr × List Symbol) : Type 0 where
  pub text : ts ≡ expr_text x.0 x.1
  pub is : IsExpr x.0
  pub fits : expr_depth x.0 ≤ suc d
  pub tight : least ≤ tightness x.0
  pub no_choice : 0 < tightness x.0
  pub ends : binds (tightness x.0 + 1) x.1 ≡ None

-- fewer than so many symbols are left
abbrev IsShorter : ℕ → Expr × List Symbol → Type 0
IsShorter n x = length x.1 < n

module _ (d : ℕ) (next : ℕ → Reader Expr) (sound : Sound d next) where
  binary_takes : (least : ℕ) (all ts : List Symbol) (left : Expr) (o : BinaryOperator) → IsChain d least all (left, ts) → binds least ts ≡ Some o → Holds (λ x. IsChain d least all x × IsShorter (length ts) x) (binary_at next d o left ts)
  unfolding binary_at
  binary_takes least all [] left o h b = tt
  binary_takes least all (s ∷ ts) left o h b =
      let found = binds_is least s ts o b in
      let below = binds_below least (tightness left + 1) (s ∷ ts) o b h.ends in
      let above = level_above o in
      let under = level_below o in
      let sign_kind = symbol.Punctuator (binary_sign o) in
      let all_of : Expr × List Symbol → Type 0 = λ x. IsChain d least all x × IsShorter (length (s ∷ ts)) x in
      Holds-if all_of (nat_le (expr_depth left) d) _ _
      (λ e. Holds-bind (IsTaken d (level o + 1) ts) all_of (next (level o + 1) ts) _ (sound (level o + 1) ts (omega arith))
      (λ v t. (
        record {
          text = h.text ∙ ap (expr_text left) (ap (λ (z : Symbol). z ∷ ts) found.0 ∙ ap (before sign_kind s.place) t.text);
          is = (h.is, t.is, omega arith, omega (arith, t.tight));
          fits = omega (arith, le_of (expr_depth left) d e, t.fits);
          tight = found.1;
          no_choice = above;
          ends = t.ends;
        },
        omega (arith, ap length t.text, expr_longer v.0 v.1),
      )))
      (λ e. tt)

  more_takes : (least m : ℕ) (all ts : List Symbol) (left : Expr) → length ts ≤ m → IsChain d least all (left, ts) → Holds (λ x. IsChain d least all x × (binds least x.1 ≡ None)) (more_at next d m least left ts)
  unfolding more_at
  more_takes least zero all [] left le h = (h, refl)
  more_takes least zero all (s ∷ ts) left le h = absurd (omega arith)
  more_takes least (suc m) all ts left le h =
      let all_of : Expr × List Symbol → Type 0 = λ x. IsChain d least all x × (binds least x.1 ≡ None) in
      Holds-on all_of (binds least ts) _ _
      (λ o b. Holds-bind (λ x. IsChain d least all x × IsShorter (length ts) x) all_of (binary_at next d o left ts) _ (binary_takes least all ts left o h b)
      (λ x t. more_takes least m all x.1 x.0 (omega (arith, t.1)) t.0))
      (λ b. (h, b))

  conditional_takes : (all ts : List Symbol) (condition : Expr) → IsChain d 0 all (condition, ts) → Holds (IsTaken (suc d) 0 all) (conditional_at next d condition ts)
  unfolding conditional_at
  conditional_takes all ts condition h =
      let question_kind = symbol.Punctuator punctuator.Conditional in
      let colon_kind = symbol.Punctuator punctuator.Colon in
      let all_of : Expr × List Symbol → Type 0 = IsTaken (suc d) 0 all in
      Holds-if all_of (nat_le (expr_depth condition) d) _ _
      (λ e. Holds-bind (IsTerminal question_kind ts) all_of (terminal question_kind ts) _ (terminal_takes question_kind ts)
      (λ q f. Holds-bind (IsTaken d 0 q.1) all_of (next 0 q.1) _ (sound 0 q.1 (omega arith))
      (λ a t. Holds-bind (IsTerminal colon_kind a.1) all_of (terminal colon_kind a.1) _ (terminal_takes colon_kind a.1)
      (λ c g. Holds-bind (IsTaken d 0 c.1) all_of (next 0 c.1) _ (sound 0 c.1 (omega arith))
      (λ b u. record {
        text = h.text ∙ ap (expr_text condition) (f ∙ ap (before question_kind q.0) (t.text ∙ ap (expr_text a.0) (g ∙ ap (before colon_kind c.0) u.text)));
        is = (h.is, t.is, u.is, h.no_choice);
        fits = omega (arith, le_of (expr_depth condition) d e, t.fits, u.fits);
        tight = omega arith;
        ends = u.ends;
      })))))
      (λ e. tt)

  choice_takes : (least : ℕ) (all ts : List Symbol) (condition : Expr) → IsChain d least all (condition, ts) → binds least ts ≡ None → Holds (IsTaken (suc d) least all) (choice_at next d least condition ts)
  unfolding choice_at
  choice_takes least all ts condition h ends =
      Holds-if (IsTaken (suc d) least all) (is_choice least ts) _ _
      (λ e.
      let lowest : least ≡ 0 = eqb-true _ _ (both_true (least == 0) (is_next (symbol.Punctuator punctuator.Conditional) ts) e).0 in
      rw lowest (conditional_takes all ts condition (rw lowest at h)))
      (λ e. record { text = h.text; is = h.is; fits = h.fits; tight = h.tight; ends = ends })

  chain_takes : Sound (suc d) (chain_at next d)
  unfolding chain_at
  chain_takes least ts le =
      Holds-bind (IsOperandTaken d ts) (IsTaken (suc d) least ts) (operand_at next ts) _ (operand_takes d next sound ts)
      (λ x t.
      let chain : IsChain d least ts x = record {
        text = t.text;
        is = t.is;
        fits = t.fits;
        tight = omega (arith, t.tight);
        no_choice = omega (arith, t.tight);
        ends = binds-none (tightness x.0 + 1) x.1 (omega (arith, t.tight));
      } in
      Holds-bind (λ y. IsChain d least ts y × (binds least y.1 ≡ None)) (IsTaken (suc d) least ts) (more_at next d (length x.1) least x.0 x.1) _ (more_takes least (length x.1) ts x.1 x.0 (omega arith) chain)
      (λ y u. choice_takes least ts y.1 y.0 u.0 u.1))

-- what is read as an expression is spelled so, is well formed and tight enough, and nests at most so deep
pub expr_takes : (limit : ℕ) → Sound limit (expr_at limit)
unfolding expr_at
expr_takes zero least ts le = tt
expr_takes (suc d) least ts le = chain_takes d (expr_at d) (expr_takes d) least ts le

-- a whole expression too
pub whole_takes : (limit : ℕ) → SoundWhole limit (expr_at limit 0)
whole_takes limit = whole_sound limit (expr_at limit) (expr_takes limit)

-- and a selection
pub selection_takes : (limit : ℕ) (ts : List Symbol) → Holds (IsSelectionTaken limit ts) (select_at (expr_at limit 0) ts)
selection_takes limit ts = select_takes limit (expr_at limit 0) (whole_takes limit) ts
