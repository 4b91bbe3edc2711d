-- Laws of reading: it leaves no more symbols than there are, also where it stops, and fewer where it reads an expression.
use Rattle.std.proofs.Common.{ℕ, zero, suc, ◌+◌, ◌-◌, ◌≤◌, ◌<◌, List, [], ◌∷◌, length, Bool, true, false, cond, Option, Some, None, Result, Ok, Err, ap, arith}
use Rattle.std.specs.Prelude.{nat_le, nat_lt}
use Rattle.vp_lex.specs.declared.token.Punctuator.TheVariants as punctuator
use Rattle.vp_source.specs.declared.operator.BinaryOperator.{BinaryOperator}
use Rattle.vp_source.specs.declared.operator.UnaryOperator.{UnaryOperator}
use Rattle.vp_source.specs.declared.symbol.Symbol.{Symbol}
use Rattle.vp_source.specs.declared.symbol.SymbolKind.{SymbolKind}
use Rattle.vp_source.specs.declared.symbol.SymbolKind.TheVariants as symbol
use Rattle.vp_source.specs.declared.symbol.TheConstants.{NUMBER_LIMIT}
use Rattle.vp_source.specs.Kinds.{same_kind}
use Rattle.vp_source.specs.Operators.{unary_of, level, binds}
use Rattle.vp_parse_expr.specs.Stopping.{Stop, Unexpected, left_of, ◌>>=◌, Reader, refused, is_next, terminal}
use Rattle.vp_source.specs.ExprGrammar.{Expr, Number, Parts, First, expr_depth}
use Rattle.vp_parse_expr.specs.Reading.{is_base_next, is_number_before, is_part, is_bare, bound_by, bound_at, range_at, is_size_of, sized_at, number_at, literal_by, literal_at, bit_at, part_select_at, select_at, name_at, group_at, unary_at, part_at, further_part_at, further_parts_at, parts_at, concatenation_at, replication_at, braces_at, operand_by, operand_at, on_operator, binary_at, more_at, conditional_at, is_choice, choice_at, chain_at, expr_at}
use Rattle.vp_parse_expr.specs.laws.Takes.{Holds, IsWholeTaken, whole_takes, expr_longer}

-- at most so many symbols are left
abbrev pub Within : {A : Type 0} → ℕ → Result (A × List Symbol) Stop → Type 0
Within n (Ok x) = length x.1 ≤ n
Within n (Err s) = left_of s ≤ n

-- a reader leaves no more symbols than there are
abbrev pub IsWithin : {A : Type 0} → Reader A → Type 0
IsWithin r = (n : ℕ) (ts : List Symbol) → length ts ≤ n → Within n (r ts)

pub Within-bind : {A B : Type 0} (n : ℕ) (r : Result (A × List Symbol) Stop) (f : A × List Symbol → Result (B × List Symbol) Stop) → Within n r → ((x : A × List Symbol) → length x.1 ≤ n → Within n (f x)) → Within n (r >>= f)
Within-bind n (Ok x) f h k = k x h
Within-bind n (Err s) f h k = h

pub Within-if : {A : Type 0} (n : ℕ) (b : Bool) (x y : Result (A × List Symbol) Stop) → Within n x → Within n y → Within n (cond b x y)
Within-if n true x y h k = h
Within-if n false x y h k = k

Within-on : {A : Type 0} (n : ℕ) (p : Option BinaryOperator) (f : BinaryOperator → Result (A × List Symbol) Stop) (x : Result (A × List Symbol) Stop) → ((o : BinaryOperator) → Within n (f o)) → Within n x → Within n (on_operator p f x)
Within-on n None f x h k = k
Within-on n (Some o) f x h k = h o

pub terminal_within : (kind : SymbolKind) → IsWithin (terminal kind)
unfolding terminal
terminal_within kind n [] le = le
terminal_within kind n (s ∷ ts) le = Within-if {A = ℕ} n (same_kind kind s.kind) (Ok (s.place, ts)) (Err (Unexpected (suc (length ts)))) (omega arith) le

-- a symbol of this kind, which is not left
pub Within-terminal : {B : Type 0} (n : ℕ) (kind : SymbolKind) (ts : List Symbol) (f : ℕ × List Symbol → Result (B × List Symbol) Stop) → length ts ≤ n → ((x : ℕ × List Symbol) → suc (length x.1) ≤ n → Within n (f x)) → Within n (terminal kind ts >>= f)
unfolding terminal
Within-terminal n kind [] f le k = le
Within-terminal {B} n kind (s ∷ ts) f le k =
    elim (same_kind kind s.kind) as (λ b. Within {A = B} n (cond b (Ok (s.place, ts)) (refused (s ∷ ts)) >>= f)) [ true ↦ k (s.place, ts) le | false ↦ le ]

-- ---- ranges

-- at most so many symbols are left after a number
abbrev WithinBound : ℕ → Result (ℕ × ℕ × List Symbol) Stop → Type 0
WithinBound n (Ok x) = length x.2 ≤ n
WithinBound n (Err s) = left_of s ≤ n

WithinBound-bind : {B : Type 0} (n : ℕ) (r : Result (ℕ × ℕ × List Symbol) Stop) (f : ℕ × ℕ × List Symbol → Result (B × List Symbol) Stop) → WithinBound n r → ((x : ℕ × ℕ × List Symbol) → length x.2 ≤ n → Within n (f x)) → Within n (r >>= f)
WithinBound-bind n (Ok x) f h k = k x h
WithinBound-bind n (Err s) f h k = h

bound_by_within : (greatest : ℕ) (kind : SymbolKind) (place n : ℕ) (ts : List Symbol) → suc (length ts) ≤ n → WithinBound n (bound_by greatest kind place ts)
unfolding bound_by
bound_by_within greatest (symbol.Number value) place n ts le =
    elim (nat_le value greatest) as (λ b. WithinBound n (cond b (Ok (value, place, ts)) (Err (Unexpected (length ts + 1))))) [ true ↦ omega arith | false ↦ omega arith ]
bound_by_within greatest _ place n ts le = omega arith

bound_within : (greatest n : ℕ) (ts : List Symbol) → length ts ≤ n → WithinBound n (bound_at greatest ts)
unfolding bound_at
bound_within greatest n [] le = le
bound_within greatest n (s ∷ ts) le = bound_by_within greatest s.kind s.place n ts le

pub range_within : IsWithin range_at
unfolding range_at
range_within n ts le =
    let colon_kind = symbol.Punctuator punctuator.Colon in
    let left_kind = symbol.Punctuator punctuator.LeftBracket in
    let right_kind = symbol.Punctuator punctuator.RightBracket in
    Within-bind n (terminal left_kind ts) _ (terminal_within left_kind n ts le)
    (λ o le. WithinBound-bind n (bound_at 65535 o.1) _ (bound_within 65535 n o.1 le)
    (λ m le. Within-bind n (terminal colon_kind m.2) _ (terminal_within colon_kind n m.2 le)
    (λ c le. WithinBound-bind n (bound_at m.0 c.1) _ (bound_within m.0 n c.1 le)
    (λ l le. Within-bind n (terminal right_kind l.2) _ (terminal_within right_kind n l.2 le)
    (λ z le. le)))))

-- ---- literals and selections

sized_within : (size place n : ℕ) (ts : List Symbol) → suc (length ts) ≤ n → Within n (sized_at size place ts)
unfolding sized_at
sized_within size place n [] le = omega arith
sized_within size place n (s ∷ ts) le = Within-if n (is_size_of size s.kind) _ _ (omega arith) (omega arith)

number_within : (value place n : ℕ) (ts : List Symbol) → suc (length ts) ≤ n → Within n (number_at value place ts)
unfolding number_at
number_within value place n ts le =
    Within-if n (is_base_next ts) _ _ (sized_within value place n ts le) (Within-if {A = Expr} n (nat_lt value NUMBER_LIMIT) (Ok (Number place value, ts)) (Err (Unexpected (length ts + 1))) (omega arith) (omega arith))

literal_by_within : (kind : SymbolKind) (place n : ℕ) (ts : List Symbol) → suc (length ts) ≤ n → Within n (literal_by kind place ts)
unfolding literal_by
literal_by_within (symbol.Number size) place n ts le = Within-if {A = Expr} n (is_base_next ts) _ (Err (Unexpected (length ts + 1))) (sized_within size place n ts le) (omega arith)
literal_by_within _ place n ts le = omega arith

-- a literal leaves no more symbols than there are, also where it stops
pub literal_within : IsWithin literal_at
unfolding literal_at
literal_within n [] le = le
literal_within n (s ∷ ts) le = literal_by_within s.kind s.place n ts le

-- a reader after a symbol leaves no more symbols than there are with that
abbrev pub IsAfter : {A : Type 0} → Reader A → Type 0
IsAfter r = (n : ℕ) (ts : List Symbol) → suc (length ts) ≤ n → Within n (r ts)

bit_within : (index : Reader Expr) → IsAfter index → IsWithin (bit_at index)
unfolding bit_at
bit_within index following n ts le =
    Within-terminal n (symbol.Punctuator punctuator.LeftBracket) ts _ le
    (λ o le. Within-bind n (index o.1) _ (following n o.1 le)
    (λ v le. Within-bind n (terminal (symbol.Punctuator punctuator.RightBracket) v.1) _ (terminal_within (symbol.Punctuator punctuator.RightBracket) n v.1 le)
    (λ z le. le)))

part_select_within : IsWithin part_select_at
unfolding part_select_at
part_select_within n ts le = Within-bind n (range_at ts) _ (range_within n ts le) (λ r le. le)

pub select_within : (index : Reader Expr) → IsAfter index → IsWithin (select_at index)
unfolding select_at
select_within index following n ts le =
    Within-if n (is_next (symbol.Punctuator punctuator.LeftBracket) ts) _ _ (Within-if n (is_part ts) _ _ (part_select_within n ts le) (bit_within index following n ts le)) le

-- ---- expressions

module _ (d : ℕ) (next : ℕ → Reader Expr) (following : (least : ℕ) → IsAfter (next least)) where
  name_within : (place : ℕ) → IsWithin (name_at next place)
  unfolding name_at
  name_within place n ts le = Within-bind n (select_at (next 0) ts) _ (select_within (next 0) (following 0) n ts le) (λ s le. le)

  group_within : (opening : ℕ) → IsAfter (group_at next opening)
  unfolding group_at
  group_within opening n ts le =
      Within-bind n (next 0 ts) _ (following 0 n ts le)
      (λ v le. Within-bind n (terminal (symbol.Punctuator punctuator.RightParenthesis) v.1) _ (terminal_within (symbol.Punctuator punctuator.RightParenthesis) n v.1 le)
      (λ z le. le))

  unary_within : (p : Option UnaryOperator) (place : ℕ) → IsAfter (unary_at next p place)
  unfolding unary_at
  unary_within None place n ts le = omega arith
  unary_within (Some o) place n ts le = Within-bind n (next 11 ts) _ (following 11 n ts le) (λ v le. le)

  part_within : IsAfter (part_at next)
  unfolding part_at
  part_within n ts le =
      Within-bind n (next 0 ts) _ (following 0 n ts le)
      (λ v more. Within-if n (is_bare ts v.1) _ _ (omega arith) more)

  further_part_within : (l : Parts) → IsWithin (further_part_at next l)
  unfolding further_part_at
  further_part_within l n ts le =
      Within-terminal n (symbol.Punctuator punctuator.Comma) ts _ le
      (λ c le. Within-bind n (part_at next c.1) _ (part_within n c.1 le) (λ p le. le))

  further_parts_within : (m : ℕ) (l : Parts) → IsWithin (further_parts_at next m l)
  unfolding further_parts_at
  further_parts_within zero l n ts le = le
  further_parts_within (suc m) l n ts le =
      Within-if n (is_next (symbol.Punctuator punctuator.Comma) ts) _ _
      (Within-bind n (further_part_at next l ts) _ (further_part_within l n ts le) (λ p le. further_parts_within m p.0 n p.1 le))
      le

  parts_within : IsAfter (parts_at next)
  unfolding parts_at
  parts_within n ts le = Within-bind n (part_at next ts) _ (part_within n ts le) (λ p le. further_parts_within (length p.1) (First p.0) n p.1 le)

  concatenation_within : (opening : ℕ) → IsAfter (concatenation_at next opening)
  unfolding concatenation_at
  concatenation_within opening n ts le =
      Within-bind n (parts_at next ts) _ (parts_within n ts le)
      (λ l le. Within-bind n (terminal (symbol.Punctuator punctuator.RightBrace) l.1) _ (terminal_within (symbol.Punctuator punctuator.RightBrace) n l.1 le)
      (λ z le. le))

  replication_within : (opening : ℕ) → IsAfter (replication_at next opening)
  unfolding replication_at
  replication_within opening n ts le =
      WithinBound-bind n (bound_at (NUMBER_LIMIT - 1) ts) _ (bound_within (NUMBER_LIMIT - 1) n ts (omega arith))
      (λ c le. Within-terminal n (symbol.Punctuator punctuator.LeftBrace) c.2 _ le
      (λ i le. Within-bind n (parts_at next i.1) _ (parts_within n i.1 le)
      (λ l le. Within-bind n (terminal (symbol.Punctuator punctuator.RightBrace) l.1) _ (terminal_within (symbol.Punctuator punctuator.RightBrace) n l.1 le)
      (λ y le. Within-bind n (terminal (symbol.Punctuator punctuator.RightBrace) y.1) _ (terminal_within (symbol.Punctuator punctuator.RightBrace) n y.1 le)
      (λ z le. le)))))

  braces_within : (opening : ℕ) → IsAfter (braces_at next opening)
  unfolding braces_at
  braces_within opening n ts le =
      Within-if n (is_number_before (symbol.Punctuator punctuator.LeftBrace) ts) _ _ (replication_within opening n ts le) (concatenation_within opening n ts le)

  operand_by_within : (kind : SymbolKind) (place : ℕ) → IsAfter (operand_by next kind place)
  unfolding operand_by
  operand_by_within symbol.Name place n ts le = name_within place n ts (omega arith)
  operand_by_within (symbol.Number value) place n ts le = number_within value place n ts le
  operand_by_within symbol.ShortBase place n ts le = omega arith
  operand_by_within (symbol.Punctuator punctuator.LeftParenthesis) place n ts le = group_within place n ts le
  operand_by_within (symbol.Punctuator punctuator.LeftBrace) place n ts le = braces_within place n ts le
  operand_by_within (symbol.Punctuator sign) place n ts le = unary_within (unary_of sign) place n ts le
  operand_by_within _ place n ts le = omega arith

  operand_within : IsWithin (operand_at next)
  unfolding operand_at
  operand_within n [] le = le
  operand_within n (s ∷ ts) le = operand_by_within s.kind s.place n ts le

  binary_within : (o : BinaryOperator) (left : Expr) → IsWithin (binary_at next d o left)
  unfolding binary_at
  binary_within o left n [] le = le
  binary_within o left n (s ∷ ts) le =
      Within-if n (nat_le (expr_depth left) d) _ _ (Within-bind n (next (level o + 1) ts) _ (following (level o + 1) n ts le) (λ v le. le)) (omega arith)

  more_within : (m least : ℕ) (left : Expr) → IsWithin (more_at next d m least left)
  unfolding more_at
  more_within zero least left n ts le = le
  more_within (suc m) least left n ts le =
      Within-on n (binds least ts) _ _
      (λ o. Within-bind n (binary_at next d o left ts) _ (binary_within o left n ts le) (λ x le. more_within m least x.0 n x.1 le))
      le

  conditional_within : (c : Expr) → IsWithin (conditional_at next d c)
  unfolding conditional_at
  conditional_within c n ts le =
      Within-if n (nat_le (expr_depth c) d) _ _
      (Within-terminal n (symbol.Punctuator punctuator.Conditional) ts _ le
      (λ q le. Within-bind n (next 0 q.1) _ (following 0 n q.1 le)
      (λ a le. Within-terminal n (symbol.Punctuator punctuator.Colon) a.1 _ le
      (λ z le. Within-bind n (next 0 z.1) _ (following 0 n z.1 le) (λ b le. le)))))
      le

  choice_within : (least : ℕ) (c : Expr) → IsWithin (choice_at next d least c)
  unfolding choice_at
  choice_within least c n ts le = Within-if n (is_choice least ts) _ _ (conditional_within c n ts le) le

  chain_within : (least : ℕ) → IsWithin (chain_at next d least)
  unfolding chain_at
  chain_within least n ts le =
      Within-bind n (operand_at next ts) _ (operand_within n ts le)
      (λ x le. Within-bind n (more_at next d (length x.1) least x.0 x.1) _ (more_within (length x.1) least x.0 n x.1 le)
      (λ y le. choice_within least y.0 n y.1 le))

-- the symbol before an expression is reported where nothing may nest
pub expr_after : (limit least : ℕ) → IsAfter (expr_at limit least)
unfolding expr_at
expr_after zero least n ts le = omega arith
expr_after (suc d) least n ts le = chain_within d (expr_at d) (expr_after d) least n ts (omega arith)

-- an expression leaves no more symbols than there are, also where it stops
pub expr_within : (limit least : ℕ) → 0 < limit → IsWithin (expr_at limit least)
unfolding expr_at
expr_within zero least lt n ts le = absurd (omega arith)
expr_within (suc d) least lt n ts le = chain_within d (expr_at d) (expr_after d) least n ts le

-- so does a selection
pub selection_within : (limit : ℕ) → IsWithin (select_at (expr_at limit 0))
selection_within limit n ts le = select_within (expr_at limit 0) (expr_after limit 0) n ts le

shorter_by : (limit : ℕ) (ts : List Symbol) (r : Result (Expr × List Symbol) Stop) → Holds (IsWholeTaken limit ts) r → Holds (λ x. length x.1 < length ts) r
shorter_by limit ts (Ok x) h = omega (arith, ap length h.text, expr_longer x.0 x.1)
shorter_by limit ts (Err s) h = tt

-- what is left after an expression is shorter
pub expr_shorter : (limit : ℕ) (ts : List Symbol) → Holds (λ x. length x.1 < length ts) (expr_at limit 0 ts)
expr_shorter limit ts = shorter_by limit ts (expr_at limit 0 ts) (whole_takes limit ts)
