-- Laws of reading: a higher limit changes nothing but where the limit was met.
use Rattle.std.proofs.Common.{◌≡◌, ℕ, zero, suc, ◌+◌, ◌-◌, ◌≤◌, List, [], ◌∷◌, length, Bool, true, false, cond, Option, Some, None, Result, Ok, Err, refl, ap, subst, arith}
use Rattle.std.specs.Prelude.{nat_le}
use Rattle.vp_lex.specs.declared.token.Punctuator.TheVariants as punctuator
use Rattle.vp_source.specs.declared.operator.BinaryOperator.{BinaryOperator}
use Rattle.vp_source.specs.declared.operator.UnaryOperator.{UnaryOperator}
use Rattle.vp_source.specs.declared.symbol.Symbol.{Symbol}
use Rattle.vp_source.specs.declared.symbol.SymbolKind.{SymbolKind}
use Rattle.vp_source.specs.declared.symbol.SymbolKind.TheVariants as symbol
use Rattle.vp_source.specs.declared.symbol.TheConstants.{NUMBER_LIMIT}
use Rattle.vp_source.specs.Operators.{unary_of, level, binds}
use Rattle.vp_parse_expr.specs.Stopping.{Stop, Unexpected, TooDeep, ◌>>=◌, Reader, refused, is_next, terminal}
use Rattle.vp_source.specs.ExprGrammar.{Expr, Group, Concatenation, Replication, Bit, Parts, First, expr_depth}
use Rattle.vp_parse_expr.specs.Reading.{is_number_before, is_part, is_bare, bound_at, number_at, bit_at, part_select_at, select_at, name_at, group_at, unary_at, part_at, further_part_at, further_parts_at, parts_at, concatenation_at, replication_at, braces_at, operand_by, operand_at, on_operator, binary_at, more_at, conditional_at, is_choice, choice_at, chain_at, expr_at}
use Rattle.vp_parse_expr.specs.laws.Takes.{le_of}

-- the first met the limit, or both are the same
abbrev pub OrTooDeep : {A : Type 0} → Result A Stop → Result A Stop → Type 0
OrTooDeep (Err (TooDeep n)) s = Unit {0}
OrTooDeep r s = r ≡ s

pub OrTooDeep-same : {A : Type 0} (r : Result A Stop) → OrTooDeep r r
OrTooDeep-same (Err (TooDeep n)) = tt
OrTooDeep-same (Err (Unexpected n)) = refl
OrTooDeep-same (Ok x) = refl

pub OrTooDeep-bind : {A B : Type 0} (r s : Result A Stop) (f g : A → Result B Stop) → OrTooDeep r s → ((x : A) → OrTooDeep (f x) (g x)) → OrTooDeep (r >>= f) (s >>= g)
OrTooDeep-bind (Err (TooDeep n)) s f g h k = tt
OrTooDeep-bind {A} {B} (Err (Unexpected n)) s f g h k = ap (λ (r : Result A Stop). r >>= g) h
OrTooDeep-bind {A} {B} (Ok x) s f g h k = subst (λ (r : Result A Stop). OrTooDeep (f x) (r >>= g)) h (k x)

-- the same step before both
pub OrTooDeep-then : {A B : Type 0} (r : Result A Stop) (f g : A → Result B Stop) → ((x : A) → OrTooDeep (f x) (g x)) → OrTooDeep (r >>= f) (r >>= g)
OrTooDeep-then r f g k = OrTooDeep-bind r r f g (OrTooDeep-same r) k

pub OrTooDeep-if : {A : Type 0} (b : Bool) (x y u v : Result A Stop) → OrTooDeep x u → OrTooDeep y v → OrTooDeep (cond b x y) (cond b u v)
OrTooDeep-if true x y u v h k = h
OrTooDeep-if false x y u v h k = k

-- a test of depth that a higher limit passes too
OrTooDeep-limit : {A : Type 0} (b c : Bool) (x u : Result A Stop) (n m : ℕ) → (b ≡ true → c ≡ true) → OrTooDeep x u → OrTooDeep (cond b x (Err (TooDeep n))) (cond c u (Err (TooDeep m)))
OrTooDeep-limit false c x u n m h k = tt
OrTooDeep-limit true true x u n m h k = k
OrTooDeep-limit true false x u n m h k = let e = h refl in absurd cc

OrTooDeep-on : {A : Type 0} (p : Option BinaryOperator) (f g : BinaryOperator → Result A Stop) (x : Result A Stop) → ((o : BinaryOperator) → OrTooDeep (f o) (g o)) → OrTooDeep (on_operator p f x) (on_operator p g x)
OrTooDeep-on None f g x h = OrTooDeep-same x
OrTooDeep-on (Some o) f g x h = h o

-- one reader's answer is the other's, unless it met the limit
abbrev pub Below : {A : Type 0} → Reader A → Reader A → Type 0
Below low high = (ts : List Symbol) → OrTooDeep (low ts) (high ts)

-- ---- selections

bit_raise : (low high : Reader Expr) → Below low high → Below (bit_at low) (bit_at high)
unfolding bit_at
bit_raise low high below ts =
    OrTooDeep-then (terminal (symbol.Punctuator punctuator.LeftBracket) ts) _ _
    (λ o. OrTooDeep-bind (low o.1) (high o.1) _ _ (below o.1)
    (λ v. OrTooDeep-same (terminal (symbol.Punctuator punctuator.RightBracket) v.1 >>= λ z. Ok (Bit o.0 v.0 z.0, z.1))))

-- a selection with a higher limit of its index
pub select_raise : (low high : Reader Expr) → Below low high → Below (select_at low) (select_at high)
unfolding select_at
select_raise low high below ts =
    OrTooDeep-if (is_next (symbol.Punctuator punctuator.LeftBracket) ts) _ _ _ _
    (OrTooDeep-if (is_part ts) _ _ _ _ (OrTooDeep-same (part_select_at ts)) (bit_raise low high below ts))
    refl

-- ---- expressions

module _ (low high : ℕ → Reader Expr) (below : (least : ℕ) → Below (low least) (high least)) where
  name_raise : (place : ℕ) → Below (name_at low place) (name_at high place)
  unfolding name_at
  name_raise place ts = OrTooDeep-bind (select_at (low 0) ts) (select_at (high 0) ts) _ _ (select_raise (low 0) (high 0) (below 0) ts) (λ s. refl)

  group_raise : (opening : ℕ) → Below (group_at low opening) (group_at high opening)
  unfolding group_at
  group_raise opening ts =
      OrTooDeep-bind (low 0 ts) (high 0 ts) _ _ (below 0 ts)
      (λ v. OrTooDeep-same (terminal (symbol.Punctuator punctuator.RightParenthesis) v.1 >>= λ z. Ok (Group opening v.0 z.0, z.1)))

  unary_raise : (p : Option UnaryOperator) (place : ℕ) → Below (unary_at low p place) (unary_at high p place)
  unfolding unary_at
  unary_raise None place ts = refl
  unary_raise (Some o) place ts = OrTooDeep-bind (low 11 ts) (high 11 ts) _ _ (below 11 ts) (λ v. refl)

  part_raise : Below (part_at low) (part_at high)
  unfolding part_at
  part_raise ts = OrTooDeep-bind (low 0 ts) (high 0 ts) _ _ (below 0 ts) (λ v. OrTooDeep-same (cond (is_bare ts v.1) (refused ts) (Ok v)))

  further_part_raise : (l : Parts) → Below (further_part_at low l) (further_part_at high l)
  unfolding further_part_at
  further_part_raise l ts =
      OrTooDeep-then (terminal (symbol.Punctuator punctuator.Comma) ts) _ _
      (λ c. OrTooDeep-bind (part_at low c.1) (part_at high c.1) _ _ (part_raise c.1) (λ p. refl))

  further_parts_raise : (m : ℕ) (l : Parts) → Below (further_parts_at low m l) (further_parts_at high m l)
  unfolding further_parts_at
  further_parts_raise zero l ts = refl
  further_parts_raise (suc m) l ts =
      OrTooDeep-if (is_next (symbol.Punctuator punctuator.Comma) ts) _ _ _ _
      (OrTooDeep-bind (further_part_at low l ts) (further_part_at high l ts) _ _ (further_part_raise l ts) (λ p. further_parts_raise m p.0 p.1))
      refl

  parts_raise : Below (parts_at low) (parts_at high)
  unfolding parts_at
  parts_raise ts = OrTooDeep-bind (part_at low ts) (part_at high ts) _ _ (part_raise ts) (λ p. further_parts_raise (length p.1) (First p.0) p.1)

  concatenation_raise : (opening : ℕ) → Below (concatenation_at low opening) (concatenation_at high opening)
  unfolding concatenation_at
  concatenation_raise opening ts =
      OrTooDeep-bind (parts_at low ts) (parts_at high ts) _ _ (parts_raise ts)
      (λ l. OrTooDeep-same (terminal (symbol.Punctuator punctuator.RightBrace) l.1 >>= λ z. Ok (Concatenation opening l.0 z.0, z.1)))

  replication_raise : (opening : ℕ) → Below (replication_at low opening) (replication_at high opening)
  unfolding replication_at
  replication_raise opening ts =
      OrTooDeep-then (bound_at (NUMBER_LIMIT - 1) ts) _ _
      (λ n. OrTooDeep-then (terminal (symbol.Punctuator punctuator.LeftBrace) n.2) _ _
      (λ i. OrTooDeep-bind (parts_at low i.1) (parts_at high i.1) _ _ (parts_raise i.1)
      (λ l. OrTooDeep-same (terminal (symbol.Punctuator punctuator.RightBrace) l.1 >>= λ y. terminal (symbol.Punctuator punctuator.RightBrace) y.1 >>= λ z. Ok (Replication opening n.1 n.0 i.0 l.0 y.0 z.0, z.1)))))

  braces_raise : (opening : ℕ) → Below (braces_at low opening) (braces_at high opening)
  unfolding braces_at
  braces_raise opening ts =
      OrTooDeep-if (is_number_before (symbol.Punctuator punctuator.LeftBrace) ts) _ _ _ _ (replication_raise opening ts) (concatenation_raise opening ts)

  operand_by_raise : (kind : SymbolKind) (place : ℕ) → Below (operand_by low kind place) (operand_by high kind place)
  unfolding operand_by
  operand_by_raise symbol.Name place ts = name_raise place ts
  operand_by_raise (symbol.Number value) place ts = OrTooDeep-same (number_at value place ts)
  operand_by_raise symbol.ShortBase place ts = refl
  operand_by_raise (symbol.Punctuator punctuator.LeftParenthesis) place ts = group_raise place ts
  operand_by_raise (symbol.Punctuator punctuator.LeftBrace) place ts = braces_raise place ts
  operand_by_raise (symbol.Punctuator sign) place ts = unary_raise (unary_of sign) place ts
  operand_by_raise _ place ts = refl

  operand_raise : Below (operand_at low) (operand_at high)
  unfolding operand_at
  operand_raise [] = refl
  operand_raise (s ∷ ts) = operand_by_raise s.kind s.place ts

  module _ (d k : ℕ) (le : d ≤ k) where
    fits_more : (n : ℕ) → nat_le n d ≡ true → nat_le n k ≡ true
    fits_more n h = let e = le_of n d h in grind arith

    binary_raise : (o : BinaryOperator) (left : Expr) → Below (binary_at low d o left) (binary_at high k o left)
    unfolding binary_at
    binary_raise o left [] = refl
    binary_raise o left (s ∷ ts) =
        OrTooDeep-limit (nat_le (expr_depth left) d) (nat_le (expr_depth left) k) _ _ _ _ (fits_more (expr_depth left))
        (OrTooDeep-bind (low (level o + 1) ts) (high (level o + 1) ts) _ _ (below (level o + 1) ts) (λ v. refl))

    more_raise : (m least : ℕ) (left : Expr) → Below (more_at low d m least left) (more_at high k m least left)
    unfolding more_at
    more_raise zero least left ts = refl
    more_raise (suc m) least left ts =
        OrTooDeep-on (binds least ts) _ _ _
        (λ o. OrTooDeep-bind (binary_at low d o left ts) (binary_at high k o left ts) _ _ (binary_raise o left ts) (λ x. more_raise m least x.0 x.1))

    conditional_raise : (c : Expr) → Below (conditional_at low d c) (conditional_at high k c)
    unfolding conditional_at
    conditional_raise c ts =
        OrTooDeep-limit (nat_le (expr_depth c) d) (nat_le (expr_depth c) k) _ _ _ _ (fits_more (expr_depth c))
        (OrTooDeep-then (terminal (symbol.Punctuator punctuator.Conditional) ts) _ _
        (λ q. OrTooDeep-bind (low 0 q.1) (high 0 q.1) _ _ (below 0 q.1)
        (λ a. OrTooDeep-then (terminal (symbol.Punctuator punctuator.Colon) a.1) _ _
        (λ z. OrTooDeep-bind (low 0 z.1) (high 0 z.1) _ _ (below 0 z.1) (λ b. refl)))))

    choice_raise : (least : ℕ) (c : Expr) → Below (choice_at low d least c) (choice_at high k least c)
    unfolding choice_at
    choice_raise least c ts = OrTooDeep-if (is_choice least ts) _ _ _ _ (conditional_raise c ts) refl

    chain_raise : (least : ℕ) → Below (chain_at low d least) (chain_at high k least)
    unfolding chain_at
    chain_raise least ts =
        OrTooDeep-bind (operand_at low ts) (operand_at high ts) _ _ (operand_raise ts)
        (λ x. OrTooDeep-bind (more_at low d (length x.1) least x.0 x.1) (more_at high k (length x.1) least x.0 x.1) _ _ (more_raise (length x.1) least x.0 x.1)
        (λ y. choice_raise least y.0 y.1))

-- what a limit answers, each higher limit answers too, unless it was met
pub expr_raise : (low high : ℕ) → low ≤ high → (least : ℕ) → Below (expr_at low least) (expr_at high least)
unfolding expr_at
expr_raise zero high le least ts = tt
expr_raise (suc low) zero le least ts = absurd (omega arith)
expr_raise (suc low) (suc high) le least ts = chain_raise (expr_at low) (expr_at high) (expr_raise low high (omega arith)) low high (omega arith) least ts

-- and of a selection
pub selection_raise : (low high : ℕ) → low ≤ high → Below (select_at (expr_at low 0)) (select_at (expr_at high 0))
selection_raise low high le ts = select_raise (expr_at low 0) (expr_at high 0) (expr_raise low high le 0) ts
