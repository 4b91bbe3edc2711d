-- Laws of operators: which punctuator each has, and how tightly it binds.
use Rattle.std.proofs.Common.{◌≡◌, ℕ, ◌≤◌, ◌<◌, List, [], ◌∷◌, Bool, true, false, cond, leb, Option, Some, None, refl, ap, arith}
use Rattle.std.proofs.lemmas.Bool.{leb-true, leb-false, le-leb, lt-leb}
use Rattle.vp_lex.specs.declared.token.Punctuator.{Punctuator}
use Rattle.vp_lex.specs.declared.token.Punctuator.TheVariants as punctuator
use Rattle.vp_source.specs.declared.operator.BinaryOperator.{BinaryOperator}
use Rattle.vp_source.specs.declared.operator.BinaryOperator.TheVariants as binary
use Rattle.vp_source.specs.declared.operator.UnaryOperator.{UnaryOperator}
use Rattle.vp_source.specs.declared.operator.UnaryOperator.TheVariants as unary
use Rattle.vp_source.specs.declared.symbol.Symbol.{Symbol}
use Rattle.vp_source.specs.declared.symbol.SymbolKind.{SymbolKind}
use Rattle.vp_source.specs.declared.symbol.SymbolKind.TheVariants as symbol
use Rattle.vp_source.specs.Kinds.{symbol_at}
use Rattle.vp_source.specs.Operators.{unary_sign, unary_of, binary_sign, binary_of, level, operator_of, tight, binds}

-- ---- punctuators

-- the punctuator of the operator that it is
pub unary_is : (p : Punctuator) (o : UnaryOperator) → unary_of p ≡ Some o → p ≡ unary_sign o
unary_is punctuator.Plus o e = let h : unary.Plus ≡ o = cc in ap unary_sign h
unary_is punctuator.Minus o e = let h : unary.Minus ≡ o = cc in ap unary_sign h
unary_is punctuator.LogicalNegation o e = let h : unary.LogicalNegation ≡ o = cc in ap unary_sign h
unary_is punctuator.Negation o e = let h : unary.Negation ≡ o = cc in ap unary_sign h
unary_is punctuator.And o e = let h : unary.ReductionAnd ≡ o = cc in ap unary_sign h
unary_is punctuator.ReductionNand o e = let h : unary.ReductionNand ≡ o = cc in ap unary_sign h
unary_is punctuator.Or o e = let h : unary.ReductionOr ≡ o = cc in ap unary_sign h
unary_is punctuator.ReductionNor o e = let h : unary.ReductionNor ≡ o = cc in ap unary_sign h
unary_is punctuator.Xor o e = let h : unary.ReductionXor ≡ o = cc in ap unary_sign h
unary_is punctuator.ReductionXnor o e = let h : unary.ReductionXnor ≡ o = cc in ap unary_sign h
unary_is _ o e = absurd cc

-- the operator of its punctuator
pub unary_of-sign : (o : UnaryOperator) → unary_of (unary_sign o) ≡ Some o
unary_of-sign unary.Plus = refl
unary_of-sign _ = refl

-- the punctuator of the operator that it is
pub binary_is : (p : Punctuator) (o : BinaryOperator) → binary_of p ≡ Some o → p ≡ binary_sign o
binary_is punctuator.Asterisk o e = let h : binary.Multiply ≡ o = cc in ap binary_sign h
binary_is punctuator.Plus o e = let h : binary.Add ≡ o = cc in ap binary_sign h
binary_is punctuator.Minus o e = let h : binary.Subtract ≡ o = cc in ap binary_sign h
binary_is punctuator.ShiftLeft o e = let h : binary.ShiftLeft ≡ o = cc in ap binary_sign h
binary_is punctuator.ShiftRight o e = let h : binary.ShiftRight ≡ o = cc in ap binary_sign h
binary_is punctuator.LessThan o e = let h : binary.Less ≡ o = cc in ap binary_sign h
binary_is punctuator.LessOrEqual o e = let h : binary.LessOrEqual ≡ o = cc in ap binary_sign h
binary_is punctuator.GreaterThan o e = let h : binary.Greater ≡ o = cc in ap binary_sign h
binary_is punctuator.GreaterOrEqual o e = let h : binary.GreaterOrEqual ≡ o = cc in ap binary_sign h
binary_is punctuator.LogicalEquality o e = let h : binary.Equal ≡ o = cc in ap binary_sign h
binary_is punctuator.LogicalInequality o e = let h : binary.Unequal ≡ o = cc in ap binary_sign h
binary_is punctuator.CaseEquality o e = let h : binary.CaseEqual ≡ o = cc in ap binary_sign h
binary_is punctuator.CaseInequality o e = let h : binary.CaseUnequal ≡ o = cc in ap binary_sign h
binary_is punctuator.And o e = let h : binary.And ≡ o = cc in ap binary_sign h
binary_is punctuator.Xor o e = let h : binary.Xor ≡ o = cc in ap binary_sign h
binary_is punctuator.ReductionXnor o e = let h : binary.Xnor ≡ o = cc in ap binary_sign h
binary_is punctuator.Or o e = let h : binary.Or ≡ o = cc in ap binary_sign h
binary_is punctuator.LogicalAnd o e = let h : binary.LogicalAnd ≡ o = cc in ap binary_sign h
binary_is punctuator.LogicalOr o e = let h : binary.LogicalOr ≡ o = cc in ap binary_sign h
binary_is _ o e = absurd cc

-- the operator of its punctuator
pub binary_of-sign : (o : BinaryOperator) → binary_of (binary_sign o) ≡ Some o
binary_of-sign binary.Multiply = refl
binary_of-sign _ = refl

-- the kind of the operator that it is
pub operator_is : (k : SymbolKind) (o : BinaryOperator) → operator_of k ≡ Some o → k ≡ symbol.Punctuator (binary_sign o)
operator_is (symbol.Punctuator p) o e = ap (λ (p : Punctuator). symbol.Punctuator p) (binary_is p o e)
operator_is _ o e = absurd cc

-- ---- levels

pub level_above : (o : BinaryOperator) → 0 < level o
level_above binary.Multiply = omega arith
level_above _ = omega arith

pub level_below : (o : BinaryOperator) → level o < 11
level_below binary.Multiply = omega arith
level_below _ = omega arith

tight_cond : (b : Bool) (o q : BinaryOperator) → cond b (Some o) None ≡ Some q → (b ≡ true) × (o ≡ q)
tight_cond true o q e = (refl, cc)
tight_cond false o q e = absurd cc

loose_cond : (b : Bool) (o : BinaryOperator) → cond b (Some o) None ≡ None → b ≡ false
loose_cond true o e = absurd cc
loose_cond false o e = refl

tight_is : (least : ℕ) (p : Option BinaryOperator) (o : BinaryOperator) → tight least p ≡ Some o → (p ≡ Some o) × (least ≤ level o)
tight_is least None o e = absurd cc
tight_is least (Some q) o e =
    let h = tight_cond (leb least (level q)) q o e in (ap (λ (x : BinaryOperator). Some x) h.1, rw (← h.1) (leb-true _ _ h.0))

-- the symbol of an operator that binds, and its level
pub binds_is : (least : ℕ) (s : Symbol) (ts : List Symbol) (o : BinaryOperator) → binds least (s ∷ ts) ≡ Some o → (s ≡ symbol_at (symbol.Punctuator (binary_sign o)) s.place) × (least ≤ level o)
binds_is least s ts o e =
    let h = tight_is least (operator_of s.kind) o e in
    (ap (λ (k : SymbolKind). symbol_at k s.place) (operator_is s.kind o h.0), h.1)

-- an operator that binds at one level and not at another is below that
pub binds_below : (least most : ℕ) (ts : List Symbol) (o : BinaryOperator) → binds least ts ≡ Some o → binds most ts ≡ None → level o < most
binds_below least most [] o e h = absurd cc
binds_below least most (s ∷ ts) o e h =
    let p = tight_is least (operator_of s.kind) o e in
    leb-false _ _ (loose_cond (leb most (level o)) o (rw p.0 at h))

-- an operator binds at its own level
pub binds-sign : (least place : ℕ) (o : BinaryOperator) (ts : List Symbol) → least ≤ level o → binds least (symbol_at (symbol.Punctuator (binary_sign o)) place ∷ ts) ≡ Some o
binds-sign least place o ts le = rw (binary_of-sign o, le-leb _ _ le) refl

loose-is : (least : ℕ) (o : BinaryOperator) → level o < least → tight least (Some o) ≡ None
loose-is least o lt = rw (lt-leb _ _ lt) refl

-- an operator binds at no level above its own
pub binds-loose : (least place : ℕ) (o : BinaryOperator) (ts : List Symbol) → level o < least → binds least (symbol_at (symbol.Punctuator (binary_sign o)) place ∷ ts) ≡ None
binds-loose least place o ts lt = rw (binary_of-sign o) (loose-is least o lt)

more_tight : (low high : ℕ) (p : Option BinaryOperator) → low ≤ high → tight low p ≡ None → tight high p ≡ None
more_tight low high None le e = refl
more_tight low high (Some o) le e =
    let lt : level o < low = leb-false _ _ (loose_cond (leb low (level o)) o e) in loose-is high o (omega arith)

-- where nothing binds at a level, nothing does at a higher one
pub binds-more : (low high : ℕ) (ts : List Symbol) → low ≤ high → binds low ts ≡ None → binds high ts ≡ None
binds-more low high [] le e = refl
binds-more low high (s ∷ ts) le e = more_tight low high (operator_of s.kind) le e

none_tight : (least : ℕ) (p : Option BinaryOperator) → 11 ≤ least → tight least p ≡ None
none_tight least None le = refl
none_tight least (Some o) le = let lt = level_below o in loose-is least o (omega arith)

-- nothing binds as tightly as an operator of one operand
pub binds-none : (least : ℕ) (ts : List Symbol) → 11 ≤ least → binds least ts ≡ None
binds-none least [] le = refl
binds-none least (s ∷ ts) le = none_tight least (operator_of s.kind) le
