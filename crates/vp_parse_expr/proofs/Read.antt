-- The public contracts, from the laws of reading and from what reading into a list gives.
use Rattle.std.proofs.Common.{◌≡◌, ◌≢◌, ℕ, List, ◌∷◌, ◌⊎◌, inl, inr, Result, Ok, Err, refl, sym, ap, subst, ◌∙◌, arith}
use Rattle.std.specs.Prelude.{IfOk, IfErr}
use Rattle.vp_source.specs.declared.expression.Expression as node
use Rattle.vp_source.specs.declared.expression.Range as range
use Rattle.vp_parse_expr.specs.declared.reading.Stop as stop
use Rattle.vp_parse_expr.specs.declared.reading.Stop.TheVariants as stop_of
use Rattle.vp_source.specs.declared.symbol.Symbol.{Symbol}
use Rattle.vp_source.specs.declared.symbol.SymbolKind.TheVariants as symbol
use Rattle.vp_source.specs.Kinds.{symbol_at}
use Rattle.vp_parse_expr.specs.Stopping.{Stop, Unexpected, TooDeep, Fails, Gives, terminal}
use Rattle.vp_source.specs.ExprGrammar.{Range, Expr, Selection}
use Rattle.vp_parse_expr.specs.Reading.{range_at, literal_at, expr_at, select_at}
use Rattle.vp_parse_expr.specs.Placing.{Made, MadeSelection, range_into, literal_into, select_into, expr_into}
use Rattle.vp_parse_expr.specs.laws.Takes.{Holds, IsLiteralTaken, IsTerminal, IsWholeTaken, IsSelectionTaken, IsRangeTaken, literal_takes, terminal_takes, whole_takes, selection_takes, range_takes}
use Rattle.vp_parse_expr.specs.laws.Again.{expr_again, literal_again, selection_again, range_again}
use Rattle.vp_parse_expr.specs.laws.Placed.{seen, made, made_selection, made_range, expr_seen, literal_seen, selection_seen, range_seen}
use Rattle.vp_parse_expr.specs.Meaning.{IsExpressionOf, NoExpression, IsLiteralOf, NoLiteral, IsSelectionOf, NoSelection, IsRangeOf, NoRange, NoTerminal}

-- a result, with its types
abbrev stopped : {A : Type 0} → Stop → Result A Stop
stopped s = Err s

pub read_as : {A B : Type 0} (view : A → B) (r : Result A Stop) (x : B) → seen view r ≡ Ok x → (y : A) × (r ≡ Ok y) × (view y ≡ x)
read_as view (Ok y) x e = (y, refl, cc)
read_as view (Err s) x e = absurd cc

stopped_as : {A B : Type 0} (view : A → B) (r : Result A Stop) (s : Stop) → seen view r ≡ Err s → r ≡ Err s
stopped_as view (Ok y) s e = absurd cc
stopped_as {A} view (Err t) s e = let h : t ≡ s = cc in ap (λ (s : Stop). stopped {A = A} s) h

pub holds_at : {A : Type 0} (P : A → Type 0) (r : Result A Stop) (y : A) → r ≡ Ok y → Holds P r → P y
holds_at {A} P r y e h = subst (λ (r : Result A Stop). Holds P r) e h

-- what is not read, where the code stops for another reason than out of memory
pub none_at : {A : Type 0} (r : Result A Stop) (e : stop.Stop) → Fails e r → (e ≡ stop_of.NoMemory) ⊎ ((y : A) → r ≡ Ok y → ⊥)
none_at r (stop_of.Syntax n) h = inr (λ y k. let off = sym h ∙ k in absurd cc)
none_at r (stop_of.LeftOut n) h = inr (λ y k. let off = sym h ∙ k in absurd cc)
none_at r (stop_of.TooDeep n) h = inr (λ y k. let off = sym h ∙ k in absurd cc)
none_at r stop_of.NoMemory h = inl refl

-- the code fails where reading does
pub fails_alike : {A B : Type 0} (view : A → B) (r : Result A Stop) (placed : Result B Stop) (e : stop.Stop) → placed ≡ seen view r → Fails e placed → Fails e r
fails_alike view r placed (stop_of.Syntax n) same h = stopped_as view r (Unexpected n) (sym same ∙ h)
fails_alike view r placed (stop_of.LeftOut n) same h = stopped_as view r (Unexpected n) (sym same ∙ h)
fails_alike view r placed (stop_of.TooDeep n) same h = stopped_as view r (TooDeep n) (sym same ∙ h)
fails_alike view r placed stop_of.NoMemory same h = tt

pub unless_none : {P Q R : Type 0} → P ⊎ Q → (Q → R) → P ⊎ R
unless_none (inl p) f = inl p
unless_none (inr q) f = inr (f q)

-- ---- expressions

-- what is found is an expression
pub expression_found : {X : Type 0} (limit : ℕ) (nodes : List node.Expression) (ts : List Symbol) (view : X → Made) (r : Result X stop.Stop) → Gives view r (expr_into limit 0 nodes ts) → IfOk r (λ x. (e : Expr) × IsExpressionOf limit nodes ts (view x) e)
expression_found limit nodes ts view (Err e) h = tt
expression_found limit nodes ts view (Ok x) h =
    let y = read_as (made nodes) (expr_at limit 0 ts) (view x) (sym (expr_seen limit 0 nodes ts) ∙ h) in
    let t = holds_at (IsWholeTaken limit ts) (expr_at limit 0 ts) y.0 y.1 (whole_takes limit ts) in
    (y.0.0, subst (λ (z : Made). IsExpressionOf limit nodes ts z y.0.0) y.2 (record { spelled = t.text; is = t.is; depth = refl; fits = t.fits; placed = refl }))

-- what is refused begins with no expression
pub expression_none : {X : Type 0} (limit : ℕ) (nodes : List node.Expression) (ts : List Symbol) (view : X → Made) (r : Result X stop.Stop) → Gives view r (expr_into limit 0 nodes ts) → IfErr r (λ s. (s ≡ stop_of.NoMemory) ⊎ NoExpression limit ts)
expression_none limit nodes ts view (Ok x) h = tt
expression_none limit nodes ts view (Err s) h =
    unless_none (none_at (expr_at limit 0 ts) s (fails_alike (made nodes) (expr_at limit 0 ts) (expr_into limit 0 nodes ts) s (expr_seen limit 0 nodes ts) h))
    (λ never e rest b. never (e, rest) (ap (expr_at limit 0) b.spelled ∙ expr_again limit 0 e rest b.is (omega arith) b.fits b.stops))

-- ---- literals

-- what is found is a literal with a size
pub literal_found : {X : Type 0} (nodes : List node.Expression) (ts : List Symbol) (view : X → Made) (r : Result X stop.Stop) → Gives view r (literal_into nodes ts) → IfOk r (λ x. (e : Expr) × IsLiteralOf nodes ts (view x) e)
literal_found nodes ts view (Err e) h = tt
literal_found nodes ts view (Ok x) h =
    let y = read_as (made nodes) (literal_at ts) (view x) (sym (literal_seen nodes ts) ∙ h) in
    let t = holds_at (IsLiteralTaken ts) (literal_at ts) y.0 y.1 (literal_takes ts) in
    (y.0.0, subst (λ (z : Made). IsLiteralOf nodes ts z y.0.0) y.2 (record { spelled = t.text; is = t.is; sized = t.sized; placed = refl }))

-- what is refused begins with no literal with a size
pub literal_none : {X : Type 0} (nodes : List node.Expression) (ts : List Symbol) (view : X → Made) (r : Result X stop.Stop) → Gives view r (literal_into nodes ts) → IfErr r (λ s. (s ≡ stop_of.NoMemory) ⊎ NoLiteral ts)
literal_none nodes ts view (Ok x) h = tt
literal_none nodes ts view (Err s) h =
    unless_none (none_at (literal_at ts) s (fails_alike (made nodes) (literal_at ts) (literal_into nodes ts) s (literal_seen nodes ts) h))
    (λ never e rest spelled is sized. never (e, rest) (ap literal_at spelled ∙ literal_again e rest is sized))

-- ---- selections

-- what is found is a selection
pub selection_found : {X : Type 0} (limit : ℕ) (nodes : List node.Expression) (ts : List Symbol) (view : X → MadeSelection) (r : Result X stop.Stop) → Gives view r (select_into (expr_into limit 0) nodes ts) → IfOk r (λ x. (s : Selection) × IsSelectionOf limit nodes ts (view x) s)
selection_found limit nodes ts view (Err e) h = tt
selection_found limit nodes ts view (Ok x) h =
    let y = read_as (made_selection nodes) (select_at (expr_at limit 0) ts) (view x) (sym (selection_seen limit nodes ts) ∙ h) in
    let t = holds_at (IsSelectionTaken limit ts) (select_at (expr_at limit 0) ts) y.0 y.1 (selection_takes limit ts) in
    (y.0.0, subst (λ (z : MadeSelection). IsSelectionOf limit nodes ts z y.0.0) y.2 (record { spelled = t.text; is = t.is; depth = refl; fits = t.fits; placed = refl }))

-- what is refused begins with no selection
pub selection_none : {X : Type 0} (limit : ℕ) (nodes : List node.Expression) (ts : List Symbol) (view : X → MadeSelection) (r : Result X stop.Stop) → Gives view r (select_into (expr_into limit 0) nodes ts) → IfErr r (λ s. (s ≡ stop_of.NoMemory) ⊎ NoSelection limit ts)
selection_none limit nodes ts view (Ok x) h = tt
selection_none limit nodes ts view (Err s) h =
    unless_none (none_at (select_at (expr_at limit 0) ts) s (fails_alike (made_selection nodes) (select_at (expr_at limit 0) ts) (select_into (expr_into limit 0) nodes ts) s (selection_seen limit nodes ts) h))
    (λ never e rest b. never (e, rest) (ap (select_at (expr_at limit 0)) b.spelled ∙ selection_again limit e rest b.is b.fits b.stops))

-- ---- ranges

-- what is found is a range
pub range_found : {X : Type 0} (ts : List Symbol) (view : X → range.Range × List Symbol) (r : Result X stop.Stop) → Gives view r (range_into ts) → IfOk r (λ x. (e : Range) × IsRangeOf ts (view x) e)
range_found ts view (Err e) h = tt
range_found ts view (Ok x) h =
    let y = read_as made_range (range_at ts) (view x) (sym (range_seen ts) ∙ h) in
    let t = holds_at (IsRangeTaken ts) (range_at ts) y.0 y.1 (range_takes ts) in
    (y.0.0, subst (λ (z : range.Range × List Symbol). IsRangeOf ts z y.0.0) y.2 (record { spelled = t.0; is = t.1; bounds = refl }))

-- what is refused begins with no range, since out of memory is no such refusal
pub range_none : {X : Type 0} (ts : List Symbol) (view : X → range.Range × List Symbol) (r : Result X stop.Stop) → Gives view r (range_into ts) → IfErr r (λ s. s ≢ stop_of.NoMemory) → IfErr r (λ _. NoRange ts)
range_none ts view (Ok x) h told = tt
range_none ts view (Err s) h told =
    elim (none_at (range_at ts) s (fails_alike made_range (range_at ts) (range_into ts) s (range_seen ts) h)) [
      | inl e ↦ absurd (told e)
      | inr never ↦ λ e rest spelled is. never (e, rest) (ap range_at spelled ∙ range_again e rest is)
    ]

-- ---- names

-- what is found is a name
pub name_found : {X : Type 0} (ts : List Symbol) (view : X → ℕ × List Symbol) (r : Result X stop.Stop) → Gives view r (terminal symbol.Name ts) → IfOk r (λ x. ts ≡ symbol_at symbol.Name (view x).0 ∷ (view x).1)
name_found ts view (Err e) h = tt
name_found ts view (Ok x) h = holds_at (IsTerminal symbol.Name ts) (terminal symbol.Name ts) (view x) h (terminal_takes symbol.Name ts)

name_again : (place : ℕ) (rest : List Symbol) → terminal symbol.Name (symbol_at symbol.Name place ∷ rest) ≡ Ok (place, rest)
unfolding terminal
name_again place rest = refl

-- what is refused begins with no name, since out of memory is no such refusal
pub name_none : {X : Type 0} (ts : List Symbol) (view : X → ℕ × List Symbol) (r : Result X stop.Stop) → Gives view r (terminal symbol.Name ts) → IfErr r (λ s. s ≢ stop_of.NoMemory) → IfErr r (λ _. NoTerminal symbol.Name ts)
name_none ts view (Ok x) h told = tt
name_none ts view (Err s) h told =
    elim (none_at (terminal symbol.Name ts) s h) [
      | inl e ↦ absurd (told e)
      | inr never ↦ λ place rest spelled. never (place, rest) (ap (terminal symbol.Name) spelled ∙ name_again place rest)
    ]
