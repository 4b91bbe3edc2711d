-- Laws of reading: reading into a list gives what the derivation that is read puts there.
use Rattle.std.proofs.Common.{◌≡◌, ℕ, zero, suc, ◌+◌, ◌-◌, List, [], ◌∷◌, length, Bool, true, false, cond, Option, Some, None, Result, Ok, Err, refl, ap, ◌∙◌}
use Rattle.std.specs.Prelude.{nat_le, nat_lt}
use Rattle.vp_lex.specs.declared.token.Punctuator.TheVariants as punctuator
use Rattle.vp_source.specs.declared.expression.Expression as node
use Rattle.vp_source.specs.declared.expression.Expression.TheVariants as node_of
use Rattle.vp_source.specs.declared.expression.Range as range
use Rattle.vp_source.specs.declared.operator.BinaryOperator.{BinaryOperator}
use Rattle.vp_source.specs.declared.operator.UnaryOperator.{UnaryOperator}
use Rattle.vp_source.specs.declared.symbol.Symbol.{Symbol}
use Rattle.vp_source.specs.declared.symbol.SymbolKind.{SymbolKind}
use Rattle.vp_source.specs.declared.symbol.SymbolKind.TheVariants as symbol
use Rattle.vp_source.specs.declared.symbol.TheConstants.{NUMBER_LIMIT}
use Rattle.vp_source.specs.Kinds.{same_kind}
use Rattle.vp_source.specs.Operators.{unary_of, level, binds}
use Rattle.vp_parse_expr.specs.Stopping.{Stop, ◌>>=◌, Reader, refused, is_next, terminal, following}
use Rattle.vp_source.specs.ExprGrammar.{Range, Expr, Selection, Parts, First, expr_depth, selection_depth, parts_depth}
use Rattle.vp_source.specs.ExprLayout.{put_range, put_expr, put_selection, put_parts}
use Rattle.vp_parse_expr.specs.Reading.{is_base_next, is_number_before, is_part, is_bare, bound_by, bound_at, range_at, is_size_of, sized_at, number_at, literal_by, literal_at, bit_at, part_select_at, select_at, name_at, group_at, unary_at, part_at, further_part_at, further_parts_at, parts_at, concatenation_at, replication_at, braces_at, operand_by, operand_at, on_operator, binary_at, more_at, conditional_at, is_choice, choice_at, chain_at, expr_at}
use Rattle.vp_parse_expr.specs.Placing.{Made, made as made_node, Placer, MadeSelection, Selector, bound_by_into, bound_into, range_into, sized_into, number_into, literal_by_into, literal_into, based_into, bit_into, part_select_into, select_into, name_into, group_into, unary_into, part_into, further_part_into, further_parts_into, first_part_into, parts_into, concatenation_into, replication_into, braces_into, operand_by_into, operand_into, binary_into, more_into, conditional_into, choice_into, chain_into, expr_into}

-- ---- what is read, seen by a view

-- what is read, seen by a view
abbrev pub seen : {A B : Type 0} → (A → B) → Result A Stop → Result B Stop
seen view (Ok x) = Ok (view x)
seen view (Err s) = Err s

pub bind_seen : {X Y A B : Type 0} (h : Y → X) (k : A → B) (r : Result X Stop) (s : Result Y Stop) (f : X → Result B Stop) (g : Y → Result A Stop) → r ≡ seen h s → ((y : Y) → f (h y) ≡ seen k (g y)) → (r >>= f) ≡ seen k (s >>= g)
bind_seen {X} h k r (Ok y) f g e p = ap (λ (r : Result X Stop). r >>= f) e ∙ p y
bind_seen {X} h k r (Err s) f g e p = ap (λ (r : Result X Stop). r >>= f) e

-- steps one after the other, grouped from the left or from the right
bind_twice : {A B C : Type 0} (r : Result A Stop) (f : A → Result B Stop) (g : B → Result C Stop) → ((r >>= f) >>= g) ≡ (r >>= λ x. f x >>= g)
bind_twice (Ok x) f g = refl
bind_twice (Err s) f g = refl

pub last_seen : {Y A B : Type 0} (h : Y → A) (k : A → B) (s : Result Y Stop) → seen (λ y. k (h y)) s ≡ seen k (s >>= λ y. Ok (h y))
last_seen h k (Ok y) = refl
last_seen h k (Err s) = refl

pub all_seen : {A : Type 0} (r : Result A Stop) → r ≡ seen (λ x. x) r
all_seen (Ok x) = refl
all_seen (Err s) = refl

pub if_seen : {A B : Type 0} (k : A → B) (b : Bool) (x y : Result B Stop) (u v : Result A Stop) → x ≡ seen k u → y ≡ seen k v → cond b x y ≡ seen k (cond b u v)
if_seen k true x y u v e f = e
if_seen k false x y u v e f = f

on_seen : {A B : Type 0} (k : A → B) (p : Option BinaryOperator) (f : BinaryOperator → Result B Stop) (g : BinaryOperator → Result A Stop) (x : Result B Stop) (y : Result A Stop) → ((o : BinaryOperator) → f o ≡ seen k (g o)) → x ≡ seen k y → on_operator p f x ≡ seen k (on_operator p g y)
on_seen k None f g x y h e = e
on_seen k (Some o) f g x y h e = h o

-- what is left
abbrev pub left : ℕ × List Symbol → List Symbol
left x = x.1

pub after_seen : (kind : SymbolKind) (ts : List Symbol) → following kind ts ≡ seen left (terminal kind ts)
unfolding following terminal
after_seen kind [] = refl
after_seen kind (s ∷ ts) = if_seen left (same_kind kind s.kind) (Ok ts) (refused (s ∷ ts)) (Ok (s.place, ts)) (refused (s ∷ ts)) refl refl

-- an expression's place, its depth, the list with it, and what is left
abbrev pub made : List node.Expression → Expr × List Symbol → Made
made nodes x = ((put_expr x.0 nodes).0, expr_depth x.0, (put_expr x.0 nodes).1, x.1)

-- a selection, its depth, the list with it, and what is left
abbrev pub made_selection : List node.Expression → Selection × List Symbol → MadeSelection
made_selection nodes x = ((put_selection x.0 nodes).0, selection_depth x.0, (put_selection x.0 nodes).1, x.1)

-- the place of the expressions in braces, their depth, the list with them, and what is left
abbrev pub made_parts : (brace : ℕ) → List node.Expression → Parts × List Symbol → Made
made_parts brace nodes x = ((put_parts brace x.0 nodes).0, parts_depth x.0, (put_parts brace x.0 nodes).1, x.1)

-- a range's bounds, and what is left
abbrev pub made_range : Range × List Symbol → range.Range × List Symbol
made_range x = (put_range x.0, x.1)

-- a reader into a list gives what a reader of derivations does
abbrev pub Places : Placer → Reader Expr → Type 0
Places placer reader = (nodes : List node.Expression) (ts : List Symbol) → placer nodes ts ≡ seen (made nodes) (reader ts)

-- a reader of selections too
abbrev pub Selects : Selector → Reader Selection → Type 0
Selects selector reader = (nodes : List node.Expression) (ts : List Symbol) → selector nodes ts ≡ seen (made_selection nodes) (reader ts)

-- ---- ranges

-- a number without its place, and what is left
abbrev valued : ℕ × ℕ × List Symbol → ℕ × List Symbol
valued x = (x.0, x.2)

bound_by_seen : (greatest : ℕ) (kind : SymbolKind) (place : ℕ) (ts : List Symbol) → bound_by_into greatest kind ts ≡ seen valued (bound_by greatest kind place ts)
unfolding bound_by_into bound_by
bound_by_seen greatest (symbol.Number value) place ts = if_seen valued (nat_le value greatest) _ _ _ _ refl refl
bound_by_seen greatest _ place ts = refl

bound_seen : (greatest : ℕ) (ts : List Symbol) → bound_into greatest ts ≡ seen valued (bound_at greatest ts)
unfolding bound_into bound_at
bound_seen greatest [] = refl
bound_seen greatest (s ∷ ts) = bound_by_seen greatest s.kind s.place ts

-- reading a range gives the bounds of the range that is read
pub range_seen : (ts : List Symbol) → range_into ts ≡ seen made_range (range_at ts)
unfolding range_into range_at
range_seen ts =
    let left_kind = symbol.Punctuator punctuator.LeftBracket in
    let colon_kind = symbol.Punctuator punctuator.Colon in
    let right_kind = symbol.Punctuator punctuator.RightBracket in
    bind_seen left made_range (following left_kind ts) (terminal left_kind ts) _ _ (after_seen left_kind ts)
    (λ o. bind_seen valued made_range (bound_into 65535 o.1) (bound_at 65535 o.1) _ _ (bound_seen 65535 o.1)
    (λ m. bind_seen left made_range (following colon_kind m.2) (terminal colon_kind m.2) _ _ (after_seen colon_kind m.2)
    (λ c. bind_seen valued made_range (bound_into m.0 c.1) (bound_at m.0 c.1) _ _ (bound_seen m.0 c.1)
    (λ l. bind_seen left made_range (following right_kind l.2) (terminal right_kind l.2) _ _ (after_seen right_kind l.2)
    (λ z. refl)))))

-- ---- literals and selections

sized_seen : (size place : ℕ) → Places (sized_into size place) (sized_at size place)
unfolding sized_into sized_at
sized_seen size place nodes [] = refl
sized_seen size place nodes (s ∷ ts) = if_seen (made nodes) (is_size_of size s.kind) _ _ _ _ refl refl

number_seen : (value place : ℕ) → Places (number_into value place) (number_at value place)
unfolding number_into number_at
number_seen value place nodes ts =
    if_seen (made nodes) (is_base_next ts) _ _ _ _ (sized_seen value place nodes ts) (if_seen (made nodes) (nat_lt value NUMBER_LIMIT) _ _ _ _ refl refl)

literal_by_seen : (kind : SymbolKind) (place : ℕ) → Places (literal_by_into kind place) (literal_by kind place)
unfolding literal_by_into literal_by
literal_by_seen (symbol.Number size) place nodes ts = if_seen (made nodes) (is_base_next ts) _ _ _ _ (sized_seen size place nodes ts) refl
literal_by_seen _ place nodes ts = refl

-- a literal
pub literal_seen : Places literal_into literal_at
unfolding literal_into literal_at
literal_seen nodes [] = refl
literal_seen nodes (s ∷ ts) = literal_by_seen s.kind s.place nodes ts

bit_seen : (placer : Placer) (reader : Reader Expr) → Places placer reader → Selects (bit_into placer) (bit_at reader)
unfolding bit_into bit_at
bit_seen placer reader places nodes ts =
    let left_kind = symbol.Punctuator punctuator.LeftBracket in
    let right_kind = symbol.Punctuator punctuator.RightBracket in
    bind_seen left (made_selection nodes) (following left_kind ts) (terminal left_kind ts) _ _ (after_seen left_kind ts)
    (λ o. bind_seen (made nodes) (made_selection nodes) (placer nodes o.1) (reader o.1) _ _ (places nodes o.1)
    (λ v. bind_seen left (made_selection nodes) (following right_kind v.1) (terminal right_kind v.1) _ _ (after_seen right_kind v.1)
    (λ z. refl)))

part_select_seen : Selects part_select_into part_select_at
unfolding part_select_into part_select_at
part_select_seen nodes ts = bind_seen made_range (made_selection nodes) (range_into ts) (range_at ts) _ _ (range_seen ts) (λ r. refl)

pub select_seen : (placer : Placer) (reader : Reader Expr) → Places placer reader → Selects (select_into placer) (select_at reader)
unfolding select_into select_at
select_seen placer reader places nodes ts =
    if_seen (made_selection nodes) (is_next (symbol.Punctuator punctuator.LeftBracket) ts) _ _ _ _
    (if_seen (made_selection nodes) (is_part ts) _ _ _ _ (part_select_seen nodes ts) (bit_seen placer reader places nodes ts))
    refl

-- ---- expressions

-- the first expression in braces, its depth, the list with it, and what is left
abbrev made_first : (brace : ℕ) → List node.Expression → Expr × List Symbol → Made
made_first brace nodes e = made_parts brace nodes (First e.0, e.1)

after_part : (brace : ℕ) (nodes : List node.Expression) (r : Result Made Stop) (s : Result (Expr × List Symbol) Stop) → r ≡ seen (made nodes) s → (r >>= λ p. Ok (made_node (node_of.Concatenation brace p.0) p.1 p.2 p.3)) ≡ seen (made_first brace nodes) s
after_part brace nodes r (Ok e) h = ap (λ (r : Result Made Stop). r >>= λ p. Ok (made_node (node_of.Concatenation brace p.0) p.1 p.2 p.3)) h
after_part brace nodes r (Err s) h = ap (λ (r : Result Made Stop). r >>= λ p. Ok (made_node (node_of.Concatenation brace p.0) p.1 p.2 p.3)) h

module _ (placer : ℕ → Placer) (reader : ℕ → Reader Expr) (places : (least : ℕ) → Places (placer least) (reader least)) where
  name_seen : (place : ℕ) → Places (name_into placer place) (name_at reader place)
  unfolding name_into name_at
  name_seen place nodes ts =
      bind_seen (made_selection nodes) (made nodes) (select_into (placer 0) nodes ts) (select_at (reader 0) ts) _ _ (select_seen (placer 0) (reader 0) (places 0) nodes ts) (λ s. refl)

  group_seen : (opening : ℕ) → Places (group_into placer) (group_at reader opening)
  unfolding group_into group_at
  group_seen opening nodes ts =
      let right_kind = symbol.Punctuator punctuator.RightParenthesis in
      bind_seen (made nodes) (made nodes) (placer 0 nodes ts) (reader 0 ts) _ _ (places 0 nodes ts)
      (λ v. bind_seen left (made nodes) (following right_kind v.1) (terminal right_kind v.1) _ _ (after_seen right_kind v.1) (λ z. refl))

  unary_seen : (p : Option UnaryOperator) (place : ℕ) → Places (unary_into placer p place) (unary_at reader p place)
  unfolding unary_into unary_at
  unary_seen None place nodes ts = refl
  unary_seen (Some o) place nodes ts = bind_seen (made nodes) (made nodes) (placer 11 nodes ts) (reader 11 ts) _ _ (places 11 nodes ts) (λ v. refl)

  part_seen : Places (part_into placer) (part_at reader)
  unfolding part_into part_at
  part_seen nodes ts =
      bind_seen (made nodes) (made nodes) (placer 0 nodes ts) (reader 0 ts) _ _ (places 0 nodes ts)
      (λ v. if_seen (made nodes) (is_bare ts v.1) (refused ts) (Ok (made nodes v)) (refused ts) (Ok v) refl refl)

  further_part_seen : (brace : ℕ) (l : Parts) (nodes : List node.Expression) (ts : List Symbol) → further_part_into placer brace (put_parts brace l nodes).0 (parts_depth l) (put_parts brace l nodes).1 ts ≡ seen (made_parts brace nodes) (further_part_at reader l ts)
  unfolding further_part_into further_part_at
  further_part_seen brace l nodes ts =
      let comma_kind = symbol.Punctuator punctuator.Comma in
      let x = put_parts brace l nodes in
      bind_seen left (made_parts brace nodes) (following comma_kind ts) (terminal comma_kind ts) _ _ (after_seen comma_kind ts)
      (λ c. bind_seen (made x.1) (made_parts brace nodes) (part_into placer x.1 c.1) (part_at reader c.1) _ _ (part_seen x.1 c.1) (λ p. refl))

  further_parts_seen : (m brace : ℕ) (l : Parts) (nodes : List node.Expression) (ts : List Symbol) → further_parts_into placer m brace (put_parts brace l nodes).0 (parts_depth l) (put_parts brace l nodes).1 ts ≡ seen (made_parts brace nodes) (further_parts_at reader m l ts)
  unfolding further_parts_into further_parts_at
  further_parts_seen zero brace l nodes ts = refl
  further_parts_seen (suc m) brace l nodes ts =
      let x = put_parts brace l nodes in
      if_seen (made_parts brace nodes) (is_next (symbol.Punctuator punctuator.Comma) ts) _ _ _ _
      (bind_seen (made_parts brace nodes) (made_parts brace nodes) (further_part_into placer brace x.0 (parts_depth l) x.1 ts) (further_part_at reader l ts) _ _ (further_part_seen brace l nodes ts)
      (λ p. further_parts_seen m brace p.0 nodes p.1))
      refl

  first_part_seen : (brace : ℕ) (nodes : List node.Expression) (ts : List Symbol) → first_part_into placer brace nodes ts ≡ seen (made_first brace nodes) (part_at reader ts)
  unfolding first_part_into
  first_part_seen brace nodes ts = after_part brace nodes (part_into placer nodes ts) (part_at reader ts) (part_seen nodes ts)

  parts_seen : (brace : ℕ) (nodes : List node.Expression) (ts : List Symbol) → parts_into placer brace nodes ts ≡ seen (made_parts brace nodes) (parts_at reader ts)
  unfolding parts_into parts_at
  parts_seen brace nodes ts =
      bind_seen (made_first brace nodes) (made_parts brace nodes) (first_part_into placer brace nodes ts) (part_at reader ts) _ _ (first_part_seen brace nodes ts)
      (λ e. further_parts_seen (length e.1) brace (First e.0) nodes e.1)

  concatenation_seen : (opening : ℕ) → Places (concatenation_into placer opening) (concatenation_at reader opening)
  unfolding concatenation_into concatenation_at
  concatenation_seen opening nodes ts =
      let right_kind = symbol.Punctuator punctuator.RightBrace in
      bind_seen (made_parts opening nodes) (made nodes) (parts_into placer opening nodes ts) (parts_at reader ts) _ _ (parts_seen opening nodes ts)
      (λ l. bind_seen left (made nodes) (following right_kind l.1) (terminal right_kind l.1) _ _ (after_seen right_kind l.1) (λ z. refl))

  replication_seen : (opening : ℕ) → Places (replication_into placer opening) (replication_at reader opening)
  unfolding replication_into concatenation_into replication_at
  replication_seen opening nodes ts =
      let left_kind = symbol.Punctuator punctuator.LeftBrace in
      let right_kind = symbol.Punctuator punctuator.RightBrace in
      bind_seen valued (made nodes) (bound_into (NUMBER_LIMIT - 1) ts) (bound_at (NUMBER_LIMIT - 1) ts) _ _ (bound_seen (NUMBER_LIMIT - 1) ts)
      (λ n. bind_seen (λ (x : ℕ × List Symbol). x) (made nodes) (terminal left_kind n.2) (terminal left_kind n.2) _ _ (all_seen (terminal left_kind n.2))
      (λ i. bind_twice (parts_into placer i.0 nodes i.1) _ _
      ∙ bind_seen (made_parts i.0 nodes) (made nodes) (parts_into placer i.0 nodes i.1) (parts_at reader i.1) _ _ (parts_seen i.0 nodes i.1)
      (λ l. bind_twice (following right_kind l.1) _ _
      ∙ bind_seen left (made nodes) (following right_kind l.1) (terminal right_kind l.1) _ _ (after_seen right_kind l.1)
      (λ y. bind_seen left (made nodes) (following right_kind y.1) (terminal right_kind y.1) _ _ (after_seen right_kind y.1) (λ z. refl)))))

  braces_seen : (opening : ℕ) → Places (braces_into placer opening) (braces_at reader opening)
  unfolding braces_into braces_at
  braces_seen opening nodes ts =
      if_seen (made nodes) (is_number_before (symbol.Punctuator punctuator.LeftBrace) ts) _ _ _ _ (replication_seen opening nodes ts) (concatenation_seen opening nodes ts)

  operand_by_seen : (kind : SymbolKind) (place : ℕ) → Places (operand_by_into placer kind place) (operand_by reader kind place)
  unfolding operand_by_into operand_by based_into
  operand_by_seen symbol.Name place nodes ts = name_seen place nodes ts
  operand_by_seen (symbol.Number value) place nodes ts = number_seen value place nodes ts
  operand_by_seen symbol.ShortBase place nodes ts = refl
  operand_by_seen (symbol.Punctuator punctuator.LeftParenthesis) place nodes ts = group_seen place nodes ts
  operand_by_seen (symbol.Punctuator punctuator.LeftBrace) place nodes ts = braces_seen place nodes ts
  operand_by_seen (symbol.Punctuator sign) place nodes ts = unary_seen (unary_of sign) place nodes ts
  operand_by_seen _ place nodes ts = refl

  operand_seen : Places (operand_into placer) (operand_at reader)
  unfolding operand_into operand_at
  operand_seen nodes [] = refl
  operand_seen nodes (s ∷ ts) = operand_by_seen s.kind s.place nodes ts

  module _ (limit : ℕ) where
    binary_seen : (o : BinaryOperator) (e : Expr) (nodes : List node.Expression) (ts : List Symbol) → binary_into placer limit o (put_expr e nodes).0 (expr_depth e) (put_expr e nodes).1 ts ≡ seen (made nodes) (binary_at reader limit o e ts)
    unfolding binary_into binary_at
    binary_seen o e nodes [] = refl
    binary_seen o e nodes (s ∷ ts) =
        let x = put_expr e nodes in
        if_seen (made nodes) (nat_le (expr_depth e) limit) _ _ _ _
        (bind_seen (made x.1) (made nodes) (placer (level o + 1) x.1 ts) (reader (level o + 1) ts) _ _ (places (level o + 1) x.1 ts) (λ v. refl))
        refl

    more_seen : (m least : ℕ) (e : Expr) (nodes : List node.Expression) (ts : List Symbol) → more_into placer limit m least (put_expr e nodes).0 (expr_depth e) (put_expr e nodes).1 ts ≡ seen (made nodes) (more_at reader limit m least e ts)
    unfolding more_into more_at
    more_seen zero least e nodes ts = refl
    more_seen (suc m) least e nodes ts =
        let x = put_expr e nodes in
        on_seen (made nodes) (binds least ts) _ _ _ _
        (λ o. bind_seen (made nodes) (made nodes) (binary_into placer limit o x.0 (expr_depth e) x.1 ts) (binary_at reader limit o e ts) _ _ (binary_seen o e nodes ts)
        (λ v. more_seen m least v.0 nodes v.1))
        refl

    conditional_seen : (c : Expr) (nodes : List node.Expression) (ts : List Symbol) → conditional_into placer limit (put_expr c nodes).0 (expr_depth c) (put_expr c nodes).1 ts ≡ seen (made nodes) (conditional_at reader limit c ts)
    unfolding conditional_into conditional_at
    conditional_seen c nodes ts =
        let x = put_expr c nodes in
        let question_kind = symbol.Punctuator punctuator.Conditional in
        let colon_kind = symbol.Punctuator punctuator.Colon in
        if_seen (made nodes) (nat_le (expr_depth c) limit) _ _ _ _
        (bind_seen left (made nodes) (following question_kind ts) (terminal question_kind ts) _ _ (after_seen question_kind ts)
        (λ q. bind_seen (made x.1) (made nodes) (placer 0 x.1 q.1) (reader 0 q.1) _ _ (places 0 x.1 q.1)
        (λ a. bind_seen left (made nodes) (following colon_kind a.1) (terminal colon_kind a.1) _ _ (after_seen colon_kind a.1)
        (λ z. bind_seen (made (put_expr a.0 x.1).1) (made nodes) (placer 0 (put_expr a.0 x.1).1 z.1) (reader 0 z.1) _ _ (places 0 (put_expr a.0 x.1).1 z.1)
        (λ b. refl)))))
        refl

    choice_seen : (least : ℕ) (c : Expr) (nodes : List node.Expression) (ts : List Symbol) → choice_into placer limit least (put_expr c nodes).0 (expr_depth c) (put_expr c nodes).1 ts ≡ seen (made nodes) (choice_at reader limit least c ts)
    unfolding choice_into choice_at
    choice_seen least c nodes ts = if_seen (made nodes) (is_choice least ts) _ _ _ _ (conditional_seen c nodes ts) refl

    chain_seen : (least : ℕ) → Places (chain_into placer limit least) (chain_at reader limit least)
    unfolding chain_into chain_at
    chain_seen least nodes ts =
        bind_seen (made nodes) (made nodes) (operand_into placer nodes ts) (operand_at reader ts) _ _ (operand_seen nodes ts)
        (λ x. bind_seen (made nodes) (made nodes) (more_into placer limit (length x.1) least (put_expr x.0 nodes).0 (expr_depth x.0) (put_expr x.0 nodes).1 x.1) (more_at reader limit (length x.1) least x.0 x.1) _ _ (more_seen (length x.1) least x.0 nodes x.1)
        (λ y. choice_seen least y.0 nodes y.1))

-- reading an expression into a list gives what its derivation puts there
pub expr_seen : (limit least : ℕ) → Places (expr_into limit least) (expr_at limit least)
unfolding expr_into expr_at
expr_seen zero least nodes ts = refl
expr_seen (suc d) least nodes ts = chain_seen (expr_into d) (expr_at d) (expr_seen d) d least nodes ts

-- and reading a selection
pub selection_seen : (limit : ℕ) → Selects (select_into (expr_into limit 0)) (select_at (expr_at limit 0))
selection_seen limit nodes ts = select_seen (expr_into limit 0) (expr_at limit 0) (expr_seen limit 0) nodes ts
