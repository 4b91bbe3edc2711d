-- Reading into lists gives what the derivation that is read puts there.
use Rattle.std.proofs.Common.{◌≡◌, ℕ, zero, suc, List, [], ◌∷◌, ◌++◌, length, Bool, true, false, cond, Option, Some, None, Result, Ok, Err, refl, sym, ap, ◌∙◌}
use Rattle.std.specs.Prelude.{◌==◌, option_map, IfSome}
use Rattle.vp_lex.specs.declared.keyword.Keyword.TheVariants as keyword
use Rattle.vp_lex.specs.declared.token.Punctuator.TheVariants as punctuator
use Rattle.std.proofs.Math.Seq.{append_snoc}
use Rattle.std.proofs.lemmas.List.{append-nil}
use Rattle.vp_source.specs.declared.source.Direction as direction
use Rattle.vp_source.specs.declared.source.Item as item
use Rattle.vp_source.specs.declared.source.Item.TheVariants as item_of
use Rattle.vp_source.specs.declared.source.Module as module_of
use Rattle.vp_source.specs.declared.source.DeclaredRange.{DeclaredRange}
use Rattle.vp_parse.specs.declared.items.Declaration as declaration
use Rattle.vp_parse.specs.declared.items.Declaration.TheVariants as declaration_of
use Rattle.vp_source.specs.declared.symbol.Symbol.{Symbol}
use Rattle.vp_source.specs.declared.symbol.SymbolKind.{SymbolKind}
use Rattle.vp_source.specs.declared.symbol.SymbolKind.TheVariants as symbol
use Rattle.vp_source.specs.declared.expression.Range as range
use Rattle.vp_source.specs.Kinds.{same_kind, symbol_at}
use Rattle.vp_source.specs.Operators.{binary_sign}
use Rattle.vp_source.specs.ExprGrammar.{Expr, Name, Sized, Based, Number, Group, Unary, Binary, Conditional, Concatenation, Replication, Range, IsExpr, expr_text, range_text}
use Rattle.vp_parse_expr.specs.laws.Takes.{Holds, IsTerminal, terminal_takes, IsRangeTaken, range_takes}
use Rattle.vp_parse_expr.specs.Stopping.{Stop, ◌>>=◌, Reader, is_next, terminal, following}
use Rattle.vp_parse_expr.specs.Reading.{expr_at, range_at, literal_at}
use Rattle.vp_parse_expr.specs.Placing.{Made as Placed, literal_into, range_into}
use Rattle.vp_parse_expr.specs.laws.Placed.{seen, bind_seen, last_seen, all_seen, if_seen, left, after_seen, made as made_expr, literal_seen, made_range as kept_range, range_seen}
use Rattle.vp_source.specs.StmtGrammar.{Stmt}
use Rattle.vp_source.specs.StmtLayout as layout
use Rattle.vp_source.specs.StmtLayout.{put_stmt, put_value}
use Rattle.vp_parse_stmt.specs.Placing.{Placer, Made as MadePart, value_into, stmt_into}
use Rattle.vp_parse_stmt.specs.laws.Placed.{Places, made as made_part, value_seen, stmt_seen}
use Rattle.vp_parse_stmt.specs.Reading.{stmt_at}
use Rattle.vp_source.specs.Grammar.{Further, further_text, AreFurther, further_height, Connection, Ordered, Named, Connections, Unconnected, Connected, value_text, value_height, connection_text, IsAlike, connection_height, Declaration, Nets, Regs, LocalParameters, Assignments, Instances, Declarator, Valued, Item, Initial, Always, Direction, Port, Bare, PortList, Ports, Module, Derivation}
use Rattle.vp_source.specs.Layout.{Lists, no_parts, put_declared, with_item, with_connection, first_place, put_connection_by, put_connection, comma_at, put_connected, put_connections, put_declarator, put_further, put_procedure, put_item, put_items, PortType, put_direction, port_type, port_name, put_port, put_ports, scalar_input, put_header, put_module, put_modules, put_source}
use Rattle.vp_parse.specs.Reading.{further_at, width_at, is_end, value_at, ordered_at, named_at, connection_at, connected_at, connections_at, valued_at, net_at, instance_at, declarator_by, declarator_at, declarators_at, ranged_at, procedure_at, item_by, item_at, items_at, wire_at, output_at, direction_by, direction_at, declared_at, port_at, ports_at, listed_at, parentheses_at, header_at, module_at, modules_at, source_at}
use Rattle.vp_parse.specs.Placing.{Kept, Keeper, Made, further_into, width_into, part_into, optional_into, ordered_into, named_into, connection_into, connected_into, connections_into, valued_into, net_into, instance_into, sized_into, declarator_by_into, declarator_into, declarators_into, procedure_into, item_by_into, item_into, items_into, wire_into, output_into, direction_by_into, direction_into, port_type_into, next_type_into, port_into, ports_into, listed_into, parentheses_into, header_into, module_into, modules_into}
use Rattle.vp_parse.proofs.Takes.{IsRead, value_takes, connection_takes, further_takes}

-- ---- tools

-- the lists with what is read, and what is left
abbrev pub kept : {A : Type 0} → (A → Lists → Lists) → Lists → A × List Symbol → Kept
kept put lists x = (put x.0 lists, x.1)

-- a reader into lists gives what a reader of derivations does
abbrev pub Keeps : {A : Type 0} → (A → Lists → Lists) → Keeper → Reader A → Type 0
Keeps put keeper reader = (lists : Lists) (ts : List Symbol) → keeper lists ts ≡ seen (kept put lists) (reader ts)

-- the next step, by what is known of what was read
bind_known : {X Y A B : Type 0} (P : Y → Type 0) (h : Y → X) (k : A → B) (r : Result X Stop) (s : Result Y Stop) (f : X → Result B Stop) (g : Y → Result A Stop) → Holds P s → r ≡ seen h s → ((y : Y) → P y → f (h y) ≡ seen k (g y)) → (r >>= f) ≡ seen k (s >>= g)
bind_known {X} P h k r (Ok y) f g is e p = ap (λ (r : Result X Stop). r >>= f) e ∙ p y is
bind_known {X} P h k r (Err s) f g is e p = ap (λ (r : Result X Stop). r >>= f) e

-- what is read, seen in two ways that agree on what is known of it
seen_known : {Y A B : Type 0} (P : Y → Type 0) (g : Y → B) (h : Y → A) (k : A → B) (s : Result Y Stop) → Holds P s → ((y : Y) → P y → g y ≡ k (h y)) → seen g s ≡ seen k (s >>= λ y. Ok (h y))
seen_known {Y} {A} {B} P g h k (Ok y) is p = ap (λ (b : B). (let r : Result B Stop = Ok b in r)) (p y is)
seen_known P g h k (Err s) is p = refl

viewed : {X Y B : Type 0} (h : Y → X) (g : X → B) (r : Result X Stop) (s : Result Y Stop) → r ≡ seen h s → (r >>= λ x. Ok (g x)) ≡ seen (λ y. g (h y)) s
viewed {X} {Y} {B} h g r (Ok y) e = ap (λ (r : Result X Stop). (let b : Result B Stop = r >>= λ x. Ok (g x) in b)) e
viewed {X} {Y} {B} h g r (Err s) e = ap (λ (r : Result X Stop). (let b : Result B Stop = r >>= λ x. Ok (g x) in b)) e

-- a part after the parts of the lists, its place, and what is left
abbrev part_made : {A : Type 0} → (A → layout.Lists → ℕ × layout.Lists) → Lists → A × List Symbol → Made ℕ
part_made put lists x = ((put x.0 lists.parts).0, record lists { parts = (put x.0 lists.parts).1 }, x.1)

part_seen : {A : Type 0} (put : A → layout.Lists → ℕ × layout.Lists) (placer : Placer) (reader : Reader A) → Places put placer reader → (lists : Lists) (ts : List Symbol) → part_into placer lists ts ≡ seen (part_made put lists) (reader ts)
part_seen put placer reader places lists ts =
    viewed (made_part put lists.parts) (λ (v : MadePart). (let x : Made ℕ = (v.0, record lists { parts = v.1 }, v.2) in x)) (placer lists.parts ts) (reader ts) (places lists.parts ts)

-- a range as the lists have it, and what is left
abbrev ranged : Option Range × List Symbol → Option DeclaredRange × List Symbol
ranged w = (option_map put_declared w.0, w.1)

-- the bracket of a range is the first symbol's place
open_of : (s : Symbol) (ts : List Symbol) (r : Range × List Symbol) → IsRangeTaken (s ∷ ts) r → s.place ≡ r.0.opening
open_of s ts r h = let e : s ∷ ts ≡ range_text r.0 r.1 = h.0 in cc

declared_by : (s : Symbol) (ts : List Symbol) (r : Result (Range × List Symbol) Stop) (x : Result (range.Range × List Symbol) Stop) → Holds (IsRangeTaken (s ∷ ts)) r → x ≡ seen kept_range r
    → (x >>= λ r. (let y : Result (Option DeclaredRange × List Symbol) Stop = Ok (Some (record { bracket = s.place; range = r.0 }), r.1) in y)) ≡ seen ranged (r >>= λ r. Ok (Some r.0, r.1))
declared_by s ts (Ok r) x h e = let o = open_of s ts r h in rw (e, o) refl
declared_by s ts (Err stop) x h e = rw e refl

width_seen : (ts : List Symbol) → width_into ts ≡ seen ranged (width_at ts)
unfolding width_into width_at
width_seen [] = refl
width_seen (s ∷ ts) =
    if_seen ranged (same_kind (symbol.Punctuator punctuator.LeftBracket) s.kind) _ _ _ _
    (declared_by s ts (range_at (s ∷ ts)) (range_into (s ∷ ts)) (range_takes (s ∷ ts)) (range_seen (s ∷ ts)))
    refl

-- ---- where a value begins

-- an expression begins where it does, whatever follows it
expr_first : (e : Expr) (rest tail : List Symbol) → first_place (expr_text e rest) ≡ first_place (expr_text e tail)
expr_first (Name place s) rest tail = refl
expr_first (Sized place size kind digits) rest tail = refl
expr_first (Based digits) rest tail = refl
expr_first (Number place value) rest tail = refl
expr_first (Group opening e closing) rest tail = refl
expr_first (Unary o place e) rest tail = refl
expr_first (Binary o a place b) rest tail = expr_first a (symbol_at (symbol.Punctuator (binary_sign o)) place ∷ expr_text b rest) (symbol_at (symbol.Punctuator (binary_sign o)) place ∷ expr_text b tail)
expr_first (Conditional c question a colon b) rest tail =
    expr_first c (symbol_at (symbol.Punctuator punctuator.Conditional) question ∷ expr_text a (symbol_at (symbol.Punctuator punctuator.Colon) colon ∷ expr_text b rest))
    (symbol_at (symbol.Punctuator punctuator.Conditional) question ∷ expr_text a (symbol_at (symbol.Punctuator punctuator.Colon) colon ∷ expr_text b tail))
expr_first (Concatenation opening l closing) rest tail = refl
expr_first (Replication opening count_place count inner_opening l inner_closing closing) rest tail = refl

-- a value begins at its first symbol, or at the one after it
value_first : (v : Option Expr) (s : Symbol) (rest : List Symbol) → first_place (value_text v (s ∷ rest)) ≡ first_place (value_text v (s ∷ []))
value_first None s rest = refl
value_first (Some e) s rest = expr_first e (s ∷ rest) (s ∷ [])

-- ---- connections

-- the value of a connection, if it has one, the lists with it, and what is left
abbrev put_optional : Option Expr → Lists → Option ℕ × Lists
put_optional None lists = (None, lists)
put_optional (Some e) lists = (Some (put_value e lists.parts).0, record lists { parts = (put_value e lists.parts).1 })

abbrev optional_made : Lists → Option Expr × List Symbol → Made (Option ℕ)
optional_made lists v = ((put_optional v.0 lists).0, (put_optional v.0 lists).1, v.1)

optional_seen : (limit : ℕ) (lists : Lists) (ts : List Symbol) → optional_into limit lists ts ≡ seen (optional_made lists) (value_at limit ts)
unfolding optional_into value_at
optional_seen limit lists ts =
    if_seen (optional_made lists) (is_end ts) _ _ _ _
    refl
    (bind_seen (part_made put_value lists) (optional_made lists) (part_into (value_into limit) lists ts) (expr_at limit 0 ts) _ _ (part_seen put_value (value_into limit) (expr_at limit 0) (value_seen limit) lists ts) (λ e. refl))

put_by : (place : ℕ) (port : Option ℕ) (v : Option Expr) (lists : Lists) → with_connection (record { place = place; port = port; value = (put_optional v lists).0 }) (put_optional v lists).1 ≡ put_connection_by place port v lists
put_by place port None lists = refl
put_by place port (Some e) lists = refl

-- a connection of these symbols, or before them where it has none
abbrev put_at : List Symbol → Connection → Lists → Lists
put_at ts (Ordered value) lists = put_connection_by (first_place ts) None value lists
put_at ts (Named period port opening value closing) lists =
    put_connection_by (first_place (value_text value (symbol_at (symbol.Punctuator punctuator.RightParenthesis) closing ∷ []))) (Some port) value lists

module _ (limit : ℕ) where
  ordered_seen : (lists : Lists) (ts : List Symbol) → ordered_into limit lists ts ≡ seen (kept (put_at ts) lists) (ordered_at limit ts)
  unfolding ordered_into ordered_at
  ordered_seen lists ts =
      bind_seen (optional_made lists) (kept (put_at ts) lists) (optional_into limit lists ts) (value_at limit ts) _ _ (optional_seen limit lists ts)
      (λ v. ap (λ (l : Lists). (let r : Result Kept Stop = Ok (l, v.1) in r)) (put_by (first_place ts) None v.0 lists))

  named_seen : (lists : Lists) (ts : List Symbol) → named_into limit lists ts ≡ seen (kept (put_at ts) lists) (named_at limit ts)
  unfolding named_into named_at
  named_seen lists ts =
      let all = kept (put_at ts) lists in
      bind_seen left all (following (symbol.Punctuator punctuator.Period) ts) (terminal (symbol.Punctuator punctuator.Period) ts) _ _ (after_seen (symbol.Punctuator punctuator.Period) ts)
      (λ d. bind_seen (λ (n : ℕ × List Symbol). n) all (terminal symbol.Name d.1) (terminal symbol.Name d.1) _ _ (all_seen (terminal symbol.Name d.1))
      (λ p. bind_seen left all (following (symbol.Punctuator punctuator.LeftParenthesis) p.1) (terminal (symbol.Punctuator punctuator.LeftParenthesis) p.1) _ _ (after_seen (symbol.Punctuator punctuator.LeftParenthesis) p.1)
      (λ o. bind_known (IsRead value_text (λ (v : Option Expr). IfSome v IsExpr) value_height limit o.1) (optional_made lists) all (optional_into limit lists o.1) (value_at limit o.1) _ _ (value_takes limit o.1) (optional_seen limit lists o.1)
      (λ v t. bind_known (IsTerminal (symbol.Punctuator punctuator.RightParenthesis) v.1) left all (following (symbol.Punctuator punctuator.RightParenthesis) v.1) (terminal (symbol.Punctuator punctuator.RightParenthesis) v.1) _ _ (terminal_takes (symbol.Punctuator punctuator.RightParenthesis) v.1) (after_seen (symbol.Punctuator punctuator.RightParenthesis) v.1)
      (λ z e. ap (λ (l : Lists). (let r : Result Kept Stop = Ok (l, z.1) in r))
      (put_by (first_place o.1) (Some p.0) v.0 lists
      ∙ ap (λ (place : ℕ). put_connection_by place (Some p.0) v.0 lists) (ap first_place (t.text ∙ ap (value_text v.0) e) ∙ value_first v.0 (symbol_at (symbol.Punctuator punctuator.RightParenthesis) z.0) z.1)))))))

  connection_seen : (named : Bool) (lists : Lists) (ts : List Symbol) → connection_into limit named lists ts ≡ seen (kept (put_at ts) lists) (connection_at limit named ts)
  unfolding connection_into connection_at
  connection_seen true lists ts = named_seen lists ts
  connection_seen false lists ts = ordered_seen lists ts

  -- further connections, before these symbols
  abbrev put_rest : List Symbol → List (Further Connection) → Lists → Lists
  put_rest rest [] lists = lists
  put_rest rest (f ∷ fs) lists = put_rest rest fs (put_at (connection_text f.part (further_text connection_text fs rest)) f.part lists)

  abbrev rest_kept : Lists → List (Further Connection) × List Symbol → Kept
  rest_kept lists l = (put_rest l.1 l.0 lists, l.1)

  further_seen : (named : Bool) (m : ℕ) (lists : Lists) (ts : List Symbol) → further_into (connection_into limit named) m lists ts ≡ seen (rest_kept lists) (further_at (connection_at limit named) m ts)
  unfolding further_into further_at
  further_seen named zero lists ts = refl
  further_seen named (suc m) lists ts =
      if_seen (rest_kept lists) (is_next (symbol.Punctuator punctuator.Comma) ts) _ _ _ _
      (bind_seen left (rest_kept lists) (following (symbol.Punctuator punctuator.Comma) ts) (terminal (symbol.Punctuator punctuator.Comma) ts) _ _ (after_seen (symbol.Punctuator punctuator.Comma) ts)
      (λ c. bind_known (IsRead connection_text (IsAlike named) connection_height limit c.1) (kept (put_at c.1) lists) (rest_kept lists) (connection_into limit named lists c.1) (connection_at limit named c.1) _ _ (connection_takes limit named c.1) (connection_seen named lists c.1)
      (λ p t.
      further_seen named m (put_at c.1 p.0 lists) p.1
      ∙ seen_known (IsRead (further_text connection_text) (AreFurther (IsAlike named)) (further_height connection_height) limit p.1) (rest_kept (put_at c.1 p.0 lists)) (λ (l : List (Further Connection) × List Symbol). (let x : List (Further Connection) × List Symbol = (record { comma = c.0; part = p.0 } ∷ l.0, l.1) in x)) (rest_kept lists) (further_at (connection_at limit named) m p.1)
      (further_takes connection_text (IsAlike named) connection_height limit (connection_at limit named) (connection_takes limit named) m p.1)
      (λ l u. ap (λ (r : List Symbol). (let k : Kept = (put_rest l.1 l.0 (put_at r p.0 lists), l.1) in k)) (t.text ∙ ap (connection_text p.0) u.text)))))
      refl

  -- connections, before these symbols
  abbrev put_spelled : List Symbol → Connections → Lists → Lists
  put_spelled rest Unconnected lists = lists
  put_spelled rest (Connected c fs) lists = put_rest rest fs (put_at (connection_text c (further_text connection_text fs rest)) c lists)

  abbrev spelled_kept : Lists → Connections × List Symbol → Kept
  spelled_kept lists x = (put_spelled x.1 x.0 lists, x.1)

  connected_seen : (named : Bool) (lists : Lists) (ts : List Symbol) → connected_into limit named lists ts ≡ seen (spelled_kept lists) (connected_at limit named ts)
  unfolding connected_into connected_at
  connected_seen named lists ts =
      bind_known (IsRead connection_text (IsAlike named) connection_height limit ts) (kept (put_at ts) lists) (spelled_kept lists) (connection_into limit named lists ts) (connection_at limit named ts) _ _ (connection_takes limit named ts) (connection_seen named lists ts)
      (λ c t.
      further_seen named (length c.1) (put_at ts c.0 lists) c.1
      ∙ seen_known (IsRead (further_text connection_text) (AreFurther (IsAlike named)) (further_height connection_height) limit c.1) (rest_kept (put_at ts c.0 lists)) (λ (l : List (Further Connection) × List Symbol). (let x : Connections × List Symbol = (Connected c.0 l.0, l.1) in x)) (spelled_kept lists) (further_at (connection_at limit named) (length c.1) c.1)
      (further_takes connection_text (IsAlike named) connection_height limit (connection_at limit named) (connection_takes limit named) (length c.1) c.1)
      (λ l u. ap (λ (r : List Symbol). (let k : Kept = (put_rest l.1 l.0 (put_at r c.0 lists), l.1) in k)) (t.text ∙ ap (connection_text c.0) u.text)))

  connections_seen : (lists : Lists) (ts : List Symbol) → connections_into limit lists ts ≡ seen (spelled_kept lists) (connections_at limit ts)
  unfolding connections_into connections_at
  connections_seen lists ts =
      if_seen (spelled_kept lists) (is_next (symbol.Punctuator punctuator.RightParenthesis) ts) _ _ _ _
      refl
      (connected_seen (is_next (symbol.Punctuator punctuator.Period) ts) lists ts)

put_before : (c : Connection) (s : Symbol) (rest : List Symbol) (lists : Lists) → put_at (connection_text c (s ∷ rest)) c lists ≡ put_connection s c lists
put_before (Ordered value) s rest lists = ap (λ (place : ℕ). put_connection_by place None value lists) (value_first value s rest)
put_before (Named period port opening value closing) s rest lists = refl

module _ (limit closing : ℕ) (rest : List Symbol) where
  -- the symbols from a parenthesis on
  abbrev closed : List Symbol
  closed = symbol_at (symbol.Punctuator punctuator.RightParenthesis) closing ∷ rest

  put_connected_is : (c : Connection) (fs : List (Further Connection)) (lists : Lists) → put_rest limit closed fs (put_at (connection_text c (further_text connection_text fs closed)) c lists) ≡ put_connected closing c fs lists
  put_connected_is c [] lists = put_before c (symbol_at (symbol.Punctuator punctuator.RightParenthesis) closing) rest lists
  put_connected_is c (f ∷ fs) lists =
      put_connected_is f.part fs (put_at (connection_text c (further_text connection_text (f ∷ fs) closed)) c lists)
      ∙ ap (put_connected closing f.part fs) (put_before c (comma_at f.comma) (connection_text f.part (further_text connection_text fs closed)) lists)

  put_spelled_is : (cs : Connections) (lists : Lists) → put_spelled limit closed cs lists ≡ put_connections closing cs lists
  put_spelled_is Unconnected lists = refl
  put_spelled_is (Connected c fs) lists = put_connected_is c fs lists

-- ---- declarators

-- a declaration as the code has it
abbrev declaration_shown : Declaration → declaration.Declaration
declaration_shown (Nets place range) = declaration_of.Nets (option_map put_declared range)
declaration_shown (Regs place range) = declaration_of.Regs (option_map put_declared range)
declaration_shown (LocalParameters place) = declaration_of.LocalParameters
declaration_shown (Assignments place) = declaration_of.Assignments
declaration_shown (Instances definition) = declaration_of.Instances definition

bind_assoc : {A B C : Type 0} (r : Result A Stop) (f : A → Result B Stop) (g : B → Result C Stop) → ((r >>= f) >>= g) ≡ (r >>= λ x. f x >>= g)
bind_assoc (Ok x) f g = refl
bind_assoc (Err s) f g = refl

sized_seen : Places put_value sized_into literal_at
sized_seen lists ts =
    viewed (made_expr lists.expressions) (λ (e : Placed). (let x : MadePart = (e.0, record lists { expressions = e.2 }, e.3) in x)) (literal_into lists.expressions ts) (literal_at ts) (literal_seen lists.expressions ts)

-- a value, and what is made of it
assigned_seen : (d : Declaration) (name : ℕ) (f : ℕ → Lists → Lists) (placer : Placer) (reader : Reader Expr) → Places put_value placer reader
    → ((equals : ℕ) (e : Expr) (lists : Lists) → f (put_value e lists.parts).0 (record lists { parts = (put_value e lists.parts).1 }) ≡ put_declarator d (Valued name equals e) lists)
    → (lists : Lists) (ts : List Symbol) → (valued_into placer lists ts >>= λ v. Ok (f v.0 v.1, v.2)) ≡ seen (kept (put_declarator d) lists) (valued_at reader name ts)
unfolding valued_into valued_at
assigned_seen d name f placer reader places same lists ts =
    let all = kept (put_declarator d) lists in
    bind_assoc (following (symbol.Punctuator punctuator.Equals) ts) (λ rest. part_into placer lists rest) (λ v. Ok (f v.0 v.1, v.2))
    ∙ bind_seen left all (following (symbol.Punctuator punctuator.Equals) ts) (terminal (symbol.Punctuator punctuator.Equals) ts) _ _ (after_seen (symbol.Punctuator punctuator.Equals) ts)
    (λ q. bind_seen (part_made put_value lists) all (part_into placer lists q.1) (reader q.1) _ _ (part_seen put_value placer reader places lists q.1)
    (λ v. ap (λ (l : Lists). (let r : Result Kept Stop = Ok (l, v.1) in r)) (same q.0 v.0 lists)))

module _ (limit : ℕ) where
  net_seen : (place : ℕ) (range : Option Range) (name : ℕ) (lists : Lists) (ts : List Symbol) → net_into limit (option_map put_declared range) name lists ts ≡ seen (kept (put_declarator (Nets place range)) lists) (net_at limit name ts)
  unfolding net_into net_at
  net_seen place range name lists ts =
      if_seen (kept (put_declarator (Nets place range)) lists) (is_next (symbol.Punctuator punctuator.Equals) ts) _ _ _ _
      (assigned_seen (Nets place range) name (λ v l. with_item (item_of.Assignment name v) (with_item (item_of.Net name (option_map put_declared range)) l)) (value_into limit) (expr_at limit 0) (value_seen limit) (λ q e l. refl) lists ts)
      refl

  instance_seen : (definition name : ℕ) (lists : Lists) (ts : List Symbol) → instance_into limit definition name lists ts ≡ seen (kept (put_declarator (Instances definition)) lists) (instance_at limit name ts)
  unfolding instance_into instance_at
  instance_seen definition name lists ts =
      let right_kind = symbol.Punctuator punctuator.RightParenthesis in
      let all = kept (put_declarator (Instances definition)) lists in
      bind_seen left all (following (symbol.Punctuator punctuator.LeftParenthesis) ts) (terminal (symbol.Punctuator punctuator.LeftParenthesis) ts) _ _ (after_seen (symbol.Punctuator punctuator.LeftParenthesis) ts)
      (λ o. bind_seen (spelled_kept limit lists) all (connections_into limit lists o.1) (connections_at limit o.1) _ _ (connections_seen limit lists o.1)
      (λ c. bind_known (IsTerminal right_kind c.1) left all (following right_kind c.1) (terminal right_kind c.1) _ _ (terminal_takes right_kind c.1) (after_seen right_kind c.1)
      (λ z e. ap (λ (l : Lists). (let r : Result Kept Stop = Ok (with_item (item_of.Instance name definition (length lists.connections) (length l.connections)) l, z.1) in r))
      (ap (λ (r : List Symbol). put_spelled limit r c.0 lists) e ∙ put_spelled_is limit z.0 z.1 c.0 lists))))

  declarator_by_seen : (d : Declaration) (name : ℕ) → Keeps (put_declarator d) (declarator_by_into limit (declaration_shown d) name) (declarator_by limit d name)
  unfolding declarator_by_into declarator_by
  declarator_by_seen (Nets place range) name lists ts = net_seen place range name lists ts
  declarator_by_seen (Regs place range) name lists ts = refl
  declarator_by_seen (LocalParameters place) name lists ts = assigned_seen (LocalParameters place) name (λ v l. with_item (item_of.LocalParameter name v) l) sized_into literal_at sized_seen (λ q e l. refl) lists ts
  declarator_by_seen (Assignments place) name lists ts = assigned_seen (Assignments place) name (λ v l. with_item (item_of.Assignment name v) l) (value_into limit) (expr_at limit 0) (value_seen limit) (λ q e l. refl) lists ts
  declarator_by_seen (Instances definition) name lists ts = instance_seen definition name lists ts

  declarator_seen : (d : Declaration) → Keeps (put_declarator d) (declarator_into limit (declaration_shown d)) (declarator_at limit d)
  unfolding declarator_into declarator_at
  declarator_seen d lists ts =
      bind_seen (λ (n : ℕ × List Symbol). n) (kept (put_declarator d) lists) (terminal symbol.Name ts) (terminal symbol.Name ts) _ _ (all_seen (terminal symbol.Name ts))
      (λ n. declarator_by_seen d n.0 lists n.1)

  declarators_further : (d : Declaration) (m : ℕ) → Keeps (put_further d) (further_into (declarator_into limit (declaration_shown d)) m) (further_at (declarator_at limit d) m)
  unfolding further_into further_at
  declarators_further d zero lists ts = refl
  declarators_further d (suc m) lists ts =
      if_seen (kept (put_further d) lists) (is_next (symbol.Punctuator punctuator.Comma) ts) _ _ _ _
      (bind_seen left (kept (put_further d) lists) (following (symbol.Punctuator punctuator.Comma) ts) (terminal (symbol.Punctuator punctuator.Comma) ts) _ _ (after_seen (symbol.Punctuator punctuator.Comma) ts)
      (λ c. bind_seen (kept (put_declarator d) lists) (kept (put_further d) lists) (declarator_into limit (declaration_shown d) lists c.1) (declarator_at limit d c.1) _ _ (declarator_seen d lists c.1)
      (λ p.
      declarators_further d m (put_declarator d p.0 lists) p.1
      ∙ last_seen (λ (l : List (Further Declarator) × List Symbol). (let x : List (Further Declarator) × List Symbol = (record { comma = c.0; part = p.0 } ∷ l.0, l.1) in x)) (kept (put_further d) lists) (further_at (declarator_at limit d) m p.1))))
      refl

  declarators_seen : (d : Declaration) → Keeps put_item (declarators_into limit (declaration_shown d)) (declarators_at limit d)
  unfolding declarators_into declarators_at
  declarators_seen d lists ts =
      bind_seen (kept (put_declarator d) lists) (kept put_item lists) (declarator_into limit (declaration_shown d) lists ts) (declarator_at limit d ts) _ _ (declarator_seen d lists ts)
      (λ f. bind_seen (kept (put_further d) (put_declarator d f.0 lists)) (kept put_item lists) (further_into (declarator_into limit (declaration_shown d)) (length f.1) (put_declarator d f.0 lists) f.1) (further_at (declarator_at limit d) (length f.1) f.1) _ _ (declarators_further d (length f.1) (put_declarator d f.0 lists) f.1)
      (λ l. bind_seen left (kept put_item lists) (following (symbol.Punctuator punctuator.Semicolon) l.1) (terminal (symbol.Punctuator punctuator.Semicolon) l.1) _ _ (after_seen (symbol.Punctuator punctuator.Semicolon) l.1)
      (λ s. refl)))

  -- ---- items

  ranged_seen : (d : Option Range → Declaration) (shown : Option DeclaredRange → declaration.Declaration) → ((r : Option Range) → declaration_shown (d r) ≡ shown (option_map put_declared r))
      → (lists : Lists) (ts : List Symbol) → (width_into ts >>= λ r. declarators_into limit (shown r.0) lists r.1) ≡ seen (kept put_item lists) (ranged_at limit d ts)
  unfolding ranged_at
  ranged_seen d shown same lists ts =
      bind_seen ranged (kept put_item lists) (width_into ts) (width_at ts) _ _ (width_seen ts)
      (λ w. ap (λ (x : declaration.Declaration). declarators_into limit x lists w.1) (sym (same w.0)) ∙ declarators_seen (d w.0) lists w.1)

  module _ (placer : Placer) (reader : Reader Stmt) (places : Places put_stmt placer reader) where
    procedure_seen : (spelled : Stmt → Item) (shown : ℕ → item.Item) → ((body : Stmt) (lists : Lists) → put_procedure shown body lists ≡ put_item (spelled body) lists) → Keeps put_item (procedure_into placer shown) (procedure_at reader spelled)
    unfolding procedure_into procedure_at
    procedure_seen spelled shown same lists ts =
        bind_seen (part_made put_stmt lists) (kept put_item lists) (part_into placer lists ts) (reader ts) _ _ (part_seen put_stmt placer reader places lists ts)
        (λ b. ap (λ (l : Lists). (let r : Result Kept Stop = Ok (l, b.1) in r)) (same b.0 lists))

    item_by_seen : (kind : SymbolKind) (place : ℕ) → Keeps put_item (item_by_into limit placer kind place) (item_by limit reader kind place)
    unfolding item_by_into item_by
    item_by_seen (symbol.Keyword keyword.Wire) place lists ts = ranged_seen (Nets place) (λ r. declaration_of.Nets r) (λ r. refl) lists ts
    item_by_seen (symbol.Keyword keyword.Reg) place lists ts = ranged_seen (Regs place) (λ r. declaration_of.Regs r) (λ r. refl) lists ts
    item_by_seen (symbol.Keyword keyword.Localparam) place lists ts = declarators_seen (LocalParameters place) lists ts
    item_by_seen (symbol.Keyword keyword.Assign) place lists ts = declarators_seen (Assignments place) lists ts
    item_by_seen symbol.Name place lists ts = declarators_seen (Instances place) lists ts
    item_by_seen (symbol.Keyword keyword.Initial) place lists ts = procedure_seen (Initial place) (item_of.Initial place) (λ b l. refl) lists ts
    item_by_seen (symbol.Keyword keyword.Always) place lists ts = procedure_seen (Always place) (item_of.Always place) (λ b l. refl) lists ts
    item_by_seen _ place lists ts = refl

    item_seen : Keeps put_item (item_into limit placer) (item_at limit reader)
    unfolding item_into item_at
    item_seen lists [] = refl
    item_seen lists (s ∷ ts) = item_by_seen s.kind s.place lists ts

    items_seen : (m : ℕ) → Keeps put_items (items_into limit placer m) (items_at limit reader m)
    unfolding items_into items_at
    items_seen zero lists ts = if_seen (kept put_items lists) (is_next (symbol.Keyword keyword.Endmodule) ts) _ _ _ _ refl refl
    items_seen (suc m) lists ts =
        if_seen (kept put_items lists) (is_next (symbol.Keyword keyword.Endmodule) ts) _ _ _ _
        refl
        (bind_seen (kept put_item lists) (kept put_items lists) (item_into limit placer lists ts) (item_at limit reader ts) _ _ (item_seen lists ts)
        (λ i.
        items_seen m (put_item i.0 lists) i.1
        ∙ last_seen (λ (l : List Item × List Symbol). (let p : List Item × List Symbol = (i.0 ∷ l.0, l.1) in p)) (kept put_items lists) (items_at limit reader m i.1)))

-- ---- ports

-- what is left after the keyword `wire`, if it is next
abbrev unwired : Option ℕ × List Symbol → List Symbol
unwired w = w.1

wire_seen : (ts : List Symbol) → wire_into ts ≡ seen unwired (wire_at ts)
unfolding wire_into wire_at
wire_seen ts =
    if_seen unwired (is_next (symbol.Keyword keyword.Wire) ts) _ _ _ _
    (after_seen (symbol.Keyword keyword.Wire) ts ∙ last_seen (λ (w : ℕ × List Symbol). (let x : Option ℕ × List Symbol = (Some w.0, w.1) in x)) unwired (terminal (symbol.Keyword keyword.Wire) ts))
    refl

-- a direction as the lists have it, and what is left
abbrev directed : Direction × List Symbol → direction.Direction × List Symbol
directed d = (put_direction d.0, d.1)

output_seen : (place : ℕ) (ts : List Symbol) → output_into ts ≡ seen directed (output_at place ts)
unfolding output_into output_at
output_seen place ts =
    if_seen directed (is_next (symbol.Keyword keyword.Reg) ts) _ _ _ _
    (bind_seen left directed (following (symbol.Keyword keyword.Reg) ts) (terminal (symbol.Keyword keyword.Reg) ts) _ _ (after_seen (symbol.Keyword keyword.Reg) ts) (λ r. refl))
    (bind_seen unwired directed (wire_into ts) (wire_at ts) _ _ (wire_seen ts) (λ w. refl))

direction_by_seen : (kind : SymbolKind) (place : ℕ) (ts : List Symbol) → direction_by_into kind ts ≡ seen directed (direction_by kind place ts)
unfolding direction_by_into direction_by
direction_by_seen (symbol.Keyword keyword.Input) place ts = bind_seen unwired directed (wire_into ts) (wire_at ts) _ _ (wire_seen ts) (λ w. refl)
direction_by_seen (symbol.Keyword keyword.Output) place ts = output_seen place ts
direction_by_seen _ place ts = refl

direction_seen : (ts : List Symbol) → direction_into ts ≡ seen directed (direction_at ts)
unfolding direction_into direction_at
direction_seen [] = refl
direction_seen (s ∷ ts) = direction_by_seen s.kind s.place ts

-- the direction and range of a port, which stands after one of these, the lists with it, and what is left
abbrev port_made : PortType → Lists → Port × List Symbol → Made PortType
port_made before lists p = (port_type before p.0, put_port (port_type before p.0) (port_name p.0) lists, p.1)

-- a port of a type, after that type
abbrev step_of : Lists → PortType × List Symbol → Result (Made PortType) Stop
step_of lists t = port_into t.0 lists t.1 >>= λ p. Ok (t.0, p.0, p.1)

-- a port's type and then the port, at once
bind_step : {A : Type 0} (r : Result (PortType × List Symbol) Stop) (lists : Lists) (f : PortType → Kept → Result A Stop) → ((r >>= step_of lists) >>= λ (x : Made PortType). f x.0 (x.1, x.2)) ≡ (r >>= λ t. port_into t.0 lists t.1 >>= λ p. f t.0 p)
bind_step (Ok t) lists f = bind_assoc (port_into t.0 lists t.1) (λ (p : Kept). (let r : Result (Made PortType) Stop = Ok (t.0, p.0, p.1) in r)) (λ (x : Made PortType). f x.0 (x.1, x.2))
bind_step (Err s) lists f = refl

-- a port with a direction, of its type and its name
abbrev typed_into : Lists → List Symbol → Result (Made PortType) Stop
typed_into lists ts = port_type_into ts >>= λ t. port_into t.0 lists t.1 >>= λ p. Ok (t.0, p.0, p.1)

declared_seen : (before : PortType) (lists : Lists) (ts : List Symbol) → typed_into lists ts ≡ seen (port_made before lists) (declared_at ts)
unfolding port_type_into port_into declared_at
declared_seen before lists ts =
    let all = port_made before lists in
    bind_assoc (direction_into ts) (λ d. width_into d.1 >>= λ w. Ok (record { direction = d.0; range = w.0 }, w.1)) (λ t. port_into t.0 lists t.1 >>= λ p. Ok (t.0, p.0, p.1))
    ∙ bind_seen directed all (direction_into ts) (direction_at ts) _ _ (direction_seen ts)
    (λ d.
    bind_assoc (width_into d.1) (λ w. Ok (record { direction = put_direction d.0; range = w.0 }, w.1)) (λ t. port_into t.0 lists t.1 >>= λ p. Ok (t.0, p.0, p.1))
    ∙ bind_seen ranged all (width_into d.1) (width_at d.1) _ _ (width_seen d.1)
    (λ w.
    bind_assoc (terminal symbol.Name w.1) (λ n. Ok (put_port (record { direction = put_direction d.0; range = option_map put_declared w.0 }) n.0 lists, n.1)) (λ p. Ok (record { direction = put_direction d.0; range = option_map put_declared w.0 }, p.0, p.1))
    ∙ bind_seen (λ (n : ℕ × List Symbol). n) all (terminal symbol.Name w.1) (terminal symbol.Name w.1) _ _ (all_seen (terminal symbol.Name w.1)) (λ n. refl)))

-- a port after another, of its type and its name
abbrev next_into : PortType → Lists → List Symbol → Result (Made PortType) Stop
next_into before lists ts = next_type_into before ts >>= λ t. port_into t.0 lists t.1 >>= λ p. Ok (t.0, p.0, p.1)

next_seen : (before : PortType) (lists : Lists) (ts : List Symbol) → next_into before lists ts ≡ seen (port_made before lists) (port_at ts)
unfolding next_type_into port_at port_into
next_seen before lists ts = next_by (is_next symbol.Name ts) where
  next_by : (b : Bool) → (cond b (Ok (before, ts)) (port_type_into ts) >>= λ t. port_into t.0 lists t.1 >>= λ p. Ok (t.0, p.0, p.1)) ≡ seen (port_made before lists) (cond b (terminal symbol.Name ts >>= λ n. Ok (Bare n.0, n.1)) (declared_at ts))
  next_by true =
      bind_assoc (terminal symbol.Name ts) (λ n. Ok (put_port before n.0 lists, n.1)) (λ p. Ok (before, p.0, p.1))
      ∙ bind_seen (λ (n : ℕ × List Symbol). n) (port_made before lists) (terminal symbol.Name ts) (terminal symbol.Name ts) _ _ (all_seen (terminal symbol.Name ts)) (λ n. refl)
  next_by false = declared_seen before lists ts

ports_further : (m : ℕ) (before : PortType) → Keeps (put_ports before) (ports_into before m) (further_at port_at m)
unfolding ports_into further_at
ports_further zero before lists ts = refl
ports_further (suc m) before lists ts =
    let all = kept (put_ports before) lists in
    if_seen all (is_next (symbol.Punctuator punctuator.Comma) ts) _ _ _ _
    (bind_seen left all (following (symbol.Punctuator punctuator.Comma) ts) (terminal (symbol.Punctuator punctuator.Comma) ts) _ _ (after_seen (symbol.Punctuator punctuator.Comma) ts)
    (λ c.
    sym (bind_step (next_type_into before c.1) lists (λ t p. ports_into t m p.0 p.1))
    ∙ bind_seen (port_made before lists) all (next_into before lists c.1) (port_at c.1) _ _ (next_seen before lists c.1)
    (λ p.
    ports_further m (port_type before p.0) (put_port (port_type before p.0) (port_name p.0) lists) p.1
    ∙ last_seen (λ (l : List (Further Port) × List Symbol). (let x : List (Further Port) × List Symbol = (record { comma = c.0; part = p.0 } ∷ l.0, l.1) in x)) all (further_at port_at m p.1))))
    refl

-- the ports of a module, if there are any
abbrev put_listed : Option PortList → Lists → Lists
put_listed None lists = lists
put_listed (Some ports) lists =
    let type = port_type scalar_input ports.first in put_ports type ports.further (put_port type (port_name ports.first) lists)

listed_seen : Keeps put_listed listed_into listed_at
unfolding listed_into listed_at ports_at
listed_seen lists ts =
    let all = kept put_listed lists in
    if_seen all (is_next (symbol.Punctuator punctuator.RightParenthesis) ts) _ _ _ _
    refl
    (sym (bind_step (port_type_into ts) lists (λ t p. ports_into t (length p.1) p.0 p.1))
    ∙ bind_seen (port_made scalar_input lists) all (typed_into lists ts) (declared_at ts) _ _ (declared_seen scalar_input lists ts)
    (λ f.
    ports_further (length f.1) (port_type scalar_input f.0) (put_port (port_type scalar_input f.0) (port_name f.0) lists) f.1
    ∙ last_seen (λ (l : List (Further Port) × List Symbol). (let x : Option PortList × List Symbol = (Some (record { first = f.0; further = l.0 }), l.1) in x)) all (further_at port_at (length f.1) f.1)))

put_header_is : (opening : ℕ) (ports : Option PortList) (closing : ℕ) (lists : Lists) → put_listed ports lists ≡ put_header (Ports opening ports closing) lists
put_header_is opening None closing lists = refl
put_header_is opening (Some ports) closing lists = refl

header_seen : Keeps put_header header_into header_at
unfolding header_into header_at parentheses_into parentheses_at
header_seen lists ts =
    let all = kept put_header lists in
    if_seen all (is_next (symbol.Punctuator punctuator.LeftParenthesis) ts) _ _ _ _
    (bind_seen left all (following (symbol.Punctuator punctuator.LeftParenthesis) ts) (terminal (symbol.Punctuator punctuator.LeftParenthesis) ts) _ _ (after_seen (symbol.Punctuator punctuator.LeftParenthesis) ts)
    (λ o. bind_seen (kept put_listed lists) all (listed_into lists o.1) (listed_at o.1) _ _ (listed_seen lists o.1)
    (λ p. bind_seen left all (following (symbol.Punctuator punctuator.RightParenthesis) p.1) (terminal (symbol.Punctuator punctuator.RightParenthesis) p.1) _ _ (after_seen (symbol.Punctuator punctuator.RightParenthesis) p.1)
    (λ z. ap (λ (l : Lists). (let r : Result Kept Stop = Ok (l, z.1) in r)) (put_header_is o.0 p.0 z.0 lists)))))
    refl

-- ---- modules

-- a module, the lists with its parts, and what is left
abbrev module_made : Lists → Module × List Symbol → Made module_of.Module
module_made lists m = ((put_module m.0 lists).0, (put_module m.0 lists).1, m.1)

module_seen : (limit : ℕ) (lists : Lists) (ts : List Symbol) → module_into limit lists ts ≡ seen (module_made lists) (module_at limit ts)
unfolding module_into module_at
module_seen limit lists ts =
    let all = module_made lists in
    bind_seen left all (following (symbol.Keyword keyword.Module) ts) (terminal (symbol.Keyword keyword.Module) ts) _ _ (after_seen (symbol.Keyword keyword.Module) ts)
    (λ k. bind_seen (λ (n : ℕ × List Symbol). n) all (terminal symbol.Name k.1) (terminal symbol.Name k.1) _ _ (all_seen (terminal symbol.Name k.1))
    (λ n. bind_seen (kept put_header lists) all (header_into lists n.1) (header_at n.1) _ _ (header_seen lists n.1)
    (λ h. bind_seen left all (following (symbol.Punctuator punctuator.Semicolon) h.1) (terminal (symbol.Punctuator punctuator.Semicolon) h.1) _ _ (after_seen (symbol.Punctuator punctuator.Semicolon) h.1)
    (λ s. bind_seen (kept put_items (put_header h.0 lists)) all (items_into limit (stmt_into limit limit) (length s.1) (put_header h.0 lists) s.1) (items_at limit (stmt_at limit limit) (length s.1) s.1) _ _ (items_seen limit (stmt_into limit limit) (stmt_at limit limit) (stmt_seen limit limit) (length s.1) (put_header h.0 lists) s.1)
    (λ l. bind_seen left all (following (symbol.Keyword keyword.Endmodule) l.1) (terminal (symbol.Keyword keyword.Endmodule) l.1) _ _ (after_seen (symbol.Keyword keyword.Endmodule) l.1)
    (λ z. refl))))))

-- modules after these, and the lists with their parts
abbrev modules_made : List module_of.Module → Lists → Derivation → List module_of.Module × Lists
modules_made modules lists d = (modules ++ (put_modules d lists).0, (put_modules d lists).1)

modules_more : (modules : List module_of.Module) (x : Module) (lists : Lists) (r : Result Derivation Stop) → seen (modules_made (modules ++ (put_module x lists).0 ∷ []) (put_module x lists).1) r ≡ seen (modules_made modules lists) (r >>= λ l. Ok (x ∷ l))
modules_more modules x lists (Ok l) = ap (λ (ms : List module_of.Module). (let r : Result (List module_of.Module × Lists) Stop = Ok (ms, (put_modules l (put_module x lists).1).1) in r)) (append_snoc modules (put_module x lists).0 (put_modules l (put_module x lists).1).0)
modules_more modules x lists (Err s) = refl

modules_seen : (limit m : ℕ) (modules : List module_of.Module) (lists : Lists) (ts : List Symbol) → modules_into limit m modules lists ts ≡ seen (modules_made modules lists) (modules_at limit m ts)
unfolding modules_into modules_at
modules_seen limit zero modules lists ts =
    if_seen (modules_made modules lists) (length ts == 0) _ _ _ _ (ap (λ (l : List module_of.Module). (let r : Result (List module_of.Module × Lists) Stop = Ok (l, lists) in r)) (sym (append-nil modules))) refl
modules_seen limit (suc m) modules lists ts =
    if_seen (modules_made modules lists) (length ts == 0) _ _ _ _
    (ap (λ (l : List module_of.Module). (let r : Result (List module_of.Module × Lists) Stop = Ok (l, lists) in r)) (sym (append-nil modules)))
    (bind_seen (module_made lists) (modules_made modules lists) (module_into limit lists ts) (module_at limit ts) _ _ (module_seen limit lists ts)
    (λ x.
    modules_seen limit m (modules ++ (put_module x.0 lists).0 ∷ []) (put_module x.0 lists).1 x.1
    ∙ modules_more modules x.0 lists (modules_at limit m x.1)))

-- reading all symbols into no lists gives what their derivation puts there
pub source_seen : (limit : ℕ) (ts : List Symbol) → modules_into limit (length ts) [] no_parts ts ≡ seen put_source (source_at limit ts)
unfolding source_at
source_seen limit ts = modules_seen limit (length ts) [] no_parts ts
