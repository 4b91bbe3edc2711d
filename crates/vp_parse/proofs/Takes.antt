-- What is read is spelled so, is well formed, and nests at most so deep.
use Rattle.std.proofs.Common.{◌≡◌, ℕ, zero, suc, ◌≤◌, ◌<◌, List, [], ◌∷◌, length, eqb, Bool, true, false, Option, Some, None, Result, Ok, Err, refl, sym, ap, subst, ◌∙◌, arith}
use Rattle.std.specs.Prelude.{IfSome, ◌||◌}
use Rattle.std.proofs.lemmas.Bool.{eqb-true}
use Rattle.std.proofs.lemmas.List.{nil_from_length}
use Rattle.vp_lex.specs.declared.keyword.Keyword.TheVariants as keyword
use Rattle.vp_lex.specs.declared.token.Punctuator.TheVariants as punctuator
use Rattle.vp_source.specs.declared.symbol.Symbol.{Symbol}
use Rattle.vp_source.specs.declared.symbol.SymbolKind.{SymbolKind}
use Rattle.vp_source.specs.declared.symbol.SymbolKind.TheVariants as symbol
use Rattle.vp_source.specs.Kinds.{symbol_at}
use Rattle.vp_source.specs.ExprGrammar.{Expr, Range, expr_text, expr_depth, is_sized, IsExpr, IsRange}
use Rattle.vp_parse_expr.specs.Stopping.{Stop, Reader, is_next, terminal}
use Rattle.vp_parse_expr.specs.Reading.{expr_at, range_at, literal_at}
use Rattle.vp_parse_expr.specs.laws.Takes.{Holds, Holds-bind, Holds-if, IsTerminal, terminal_takes, before, IsWholeTaken, whole_takes, IsRangeTaken, range_takes, IsLiteralTaken, literal_takes}
use Rattle.vp_source.specs.StmtGrammar.{Stmt}
use Rattle.vp_parse_stmt.specs.Reading.{stmt_at}
use Rattle.vp_parse_stmt.specs.laws.Takes.{IsTaken, SoundStmt, stmt_takes}
use Rattle.vp_source.specs.Grammar.{Further, further_text, AreFurther, further_height, width_text, value_text, value_height, Connection, Ordered, Connections, Connected, connection_text, connections_text, is_named, is_blank, IsConnection, IsAlike, AreConnections, connection_height, connections_height, Declaration, Nets, Regs, LocalParameters, Assignments, Instances, Declarator, Valued, declaration_text, declarator_text, IsDeclaration, IsDeclarator, declarator_height, Item, Initial, Always, item_text, items_text, IsItem, AreItems, item_depth, items_depth, item_height, items_height, Direction, Port, PortList, Header, wire_text, direction_text, port_text, ports_text, header_text, is_declared, IsPort, ArePorts, IsHeader, Module, module_text, IsModule, Derivation, Derives}
use Rattle.vp_parse.specs.Reading.{further_at, width_at, is_end, value_at, ordered_at, named_at, connection_at, connected_at, connections_at, valued_at, net_at, instance_at, declarator_by, declarator_at, declarators_at, ranged_at, procedure_at, item_by, item_at, items_at, wire_at, output_at, direction_by, direction_at, declared_at, port_at, ports_at, listed_at, parentheses_at, header_at, module_at, modules_at, source_at}

-- ---- tools

-- what is read is spelled by these symbols, is well formed, and nests at most so deep
pub record IsRead {X : Type 0} (spells : X → List Symbol → List Symbol) (P : X → Type 0) (nests : X → ℕ) (limit : ℕ) (ts : List Symbol) (x : X × List Symbol) : Type 0 where
  pub text : ts ≡ spells x.0 x.1
  pub is : P x.0
  pub fits : nests x.0 ≤ limit

-- a reader reads so
abbrev pub Reads : {X : Type 0} → (X → List Symbol → List Symbol) → (X → Type 0) → (X → ℕ) → ℕ → Reader X → Type 0
Reads text P height limit read = (ts : List Symbol) → Holds (IsRead text P height limit ts) (read ts)

-- nothing nests
abbrev flat : {X : Type 0} → X → ℕ
flat x = 0

-- both hold of what is read
Holds-both : {A : Type 0} (P Q : A → Type 0) (r : Result A Stop) → Holds P r → Holds Q r → Holds (λ x. P x × Q x) r
Holds-both P Q (Ok x) h k = (h, k)
Holds-both P Q (Err s) h k = tt

-- what holds of what is read under a premise
Holds-later : {A B : Type 0} (P : A → Type 0) (r : Result A Stop) → (B → Holds P r) → Holds (λ x. B → P x) r
Holds-later P (Ok x) h = h
Holds-later P (Err s) h = tt

-- ---- lists with commas, ranges and values

abbrev comma_kind : SymbolKind
comma_kind = symbol.Punctuator punctuator.Comma

module _ {X : Type 0} (text : X → List Symbol → List Symbol) (P : X → Type 0) (height : X → ℕ) (limit : ℕ) (part : Reader X) (reads : Reads text P height limit part) where
  pub further_takes : (m : ℕ) → Reads (further_text text) (AreFurther P) (further_height height) limit (further_at part m)
  unfolding further_at
  further_takes zero ts = record { text = refl; is = tt; fits = omega arith }
  further_takes (suc m) ts =
      let all : List (Further X) × List Symbol → Type 0 = IsRead (further_text text) (AreFurther P) (further_height height) limit ts in
      Holds-if all (is_next comma_kind ts) _ _
      (λ on. Holds-bind (IsTerminal comma_kind ts) all (terminal comma_kind ts) _ (terminal_takes comma_kind ts)
      (λ c e. Holds-bind (IsRead text P height limit c.1) all (part c.1) _ (reads c.1)
      (λ p t. Holds-bind (IsRead (further_text text) (AreFurther P) (further_height height) limit p.1) all (further_at part m p.1) _ (further_takes m p.1)
      (λ l u. record {
        text = e ∙ ap (λ (r : List Symbol). symbol_at comma_kind c.0 ∷ r) (t.text ∙ ap (text p.0) u.text);
        is = (t.is, u.is);
        fits = omega (arith, t.fits, u.fits);
      }))))
      (λ off. record { text = refl; is = tt; fits = omega arith })

width_takes : Reads width_text (λ (w : Option Range). IfSome w IsRange) flat 0 width_at
unfolding width_at
width_takes ts =
    let all : Option Range × List Symbol → Type 0 = IsRead width_text (λ (w : Option Range). IfSome w IsRange) flat 0 ts in
    Holds-if all (is_next (symbol.Punctuator punctuator.LeftBracket) ts) _ _
    (λ on. Holds-bind (IsRangeTaken ts) all (range_at ts) _ (range_takes ts) (λ r t. record { text = t.0; is = t.1; fits = omega arith }))
    (λ off. record { text = refl; is = tt; fits = omega arith })

pub value_takes : (limit : ℕ) → Reads value_text (λ (v : Option Expr). IfSome v IsExpr) value_height limit (value_at limit)
unfolding value_at
value_takes limit ts =
    let all : Option Expr × List Symbol → Type 0 = IsRead value_text (λ (v : Option Expr). IfSome v IsExpr) value_height limit ts in
    Holds-if all (is_end ts) _ _
    (λ end. record { text = refl; is = tt; fits = omega arith })
    (λ on. Holds-bind (IsWholeTaken limit ts) all (expr_at limit 0 ts) _ (whole_takes limit ts) (λ v t. record { text = t.text; is = t.is; fits = t.fits }))

-- ---- connections

module _ (limit : ℕ) where
  ordered_takes : Reads connection_text (IsAlike false) connection_height limit (ordered_at limit)
  unfolding ordered_at
  ordered_takes ts =
      Holds-bind (IsRead value_text (λ (v : Option Expr). IfSome v IsExpr) value_height limit ts) (IsRead connection_text (IsAlike false) connection_height limit ts) (value_at limit ts) _ (value_takes limit ts)
      (λ v t. record { text = t.text; is = (t.is, refl); fits = t.fits })

  named_takes : Reads connection_text (IsAlike true) connection_height limit (named_at limit)
  unfolding named_at
  named_takes ts =
      let period_kind = symbol.Punctuator punctuator.Period in
      let left_kind = symbol.Punctuator punctuator.LeftParenthesis in
      let right_kind = symbol.Punctuator punctuator.RightParenthesis in
      let all : Connection × List Symbol → Type 0 = IsRead connection_text (IsAlike true) connection_height limit ts in
      Holds-bind (IsTerminal period_kind ts) all (terminal period_kind ts) _ (terminal_takes period_kind ts)
      (λ d a. Holds-bind (IsTerminal symbol.Name d.1) all (terminal symbol.Name d.1) _ (terminal_takes symbol.Name d.1)
      (λ p b. Holds-bind (IsTerminal left_kind p.1) all (terminal left_kind p.1) _ (terminal_takes left_kind p.1)
      (λ o c. Holds-bind (IsRead value_text (λ (v : Option Expr). IfSome v IsExpr) value_height limit o.1) all (value_at limit o.1) _ (value_takes limit o.1)
      (λ v t. Holds-bind (IsTerminal right_kind v.1) all (terminal right_kind v.1) _ (terminal_takes right_kind v.1)
      (λ z e. record {
        text = a ∙ ap (λ (r : List Symbol). symbol_at period_kind d.0 ∷ r) (b ∙ ap (λ (r : List Symbol). symbol_at symbol.Name p.0 ∷ r) (c ∙ ap (λ (r : List Symbol). symbol_at left_kind o.0 ∷ r) (t.text ∙ ap (value_text v.0) e)));
        is = (t.is, refl);
        fits = t.fits;
      })))))

  pub connection_takes : (named : Bool) → Reads connection_text (IsAlike named) connection_height limit (connection_at limit named)
  unfolding connection_at
  connection_takes true ts = named_takes ts
  connection_takes false ts = ordered_takes ts

  value_ends : (ts : List Symbol) → Holds (λ (v : Option Expr × List Symbol). v.0 ≡ None → (v.1 ≡ ts) × (is_end ts ≡ true)) (value_at limit ts)
  unfolding value_at
  value_ends ts =
      let all : Option Expr × List Symbol → Type 0 = λ v. v.0 ≡ None → (v.1 ≡ ts) × (is_end ts ≡ true) in
      Holds-if all (is_end ts) _ _
      (λ end f. (refl, end))
      (λ on. Holds-bind (IsWholeTaken limit ts) all (expr_at limit 0 ts) _ (whole_takes limit ts) (λ v t f. absurd cc))

  blank_none : (v : Option Expr) → is_blank (Ordered v) ≡ true → v ≡ None
  blank_none None f = refl
  blank_none (Some e) f = absurd cc

  -- a connection without symbols leaves all of them, and ends where it begins
  blank_ends : (named : Bool) (ts : List Symbol) → Holds (λ (x : Connection × List Symbol). is_blank x.0 ≡ true → (x.1 ≡ ts) × (is_end ts ≡ true)) (connection_at limit named ts)
  unfolding connection_at named_at ordered_at
  blank_ends true ts =
      let period_kind = symbol.Punctuator punctuator.Period in
      let left_kind = symbol.Punctuator punctuator.LeftParenthesis in
      let right_kind = symbol.Punctuator punctuator.RightParenthesis in
      let all : Connection × List Symbol → Type 0 = λ x. is_blank x.0 ≡ true → (x.1 ≡ ts) × (is_end ts ≡ true) in
      Holds-bind (IsTerminal period_kind ts) all (terminal period_kind ts) _ (terminal_takes period_kind ts)
      (λ d a. Holds-bind (IsTerminal symbol.Name d.1) all (terminal symbol.Name d.1) _ (terminal_takes symbol.Name d.1)
      (λ p b. Holds-bind (IsTerminal left_kind p.1) all (terminal left_kind p.1) _ (terminal_takes left_kind p.1)
      (λ o c. Holds-bind (IsRead value_text (λ (v : Option Expr). IfSome v IsExpr) value_height limit o.1) all (value_at limit o.1) _ (value_takes limit o.1)
      (λ v t. Holds-bind (IsTerminal right_kind v.1) all (terminal right_kind v.1) _ (terminal_takes right_kind v.1)
      (λ z e f. absurd cc)))))
  blank_ends false ts =
      let all : Connection × List Symbol → Type 0 = λ x. is_blank x.0 ≡ true → (x.1 ≡ ts) × (is_end ts ≡ true) in
      Holds-bind (λ (v : Option Expr × List Symbol). v.0 ≡ None → (v.1 ≡ ts) × (is_end ts ≡ true)) all (value_at limit ts) _ (value_ends ts)
      (λ v h f. h (blank_none v.0 f))

  -- after a comma there is a further part
  further_some : (named : Bool) (m : ℕ) (ts : List Symbol) → is_next comma_kind ts ≡ true → 0 < m → Holds (λ (l : List (Further Connection) × List Symbol). l.0 ≡ [] → ⊥) (further_at (connection_at limit named) m ts)
  unfolding further_at
  further_some named zero ts h lt = absurd (omega arith)
  further_some named (suc m) ts h lt =
      let none : List (Further Connection) × List Symbol → Type 0 = λ l. l.0 ≡ [] → ⊥ in
      Holds-if none (is_next comma_kind ts) _ _
      (λ on. Holds-bind (IsTerminal comma_kind ts) none (terminal comma_kind ts) _ (terminal_takes comma_kind ts)
      (λ c e. Holds-bind (IsRead connection_text (IsAlike named) connection_height limit c.1) none (connection_at limit named c.1) _ (connection_takes named c.1)
      (λ p t. Holds-bind (IsRead (further_text connection_text) (AreFurther (IsAlike named)) (further_height connection_height) limit p.1) none (further_at (connection_at limit named) m p.1) _ (further_takes connection_text (IsAlike named) connection_height limit (connection_at limit named) (connection_takes named) m p.1)
      (λ l u f. absurd cc))))
      (λ off. absurd cc)

  -- a comma, where a connection ends that is not the last
  comma_next : (ts : List Symbol) → is_next (symbol.Punctuator punctuator.RightParenthesis) ts ≡ false → is_end ts ≡ true → is_next comma_kind ts ≡ true
  comma_next ts unclosed end = comma_by (is_next comma_kind ts) (is_next (symbol.Punctuator punctuator.RightParenthesis) ts) unclosed end where
    comma_by : (a b : Bool) → b ≡ false → (a || b) ≡ true → a ≡ true
    comma_by true b e f = refl
    comma_by false b e f = absurd cc

  connections_of : (first : Connection) (further : List (Further Connection)) → IsConnection first → AreFurther (IsAlike (is_named first)) further → (further ≡ [] → is_blank first ≡ true → ⊥) → AreConnections (Connected first further)
  connections_of first [] is are some = (is, not_true (is_blank first) (some refl)) where
    not_true : (b : Bool) → (b ≡ true → ⊥) → b ≡ false
    not_true true h = absurd (h refl)
    not_true false h = refl
  connections_of first (f ∷ fs) is are some = (is, are)

  longer_on : (rest : List Symbol) → is_next comma_kind rest ≡ true → 0 < length rest
  longer_on [] e = absurd cc
  longer_on (s ∷ rest) e = omega arith

  -- after a connection without symbols there is a further one
  after_blank : (named : Bool) (c : Connection) (rest ts : List Symbol) → is_next (symbol.Punctuator punctuator.RightParenthesis) ts ≡ false → (is_blank c ≡ true → (rest ≡ ts) × (is_end ts ≡ true))
      → Holds (λ (l : List (Further Connection) × List Symbol). is_blank c ≡ true → l.0 ≡ [] → ⊥) (further_at (connection_at limit named) (length rest) rest)
  after_blank named c rest ts unclosed ends =
      Holds-later (λ (l : List (Further Connection) × List Symbol). l.0 ≡ [] → ⊥) (further_at (connection_at limit named) (length rest) rest)
      (λ b.
      let h = ends b in
      let on : is_next comma_kind rest ≡ true = ap (is_next comma_kind) h.0 ∙ comma_next ts unclosed h.1 in
      further_some named (length rest) rest on (longer_on rest on))

  connected_takes : (named : Bool) (ts : List Symbol) → is_next (symbol.Punctuator punctuator.RightParenthesis) ts ≡ false → Holds (IsRead connections_text AreConnections connections_height limit ts) (connected_at limit named ts)
  unfolding connected_at
  connected_takes named ts unclosed =
      let all : Connections × List Symbol → Type 0 = IsRead connections_text AreConnections connections_height limit ts in
      let blank : Connection × List Symbol → Type 0 = λ x. is_blank x.0 ≡ true → (x.1 ≡ ts) × (is_end ts ≡ true) in
      Holds-bind (λ x. IsRead connection_text (IsAlike named) connection_height limit ts x × blank x) all (connection_at limit named ts) _
      (Holds-both (IsRead connection_text (IsAlike named) connection_height limit ts) blank (connection_at limit named ts) (connection_takes named ts) (blank_ends named ts))
      (λ c t. Holds-bind (λ l. IsRead (further_text connection_text) (AreFurther (IsAlike named)) (further_height connection_height) limit c.1 l × (is_blank c.0 ≡ true → l.0 ≡ [] → ⊥)) all (further_at (connection_at limit named) (length c.1) c.1) _
      (Holds-both (IsRead (further_text connection_text) (AreFurther (IsAlike named)) (further_height connection_height) limit c.1) (λ l. is_blank c.0 ≡ true → l.0 ≡ [] → ⊥) (further_at (connection_at limit named) (length c.1) c.1)
      (further_takes connection_text (IsAlike named) connection_height limit (connection_at limit named) (connection_takes named) (length c.1) c.1)
      (after_blank named c.0 c.1 ts unclosed t.1))
      (λ l u. record {
        text = t.0.text ∙ ap (connection_text c.0) u.0.text;
        is = connections_of c.0 l.0 t.0.is.0 (subst (λ (n : Bool). AreFurther (IsAlike n) l.0) (sym t.0.is.1) u.0.is) (λ none b. u.1 b none);
        fits = omega (arith, t.0.fits, u.0.fits);
      }))

  connections_takes : Reads connections_text AreConnections connections_height limit (connections_at limit)
  unfolding connections_at
  connections_takes ts =
      Holds-if (IsRead connections_text AreConnections connections_height limit ts) (is_next (symbol.Punctuator punctuator.RightParenthesis) ts) _ _
      (λ end. record { text = refl; is = tt; fits = omega arith })
      (λ unclosed. connected_takes (is_next (symbol.Punctuator punctuator.Period) ts) ts unclosed)

-- ---- declarators

-- what is read of a declarator is one of its declaration, after these symbols
abbrev DeclaratorReads : ℕ → Declaration → Reader Declarator → Type 0
DeclaratorReads limit d read = Reads declarator_text (IsDeclarator d) declarator_height limit read

module _ (limit : ℕ) where
  valued_takes : (d : Declaration) (value : Reader Expr) (P : Expr → Type 0) → Reads expr_text P expr_depth limit value → ((name equals : ℕ) (e : Expr) → P e → IsDeclarator d (Valued name equals e)) → (name : ℕ) (ts : List Symbol)
      → Holds (IsRead declarator_text (IsDeclarator d) declarator_height limit (symbol_at symbol.Name name ∷ ts)) (valued_at value name ts)
  unfolding valued_at
  valued_takes d value P reads is name ts =
      let equals_kind = symbol.Punctuator punctuator.Equals in
      let all : Declarator × List Symbol → Type 0 = IsRead declarator_text (IsDeclarator d) declarator_height limit (symbol_at symbol.Name name ∷ ts) in
      Holds-bind (IsTerminal equals_kind ts) all (terminal equals_kind ts) _ (terminal_takes equals_kind ts)
      (λ q a. Holds-bind (IsRead expr_text P expr_depth limit q.1) all (value q.1) _ (reads q.1)
      (λ v t. record {
        text = ap (λ (r : List Symbol). symbol_at symbol.Name name ∷ r) (a ∙ ap (λ (r : List Symbol). symbol_at equals_kind q.0 ∷ r) t.text);
        is = is name q.0 v.0 t.is;
        fits = t.fits;
      }))

  expression_reads : Reads expr_text IsExpr expr_depth limit (expr_at limit 0)
  expression_reads ts = same (expr_at limit 0 ts) (whole_takes limit ts) where
    same : (r : Result (Expr × List Symbol) Stop) → Holds (IsWholeTaken limit ts) r → Holds (IsRead expr_text IsExpr expr_depth limit ts) r
    same (Ok x) t = record { text = t.text; is = t.is; fits = t.fits }
    same (Err s) t = tt

  literal_reads : 0 < limit → Reads expr_text (λ e. IsExpr e × (is_sized e ≡ true)) expr_depth limit literal_at
  literal_reads lt ts = same (literal_at ts) (literal_takes ts) where
    same : (r : Result (Expr × List Symbol) Stop) → Holds (IsLiteralTaken ts) r → Holds (IsRead expr_text (λ e. IsExpr e × (is_sized e ≡ true)) expr_depth limit ts) r
    same (Ok x) t = record { text = t.text; is = (t.is, t.sized); fits = omega (arith, t.fits) }
    same (Err s) t = tt

  net_takes : (place : ℕ) (range : Option Range) (name : ℕ) (ts : List Symbol) → Holds (IsRead declarator_text (IsDeclarator (Nets place range)) declarator_height limit (symbol_at symbol.Name name ∷ ts)) (net_at limit name ts)
  unfolding net_at
  net_takes place range name ts =
      Holds-if (IsRead declarator_text (IsDeclarator (Nets place range)) declarator_height limit (symbol_at symbol.Name name ∷ ts)) (is_next (symbol.Punctuator punctuator.Equals) ts) _ _
      (λ on. valued_takes (Nets place range) (expr_at limit 0) IsExpr expression_reads (λ n q e is. is) name ts)
      (λ off. record { text = refl; is = tt; fits = omega arith })

  instance_takes : (definition name : ℕ) (ts : List Symbol) → Holds (IsRead declarator_text (IsDeclarator (Instances definition)) declarator_height limit (symbol_at symbol.Name name ∷ ts)) (instance_at limit name ts)
  unfolding instance_at
  instance_takes definition name ts =
      let left_kind = symbol.Punctuator punctuator.LeftParenthesis in
      let right_kind = symbol.Punctuator punctuator.RightParenthesis in
      let all : Declarator × List Symbol → Type 0 = IsRead declarator_text (IsDeclarator (Instances definition)) declarator_height limit (symbol_at symbol.Name name ∷ ts) in
      Holds-bind (IsTerminal left_kind ts) all (terminal left_kind ts) _ (terminal_takes left_kind ts)
      (λ o a. Holds-bind (IsRead connections_text AreConnections connections_height limit o.1) all (connections_at limit o.1) _ (connections_takes limit o.1)
      (λ c t. Holds-bind (IsTerminal right_kind c.1) all (terminal right_kind c.1) _ (terminal_takes right_kind c.1)
      (λ z b. record {
        text = ap (λ (r : List Symbol). symbol_at symbol.Name name ∷ r) (a ∙ ap (λ (r : List Symbol). symbol_at left_kind o.0 ∷ r) (t.text ∙ ap (connections_text c.0) b));
        is = t.is;
        fits = t.fits;
      })))

  declarator_by_takes : 0 < limit → (d : Declaration) (name : ℕ) (ts : List Symbol) → Holds (IsRead declarator_text (IsDeclarator d) declarator_height limit (symbol_at symbol.Name name ∷ ts)) (declarator_by limit d name ts)
  unfolding declarator_by
  declarator_by_takes lt (Nets place range) name ts = net_takes place range name ts
  declarator_by_takes lt (Regs place range) name ts = record { text = refl; is = tt; fits = omega arith }
  declarator_by_takes lt (LocalParameters place) name ts = valued_takes (LocalParameters place) literal_at (λ e. IsExpr e × (is_sized e ≡ true)) (literal_reads lt) (λ n q e is. is) name ts
  declarator_by_takes lt (Assignments place) name ts = valued_takes (Assignments place) (expr_at limit 0) IsExpr expression_reads (λ n q e is. is) name ts
  declarator_by_takes lt (Instances definition) name ts = instance_takes definition name ts

  declarator_takes : 0 < limit → (d : Declaration) → DeclaratorReads limit d (declarator_at limit d)
  unfolding declarator_at
  declarator_takes lt d ts =
      Holds-bind (IsTerminal symbol.Name ts) (IsRead declarator_text (IsDeclarator d) declarator_height limit ts) (terminal symbol.Name ts) _ (terminal_takes symbol.Name ts)
      (λ n e. subst (λ (r : List Symbol). Holds (IsRead declarator_text (IsDeclarator d) declarator_height limit r) (declarator_by limit d n.0 n.1)) (sym e) (declarator_by_takes lt d n.0 n.1))

-- ---- items

-- what is read of an item is one, of these symbols, and its statements and expressions nest at most so deep
pub record IsItemTaken (limit : ℕ) (ts : List Symbol) (x : Item × List Symbol) : Type 0 where
  pub text : ts ≡ item_text x.0 x.1
  pub is : IsItem x.0
  pub shallow : item_height x.0 ≤ limit
  pub fits : item_depth x.0 ≤ limit

pub record AreItemsTaken (limit : ℕ) (ts : List Symbol) (x : List Item × List Symbol) : Type 0 where
  pub text : ts ≡ items_text x.0 x.1
  pub is : AreItems x.0
  pub shallow : items_height x.0 ≤ limit
  pub fits : items_depth x.0 ≤ limit

module _ (limit : ℕ) (lt : 0 < limit) where
  declarators_takes : (d : Declaration) (ts : List Symbol) → IsDeclaration d → Holds (IsItemTaken limit (declaration_text d ts)) (declarators_at limit d ts)
  unfolding declarators_at
  declarators_takes d ts is =
      let semicolon_kind = symbol.Punctuator punctuator.Semicolon in
      let all : Item × List Symbol → Type 0 = IsItemTaken limit (declaration_text d ts) in
      Holds-bind (IsRead declarator_text (IsDeclarator d) declarator_height limit ts) all (declarator_at limit d ts) _ (declarator_takes limit lt d ts)
      (λ f t. Holds-bind (IsRead (further_text declarator_text) (AreFurther (IsDeclarator d)) (further_height declarator_height) limit f.1) all (further_at (declarator_at limit d) (length f.1) f.1) _
      (further_takes declarator_text (IsDeclarator d) declarator_height limit (declarator_at limit d) (declarator_takes limit lt d) (length f.1) f.1)
      (λ l u. Holds-bind (IsTerminal semicolon_kind l.1) all (terminal semicolon_kind l.1) _ (terminal_takes semicolon_kind l.1)
      (λ s e. record {
        text = ap (declaration_text d) (t.text ∙ ap (declarator_text f.0) (u.text ∙ ap (further_text declarator_text l.0) e));
        is = (is, t.is, u.is);
        shallow = omega (arith, t.fits, u.fits);
        fits = omega arith;
      })))

  ranged_takes : (d : Option Range → Declaration) (kind : SymbolKind) (place : ℕ) (ts : List Symbol) → ((r : Option Range) (rest : List Symbol) → declaration_text (d r) rest ≡ symbol_at kind place ∷ width_text r rest) → ((r : Option Range) → IfSome r IsRange → IsDeclaration (d r))
      → Holds (IsItemTaken limit (symbol_at kind place ∷ ts)) (ranged_at limit d ts)
  unfolding ranged_at
  ranged_takes d kind place ts spells is =
      let all : Item × List Symbol → Type 0 = IsItemTaken limit (symbol_at kind place ∷ ts) in
      Holds-bind (IsRead width_text (λ (w : Option Range). IfSome w IsRange) flat 0 ts) all (width_at ts) _ (width_takes ts)
      (λ w t. subst (λ (r : List Symbol). Holds (IsItemTaken limit r) (declarators_at limit (d w.0) w.1)) (spells w.0 w.1 ∙ ap (λ (r : List Symbol). symbol_at kind place ∷ r) (sym t.text)) (declarators_takes (d w.0) w.1 (is w.0 t.is)))

  module _ (statement : Reader Stmt) (sound : SoundStmt limit limit statement) where
    procedure_takes : (construct : Stmt → Item) (ts whole : List Symbol) → ((b : Stmt × List Symbol) → IsTaken limit limit ts b → IsItemTaken limit whole (construct b.0, b.1)) → Holds (IsItemTaken limit whole) (procedure_at statement construct ts)
    unfolding procedure_at
    procedure_takes construct ts whole is = Holds-bind (IsTaken limit limit ts) (IsItemTaken limit whole) (statement ts) _ (sound ts) is

    item_by_takes : (kind : SymbolKind) (place : ℕ) (ts : List Symbol) → Holds (IsItemTaken limit (symbol_at kind place ∷ ts)) (item_by limit statement kind place ts)
    unfolding item_by
    item_by_takes (symbol.Keyword keyword.Wire) place ts = ranged_takes (Nets place) (symbol.Keyword keyword.Wire) place ts (λ r rest. refl) (λ r is. is)
    item_by_takes (symbol.Keyword keyword.Reg) place ts = ranged_takes (Regs place) (symbol.Keyword keyword.Reg) place ts (λ r rest. refl) (λ r is. is)
    item_by_takes (symbol.Keyword keyword.Localparam) place ts = declarators_takes (LocalParameters place) ts tt
    item_by_takes (symbol.Keyword keyword.Assign) place ts = declarators_takes (Assignments place) ts tt
    item_by_takes symbol.Name place ts = declarators_takes (Instances place) ts tt
    item_by_takes (symbol.Keyword keyword.Initial) place ts =
        procedure_takes (Initial place) ts _ (λ b t. record { text = ap (before (symbol.Keyword keyword.Initial) place) t.0; is = t.1; shallow = t.2; fits = t.3 })
    item_by_takes (symbol.Keyword keyword.Always) place ts =
        procedure_takes (Always place) ts _ (λ b t. record { text = ap (before (symbol.Keyword keyword.Always) place) t.0; is = t.1; shallow = t.2; fits = t.3 })
    item_by_takes _ place ts = tt

    item_takes : (ts : List Symbol) → Holds (IsItemTaken limit ts) (item_at limit statement ts)
    unfolding item_at
    item_takes [] = tt
    item_takes (s ∷ ts) = item_by_takes s.kind s.place ts

    items_takes : (m : ℕ) (ts : List Symbol) → Holds (AreItemsTaken limit ts) (items_at limit statement m ts)
    unfolding items_at
    items_takes zero ts = Holds-if (AreItemsTaken limit ts) (is_next (symbol.Keyword keyword.Endmodule) ts) _ _ (λ end. record { text = refl; is = tt; shallow = omega arith; fits = omega arith }) (λ on. tt)
    items_takes (suc m) ts =
        Holds-if (AreItemsTaken limit ts) (is_next (symbol.Keyword keyword.Endmodule) ts) _ _
        (λ end. record { text = refl; is = tt; shallow = omega arith; fits = omega arith })
        (λ on. Holds-bind (IsItemTaken limit ts) (AreItemsTaken limit ts) (item_at limit statement ts) _ (item_takes ts)
        (λ i t. Holds-bind (AreItemsTaken limit i.1) (AreItemsTaken limit ts) (items_at limit statement m i.1) _ (items_takes m i.1)
        (λ l u. record { text = t.text ∙ ap (item_text i.0) u.text; is = (t.is, u.is); shallow = omega (arith, t.shallow, u.shallow); fits = omega (arith, t.fits, u.fits) })))

-- ---- ports

wire_takes : (ts : List Symbol) → Holds (λ (w : Option ℕ × List Symbol). ts ≡ wire_text w.0 w.1) (wire_at ts)
unfolding wire_at
wire_takes ts =
    let wire_kind = symbol.Keyword keyword.Wire in
    let all : Option ℕ × List Symbol → Type 0 = λ w. ts ≡ wire_text w.0 w.1 in
    Holds-if all (is_next wire_kind ts) _ _
    (λ on. Holds-bind (IsTerminal wire_kind ts) all (terminal wire_kind ts) _ (terminal_takes wire_kind ts) (λ w e. e))
    (λ off. refl)

-- what is read as a direction is spelled so
abbrev IsDirectionTaken : List Symbol → Direction × List Symbol → Type 0
IsDirectionTaken ts d = ts ≡ direction_text d.0 d.1

output_takes : (place : ℕ) (ts : List Symbol) → Holds (IsDirectionTaken (symbol_at (symbol.Keyword keyword.Output) place ∷ ts)) (output_at place ts)
unfolding output_at
output_takes place ts =
    let reg_kind = symbol.Keyword keyword.Reg in
    let all : Direction × List Symbol → Type 0 = IsDirectionTaken (symbol_at (symbol.Keyword keyword.Output) place ∷ ts) in
    Holds-if all (is_next reg_kind ts) _ _
    (λ on. Holds-bind (IsTerminal reg_kind ts) all (terminal reg_kind ts) _ (terminal_takes reg_kind ts) (λ r e. ap (λ (r : List Symbol). symbol_at (symbol.Keyword keyword.Output) place ∷ r) e))
    (λ off. Holds-bind (λ (w : Option ℕ × List Symbol). ts ≡ wire_text w.0 w.1) all (wire_at ts) _ (wire_takes ts) (λ w e. ap (λ (r : List Symbol). symbol_at (symbol.Keyword keyword.Output) place ∷ r) e))

direction_by_takes : (kind : SymbolKind) (place : ℕ) (ts : List Symbol) → Holds (IsDirectionTaken (symbol_at kind place ∷ ts)) (direction_by kind place ts)
unfolding direction_by
direction_by_takes (symbol.Keyword keyword.Input) place ts =
    Holds-bind (λ (w : Option ℕ × List Symbol). ts ≡ wire_text w.0 w.1) (IsDirectionTaken (symbol_at (symbol.Keyword keyword.Input) place ∷ ts)) (wire_at ts) _ (wire_takes ts)
    (λ w e. ap (λ (r : List Symbol). symbol_at (symbol.Keyword keyword.Input) place ∷ r) e)
direction_by_takes (symbol.Keyword keyword.Output) place ts = output_takes place ts
direction_by_takes _ place ts = tt

direction_takes : (ts : List Symbol) → Holds (IsDirectionTaken ts) (direction_at ts)
unfolding direction_at
direction_takes [] = tt
direction_takes (s ∷ ts) = direction_by_takes s.kind s.place ts

-- what is read as a port is spelled so
abbrev IsPortTaken : List Symbol → Port × List Symbol → Type 0
IsPortTaken ts p = (ts ≡ port_text p.0 p.1) × IsPort p.0

declared_takes : (ts : List Symbol) → Holds (λ (p : Port × List Symbol). IsPortTaken ts p × (is_declared p.0 ≡ true)) (declared_at ts)
unfolding declared_at
declared_takes ts =
    let all : Port × List Symbol → Type 0 = λ p. IsPortTaken ts p × (is_declared p.0 ≡ true) in
    Holds-bind (IsDirectionTaken ts) all (direction_at ts) _ (direction_takes ts)
    (λ d a. Holds-bind (IsRead width_text (λ (w : Option Range). IfSome w IsRange) flat 0 d.1) all (width_at d.1) _ (width_takes d.1)
    (λ w t. Holds-bind (IsTerminal symbol.Name w.1) all (terminal symbol.Name w.1) _ (terminal_takes symbol.Name w.1)
    (λ n e. ((a ∙ ap (direction_text d.0) (t.text ∙ ap (width_text w.0) e), t.is), refl))))

port_takes : (ts : List Symbol) → Holds (IsRead port_text IsPort flat 0 ts) (port_at ts)
unfolding port_at
port_takes ts =
    let all : Port × List Symbol → Type 0 = IsRead port_text IsPort flat 0 ts in
    Holds-if all (is_next symbol.Name ts) _ _
    (λ on. Holds-bind (IsTerminal symbol.Name ts) all (terminal symbol.Name ts) _ (terminal_takes symbol.Name ts) (λ n e. record { text = e; is = tt; fits = omega arith }))
    (λ off. same (declared_at ts) (declared_takes ts)) where
      same : (r : Result (Port × List Symbol) Stop) → Holds (λ (p : Port × List Symbol). IsPortTaken ts p × (is_declared p.0 ≡ true)) r → Holds (IsRead port_text IsPort flat 0 ts) r
      same (Ok p) h = record { text = h.0.0; is = h.0.1; fits = omega arith }
      same (Err s) h = tt

-- what is read as the ports of a module is spelled so
abbrev ArePortsTaken : List Symbol → Option PortList × List Symbol → Type 0
ArePortsTaken ts p = (ts ≡ ports_text p.0 p.1) × ArePorts p.0

ports_takes : (ts : List Symbol) → Holds (ArePortsTaken ts) (ports_at ts)
unfolding ports_at
ports_takes ts =
    Holds-bind (λ (p : Port × List Symbol). IsPortTaken ts p × (is_declared p.0 ≡ true)) (ArePortsTaken ts) (declared_at ts) _ (declared_takes ts)
    (λ f t. Holds-bind (IsRead (further_text port_text) (AreFurther IsPort) (further_height flat) 0 f.1) (ArePortsTaken ts) (further_at port_at (length f.1) f.1) _
    (further_takes port_text IsPort flat 0 port_at port_takes (length f.1) f.1)
    (λ l u. (t.0.0 ∙ ap (port_text f.0) u.text, (t.1, t.0.1, u.is))))

listed_takes : (ts : List Symbol) → Holds (ArePortsTaken ts) (listed_at ts)
unfolding listed_at
listed_takes ts = Holds-if (ArePortsTaken ts) (is_next (symbol.Punctuator punctuator.RightParenthesis) ts) _ _ (λ end. (refl, tt)) (λ on. ports_takes ts)

-- what is read after a module's name is spelled so
abbrev IsHeaderTaken : List Symbol → Header × List Symbol → Type 0
IsHeaderTaken ts h = (ts ≡ header_text h.0 h.1) × IsHeader h.0

header_takes : (ts : List Symbol) → Holds (IsHeaderTaken ts) (header_at ts)
unfolding header_at parentheses_at
header_takes ts =
    let left_kind = symbol.Punctuator punctuator.LeftParenthesis in
    let right_kind = symbol.Punctuator punctuator.RightParenthesis in
    Holds-if (IsHeaderTaken ts) (is_next left_kind ts) _ _
    (λ on. Holds-bind (IsTerminal left_kind ts) (IsHeaderTaken ts) (terminal left_kind ts) _ (terminal_takes left_kind ts)
    (λ o a. Holds-bind (ArePortsTaken o.1) (IsHeaderTaken ts) (listed_at o.1) _ (listed_takes o.1)
    (λ p t. Holds-bind (IsTerminal right_kind p.1) (IsHeaderTaken ts) (terminal right_kind p.1) _ (terminal_takes right_kind p.1)
    (λ z b. (a ∙ ap (λ (r : List Symbol). symbol_at left_kind o.0 ∷ r) (t.0 ∙ ap (ports_text p.0) b), t.1)))))
    (λ off. (refl, tt))

-- ---- modules

pub record IsModuleTaken (limit : ℕ) (ts : List Symbol) (x : Module × List Symbol) : Type 0 where
  pub text : ts ≡ module_text x.0 x.1
  pub is : IsModule x.0
  pub shallow : items_height x.0.items ≤ limit
  pub fits : items_depth x.0.items ≤ limit

pub module_takes : (limit : ℕ) → 0 < limit → (ts : List Symbol) → Holds (IsModuleTaken limit ts) (module_at limit ts)
unfolding module_at
module_takes limit lt ts =
    let module_kind = symbol.Keyword keyword.Module in
    let semicolon_kind = symbol.Punctuator punctuator.Semicolon in
    let end_kind = symbol.Keyword keyword.Endmodule in
    let all : Module × List Symbol → Type 0 = IsModuleTaken limit ts in
    Holds-bind (IsTerminal module_kind ts) all (terminal module_kind ts) _ (terminal_takes module_kind ts)
    (λ k a. Holds-bind (IsTerminal symbol.Name k.1) all (terminal symbol.Name k.1) _ (terminal_takes symbol.Name k.1)
    (λ n b. Holds-bind (IsHeaderTaken n.1) all (header_at n.1) _ (header_takes n.1)
    (λ h t. Holds-bind (IsTerminal semicolon_kind h.1) all (terminal semicolon_kind h.1) _ (terminal_takes semicolon_kind h.1)
    (λ s c. Holds-bind (AreItemsTaken limit s.1) all (items_at limit (stmt_at limit limit) (length s.1) s.1) _ (items_takes limit lt (stmt_at limit limit) (stmt_takes limit limit) (length s.1) s.1)
    (λ l u. Holds-bind (IsTerminal end_kind l.1) all (terminal end_kind l.1) _ (terminal_takes end_kind l.1)
    (λ z f. record {
      text = a ∙ ap (λ (r : List Symbol). symbol_at module_kind k.0 ∷ r) (b ∙ ap (λ (r : List Symbol). symbol_at symbol.Name n.0 ∷ r) (t.0 ∙ ap (header_text h.0) (c ∙ ap (λ (r : List Symbol). symbol_at semicolon_kind s.0 ∷ r) (u.text ∙ ap (items_text l.0) f))));
      is = (t.1, u.is);
      shallow = u.shallow;
      fits = u.fits;
    }))))))

modules_takes : (limit : ℕ) → 0 < limit → (m : ℕ) (ts : List Symbol) → Holds (λ (d : Derivation). Derives limit d ts) (modules_at limit m ts)
unfolding modules_at
modules_takes limit lt zero ts =
    Holds-if (λ (d : Derivation). Derives limit d ts) (eqb (length ts) 0) _ _ (λ e. record { spelled = nil_from_length ts (eqb-true _ _ e); is = tt; fits = omega arith; shallow = omega arith }) (λ e. tt)
modules_takes limit lt (suc m) ts =
    let all : Derivation → Type 0 = λ d. Derives limit d ts in
    Holds-if all (eqb (length ts) 0) _ _
    (λ e. record { spelled = nil_from_length ts (eqb-true _ _ e); is = tt; fits = omega arith; shallow = omega arith })
    (λ e. Holds-bind (IsModuleTaken limit ts) all (module_at limit ts) _ (module_takes limit lt ts)
    (λ x t. Holds-bind (λ (d : Derivation). Derives limit d x.1) all (modules_at limit m x.1) _ (modules_takes limit lt m x.1)
    (λ l u. record { spelled = t.text ∙ ap (module_text x.0) u.spelled; is = (t.is, u.is); fits = omega (arith, t.fits, u.fits); shallow = omega (arith, t.shallow, u.shallow) })))

-- what is read as a source is spelled so, is well formed, and nests within the limit
pub source_takes : (limit : ℕ) → 0 < limit → (symbols : List Symbol) → Holds (λ (d : Derivation). Derives limit d symbols) (source_at limit symbols)
unfolding source_at
source_takes limit lt symbols = modules_takes limit lt (length symbols) symbols
