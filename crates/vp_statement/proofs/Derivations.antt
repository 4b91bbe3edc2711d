-- What runs at the place of a derivation that is laid out in a design is the derivation's.
use Rattle.std.proofs.Common.{◌≡◌, ◌∙◌, ℕ, ◌-◌, ◌≤◌, ◌<◌, List, [], ◌∷◌, ◌++◌, length, take, drop, slice_get, get_or, Some, None, refl, sym, subst, ap, append_assoc, arith}
use Rattle.std.proofs.lemmas.List.{get_or_append_left, get_or_push, length-append, length_push}
use Rattle.std.proofs.Math.Seq.{drop-append_seam, take-append_seam}
use Rattle.vp_text.specs.Lists.{range_of}
use Rattle.vp_source.specs.declared.expression.Selection as chosen
use Rattle.vp_source.specs.ExprGrammar as expression
use Rattle.vp_source.specs.declared.statement.Choice.{Choice}
use Rattle.vp_source.specs.declared.statement.EventTerm.{EventTerm}
use Rattle.vp_source.specs.declared.statement.Statement.{Statement}
use Rattle.vp_source.specs.declared.statement.Statement.TheVariants as statement
use Rattle.vp_source.specs.StmtGrammar.{Stmt, Assign, Block, Null, Nonblocking, Delayed, Awaited, Wait, When, Choose, While, Forever, For, Case, Finish, Stmts, Empty, Then, Items, Last, More, Item, Labels, Default, LabelList, Only, Also, Event, Any, AnyGrouped, Change, Terms, Level, delay_amount}
use Rattle.vp_source.specs.StmtLayout.{Lists, awaited, choices_of, is_wild, put_blocking, put_event, put_hold, put_item, put_items, put_labels, put_stmt, put_stmts, put_target, put_term, put_terms, put_value, with_choices, with_statement}
use Rattle.vp_source.specs.declared.source.Module.{Module}
use Rattle.vp_source.specs.Standing.{StatementStandsAt}
use Rattle.vp_source.specs.Whole.{AreWhole}
use Rattle.vp_elab.specs.Built.{Elaborated}
use Rattle.vp_expr.specs.Awaits.{awaited_by, choices_at, reads_of}
use Rattle.vp_expr.specs.Derived.{StandsAt}
use Rattle.vp_expr.specs.Tables.{action_of, tables_of}
use Rattle.vp_resolve.specs.Names.{scope_of}
use Rattle.vp_resolve.specs.Operands.{operands_of, sizes_of}
use Rattle.vp_expr.specs.declared.tables.Action.TheVariants.{Nothing}
use Rattle.vp_resolve.proofs.Gapless.{in_range}
use Rattle.vp_statement.specs.Derived.{AreItems, AreLabels, AreTerms, IsActionOf, IsAssignment, IsChain, IsItem, IsSelected, Runs}
use Rattle.vp_source.proofs.GrowingParts.{Extends, Grows, blocking_grows, choices_grow, event_grows, expr_last, items_grow, item_grows, labels_grow, longer, statement_grows, stmt_grows, stmts_grow, target_grows, terms_are, twice, value_grows}
use Rattle.vp_statement.proofs.Places.{made_at}

-- what stands at a place runs there
runs_there : (d : Elaborated) (m : Module) (number place : ℕ) → AreWhole d.source → slice_get d.source.modules number ≡ Some m → m.statements.first ≤ place → place < m.statements.end → Runs d m place (get_or d.source.statements place statement.Empty)
unfolding tables_of
runs_there d m number place whole one low high = record {
  action = made_at (λ (m : Module). m.statements) (λ m. action_of d (scope_of d m) (sizes_of d)) d.source.statements statement.Empty Nothing m d.source.modules number place whole.statements one low high;
  awaits = made_at (λ (m : Module). m.statements) (λ m. awaited_by d (scope_of d m) (operands_of d) (reads_of d.source (operands_of d))) d.source.statements statement.Empty [] m d.source.modules number place whole.statements one low high;
}

-- a part of a list that lies after others
pub cut_after : {X : Type 0} (first own following all : List X) → all ≡ (first ++ own) ++ following → range_of all (length first) (length (first ++ own)) ≡ own
cut_after first own following all h =
    let a = length first in
    let b = length (first ++ own) in
    let n = length-append first own in
    let k = length-append (first ++ own) following in
    ap (λ l. range_of l a b) h
    ∙ in_range ((first ++ own) ++ following) a b (omega arith) (omega arith)
    ∙ ap (λ l. take (b - a) (drop a l)) (append_assoc first own following)
    ∙ ap (take (b - a)) (drop-append_seam first (own ++ following))
    ∙ ap (λ i. take i (own ++ following)) (let same : b - a ≡ length own = omega arith in same)
    ∙ take-append_seam own following

module _ (d : Elaborated) (m : Module) (number : ℕ) (whole : AreWhole d.source) (one : slice_get d.source.modules number ≡ Some m) where
  -- lists lie after the first statement and expression of the module
  pub record After (lists : Lists) : Type 0 where
    pub statements : m.statements.first ≤ length lists.statements
    pub expressions : m.expressions.first ≤ length lists.expressions

  pub later : {a b : Lists} → Grows a b → After a → After b
  later h k = record {
    statements = (let l = longer h.statements in let s = k.statements in omega arith);
    expressions = (let l = longer h.expressions in let e = k.expressions in omega arith);
  }

  -- lists are the first parts of the design's, and end in the module
  pub record Within (lists : Lists) : Type 0 where
    pub statements : Extends lists.statements d.source.statements
    pub expressions : Extends lists.expressions d.source.expressions
    pub terms : Extends lists.terms d.source.terms
    pub choices : Extends lists.choices d.source.choices
    pub statements_to : length lists.statements ≤ m.statements.end
    pub expressions_to : length lists.expressions ≤ m.expressions.end

  pub earlier : {a b : Lists} → Grows a b → Within b → Within a
  earlier h k = record {
    statements = twice h.statements k.statements;
    expressions = twice h.expressions k.expressions;
    terms = twice h.terms k.terms;
    choices = twice h.choices k.choices;
    statements_to = (let l = longer h.statements in let s = k.statements_to in omega arith);
    expressions_to = (let l = longer h.expressions in let e = k.expressions_to in omega arith);
  }

  -- a statement that is laid out runs at its place
  pub runs : (n : Statement) (lists : Lists) → After lists → Within (with_statement n lists).1 → Runs d m (length lists.statements) n
  runs n lists b w =
      let low = b.statements in
      let high = w.statements_to in
      let long = length_push lists.statements n in
      let there : get_or d.source.statements (length lists.statements) statement.Empty ≡ n =
      ap (λ l. get_or l (length lists.statements) statement.Empty) w.statements.is
      ∙ get_or_append_left (lists.statements ++ n ∷ []) w.statements.more statement.Empty (length lists.statements) (omega arith)
      ∙ get_or_push lists.statements n statement.Empty (length lists.statements) refl in
      subst (λ (s : Statement). Runs d m (length lists.statements) s) there (runs_there d m number (length lists.statements) whole one low (omega arith))

  -- an expression that is laid out stands at its place
  pub value_stands : (e : expression.Expr) (lists : Lists) → After lists → Within (put_value e lists).1 → StandsAt d m (put_value e lists).0 e
  value_stands e lists b w = record {
    number = number;
    one = one;
    before = lists.expressions;
    following = w.expressions.more;
    laid = w.expressions.is;
    there = refl;
    from = b.expressions;
    to = (let last = expr_last e lists.expressions in let end = w.expressions_to in omega arith);
  }

  selected : (s : expression.Selection) (lists : Lists) → After lists → Within (put_target s lists).1 → IsSelected d m (put_target s lists).0 s
  selected expression.Whole lists b w = refl
  selected (expression.Bit opening e closing) lists b w = ((put_value e lists).0, refl, value_stands e lists b w)
  selected (expression.Part r) lists b w = refl

  -- an assignment that is laid out
  assignment : (made : chosen.Selection → ℕ → Statement) (s : expression.Selection) (e : expression.Expr) (lists : Lists) → After lists → (let x = put_target s lists in let v = put_value e x.1 in Within (with_statement (made x.0 v.0) v.1).1 → IsAssignment d m (length v.1.statements) made s e)
  assignment made s e lists b w =
      let x = put_target s lists in
      let v = put_value e x.1 in
      let n = made x.0 v.0 in
      let b1 = later (target_grows s lists) b in
      let b2 = later (value_grows e x.1) b1 in
      let w2 = earlier (statement_grows n v.1) w in
      let w1 = earlier (value_grows e x.1) w2 in
      (x.0, v.0, runs n v.1 b2 w, selected s lists b w1, value_stands e x.1 b1 w2)

  pub terms_stand : (e : Event) (lists : Lists) → Within (put_event e lists).1 → AreTerms d (put_event e lists).0 e
  terms_stand (Any star) lists w = refl
  terms_stand (AnyGrouped opening star closing) lists w = refl
  terms_stand (Change name) lists w = (_, refl, cut_after lists.terms (put_term (Level name) ∷ []) w.terms.more d.source.terms w.terms.is)
  terms_stand (Terms opening l closing) lists w =
      let own = put_terms l [] in
      let are = terms_are l lists.terms in
      (_, refl, ap (λ (t : List EventTerm). range_of d.source.terms (length lists.terms) (length t)) are ∙ cut_after lists.terms own w.terms.more d.source.terms (w.terms.is ∙ ap (λ (t : List EventTerm). t ++ w.terms.more) are))

  -- labels that are laid out after others
  pub record Labelled (l : LabelList) (labels : List ℕ) (lists : Lists) : Type 0 where
    pub own : List ℕ
    pub are : (put_labels l labels lists).0 ≡ labels ++ own
    pub stand : AreLabels d m own l

  pub labels_stand : (l : LabelList) (labels : List ℕ) (lists : Lists) → After lists → Within (put_labels l labels lists).1 → Labelled l labels lists
  labels_stand (Only e) labels lists b w =
      let v = put_value e lists in
      record { own = v.0 ∷ []; are = refl; stand = (v.0, refl, value_stands e lists b w) }
  labels_stand (Also e comma l) labels lists b w =
      let v = put_value e lists in
      let rest = labels_stand l (labels ++ v.0 ∷ []) v.1 (later (value_grows e lists) b) w in
      record {
        own = v.0 ∷ rest.own;
        are = rest.are ∙ append_assoc labels (v.0 ∷ []) rest.own;
        stand = (v.0, rest.own, refl, value_stands e lists b (earlier (labels_grow l (labels ++ v.0 ∷ []) v.1) w), rest.stand);
      }

  -- a statement after an expression, and one of both
  guarded : (made : ℕ → ℕ → Statement) (e : expression.Expr) (s : Stmt) (lists : Lists) → After lists → (let c = put_value e lists in let x = put_stmt s c.1 in Within (with_statement (made c.0 x.0) x.1).1 → (After c.1 → Within x.1 → IsActionOf d m x.0 s) → (c : ℕ) × (b : ℕ) × Runs d m (length x.1.statements) (made c b) × StandsAt d m c e × IsActionOf d m b s)
  guarded made e s lists b w body =
      let c = put_value e lists in
      let x = put_stmt s c.1 in
      let n = made c.0 x.0 in
      let b1 = later (value_grows e lists) b in
      let w2 = earlier (statement_grows n x.1) w in
      let w1 = earlier (stmt_grows s c.1) w2 in
      (c.0, x.0, runs n x.1 (later (stmt_grows s c.1) b1) w, value_stands e lists b w1, body b1 w2)

  mutual
    stmt_runs : (s : Stmt) (lists : Lists) → After lists → Within (put_stmt s lists).1 → IsActionOf d m (put_stmt s lists).0 s
    stmt_runs (Assign target s equals value semicolon) lists b w = assignment (statement.Assign target) s value lists b w
    stmt_runs (Block begin body end) lists b w =
        let x = with_statement statement.Empty lists in
        (x.0, runs statement.Empty lists b (earlier (stmts_grow body x.0 x.1) w), chain_runs body x.0 x.1 (later (statement_grows statement.Empty lists) b) w)
    stmt_runs (Null semicolon) lists b w = runs statement.Null lists b w
    stmt_runs (Nonblocking target s arrow hold value semicolon) lists b w =
        assignment (λ chosen v. statement.Nonblocking target chosen v (put_hold hold)) s value lists b w
    stmt_runs (Delayed hash delay body) lists b w =
        let x = put_stmt body lists in
        let n = statement.Delay (delay_amount delay) x.0 in
        (x.0, runs n x.1 (later (stmt_grows body lists) b) w, stmt_runs body lists b (earlier (statement_grows n x.1) w))
    stmt_runs (Awaited at_place event body) lists b w =
        let e = put_event event lists in
        let x = put_stmt body e.1 in
        let n = awaited e.0 x.0 in
        let b1 = later (event_grows event lists) b in
        let w2 = earlier (statement_grows n x.1) w in
        (e.0, x.0, runs n x.1 (later (stmt_grows body e.1) b1) w, terms_stand event lists (earlier (stmt_grows body e.1) w2), stmt_runs body e.1 b1 w2)
    stmt_runs (Wait wait opening value closing body) lists b w = guarded (λ c x. statement.Wait c x) value body lists b w (stmt_runs body (put_value value lists).1)
    stmt_runs (When if_place opening value closing first) lists b w = guarded (λ c x. statement.If c x None) value first lists b w (stmt_runs first (put_value value lists).1)
    stmt_runs (Choose if_place opening value closing first else_place second) lists b w =
        let c = put_value value lists in
        let x = put_stmt first c.1 in
        let y = put_stmt second x.1 in
        let n = statement.If c.0 x.0 (Some y.0) in
        let b1 = later (value_grows value lists) b in
        let b2 = later (stmt_grows first c.1) b1 in
        let w3 = earlier (statement_grows n y.1) w in
        let w2 = earlier (stmt_grows second x.1) w3 in
        let w1 = earlier (stmt_grows first c.1) w2 in
        (c.0, x.0, y.0, runs n y.1 (later (stmt_grows second x.1) b2) w, value_stands value lists b w1, stmt_runs first c.1 b1 w2, stmt_runs second x.1 b2 w3)
    stmt_runs (While while_place opening value closing body) lists b w = guarded (λ c x. statement.While c x None) value body lists b w (stmt_runs body (put_value value lists).1)
    stmt_runs (Forever forever body) lists b w =
        let x = put_stmt body lists in
        let n = statement.Forever x.0 in
        (x.0, runs n x.1 (later (stmt_grows body lists) b) w, stmt_runs body lists b (earlier (statement_grows n x.1) w))
    stmt_runs (For for_place opening target s equals value first_semicolon condition second_semicolon step_target step_s step_equals step closing body) lists b w =
        let x = put_blocking target s value lists in
        let c = put_value condition x.1 in
        let z = put_blocking step_target step_s step c.1 in
        let y = put_stmt body z.1 in
        let turns = statement.While c.0 y.0 (Some z.0) in
        let t = with_statement turns y.1 in
        let n = statement.For x.0 t.0 in
        let b1 = later (blocking_grows target s value lists) b in
        let b2 = later (value_grows condition x.1) b1 in
        let b3 = later (blocking_grows step_target step_s step c.1) b2 in
        let b4 = later (stmt_grows body z.1) b3 in
        let b5 = later (statement_grows turns y.1) b4 in
        let w5 = earlier (statement_grows n t.1) w in
        let w4 = earlier (statement_grows turns y.1) w5 in
        let w3 = earlier (stmt_grows body z.1) w4 in
        let w2 = earlier (blocking_grows step_target step_s step c.1) w3 in
        let w1 = earlier (value_grows condition x.1) w2 in (
          x.0,
          c.0,
          z.0,
          y.0,
          t.0,
          runs n t.1 b5 w,
          assignment (statement.Assign target) s value lists b w1,
          value_stands condition x.1 b1 w2,
          assignment (statement.Assign step_target) step_s step c.1 b2 w3,
          stmt_runs body z.1 b3 w4,
          runs turns y.1 b4 w5,
        )
    stmt_runs (Case sort case_place opening value closing items endcase) lists b w =
        let v = put_value value lists in
        let x = put_items items v.1 in
        let c = with_choices x.0 x.1 in
        let n = statement.Case (is_wild sort) v.0 c.0 in
        let b1 = later (value_grows value lists) b in
        let b2 = later (items_grow items v.1) b1 in
        let w3 = earlier (statement_grows n c.1) w in
        let w2 = earlier (choices_grow x.0 x.1) w3 in
        let w1 = earlier (items_grow items v.1) w2 in
        let are : choices_at d.source c.0 ≡ x.0 = cut_after x.1.choices x.0 w3.choices.more d.source.choices w3.choices.is in (
          v.0,
          c.0,
          runs n c.1 (later (choices_grow x.0 x.1) b2) w,
          value_stands value lists b w1,
          subst (λ (cs : List Choice). AreItems d m cs items) (sym are) (items_run items v.1 b1 w2),
        )
    stmt_runs (Finish finish argument semicolon) lists b w = runs statement.Finish lists b w

    chain_runs : (l : Stmts) (chain : ℕ) (lists : Lists) → After lists → Within (put_stmts l chain lists).1 → IsChain d m chain (put_stmts l chain lists).0 l
    chain_runs Empty chain lists b w = refl
    chain_runs (Then s l) chain lists b w =
        let x = put_stmt s lists in
        let n = statement.Then chain x.0 in
        let y = with_statement n x.1 in
        let b1 = later (stmt_grows s lists) b in
        let w2 = earlier (stmts_grow l y.0 y.1) w in
        (x.0, y.0, runs n x.1 b1 w2, stmt_runs s lists b (earlier (statement_grows n x.1) w2), chain_runs l y.0 y.1 (later (statement_grows n x.1) b1) w)

    item_runs : (i : Item) (lists : Lists) → After lists → Within (put_item i lists).1 → IsItem d m (put_item i lists).0 i
    item_runs (Labels l colon s) lists b w =
        let ls = put_labels l [] lists in
        let x = put_stmt s ls.1 in
        let h = labels_stand l [] lists b (earlier (stmt_grows s ls.1) w) in
        (h.own, x.0, ap (λ (l : List ℕ). choices_of l x.0) h.are, h.stand, stmt_runs s ls.1 (later (labels_grow l [] lists) b) w)
    item_runs (Default default_place colon s) lists b w = ((put_stmt s lists).0, refl, stmt_runs s lists b w)

    items_run : (l : Items) (lists : Lists) → After lists → Within (put_items l lists).1 → AreItems d m (put_items l lists).0 l
    items_run (Last i) lists b w = item_runs i lists b w
    items_run (More i l) lists b w =
        let x = put_item i lists in
        let y = put_items l x.1 in
        (x.0, y.0, refl, item_runs i lists b (earlier (items_grow l x.1) w), items_run l x.1 (later (item_grows i lists) b) w)

module _ (d : Elaborated) (m : Module) (place : ℕ) (s : Stmt) (whole : AreWhole d.source) (h : StatementStandsAt d.source m place s) where
  -- what is laid out before a statement that stands in a design lies after the first parts of its module
  pub starts : After d m h.number whole h.one h.before
  starts = record { statements = h.statements_from; expressions = h.expressions_from }

  -- and what is laid out up to its end is the design's
  pub ends : Within d m h.number whole h.one (put_stmt s h.before).1
  ends = record {
    statements = record { more = h.following.statements; is = h.statements };
    expressions = record { more = h.following.expressions; is = h.expressions };
    terms = record { more = h.following.terms; is = h.terms };
    choices = record { more = h.following.choices; is = h.choices };
    statements_to = h.statements_to;
    expressions_to = h.expressions_to;
  }

-- at the place of a derivation runs what it says
pub derived : (d : Elaborated) (m : Module) (place : ℕ) (s : Stmt) → AreWhole d.source → StatementStandsAt d.source m place s → IsActionOf d m place s
derived d m place s whole h =
    subst (λ (p : ℕ). IsActionOf d m p s) (sym h.there) (stmt_runs d m h.number whole h.one s h.before (starts d m place s whole h) (ends d m place s whole h))
