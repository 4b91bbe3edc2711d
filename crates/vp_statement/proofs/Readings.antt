-- What a statement reads that is laid out in a design, and the changes for which it waits, are those of its derivation.
use Rattle.std.proofs.Common.{◌≡◌, ◌∙◌, ℕ, ◌+◌, ◌≤◌, ◌<◌, Bool, false, cond, eqb, List, [], ◌∷◌, ◌++◌, length, map, take, slice_get, get_or, Option, Some, None, refl, sym, ap, subst, append_assoc, append-nil, arith}
use Rattle.std.proofs.lemmas.Bool.{eq-eqb, ne_eqb}
use Rattle.std.proofs.lemmas.List.{get_or-take, get_or_append_left, get_or_push, length-append, length_push}
use Rattle.std.specs.List.{filter_map}
use Rattle.vp_source.specs.declared.expression.Selection as chosen
use Rattle.vp_source.specs.ExprGrammar as expression
use Rattle.vp_source.specs.declared.statement.Choice.{Choice}
use Rattle.vp_source.specs.declared.statement.EventTerm.{EventTerm}
use Rattle.vp_source.specs.declared.statement.Span.{Span}
use Rattle.vp_source.specs.declared.statement.Statement.{Statement}
use Rattle.vp_source.specs.declared.statement.Statement.TheVariants as statement
use Rattle.vp_source.specs.StmtGrammar.{Stmt, Assign, Block, Null, Nonblocking, Delayed, Awaited, Wait, When, Choose, While, Forever, For, Case, Finish, Stmts, Empty, Then, Items, Last, More, Item, Labels, Default, LabelList, Only, Also, Event, Any, AnyGrouped, Change, Terms, TermList, Single, Further, delay_amount}
use Rattle.vp_source.specs.StmtLayout.{Lists, awaited, choices_of, is_wild, put_blocking, put_event, put_hold, put_item, put_items, put_labels, put_stmt, put_stmts, put_target, put_term, put_terms, put_value, with_choices, with_statement}
use Rattle.vp_source.specs.declared.source.Module.{Module}
use Rattle.vp_source.specs.Standing.{StatementStandsAt}
use Rattle.vp_source.specs.Whole.{AreWhole}
use Rattle.vp_elab.specs.Built.{Elaborated}
use Rattle.vp_operand.specs.declared.operand.Operand.{Operand}
use Rattle.vp_operand.specs.declared.operand.Slot.{Slot}
use Rattle.vp_operand.specs.Reads.{slots_at}
use Rattle.vp_operand.proofs.Prefixes.{made_there}
use Rattle.vp_expr.specs.declared.awaited.Awaited as change
use Rattle.vp_expr.specs.Awaits.{any_change, awaited_by, awaits_of, body_reads, choice_reads, choices_at, index_slots, part_reads, reads_from, reads_of, statements_of, term_change}
use Rattle.vp_expr.proofs.Derivations.{has_term}
use Rattle.vp_resolve.specs.Names.{scope_of}
use Rattle.vp_resolve.specs.Operands.{operands_of}
use Rattle.vp_resolve.proofs.Gapless.{hold_all}
use Rattle.vp_source.proofs.GrowingParts.{blocking_grows, choices_grow, event_grows, items_grow, item_grows, labels_grow, longer, statement_grows, stmt_grows, stmts_grow, target_grows, terms_are, value_grows}
use Rattle.vp_statement.specs.Derived.{AreLabels, AreTerms, IsActionOf, IsChain}
use Rattle.vp_statement.specs.Reads.{assignment_reads, block_reads, event_awaits, expr_reads, item_reads, items_reads, label_reads, stmt_awaits, stmt_reads, target_reads, terms_of}
use Rattle.vp_statement.proofs.Bounds.{stmt_from, stmt_last}
use Rattle.vp_statement.proofs.Derivations as laid
use Rattle.vp_statement.proofs.Derivations.{cut_after, derived}

-- lists of slots, one after the other
both : {a b c e : List Slot} → a ≡ b → c ≡ e → a ++ c ≡ b ++ e
both {b = b} {c = c} h k = ap (λ (l : List Slot). l ++ c) h ∙ ap (λ (l : List Slot). b ++ l) k

-- the terms that are laid out for an event are those of the text
terms_told : (l : TermList) → put_terms l [] ≡ terms_of l
terms_told (Single t) = refl
terms_told (Further t separator place l) =
    terms_are l (put_term t ∷ []) ∙ ap (λ (own : List EventTerm). put_term t ∷ own) (terms_told l)

-- a statement has its place before the statements that follow
before_next : (s : Stmt) (lists : Lists) → (put_stmt s lists).0 < length (put_stmt s lists).1.statements
before_next s lists = let last = stmt_last s lists in omega arith

-- a place before others is none of them
is_other : (a b : ℕ) → a < b → eqb a b ≡ false
is_other a b h = ne_eqb a b (λ (e : a ≡ b). omega arith)

-- the place before choices, if there is one, is before those of their statements
abbrev IsBefore : Option ℕ → ℕ → Type 0
IsBefore None place = Unit {0}
IsBefore (Some before) place = before < place

-- and before those of the statements that follow
still_before : (previous : Option ℕ) (a b : ℕ) → a ≤ b → IsBefore previous a → IsBefore previous b
still_before None a b h k = tt
still_before (Some before) a b h k = omega arith

-- what a body reads, whose place is none before
body_once : (read : List (List Slot)) (before : Option ℕ) (place : ℕ) → IsBefore before place → body_reads read before place ≡ part_reads read place
body_once read None place h = refl
body_once read (Some before) place h = ap (λ (x : Bool). cond x [] (part_reads read place)) (is_other before place h)

-- a body reads nothing more after itself
body_again : (read : List (List Slot)) (place : ℕ) → body_reads read (Some place) place ≡ []
body_again read place = ap (λ (x : Bool). cond x [] (part_reads read place)) (eq-eqb place place refl)

module _ (d : Elaborated) (m : Module) (number : ℕ) (whole : AreWhole d.source) (one : slice_get d.source.modules number ≡ Some m) where
  abbrev os : List Operand
  os = operands_of d

  abbrev scope : Option ℕ
  scope = scope_of d m

  -- what each statement of the design reads
  abbrev read : List (List Slot)
  read = reads_of d.source os

  abbrev After : Lists → Type 0
  After lists = laid.After d m number whole one lists

  abbrev Within : Lists → Type 0
  Within lists = laid.Within d m number whole one lists

  -- what a statement that is laid out reads, by what those before it read
  made : (n : Statement) (lists : Lists) → Within (with_statement n lists).1 → part_reads read (length lists.statements) ≡ reads_from d.source os (take (length lists.statements) read) n
  made n lists w =
      let ss = lists.statements in
      let k = length ss in
      let all = statements_of d.source in
      let p = length_push ss n in
      let is : all ≡ (ss ++ n ∷ []) ++ w.statements.more = hold_all (λ (m : Module). m.statements) d.source.statements 0 d.source.modules whole.statements ∙ w.statements.is in
      let long = ap length is in
      let inside : k < length all = omega (arith, length-append (ss ++ n ∷ []) w.statements.more) in
      let at : get_or all k n ≡ n =
      ap (λ (l : List Statement). get_or l k n) is
      ∙ get_or_append_left (ss ++ n ∷ []) w.statements.more n k (omega arith)
      ∙ get_or_push ss n n k refl in
      made_there (reads_from d.source os) all k n [] inside (sym at)

  -- and a part has the same among those before it as among all
  below : (s : Stmt) (lists next : Lists) → length (put_stmt s lists).1.statements ≤ length next.statements → part_reads (take (length next.statements) read) (put_stmt s lists).0 ≡ part_reads read (put_stmt s lists).0
  below s lists next h =
      let place = (put_stmt s lists).0 in
      let last = stmt_last s lists in
      get_or-take (length next.statements) read place [] (omega arith)

  -- ---- expressions

  -- an expression that is laid out
  value_read : (e : expression.Expr) (lists : Lists) → After lists → Within (put_value e lists).1 → slots_at os (put_value e lists).0 ≡ expr_reads d scope e
  value_read e lists b w = (has_term d m (put_value e lists).0 e whole (laid.value_stands d m number whole one e lists b w)).reads

  -- the index of a target
  target_read : (s : expression.Selection) (lists : Lists) → After lists → Within (put_target s lists).1 → index_slots os (put_target s lists).0 ≡ target_reads d scope s
  target_read expression.Whole lists b w = refl
  target_read (expression.Bit opening e closing) lists b w = value_read e lists b w
  target_read (expression.Part r) lists b w = refl

  -- an assignment that is laid out
  assignment_read : (made_as : chosen.Selection → ℕ → Statement) (s : expression.Selection) (e : expression.Expr) (lists : Lists) → ((before : List (List Slot)) (c : chosen.Selection) (v : ℕ) → reads_from d.source os before (made_as c v) ≡ index_slots os c ++ slots_at os v) → After lists
      → (let x = put_target s lists in let v = put_value e x.1 in Within (with_statement (made_as x.0 v.0) v.1).1 → part_reads read (length v.1.statements) ≡ assignment_reads d scope s e)
  assignment_read made_as s e lists same b w =
      let x = put_target s lists in
      let v = put_value e x.1 in
      let n = made_as x.0 v.0 in
      let b1 = laid.later d m number whole one (target_grows s lists) b in
      let w2 = laid.earlier d m number whole one (statement_grows n v.1) w in
      let w1 = laid.earlier d m number whole one (value_grows e x.1) w2 in
      made n v.1 w
      ∙ same (take (length v.1.statements) read) x.0 v.0
      ∙ both (target_read s lists b w1) (value_read e x.1 b1 w2)

  -- ---- labels

  -- the choices of labels that stand there, before others
  labels_read : (l : LabelList) (own : List ℕ) (before : List (List Slot)) (previous : Option ℕ) (place : ℕ) (rest : List Choice) (body : List Slot) → AreLabels d m own l → body_reads before previous place ≡ body
      → choice_reads os before previous (choices_of own place ++ rest) ≡ label_reads d scope l body ++ choice_reads os before (Some place) rest
  labels_read (Only e) own before previous place rest body h k =
      ap (λ (ls : List ℕ). choice_reads os before previous (choices_of ls place ++ rest)) h.1
      ∙ ap (λ (l : List Slot). l ++ choice_reads os before (Some place) rest) (both (has_term d m h.0 e whole h.2).reads k)
  labels_read (Also e comma l) own before previous place rest body h k =
      let others = h.1 in
      ap (λ (ls : List ℕ). choice_reads os before previous (choices_of ls place ++ rest)) h.2
      ∙ both (both (has_term d m h.0 e whole h.3).reads k) (labels_read l others before (Some place) place rest [] h.4 (body_again before place))
      ∙ sym (append_assoc (expr_reads d scope e ++ body) (label_reads d scope l []) (choice_reads os before (Some place) rest))

  -- ---- statements

  -- a statement after an event reads what its body does
  awaited_read : (terms : Option Span) (place : ℕ) (before : List (List Slot)) → reads_from d.source os before (awaited terms place) ≡ part_reads before place
  awaited_read None place before = refl
  awaited_read (Some span) place before = refl

  -- a statement after an expression, and one of both
  guarded_read : (made_as : ℕ → ℕ → Statement) (e : expression.Expr) (s : Stmt) (lists : Lists) → ((before : List (List Slot)) (c x : ℕ) → reads_from d.source os before (made_as c x) ≡ (slots_at os c ++ part_reads before x) ++ []) → After lists
      → (let c = put_value e lists in let x = put_stmt s c.1 in Within (with_statement (made_as c.0 x.0) x.1).1 → (After c.1 → Within x.1 → part_reads read x.0 ≡ stmt_reads d scope s) → part_reads read (length x.1.statements) ≡ expr_reads d scope e ++ stmt_reads d scope s)
  guarded_read made_as e s lists same b w body =
      let c = put_value e lists in
      let x = put_stmt s c.1 in
      let n = made_as c.0 x.0 in
      let b1 = laid.later d m number whole one (value_grows e lists) b in
      let w2 = laid.earlier d m number whole one (statement_grows n x.1) w in
      let w1 = laid.earlier d m number whole one (stmt_grows s c.1) w2 in
      made n x.1 w
      ∙ same (take (length x.1.statements) read) c.0 x.0
      ∙ append-nil _
      ∙ both (value_read e lists b w1) (below s c.1 x.1 (omega arith) ∙ body b1 w2)

  -- the place of the statement of an item that is laid out
  abbrev body_place : Item → Lists → ℕ
  body_place (Labels l colon s) lists = (put_stmt s (put_labels l [] lists).1).0
  body_place (Default default_place colon s) lists = (put_stmt s lists).0

  -- what each statement before a place reads is what it reads among all
  abbrev AreBelow : List (List Slot) → ℕ → Type 0
  AreBelow before end = (place : ℕ) → place < end → part_reads before place ≡ part_reads read place

  -- it is before the statements that follow
  body_before : (i : Item) (lists : Lists) → body_place i lists < length (put_item i lists).1.statements
  body_before (Labels l colon s) lists = before_next s (put_labels l [] lists).1
  body_before (Default default_place colon s) lists = before_next s lists

  mutual
    -- a statement that is laid out reads what its derivation does
    stmt_read : (s : Stmt) (lists : Lists) → After lists → Within (put_stmt s lists).1 → part_reads read (put_stmt s lists).0 ≡ stmt_reads d scope s
    stmt_read (Assign target s equals value semicolon) lists b w = assignment_read (statement.Assign target) s value lists (λ before c v. refl) b w
    stmt_read (Block begin body end) lists b w =
        let x = with_statement statement.Empty lists in
        block_read body x.0 x.1 (omega (arith, length_push lists.statements statement.Empty)) (laid.later d m number whole one (statement_grows statement.Empty lists) b) w
        ∙ ap (λ (l : List Slot). block_reads d scope body ++ l) (made statement.Empty lists (laid.earlier d m number whole one (stmts_grow body x.0 x.1) w))
        ∙ append-nil (block_reads d scope body)
    stmt_read (Null semicolon) lists b w = made statement.Null lists w
    stmt_read (Nonblocking target s arrow hold value semicolon) lists b w =
        assignment_read (λ chosen v. statement.Nonblocking target chosen v (put_hold hold)) s value lists (λ before c v. refl) b w
    stmt_read (Delayed hash delay body) lists b w =
        let x = put_stmt body lists in
        let n = statement.Delay (delay_amount delay) x.0 in
        made n x.1 w ∙ below body lists x.1 (omega arith) ∙ stmt_read body lists b (laid.earlier d m number whole one (statement_grows n x.1) w)
    stmt_read (Awaited at_place event body) lists b w =
        let e = put_event event lists in
        let x = put_stmt body e.1 in
        let n = awaited e.0 x.0 in
        let b1 = laid.later d m number whole one (event_grows event lists) b in
        made n x.1 w
        ∙ awaited_read e.0 x.0 (take (length x.1.statements) read)
        ∙ below body e.1 x.1 (omega arith)
        ∙ stmt_read body e.1 b1 (laid.earlier d m number whole one (statement_grows n x.1) w)
    stmt_read (Wait wait opening value closing body) lists b w =
        let c = put_value value lists in
        let x = put_stmt body c.1 in
        let n = statement.Wait c.0 x.0 in
        let b1 = laid.later d m number whole one (value_grows value lists) b in
        made n x.1 w ∙ below body c.1 x.1 (omega arith) ∙ stmt_read body c.1 b1 (laid.earlier d m number whole one (statement_grows n x.1) w)
    stmt_read (When if_place opening value closing first) lists b w =
        guarded_read (λ c x. statement.If c x None) value first lists (λ before c x. refl) b w (stmt_read first (put_value value lists).1)
    stmt_read (Choose if_place opening value closing first else_place second) lists b w =
        let c = put_value value lists in
        let x = put_stmt first c.1 in
        let y = put_stmt second x.1 in
        let n = statement.If c.0 x.0 (Some y.0) in
        let b1 = laid.later d m number whole one (value_grows value lists) b in
        let b2 = laid.later d m number whole one (stmt_grows first c.1) b1 in
        let w3 = laid.earlier d m number whole one (statement_grows n y.1) w in
        let w2 = laid.earlier d m number whole one (stmt_grows second x.1) w3 in
        let w1 = laid.earlier d m number whole one (stmt_grows first c.1) w2 in
        made n y.1 w
        ∙ both (both (value_read value lists b w1) (below first c.1 y.1 (longer (stmt_grows second x.1).statements) ∙ stmt_read first c.1 b1 w2))
        (below second x.1 y.1 (omega arith) ∙ stmt_read second x.1 b2 w3)
    stmt_read (While while_place opening value closing body) lists b w =
        guarded_read (λ c x. statement.While c x None) value body lists (λ before c x. refl) b w (stmt_read body (put_value value lists).1)
    stmt_read (Forever forever body) lists b w =
        let x = put_stmt body lists in
        let n = statement.Forever x.0 in
        made n x.1 w ∙ below body lists x.1 (omega arith) ∙ stmt_read body lists b (laid.earlier d m number whole one (statement_grows n x.1) w)
    stmt_read (For for_place opening target s equals value first_semicolon condition second_semicolon step_target step_s step_equals step closing body) lists b w =
        let x = put_blocking target s value lists in
        let c = put_value condition x.1 in
        let z = put_blocking step_target step_s step c.1 in
        let y = put_stmt body z.1 in
        let turns = statement.While c.0 y.0 (Some z.0) in
        let t = with_statement turns y.1 in
        let n = statement.For x.0 t.0 in
        let b1 = laid.later d m number whole one (blocking_grows target s value lists) b in
        let b2 = laid.later d m number whole one (value_grows condition x.1) b1 in
        let b3 = laid.later d m number whole one (blocking_grows step_target step_s step c.1) b2 in
        let w5 = laid.earlier d m number whole one (statement_grows n t.1) w in
        let w4 = laid.earlier d m number whole one (statement_grows turns y.1) w5 in
        let w3 = laid.earlier d m number whole one (stmt_grows body z.1) w4 in
        let w2 = laid.earlier d m number whole one (blocking_grows step_target step_s step c.1) w3 in
        let w1 = laid.earlier d m number whole one (value_grows condition x.1) w2 in
        let first : x.0 < length x.1.statements = (let l = length_push lists.statements (statement.Assign target (put_target s lists).0 (put_value value (put_target s lists).1).0) in omega arith) in
        let more : length x.1.statements ≤ z.0 = omega arith in
        let second : z.0 < length z.1.statements = (let l = length_push x.1.statements (statement.Assign step_target (put_target step_s c.1).0 (put_value step (put_target step_s c.1).1).0) in omega arith) in
        let further : length z.1.statements ≤ length y.1.statements = longer (stmt_grows body z.1).statements in
        let third : length t.1.statements ≡ length y.1.statements + 1 = length_push y.1.statements turns in
        made n t.1 w
        ∙ both
        (get_or-take (length t.1.statements) read x.0 [] (omega arith) ∙ assignment_read (statement.Assign target) s value lists (λ before c v. refl) b w1)
        (get_or-take (length t.1.statements) read t.0 [] (omega arith)
        ∙ made turns y.1 w5
        ∙ both
        (both (value_read condition x.1 b1 w2) (below body z.1 y.1 (omega arith) ∙ stmt_read body z.1 b3 w4))
        (get_or-take (length y.1.statements) read z.0 [] (omega arith) ∙ assignment_read (statement.Assign step_target) step_s step c.1 (λ before c v. refl) b2 w3))
    stmt_read (Case sort case_place opening value closing items endcase) lists b w =
        let v = put_value value lists in
        let x = put_items items v.1 in
        let c = with_choices x.0 x.1 in
        let n = statement.Case (is_wild sort) v.0 c.0 in
        let before = take (length c.1.statements) read in
        let b1 = laid.later d m number whole one (value_grows value lists) b in
        let w3 = laid.earlier d m number whole one (statement_grows n c.1) w in
        let w2 = laid.earlier d m number whole one (choices_grow x.0 x.1) w3 in
        let w1 = laid.earlier d m number whole one (items_grow items v.1) w2 in
        let are : choices_at d.source c.0 ≡ x.0 = cut_after x.1.choices x.0 w3.choices.more d.source.choices w3.choices.is in
        made n c.1 w
        ∙ both (value_read value lists b w1)
        (ap (choice_reads os before None) are ∙ items_read items v.1 before None tt (λ p h. get_or-take (length c.1.statements) read p [] h) b1 w2)
    stmt_read (Finish finish argument semicolon) lists b w = made statement.Finish lists w

    -- a block that is laid out, after what the chain reads that it goes on with
    block_read : (l : Stmts) (chain : ℕ) (lists : Lists) → chain < length lists.statements → After lists → Within (put_stmts l chain lists).1 → part_reads read (put_stmts l chain lists).0 ≡ block_reads d scope l ++ part_reads read chain
    block_read Empty chain lists h b w = refl
    block_read (Then s l) chain lists h b w =
        let x = put_stmt s lists in
        let n = statement.Then chain x.0 in
        let y = with_statement n x.1 in
        let b1 = laid.later d m number whole one (stmt_grows s lists) b in
        let w2 = laid.earlier d m number whole one (stmts_grow l y.0 y.1) w in
        let more = longer (stmt_grows s lists).statements in
        block_read l y.0 y.1 (omega (arith, length_push x.1.statements n)) (laid.later d m number whole one (statement_grows n x.1) b1) w
        ∙ ap (λ (r : List Slot). block_reads d scope l ++ r) (made n x.1 w2
        ∙ both (below s lists x.1 (omega arith) ∙ stmt_read s lists b (laid.earlier d m number whole one (statement_grows n x.1) w2))
        (get_or-take (length x.1.statements) read chain [] (omega arith)))
        ∙ sym (append_assoc (block_reads d scope l) (stmt_reads d scope s) (part_reads read chain))

    -- an item that is laid out, before other choices
    item_read : (i : Item) (lists : Lists) (before : List (List Slot)) (previous : Option ℕ) (rest : List Choice) → IsBefore previous (length lists.statements) → AreBelow before (length (put_item i lists).1.statements) → After lists → Within (put_item i lists).1
        → choice_reads os before previous ((put_item i lists).0 ++ rest) ≡ item_reads d scope i ++ choice_reads os before (Some (body_place i lists)) rest
    item_read (Labels l colon s) lists before previous rest h same b w =
        let ls = put_labels l [] lists in
        let x = put_stmt s ls.1 in
        let k = laid.labels_stand d m number whole one l [] lists b (laid.earlier d m number whole one (stmt_grows s ls.1) w) in
        let more = longer (labels_grow l [] lists).statements in
        let from = stmt_from s ls.1 in
        ap (λ (own : List ℕ). choice_reads os before previous (choices_of own x.0 ++ rest)) k.are
        ∙ labels_read l k.own before previous x.0 rest (stmt_reads d scope s) k.stand
        (body_once before previous x.0 (still_before previous (length lists.statements) x.0 (omega arith) h)
        ∙ same x.0 (before_next s ls.1)
        ∙ stmt_read s ls.1 (laid.later d m number whole one (labels_grow l [] lists) b) w)
    item_read (Default default_place colon s) lists before previous rest h same b w =
        let x = put_stmt s lists in
        ap (λ (r : List Slot). r ++ choice_reads os before (Some x.0) rest)
        (body_once before previous x.0 (still_before previous (length lists.statements) x.0 (stmt_from s lists) h)
        ∙ same x.0 (before_next s lists)
        ∙ stmt_read s lists b w)

    -- items that are laid out, after a choice or none
    items_read : (l : Items) (lists : Lists) (before : List (List Slot)) (previous : Option ℕ) → IsBefore previous (length lists.statements) → AreBelow before (length (put_items l lists).1.statements) → After lists → Within (put_items l lists).1
        → choice_reads os before previous (put_items l lists).0 ≡ items_reads d scope l
    items_read (Last i) lists before previous h same b w =
        ap (choice_reads os before previous) (sym (append-nil (put_item i lists).0))
        ∙ item_read i lists before previous [] h same b w
        ∙ append-nil (item_reads d scope i)
    items_read (More i l) lists before previous h same b w =
        let x = put_item i lists in
        let y = put_items l x.1 in
        let more : length x.1.statements ≤ length y.1.statements = longer (items_grow l x.1).statements in
        item_read i lists before previous y.0 h (λ p k. same p (omega arith)) b (laid.earlier d m number whole one (items_grow l x.1) w)
        ∙ ap (λ (r : List Slot). item_reads d scope i ++ r)
        (items_read l x.1 before (Some (body_place i lists)) (body_before i lists) same (laid.later d m number whole one (item_grows i lists) b) w)

  -- ---- what is waited for

  -- the changes of each statement of the design
  abbrev awaits : List (List change.Awaited)
  awaits = awaits_of d os

  -- a statement after an event whose terms are those of the derivation
  event_awaited : (event : Event) (terms : Option Span) (place : ℕ) (body : List Slot) → AreTerms d terms event → part_reads read place ≡ body → awaited_by d scope os read (awaited terms place) ≡ event_awaits d scope event body
  event_awaited (Any star) terms place body h k =
      ap (λ (t : Option Span). awaited_by d scope os read (awaited t place)) h ∙ ap (map any_change) k
  event_awaited (AnyGrouped opening star closing) terms place body h k =
      ap (λ (t : Option Span). awaited_by d scope os read (awaited t place)) h ∙ ap (map any_change) k
  event_awaited (Change name) terms place body h k =
      ap (λ (t : Option Span). awaited_by d scope os read (awaited t place)) h.1 ∙ ap (filter_map (term_change d scope)) h.2
  event_awaited (Terms opening l closing) terms place body h k =
      ap (λ (t : Option Span). awaited_by d scope os read (awaited t place)) h.1 ∙ ap (filter_map (term_change d scope)) (h.2 ∙ terms_told l)

  -- a block waits for nothing itself
  block_awaited : (l : Stmts) (first last : ℕ) → IsChain d m first last l → get_or awaits first [] ≡ [] → get_or awaits last [] ≡ []
  block_awaited Empty first last h k = ap (λ (p : ℕ). get_or awaits p []) h ∙ k
  block_awaited (Then s l) first last h k = block_awaited l h.1 last h.4 h.2.awaits

  -- a statement that is laid out waits for what its derivation does
  stmt_awaited : (s : Stmt) (lists : Lists) → After lists → Within (put_stmt s lists).1 → IsActionOf d m (put_stmt s lists).0 s → get_or awaits (put_stmt s lists).0 [] ≡ stmt_awaits d scope s
  stmt_awaited (Assign target s equals value semicolon) lists b w h = h.2.awaits
  stmt_awaited (Block begin body end) lists b w h = block_awaited body h.0 (put_stmt (Block begin body end) lists).0 h.2 h.1.awaits
  stmt_awaited (Null semicolon) lists b w h = h.awaits
  stmt_awaited (Nonblocking target s arrow hold value semicolon) lists b w h = h.2.awaits
  stmt_awaited (Delayed hash delay body) lists b w h = h.1.awaits
  stmt_awaited (Awaited at_place event body) lists b w h =
      let e = put_event event lists in
      let x = put_stmt body e.1 in
      let n = awaited e.0 x.0 in
      let b1 = laid.later d m number whole one (event_grows event lists) b in
      let b2 = laid.later d m number whole one (stmt_grows body e.1) b1 in
      let w2 = laid.earlier d m number whole one (statement_grows n x.1) w in
      let w1 = laid.earlier d m number whole one (stmt_grows body e.1) w2 in
      (laid.runs d m number whole one n x.1 b2 w).awaits
      ∙ event_awaited event e.0 x.0 (stmt_reads d scope body) (laid.terms_stand d m number whole one event lists w1) (stmt_read body e.1 b1 w2)
  stmt_awaited (Wait wait opening value closing body) lists b w h =
      h.2.awaits ∙ ap (map any_change) (has_term d m h.0 value whole h.3).reads
  stmt_awaited (When if_place opening value closing first) lists b w h = h.2.awaits
  stmt_awaited (Choose if_place opening value closing first else_place second) lists b w h = h.3.awaits
  stmt_awaited (While while_place opening value closing body) lists b w h = h.2.awaits
  stmt_awaited (Forever forever body) lists b w h = h.1.awaits
  stmt_awaited (For for_place opening target s equals value first_semicolon condition second_semicolon step_target step_s step_equals step closing body) lists b w h = h.5.awaits
  stmt_awaited (Case sort case_place opening value closing items endcase) lists b w h = h.2.awaits
  stmt_awaited (Finish finish argument semicolon) lists b w h = h.awaits

-- at the place of a derivation is read what it reads
pub reads_derived : (d : Elaborated) (m : Module) (place : ℕ) (s : Stmt) → AreWhole d.source → StatementStandsAt d.source m place s → part_reads (reads_of d.source (operands_of d)) place ≡ stmt_reads d (scope_of d m) s
reads_derived d m place s whole h =
    ap (λ (p : ℕ). part_reads (reads_of d.source (operands_of d)) p) h.there
    ∙ stmt_read d m h.number whole h.one s h.before (laid.starts d m place s whole h) (laid.ends d m place s whole h)

-- and there is waited for what it waits for
pub awaits_derived : (d : Elaborated) (m : Module) (place : ℕ) (s : Stmt) → AreWhole d.source → StatementStandsAt d.source m place s → get_or (awaits_of d (operands_of d)) place [] ≡ stmt_awaits d (scope_of d m) s
awaits_derived d m place s whole h =
    ap (λ (p : ℕ). get_or (awaits_of d (operands_of d)) p []) h.there
    ∙ stmt_awaited d m h.number whole h.one s h.before (laid.starts d m place s whole h) (laid.ends d m place s whole h)
    (subst (λ (p : ℕ). IsActionOf d m p s) h.there (derived d m place s whole h))
