-- The terms of the parts of a derivation that is laid out in a list are those of the derivation.
use Rattle.std.proofs.Common.{◌≡◌, ◌∙◌, ℕ, ◌<◌, Bool, true, false, cond, List, [], ◌∷◌, ◌++◌, ◌≤◌, drop, length, map, Option, Some, None, Result, Ok, Err, refl, sym, ap, append_assoc, arith}
use Rattle.std.specs.Prelude.{OnOk}
use Rattle.std.proofs.lemmas.List.{drop-append-le, get_or_append_left, get_or_push, length-append, length-drop, length-map, length_push, map-append, append-nil}
use Rattle.std.proofs.lemmas.List.Sums.{fold-append}
use Rattle.std.proofs.Math.ListN.{get_or-map}
use Rattle.vp_bits.specs.declared.bit.Bit as bits
use Rattle.vp_source.specs.declared.expression.Expression as node
use Rattle.vp_source.specs.declared.expression.Expression.TheVariants as node_of
use Rattle.vp_source.specs.declared.expression.Selection as selection
use Rattle.vp_source.specs.declared.expression.Selection.TheVariants as selected_as
use Rattle.vp_source.specs.declared.operator.UnaryOperator.{UnaryOperator}
use Rattle.vp_source.specs.declared.operator.UnaryOperator.TheVariants as before
use Rattle.vp_source.specs.ExprGrammar.{Range, Expr, Name, Sized, Based, Number, Group, Unary, Binary, Conditional, Concatenation, Replication, Selection, Whole, Bit, Part, Parts, First, More}
use Rattle.vp_source.specs.ExprLayout.{put_expr, put_parts, put_range, put_selection, with_node}
use Rattle.vp_source.specs.declared.source.Module.{Module}
use Rattle.vp_source.specs.Whole.{AreWhole}
use Rattle.vp_source.proofs.GrowingParts.{expr_last, expr_more, longer}
use Rattle.vp_elab.specs.Built.{Elaborated}
use Rattle.vp_elab.specs.Elaboration.{range_width}
use Rattle.vp_operand.specs.declared.operand.Infix.{Infix}
use Rattle.vp_operand.specs.declared.operand.Infix.TheVariants as pair
use Rattle.vp_operand.specs.declared.operand.Reduction.TheVariants as reduction
use Rattle.vp_operand.specs.declared.operand.Unary.TheVariants as unary
use Rattle.vp_operand.specs.declared.operand.Operand.{Operand}
use Rattle.vp_operand.specs.declared.operand.Operand.TheVariants as operand
use Rattle.vp_operand.specs.Arena.{blank, is_width, part_in, sizes_in, term_at, term_from, terms_of, value_in, with_term}
use Rattle.vp_expr.specs.Derived.{HasTerm, StandsAt, derived_value, expr_term, named_term, parts_term}
use Rattle.vp_expr.specs.Tables.{tables_of}
use Rattle.vp_resolve.specs.Names.{lowest_in, object_named, scope_of, slot_in, width_in}
use Rattle.vp_resolve.specs.Operands.{infix_of, named_operand, operand_of, operands_of, unary_operand}
use Rattle.vp_operand.specs.declared.operand.Slot.{Slot}
use Rattle.vp_operand.specs.Reads.{reads, slot_at, slots_at}
use Rattle.vp_operand.specs.Terms as term
use Rattle.vp_operand.specs.Terms.{Term, value}
use Rattle.vp_expr.specs.Evaluation.{eval}
use Rattle.vp_operand.specs.Ids as ids
use Rattle.vp_operand.proofs.Arenas.{grows_at, length-terms}
use Rattle.vp_expr.proofs.Wholes.{stand_after}

-- the terms of expressions in a list, by the object of their module; before those of the module stand other operands
abbrev terms_in : Elaborated → (scope : Option ℕ) → List Operand → List node.Expression → List Term
terms_in d m os nodes = terms_of (os ++ map (operand_of d m) (drop (length os) nodes))

terms_more : (d : Elaborated) (m : Option ℕ) (os : List Operand) (nodes : List node.Expression) (n : node.Expression) → length os ≤ length nodes → terms_in d m os (nodes ++ n ∷ []) ≡ terms_in d m os nodes ++ term_from (terms_in d m os nodes) (operand_of d m n) ∷ []
terms_more d m os nodes n q =
    let own = map (operand_of d m) (drop (length os) nodes) in
    ap (λ (ns : List node.Expression). terms_of (os ++ map (operand_of d m) ns)) (drop-append-le (length os) nodes (n ∷ []) q)
    ∙ ap (λ (l : List Operand). terms_of (os ++ l)) (map-append (operand_of d m) (drop (length os) nodes) (n ∷ []))
    ∙ ap terms_of (sym (append_assoc os own (operand_of d m n ∷ [])))
    ∙ fold-append with_term [] (os ++ own) (operand_of d m n ∷ [])

count : (d : Elaborated) (m : Option ℕ) (os : List Operand) (nodes : List node.Expression) → length os ≤ length nodes → length (terms_in d m os nodes) ≡ length nodes
count d m os nodes q =
    let own = map (operand_of d m) (drop (length os) nodes) in
    omega (arith, length-terms [] (os ++ own), length-append os own, length-map (drop (length os) nodes) (operand_of d m), length-drop (length os) nodes)

-- a term stands at a place of a list that grew from another
record Stands (d : Elaborated) (m : Option ℕ) (os : List Operand) (first : List node.Expression) (x : ℕ × List node.Expression) (t : Term) : Type 0 where
  more : List Term
  long : length os ≤ length x.1
  grown : terms_in d m os x.1 ≡ terms_in d m os first ++ more
  inside : x.0 < length (terms_in d m os x.1)
  is : part_in (terms_in d m os x.1) x.0 ≡ t

-- and still stands there when the list has grown
later : (ts more all : List Term) (place : ℕ) (t : Term) → all ≡ ts ++ more → place < length ts → part_in ts place ≡ t → part_in all place ≡ t
later ts more all place t grown inside is =
    ap (λ (l : List Term). part_in l place) grown ∙ get_or_append_left ts more blank place inside ∙ is

grown_twice : (a b c x y : List Term) → b ≡ a ++ x → c ≡ b ++ y → c ≡ a ++ (x ++ y)
grown_twice a b c x y h k = k ∙ ap (λ (l : List Term). l ++ y) h ∙ append_assoc a x y

-- one more part, made of those before it
placed : (d : Elaborated) (m : Option ℕ) (os : List Operand) (first nodes : List node.Expression) → length os ≤ length nodes → (more : List Term) (n : node.Expression) (t : Term) → terms_in d m os nodes ≡ terms_in d m os first ++ more → term_from (terms_in d m os nodes) (operand_of d m n) ≡ t → Stands d m os first (with_node n nodes) t
placed d m os first nodes q more n t grown is =
    let u = term_from (terms_in d m os nodes) (operand_of d m n) in
    let one = terms_more d m os nodes n q in
    let further : length os ≤ length (nodes ++ n ∷ []) = omega (arith, length_push nodes n) in
    record {
      more = more ++ u ∷ [];
      long = further;
      grown = grown_twice (terms_in d m os first) (terms_in d m os nodes) (terms_in d m os (nodes ++ n ∷ [])) more (u ∷ []) grown one;
      inside = omega (arith, count d m os (nodes ++ n ∷ []) further, length_push nodes n);
      is =
          ap (λ (l : List Term). part_in l (length nodes)) one
          ∙ get_or_push (terms_in d m os nodes) u blank (length nodes) (count d m os nodes q)
          ∙ is;
    }

-- a leaf
leaf : (d : Elaborated) (m : Option ℕ) (os : List Operand) (nodes : List node.Expression) → length os ≤ length nodes → (n : node.Expression) (t : Term) → term_from (terms_in d m os nodes) (operand_of d m n) ≡ t → Stands d m os nodes (with_node n nodes) t
leaf d m os nodes q n t is = placed d m os nodes nodes q [] n t (sym (append-nil (terms_in d m os nodes))) is

-- ---- operators

unary_made : (o : UnaryOperator) (ts : List Term) (place : ℕ) (t : Term) → part_in ts place ≡ t → term_from ts (unary_operand o place) ≡ term_from (t ∷ []) (unary_operand o 0)
unary_made before.Plus ts place t h = ap (term.Applied unary.Plus) h
unary_made before.Minus ts place t h = ap (term.Applied unary.Minus) h
unary_made before.Negation ts place t h = ap (term.Applied unary.Negation) h
unary_made before.LogicalNegation ts place t h = ap (term.Reduced reduction.LogicalNegation) h
unary_made before.ReductionAnd ts place t h = ap (term.Reduced reduction.And) h
unary_made before.ReductionNand ts place t h = ap (term.Reduced reduction.Nand) h
unary_made before.ReductionOr ts place t h = ap (term.Reduced reduction.Or) h
unary_made before.ReductionNor ts place t h = ap (term.Reduced reduction.Nor) h
unary_made before.ReductionXor ts place t h = ap (term.Reduced reduction.Xor) h
unary_made before.ReductionXnor ts place t h = ap (term.Reduced reduction.Xnor) h

pair_made : (i : Infix) (ts : List Term) (p q : ℕ) (a b : Term) → part_in ts p ≡ a → part_in ts q ≡ b → term_from ts (operand.Paired i p q) ≡ term_from (a ∷ b ∷ []) (operand.Paired i 0 1)
pair_made (pair.Combined o) ts p q a b h k = ap (λ (x : Term). term.Combined o x (part_in ts q)) h ∙ ap (term.Combined o a) k
pair_made (pair.Shifted o) ts p q a b h k = ap (λ (x : Term). term.Shifted o x (part_in ts q)) h ∙ ap (term.Shifted o a) k
pair_made (pair.Compared o) ts p q a b h k = ap (λ (x : Term). term.Compared o x (part_in ts q)) h ∙ ap (term.Compared o a) k
pair_made (pair.Joined o) ts p q a b h k = ap (λ (x : Term). term.Joined o x (part_in ts q)) h ∙ ap (term.Joined o a) k

choice_made : (ts : List Term) (p q r : ℕ) (c a b : Term) → part_in ts p ≡ c → part_in ts q ≡ a → part_in ts r ≡ b → term_from ts (operand.Conditional p q r) ≡ term.Conditional c a b
choice_made ts p q r c a b h k l =
    ap (λ (x : Term). term.Conditional x (part_in ts q) (part_in ts r)) h
    ∙ ap (λ (x : Term). term.Conditional c x (part_in ts r)) k
    ∙ ap (term.Conditional c a) l

appended_made : (ts : List Term) (p q : ℕ) (a b : Term) → part_in ts p ≡ a → part_in ts q ≡ b → term_from ts (operand.Appended p q) ≡ term.Appended a b
appended_made ts p q a b h k = ap (λ (x : Term). term.Appended x (part_in ts q)) h ∙ ap (term.Appended a) k

term_from_if : (ts : List Term) (b : Bool) (one other : Operand) → term_from ts (cond b one other) ≡ cond b (term_from ts one) (term_from ts other)
term_from_if ts true one other = refl
term_from_if ts false one other = refl

-- ---- derivations

-- what is selected stands in a list that grew from another
record Selects (d : Elaborated) (m : Option ℕ) (os : List Operand) (first : List node.Expression) (x : selection.Selection × List node.Expression) (s : Selection) : Type 0 where
  more : List Term
  long : length os ≤ length x.1
  grown : terms_in d m os x.1 ≡ terms_in d m os first ++ more
  is : (object : Option ℕ) → term_from (terms_in d m os x.1) (named_operand d m object x.0) ≡ named_term d m object s

whole_named : (d : Elaborated) (m : Option ℕ) (ts : List Term) (object : Option ℕ) → term_from ts (named_operand d m object (put_selection Whole []).0) ≡ named_term d m object Whole
whole_named d m ts None = refl
whole_named d m ts (Some object) = term_from_if ts (is_width (width_in d object)) _ _

bit_named : (d : Elaborated) (m : Option ℕ) (ts : List Term) (place opening closing : ℕ) (e : Expr) (object : Option ℕ) → part_in ts place ≡ expr_term d m e → term_from ts (named_operand d m object (selected_as.Bit place)) ≡ named_term d m object (Bit opening e closing)
bit_named d m ts place opening closing e None h = refl
bit_named d m ts place opening closing e (Some object) h = ap (term.BitSelect (slot_in m object).0 (lowest_in d object)) h

part_named : (d : Elaborated) (m : Option ℕ) (ts : List Term) (r : Range) (object : Option ℕ) → term_from ts (named_operand d m object (put_selection (Part r) []).0) ≡ named_term d m object (Part r)
part_named d m ts r None = refl
part_named d m ts r (Some object) = term_from_if ts (is_width (range_width (put_range r))) _ _

mutual
  expr_stands : (d : Elaborated) (m : Option ℕ) (os : List Operand) (e : Expr) (nodes : List node.Expression) → length os ≤ length nodes → Stands d m os nodes (put_expr e nodes) (expr_term d m e)
  expr_stands d m os (Name place s) nodes q =
      let x = put_selection s nodes in
      let h = selection_stands d m os s nodes q in
      placed d m os nodes x.1 h.long h.more (node_of.Name place x.0) _ h.grown (h.is (object_named d m place))
  expr_stands d m os (Sized place size kind digits) nodes q = leaf d m os nodes q (node_of.Literal place size digits) _ refl
  expr_stands d m os (Based digits) nodes q = leaf d m os nodes q (node_of.Based digits) _ refl
  expr_stands d m os (Number place number) nodes q = leaf d m os nodes q (node_of.Number place number) _ refl
  expr_stands d m os (Group opening e closing) nodes q = expr_stands d m os e nodes q
  expr_stands d m os (Unary o place e) nodes q =
      let x = put_expr e nodes in
      let h = expr_stands d m os e nodes q in
      placed d m os nodes x.1 h.long h.more (node_of.Unary o place x.0) _ h.grown (unary_made o (terms_in d m os x.1) x.0 (expr_term d m e) h.is)
  expr_stands d m os (Binary o a place b) nodes q =
      let x = put_expr a nodes in
      let y = put_expr b x.1 in
      let h = expr_stands d m os a nodes q in
      let k = expr_stands d m os b x.1 h.long in
      let ts = terms_in d m os y.1 in
      placed d m os nodes y.1 k.long (h.more ++ k.more) (node_of.Binary o place x.0 y.0) _
      (grown_twice (terms_in d m os nodes) (terms_in d m os x.1) ts h.more k.more h.grown k.grown)
      (pair_made (infix_of o) ts x.0 y.0 (expr_term d m a) (expr_term d m b) (later (terms_in d m os x.1) k.more ts x.0 (expr_term d m a) k.grown h.inside h.is) k.is)
  expr_stands d m os (Conditional c question a colon b) nodes q =
      let x = put_expr c nodes in
      let y = put_expr a x.1 in
      let z = put_expr b y.1 in
      let h = expr_stands d m os c nodes q in
      let k = expr_stands d m os a x.1 h.long in
      let l = expr_stands d m os b y.1 k.long in
      let ts = terms_in d m os z.1 in
      let twice = grown_twice (terms_in d m os nodes) (terms_in d m os x.1) (terms_in d m os y.1) h.more k.more h.grown k.grown in
      let following = grown_twice (terms_in d m os x.1) (terms_in d m os y.1) ts k.more l.more k.grown l.grown in
      placed d m os nodes z.1 l.long (h.more ++ k.more ++ l.more) (node_of.Conditional x.0 y.0 z.0) _
      (grown_twice (terms_in d m os nodes) (terms_in d m os y.1) ts (h.more ++ k.more) l.more twice l.grown)
      (choice_made ts x.0 y.0 z.0 (expr_term d m c) (expr_term d m a) (expr_term d m b)
      (later (terms_in d m os x.1) (k.more ++ l.more) ts x.0 (expr_term d m c) following h.inside h.is)
      (later (terms_in d m os y.1) l.more ts y.0 (expr_term d m a) l.grown k.inside k.is)
      l.is)
  expr_stands d m os (Concatenation opening l closing) nodes q = parts_stand d m os opening l nodes q
  expr_stands d m os (Replication opening count_place n inner_opening l inner_closing closing) nodes q =
      let x = put_parts inner_opening l nodes in
      let h = parts_stand d m os inner_opening l nodes q in
      placed d m os nodes x.1 h.long h.more (node_of.Replication opening n x.0) _ h.grown (ap (term.Replicated n) h.is)

  selection_stands : (d : Elaborated) (m : Option ℕ) (os : List Operand) (s : Selection) (nodes : List node.Expression) → length os ≤ length nodes → Selects d m os nodes (put_selection s nodes) s
  selection_stands d m os Whole nodes q = record {
    more = [];
    long = q;
    grown = sym (append-nil (terms_in d m os nodes));
    is = whole_named d m (terms_in d m os nodes);
  }
  selection_stands d m os (Bit opening e closing) nodes q =
      let x = put_expr e nodes in
      let h = expr_stands d m os e nodes q in
      record { more = h.more; long = h.long; grown = h.grown; is = λ object. bit_named d m (terms_in d m os x.1) x.0 opening closing e object h.is }
  selection_stands d m os (Part r) nodes q = record {
    more = [];
    long = q;
    grown = sym (append-nil (terms_in d m os nodes));
    is = part_named d m (terms_in d m os nodes) r;
  }

  parts_stand : (d : Elaborated) (m : Option ℕ) (os : List Operand) (opening : ℕ) (l : Parts) (nodes : List node.Expression) → length os ≤ length nodes → Stands d m os nodes (put_parts opening l nodes) (parts_term d m l)
  parts_stand d m os opening (First e) nodes q =
      let x = put_expr e nodes in
      let h = expr_stands d m os e nodes q in
      placed d m os nodes x.1 h.long h.more (node_of.Concatenation opening x.0) _ h.grown (ap (λ (t : Term). term.Concatenated t) h.is)
  parts_stand d m os opening (More l comma e) nodes q =
      let x = put_parts opening l nodes in
      let y = put_expr e x.1 in
      let h = parts_stand d m os opening l nodes q in
      let k = expr_stands d m os e x.1 h.long in
      let ts = terms_in d m os y.1 in
      placed d m os nodes y.1 k.long (h.more ++ k.more) (node_of.Appended opening x.0 y.0) _
      (grown_twice (terms_in d m os nodes) (terms_in d m os x.1) ts h.more k.more h.grown k.grown)
      (appended_made ts x.0 y.0 (parts_term d m l) (expr_term d m e) (later (terms_in d m os x.1) k.more ts x.0 (parts_term d m l) k.grown h.inside h.is) k.is)

-- the terms of the first operands are among those of all
kept : (os rest all : List Operand) (place : ℕ) → all ≡ os ++ rest → place < length (terms_of os) → term_at all place ≡ part_in (terms_of os) place
kept os rest all place split inside =
    ap (λ (l : List Operand). term_at l place) split
    ∙ ap (λ (ts : List Term). part_in ts place) (fold-append with_term [] os rest)
    ∙ grows_at (terms_of os) rest place blank inside

-- the term of an expression of a design is that of the derivation that stands there, in the scope of its module
pub term_derived : (d : Elaborated) (m : Module) (place : ℕ) (e : Expr) → AreWhole d.source → StandsAt d m place e → term_at (operands_of d) place ≡ expr_term d (scope_of d m) e
term_derived d m place e whole s =
    let x = put_expr e s.before in
    let scope = scope_of d m in
    let last = expr_last e s.before in
    let more = longer (expr_more e s.before) in
    let there = s.there in
    let from = s.from in
    let to = s.to in
    let w = stand_after d m s.number x.1 s.following whole s.one s.laid (omega arith) (omega arith) in
    let first = w.first in
    let h = expr_stands d scope w.os e s.before (omega arith) in
    ap (λ (p : ℕ). term_at (operands_of d) p) s.there
    ∙ kept (w.os ++ map (operand_of d scope) (drop (length w.os) x.1)) w.rest (operands_of d) x.0 w.are h.inside
    ∙ h.is

-- and its value is the derivation's
pub value_derived : (d : Elaborated) (m : Module) (values : List (List bits.Bit)) (id : ids.Sized) (e : Expr) → AreWhole d.source → StandsAt d m id.place e → eval (tables_of d) values id ≡ derived_value d (scope_of d m) values id.size e
unfolding tables_of
value_derived d m values id e whole s =
    ap (value (value_in values) id.size) (term_derived d m id.place e whole s)

-- what was added to slots by reading an expression is what the derivation reads
pub reads_derived : {E : Type 0} (d : Elaborated) (place : ℕ) (before after : List Slot) (r : Result (Unit {0}) E) → AreWhole d.source → OnOk r (after ≡ before ++ slots_at (tables_of d).operands place)
    → OnOk r ((m : Module) (e : Expr) → StandsAt d m place e → after ≡ before ++ map slot_at (reads (expr_term d (scope_of d m) e)))
unfolding tables_of
reads_derived d place before after (Err error) whole h = tt
reads_derived d place before after (Ok done) whole h = λ m e s. h ∙ ap (λ (t : Term). before ++ map slot_at (reads t)) (term_derived d m place e whole s)

-- an expression has the size, the sign and the reads of the derivation that stands at its place
pub has_term : (d : Elaborated) (m : Module) (place : ℕ) (e : Expr) → AreWhole d.source → StandsAt d m place e → HasTerm d place (expr_term d (scope_of d m) e)
unfolding sizes_in
has_term d m place e whole s =
    let terms = terms_of (operands_of d) in
    let is = term_derived d m place e whole s in
    record {
      size = get_or-map (λ (t : Term). term.size t) terms place blank ∙ ap (λ (t : Term). term.size t) is;
      sign = get_or-map (λ (t : Term). term.is_signed t) terms place blank ∙ ap (λ (t : Term). term.is_signed t) is;
      reads = ap (λ (t : Term). map slot_at (reads t)) is;
    }
