-- What statements read and wait for by their derivations, computed.
use Rattle.std.proofs.Common.{◌≡◌, ℕ, ◌+◌, false, List, [], ◌∷◌, Option, Some, None, refl, arith}
use Rattle.std.specs.Prelude.{codes, slice_index_or}
use Rattle.std.specs.Str.{chars, is_utf8}
use Rattle.std.proofs.Math.Utf8.{encode}
use Rattle.vp_lex.specs.declared.token.Token.{Token}
use Rattle.vp_lex.specs.declared.token.TokenKind.TheVariants as token
use Rattle.vp_source.specs.declared.expression.Expression.TheVariants as node
use Rattle.vp_source.specs.declared.expression.Selection.TheVariants as selected_as
use Rattle.vp_source.specs.declared.operator.BinaryOperator.TheVariants.{And}
use Rattle.vp_source.specs.ExprGrammar as expression
use Rattle.vp_source.specs.declared.statement.Edge.TheVariants as edge
use Rattle.vp_source.specs.declared.statement.Span.{Span}
use Rattle.vp_source.specs.declared.statement.Statement.TheVariants as statement
use Rattle.vp_source.specs.StmtGrammar.{Stmt, Also, Any, Assign, Awaited, Block, Case, Empty, Exact, Labels, Last, Null, Only, Then, Wait}
use Rattle.vp_source.specs.StmtLayout.{no_parts}
use Rattle.vp_source.specs.declared.source.Module as declared
use Rattle.vp_source.specs.Standing.{StatementStandsAt}
use Rattle.vp_elab.specs.declared.object.Kind.TheVariants.{Module, Reg}
use Rattle.vp_elab.specs.Built.{Elaborated}
use Rattle.vp_elab.specs.Tree.{Node, Step}
use Rattle.vp_operand.specs.declared.operand.Slot.{Slot}
use Rattle.vp_expr.specs.declared.awaited.Awaited as change
use Rattle.vp_expr.specs.Awaits.{awaits_of}
use Rattle.vp_resolve.specs.Names.{scope_of}
use Rattle.vp_resolve.specs.Operands.{operands_of}
use Rattle.vp_statement.specs.Reads.{stmt_awaits, stmt_reads}

-- ---- module m, with reg a; reg [3:0] q; reg b

-- a word of one letter
abbrev word : ℕ → Token
word place = record { kind = token.Name; start = place; end = place + 1; line = 1; column = place + 1; directive = false }

-- a name, all of it
abbrev name : ℕ → expression.Expr
name place = expression.Name place expression.Whole

-- `@* begin q[b] = a; wait (a & b) ; end`, whose words m, a, q and b have the places 0 to 3
abbrev star : Stmt
star = Awaited 4 (Any 4)
    (Block 5
    (Then (Assign 2 (expression.Bit 6 (name 3) 6) 7 (name 1) 8)
    (Then (Wait 9 9 (expression.Binary And (name 1) 9 (name 3)) 9 (Null 9)) Empty))
    10)

-- `wait (a & b) ;`
abbrev wait : Stmt
wait = Wait 9 9 (expression.Binary And (name 1) 9 (name 3)) 9 (Null 9)

-- `case (a) b, q: q = a; endcase`
abbrev labelled : Stmt
labelled = Case Exact 4 4 (name 1) 4
    (Last (Labels (Also (name 3) 4 (Only (name 2))) 4 (Assign 2 expression.Whole 4 (name 1) 4)))
    4

abbrev span : (first end : ℕ) → Span
span first end = record { first = first; end = end }

abbrev m : declared.Module
m = record {
  name = 0;
  items = span 0 0;
  ports = 0;
  statements = span 0 7;
  expressions = span 0 5;
  terms = span 0 0;
  choices = span 0 0;
}

abbrev step : List ℕ → Option (List ℕ) → Step
step name in_module = record { name = name; place = 0; envelope = 0; in_module = in_module }

abbrev top : Node
top = record { path = step (codes "m") None ∷ []; kind = Module; width = 1; lowest = None; line = 1; definition = Some (codes "m") }

abbrev reg : (name : List ℕ) → ℕ → Option ℕ → Node
reg name width lowest = record {
  path = step (codes "m") None ∷ step name (Some (codes "m")) ∷ [];
  kind = Reg;
  width = width;
  lowest = lowest;
  line = 1;
  definition = None;
}

-- the regs stand in this order after the module
abbrev design : Elaborated
design = record {
  source = record {
    text = codes "maqb";
    tokens = word 0 ∷ word 1 ∷ word 2 ∷ word 3 ∷ [];
    modules = m ∷ [];
    connections = [];
    items = [];
    statements =
        statement.Empty
        ∷ statement.Assign 2 (selected_as.Bit 0) 1
        ∷ statement.Then 0 1
        ∷ statement.Null
        ∷ statement.Wait 4 3
        ∷ statement.Then 2 4
        ∷ statement.AnyEvent 5
        ∷ [];
    expressions =
        node.Name 3 selected_as.Whole
        ∷ node.Name 1 selected_as.Whole
        ∷ node.Name 1 selected_as.Whole
        ∷ node.Name 3 selected_as.Whole
        ∷ node.Binary And 9 2 3
        ∷ [];
    terms = [];
    choices = [];
  };
  tree = record {
    nodes = top ∷ reg (codes "a") 1 None ∷ reg (codes "q") 4 (Some 0) ∷ reg (codes "b") 1 None ∷ [];
    viewports = [];
    authors = [];
  };
}

-- it stands at the place of its event
stands : StatementStandsAt design.source m 6 star
stands = record {
  number = 0;
  one = refl;
  before = no_parts;
  following = no_parts;
  statements = refl;
  expressions = refl;
  terms = refl;
  choices = refl;
  there = refl;
  statements_from = omega arith;
  statements_to = omega arith;
  expressions_from = omega arith;
  expressions_to = omega arith;
}

abbrev slot : ℕ → Slot
slot number = record { 0 = number }

abbrev any : ℕ → change.Awaited
any number = record { edge = edge.Any; slot = slot number }

-- the index is read, and the right side, but not the target, nor what the wait waits for
reads_of_star : stmt_reads design (scope_of design m) star ≡ slot 3 ∷ slot 1 ∷ []
unfolding is_utf8 chars encode
reads_of_star = refl

awaits_of_star : stmt_awaits design (scope_of design m) star ≡ any 3 ∷ any 1 ∷ []
unfolding is_utf8 chars encode
awaits_of_star = refl

-- the wait itself waits for both names of its condition
awaits_of_wait : stmt_awaits design (scope_of design m) wait ≡ any 1 ∷ any 3 ∷ []
unfolding is_utf8 chars encode
awaits_of_wait = refl

-- and the lists have the same at their places
at_the_event : slice_index_or (awaits_of design (operands_of design)) 6 [] ≡ stmt_awaits design (scope_of design m) star
unfolding is_utf8 chars encode
at_the_event = refl

at_the_wait : slice_index_or (awaits_of design (operands_of design)) 4 [] ≡ stmt_awaits design (scope_of design m) wait
unfolding is_utf8 chars encode
at_the_wait = refl

-- the target is not read
target_not_read : stmt_reads design (scope_of design m) star ≡ slot 3 ∷ slot 1 ∷ slot 2 ∷ [] → ⊥
unfolding is_utf8 chars encode
target_not_read h = absurd cc

-- the statement of an item is read once, after the first of its labels
reads_of_a_case : stmt_reads design (scope_of design m) labelled ≡ slot 1 ∷ slot 3 ∷ slot 1 ∷ slot 2 ∷ []
unfolding is_utf8 chars encode
reads_of_a_case = refl
