-- What statements do, read and wait for, at rows that are worked out by hand.
use Rattle.std.proofs.Common.{◌≡◌, ℕ, ◌+◌, false, List, [], ◌∷◌, Option, Some, None, refl}
use Rattle.std.specs.Prelude.{codes}
use Rattle.std.specs.Str.{chars, is_utf8}
use Rattle.std.proofs.Math.Utf8.{encode}
use Rattle.vp_lex.specs.declared.token.Token.{Token}
use Rattle.vp_lex.specs.declared.token.TokenKind.TheVariants as token
use Rattle.vp_source.specs.declared.expression.Expression.TheVariants as node
use Rattle.vp_source.specs.declared.expression.Selection.TheVariants as selected_as
use Rattle.vp_source.specs.declared.operator.BinaryOperator.TheVariants as between
use Rattle.vp_source.specs.declared.statement.Choice.{Choice}
use Rattle.vp_source.specs.declared.statement.Edge.{Edge}
use Rattle.vp_source.specs.declared.statement.Edge.TheVariants as edge
use Rattle.vp_source.specs.declared.statement.EventTerm.{EventTerm}
use Rattle.vp_source.specs.declared.statement.Span.{Span}
use Rattle.vp_source.specs.declared.statement.Statement.TheVariants as statement
use Rattle.vp_source.specs.declared.source.Module as declared
use Rattle.vp_source.specs.declared.source.Source.{Source}
use Rattle.vp_elab.specs.declared.object.Kind.TheVariants.{Module, Reg}
use Rattle.vp_elab.specs.Built.{Elaborated}
use Rattle.vp_elab.specs.Tree.{Node, Step}
use Rattle.vp_expr.specs.declared.awaited.Awaited.{Awaited}
use Rattle.vp_operand.specs.declared.operand.Operand.{Operand}
use Rattle.vp_operand.specs.declared.operand.Operand.TheVariants as operand
use Rattle.vp_operand.specs.declared.operand.Slot.{Slot}
use Rattle.vp_expr.specs.declared.tables.Action.TheVariants as action
use Rattle.vp_expr.specs.declared.tables.Target.TheVariants as target
use Rattle.vp_expr.specs.Awaits.{awaits_of, cut_at, laid_of, reads_from, reads_in}
use Rattle.vp_resolve.specs.Checks.{bad_target, wide_target}
use Rattle.vp_operand.specs.Ids.{Sized}
use Rattle.vp_expr.specs.Tables.{actions_of}
use Rattle.vp_resolve.specs.Operands.{operands_of}

-- a word of one letter
abbrev word : ℕ → Token
word place = record { kind = token.Name; start = place; end = place + 1; line = 1; column = place + 1; directive = false }

abbrev span : (first end : ℕ) → Span
span first end = record { first = first; end = end }

abbrev slot : ℕ → Slot
slot number = record { 0 = number }

abbrev sized : (place size : ℕ) → Sized
sized place size = record { place = place; size = size }

abbrev term : Edge → (name : ℕ) → EventTerm
term e name = record { edge = e; name = name }

abbrev choice : (label : Option ℕ) → (body : ℕ) → Choice
choice label body = record { label = label; body = body }

abbrev change : Edge → ℕ → Awaited
change e number = record { edge = e; slot = slot number }

-- ---- module m, with reg c; reg a; reg [3:0] q; reg [1:0] d; reg b; reg y; reg s
--      always @(posedge c or a) q <= #2 d;
--      always @* if (s) y = a; else y = b;
--      initial wait (a & b) ;
--      initial case (s) 2'd0, 3'd1: ; default: ; endcase

abbrev m : declared.Module
m = record {
  name = 0;
  items = span 0 0;
  ports = 0;
  statements = span 0 11;
  expressions = span 0 10;
  terms = span 0 2;
  choices = span 0 3;
}

abbrev step : List ℕ → Option (List ℕ) → Step
step name in_module = record { name = name; place = 0; envelope = 0; in_module = in_module }

abbrev top : Node
top = record { path = step (codes "m") None ∷ []; kind = Module; width = 1; lowest = None; line = 1; definition = Some (codes "m") }

abbrev reg : (name : List ℕ) → ℕ → Option ℕ → Node
reg name width lowest = record {
  path = step (codes "m") None ∷ step name (Some (codes "m")) ∷ [];
  kind = Reg;
  width = width;
  lowest = lowest;
  line = 1;
  definition = None;
}

-- the words m, c, a, q, d, b, y and s have the places 0 to 7, and the regs stand in this order
abbrev design : Elaborated
design = record {
  source = record {
    text = codes "mcaqdbys";
    tokens = word 0 ∷ word 1 ∷ word 2 ∷ word 3 ∷ word 4 ∷ word 5 ∷ word 6 ∷ word 7 ∷ [];
    modules = m ∷ [];
    connections = [];
    items = [];
    statements =
        statement.Nonblocking 3 selected_as.Whole 0 (Some 2)
        ∷ statement.Event (span 0 2) 0
        ∷ statement.Assign 6 selected_as.Whole 2
        ∷ statement.Assign 6 selected_as.Whole 3
        ∷ statement.If 1 2 (Some 3)
        ∷ statement.AnyEvent 4
        ∷ statement.Null
        ∷ statement.Wait 6 6
        ∷ statement.Null
        ∷ statement.Null
        ∷ statement.Case false 7 (span 0 3)
        ∷ [];
    expressions =
        node.Name 4 selected_as.Whole
        ∷ node.Name 7 selected_as.Whole
        ∷ node.Name 2 selected_as.Whole
        ∷ node.Name 5 selected_as.Whole
        ∷ node.Name 2 selected_as.Whole
        ∷ node.Name 5 selected_as.Whole
        ∷ node.Binary between.And 0 4 5
        ∷ node.Name 7 selected_as.Whole
        ∷ node.Literal 0 2 0
        ∷ node.Literal 0 3 0
        ∷ [];
    terms = term edge.Posedge 1 ∷ term edge.Any 2 ∷ [];
    choices = choice (Some 8) 8 ∷ choice (Some 9) 8 ∷ choice None 9 ∷ [];
  };
  tree = record {
    nodes =
        top
        ∷ reg (codes "c") 1 None
        ∷ reg (codes "a") 1 None
        ∷ reg (codes "q") 4 (Some 0)
        ∷ reg (codes "d") 2 (Some 0)
        ∷ reg (codes "b") 1 None
        ∷ reg (codes "y") 1 None
        ∷ reg (codes "s") 1 None
        ∷ [];
    viewports = [];
    authors = [];
  };
}

-- d has the width of q, and the selector the size of 3'd1
actions :
    actions_of design (2 ∷ 1 ∷ 1 ∷ 1 ∷ 1 ∷ 1 ∷ 1 ∷ 1 ∷ 2 ∷ 3 ∷ [])
    ≡ action.Nonblocking (target.Whole (slot 3) 4) (sized 0 4) (Some 2)
    ∷ action.Event 0
    ∷ action.Assign (target.Whole (slot 6) 1) (sized 2 1)
    ∷ action.Assign (target.Whole (slot 6) 1) (sized 3 1)
    ∷ action.If (sized 1 1) 2 (Some 3)
    ∷ action.Event 4
    ∷ action.Null
    ∷ action.Wait (sized 6 1) 6
    ∷ action.Null
    ∷ action.Null
    ∷ action.Case false (sized 7 3) (span 0 3)
    ∷ []
unfolding is_utf8 chars encode
actions = refl

abbrev awaits : List (List Awaited)
awaits =
    []
    ∷ (change edge.Posedge 1 ∷ change edge.Any 2 ∷ [])
    ∷ []
    ∷ []
    ∷ []
    ∷ (change edge.Any 7 ∷ change edge.Any 2 ∷ change edge.Any 5 ∷ [])
    ∷ []
    ∷ (change edge.Any 2 ∷ change edge.Any 5 ∷ [])
    ∷ []
    ∷ []
    ∷ []
    ∷ []

awaited : awaits_of design (operands_of design) ≡ awaits
unfolding is_utf8 chars encode
awaited = refl

ends : (laid_of awaits).1 ≡ 0 ∷ 2 ∷ 2 ∷ 2 ∷ 2 ∷ 5 ∷ 5 ∷ 7 ∷ 7 ∷ 7 ∷ 7 ∷ []
ends = refl

cut_out : cut_at (laid_of awaits).0 (laid_of awaits).1 7 ≡ change edge.Any 2 ∷ change edge.Any 5 ∷ []
cut_out = refl

none_after_the_end : cut_at (laid_of awaits).0 (laid_of awaits).1 11 ≡ []
none_after_the_end = refl

-- ---- what statements read: begin wait (7) 6 = 2; case (1) 5, 3: 6 = 4; default: ; endcase end, by slots

abbrev operands : List Operand
operands =
    operand.Object (slot 7) 1
    ∷ operand.Object (slot 2) 1
    ∷ operand.Object (slot 1) 1
    ∷ operand.Object (slot 5) 1
    ∷ operand.Object (slot 3) 4
    ∷ operand.Object (slot 4) 2
    ∷ []

abbrev source : Source
source = record {
  text = [];
  tokens = [];
  modules = [];
  connections = [];
  items = [];
  statements = [];
  expressions = [];
  terms = [];
  choices = choice (Some 3) 4 ∷ choice (Some 4) 4 ∷ choice None 5 ∷ [];
}

-- the last statement first; not 7, for which it waits; the body of two labels once
block_reads :
    reads_in source operands
    (statement.Empty
    ∷ statement.Assign 6 selected_as.Whole 1
    ∷ statement.Wait 0 1
    ∷ statement.Then 0 2
    ∷ statement.Assign 6 selected_as.Whole 5
    ∷ statement.Null
    ∷ statement.Case false 2 (span 0 3)
    ∷ statement.Then 3 6
    ∷ [])
    ≡ []
    ∷ (slot 2 ∷ [])
    ∷ (slot 2 ∷ [])
    ∷ (slot 2 ∷ [])
    ∷ (slot 4 ∷ [])
    ∷ []
    ∷ (slot 1 ∷ slot 5 ∷ slot 4 ∷ slot 3 ∷ [])
    ∷ (slot 1 ∷ slot 5 ∷ slot 4 ∷ slot 3 ∷ slot 2 ∷ [])
    ∷ []
block_reads = refl

-- 3[5] <= 1
index_of_a_target_is_read : reads_from source operands [] (statement.Nonblocking 9 (selected_as.Bit 3) 2 None) ≡ slot 5 ∷ slot 1 ∷ []
index_of_a_target_is_read = refl

-- ---- targets of nonblocking assignments, of which the reg c is a scalar

wide_part : wide_target (statement.Nonblocking 3 (selected_as.Part (record { msb = 64; lsb = 0 })) 0 None) ≡ Some 3
wide_part = refl

bit_of_a_scalar : bad_target design (Some 0) (statement.Nonblocking 1 (selected_as.Bit 0) 0 None) ≡ Some 1
unfolding is_utf8 chars encode
bit_of_a_scalar = refl
