-- The processes of small sources. Each row is an equation that holds by computation.
use Rattle.std.proofs.Common.{◌≡◌, ℕ, true, false, List, [], ◌∷◌, Option, Some, None, Result, Ok, Err, refl}
use Rattle.std.specs.Prelude.{codes}
use Rattle.std.specs.Fmt.{digits}
use Rattle.std.specs.Str.{chars, is_utf8}
use Rattle.std.specs.Char.{encode_utf8}
use Rattle.vp_lex.specs.declared.error.LexError.{LexError}
use Rattle.vp_lex.specs.declared.token.Token.{Token}
use Rattle.vp_lex.specs.Tokens.{tokens_of}
use Rattle.vp_source.specs.declared.expression.Expression.{Expression}
use Rattle.vp_source.specs.declared.expression.Expression.TheVariants as expression
use Rattle.vp_source.specs.declared.expression.Selection.TheVariants as selection_of
use Rattle.vp_source.specs.declared.operator.UnaryOperator.TheVariants as unary
use Rattle.vp_source.specs.declared.statement.Span.{Span}
use Rattle.vp_source.specs.declared.statement.Statement.{Statement}
use Rattle.vp_source.specs.declared.statement.Statement.TheVariants as statement
use Rattle.vp_source.specs.declared.source.Connection.{Connection}
use Rattle.vp_source.specs.declared.source.Direction.TheVariants as direction
use Rattle.vp_source.specs.declared.source.Source.{Source}
use Rattle.vp_source.specs.declared.source.Module.{Module}
use Rattle.vp_source.specs.declared.source.Item.{Item}
use Rattle.vp_source.specs.declared.source.Item.TheVariants as item
use Rattle.vp_elab.specs.Built.{Elaborated, design_of}
use Rattle.vp_elab.specs.Elaboration.{further_limit}
use Rattle.vp_expr.specs.Origins.{Assignment, Inward, Outward, Procedure, object_of, origins_of}

abbrev tokens_in : Result (List Token) LexError → List Token
tokens_in (Ok tokens) = tokens
tokens_in (Err e) = []

abbrev span : ℕ → ℕ → Span
span first end = record { first = first; end = end }

abbrev whole : ℕ → Expression
whole name = expression.Name name selection_of.Whole

abbrev connection : ℕ → Option ℕ → Option ℕ → Connection
connection place port value = record { place = place; port = port; value = value }

abbrev source : List ℕ → List Module → List Item → List Connection → List Statement → List Expression → Source
source text modules items connections statements expressions = record {
  text = text;
  tokens = tokens_in (tokens_of text);
  modules = modules;
  items = items;
  connections = connections;
  statements = statements;
  expressions = expressions;
  terms = [];
  choices = [];
}

-- the design of a source in the open text
abbrev open_design : Source → Elaborated
open_design s = design_of s (record { envelopes = []; viewports = [] })

-- two inverters in a row, with these connections, two of each
abbrev inverters : List Connection → Elaborated
inverters connections =
    open_design (source (codes "module inv(input wire a, output wire y);\n  assign y = ~a;\nendmodule\nmodule top;\n  reg r;\n  wire y1, y2;\n  localparam W = 4'd9;\n  inv u(.a(r), .y(y1)), v(.a(y1), .y(y2));\n  initial r = 1'b1;\nendmodule\n")
    (record { name = 1; items = span 0 3; ports = 2; statements = span 0 0; expressions = span 0 2; terms = span 0 0; choices = span 0 0 }
    ∷ record { name = 20; items = span 3 10; ports = 3; statements = span 0 1; expressions = span 2 8; terms = span 0 0; choices = span 0 0 } ∷ [])
    (item.Port 5 direction.Input None ∷ item.Port 9 direction.Output None ∷ item.Assignment 13 1
    ∷ item.Reg 23 None ∷ item.Net 26 None ∷ item.Net 28 None ∷ item.LocalParameter 31 2
    ∷ item.Instance 37 36 0 2 ∷ item.Instance 52 36 2 4 ∷ item.Initial 67 0 ∷ [])
    connections
    (statement.Assign 68 selection_of.Whole 7 ∷ [])
    (whole 16 ∷ expression.Unary unary.Negation 15 0 ∷ expression.Literal 33 4 34 ∷ whole 42 ∷ whole 48 ∷ whole 57 ∷ whole 63
    ∷ expression.Literal 70 1 71 ∷ []))

-- an instance with an output, inside an instance with an input
abbrev nested : Elaborated
nested =
    open_design (source (codes "module leaf(output wire y);\nendmodule\nmodule mid(input wire b);\n  wire w;\n  leaf l(.y(w));\nendmodule\nmodule top;\n  reg r;\n  mid m(.b(r));\nendmodule\n")
    (record { name = 1; items = span 0 1; ports = 1; statements = span 0 0; expressions = span 0 0; terms = span 0 0; choices = span 0 0 }
    ∷ record { name = 10; items = span 1 4; ports = 2; statements = span 0 0; expressions = span 0 1; terms = span 0 0; choices = span 0 0 }
    ∷ record { name = 32; items = span 4 6; ports = 4; statements = span 0 0; expressions = span 1 2; terms = span 0 0; choices = span 0 0 } ∷ [])
    (item.Port 5 direction.Output None
    ∷ item.Port 14 direction.Input None ∷ item.Net 18 None ∷ item.Instance 21 20 0 1
    ∷ item.Reg 35 None ∷ item.Instance 38 37 1 2 ∷ [])
    (connection 26 (Some 24) (Some 0) ∷ connection 43 (Some 41) (Some 1) ∷ [])
    [] (whole 26 ∷ whole 43 ∷ []))

-- a procedure before an instance
abbrev procedure_first : Elaborated
procedure_first =
    open_design (source (codes "module leaf(input wire a);\nendmodule\nmodule top;\n  reg r;\n  initial r = 1'b1;\n  leaf l(r);\nendmodule\n")
    (record { name = 1; items = span 0 1; ports = 1; statements = span 0 0; expressions = span 0 0; terms = span 0 0; choices = span 0 0 }
    ∷ record { name = 10; items = span 1 4; ports = 1; statements = span 0 1; expressions = span 0 2; terms = span 0 0; choices = span 0 0 } ∷ [])
    (item.Port 5 direction.Input None ∷ item.Reg 13 None ∷ item.Initial 15 0 ∷ item.Instance 22 21 0 1 ∷ [])
    (connection 24 None (Some 1) ∷ [])
    (statement.Assign 16 selection_of.Whole 0 ∷ [])
    (expression.Literal 18 1 19 ∷ whole 24 ∷ []))

-- of each instance the connections inwards and outwards, before its assignment; then the procedure
processes_of_inverters :
    origins_of (inverters (connection 42 (Some 40) (Some 3) ∷ connection 48 (Some 46) (Some 4) ∷ connection 57 (Some 55) (Some 5) ∷ connection 63 (Some 61) (Some 6) ∷ []))
    ≡ Inward (object_of 6) (object_of 0) 3
    ∷ Outward (object_of 7) (object_of 2)
    ∷ Assignment (object_of 8) (object_of 5) (object_of 7) 1
    ∷ Inward (object_of 10) (object_of 0) 5
    ∷ Outward (object_of 11) (object_of 3)
    ∷ Assignment (object_of 12) (object_of 9) (object_of 11) 1
    ∷ Procedure (object_of 13) (object_of 0) false 0
    ∷ []
unfolding digits is_utf8 chars encode_utf8 further_limit
processes_of_inverters = refl

-- the connections of the first by their positions, with the output left open; those of the second by names, in the other order, which
-- does not matter
processes_of_other_connections :
    origins_of (inverters (connection 42 None (Some 3) ∷ connection 48 None None ∷ connection 63 (Some 61) (Some 6) ∷ connection 57 (Some 55) (Some 5) ∷ []))
    ≡ Inward (object_of 6) (object_of 0) 3
    ∷ Assignment (object_of 8) (object_of 5) (object_of 7) 1
    ∷ Inward (object_of 10) (object_of 0) 5
    ∷ Outward (object_of 11) (object_of 3)
    ∷ Assignment (object_of 12) (object_of 9) (object_of 11) 1
    ∷ Procedure (object_of 13) (object_of 0) false 0
    ∷ []
unfolding digits is_utf8 chars encode_utf8 further_limit
processes_of_other_connections = refl

-- the port of the outer instance gets a reg outside; the net of the outer instance gets the port of the inner one
processes_of_nested :
    origins_of nested
    ≡ Inward (object_of 3) (object_of 0) 1
    ∷ Outward (object_of 6) (object_of 4)
    ∷ []
unfolding digits is_utf8 chars encode_utf8 further_limit
processes_of_nested = refl

-- in the order of the text
processes_of_procedure_first :
    origins_of procedure_first
    ≡ Procedure (object_of 2) (object_of 0) false 0
    ∷ Inward (object_of 4) (object_of 0) 1
    ∷ []
unfolding digits is_utf8 chars encode_utf8 further_limit
processes_of_procedure_first = refl

-- an initial before an always
abbrev procedures : Elaborated
procedures =
    open_design (source (codes "module m;\n  reg r;\n  initial r = 1'b1;\n  always #5 r = ~r;\nendmodule\n")
    (record { name = 1; items = span 0 3; ports = 0; statements = span 0 3; expressions = span 0 3; terms = span 0 0; choices = span 0 0 } ∷ [])
    (item.Reg 4 None ∷ item.Initial 6 0 ∷ item.Always 12 2 ∷ [])
    []
    (statement.Assign 7 selection_of.Whole 0 ∷ statement.Assign 15 selection_of.Whole 2 ∷ statement.Delay 5 1 ∷ [])
    (expression.Literal 9 1 10 ∷ whole 18 ∷ expression.Unary unary.Negation 17 1 ∷ []))

-- only the always begins again
processes_of_procedures :
    origins_of procedures
    ≡ Procedure (object_of 2) (object_of 0) false 0
    ∷ Procedure (object_of 3) (object_of 0) true 2
    ∷ []
unfolding digits is_utf8 chars encode_utf8 further_limit
processes_of_procedures = refl
