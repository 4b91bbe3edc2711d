-- Refusals of small texts, computed from their bytes. Each row is an equation that holds by computation.
use Rattle.std.proofs.Common.{◌≡◌, ℕ, true, false, map, List, [], ◌∷◌, length, Some, None, Result, Ok, Err, refl}
use Rattle.std.specs.Prelude.{codes}
use Rattle.std.specs.Fmt.{digits}
use Rattle.std.specs.Str.{chars, is_utf8}
use Rattle.std.specs.Char.{encode_utf8}
use Rattle.vp_lex.specs.declared.error.LexError.{LexError}
use Rattle.vp_lex.specs.declared.token.Token.{Token}
use Rattle.vp_lex.specs.Tokens.{tokens_of}
use Rattle.vp_source.specs.declared.expression.Expression.{Expression}
use Rattle.vp_source.specs.declared.expression.Expression.TheVariants as expression
use Rattle.vp_source.specs.declared.expression.Selection.TheVariants as selection_of
use Rattle.vp_source.specs.declared.operator.UnaryOperator.TheVariants as unary
use Rattle.vp_source.specs.declared.statement.Edge.TheVariants as edge
use Rattle.vp_source.specs.declared.statement.EventTerm.{EventTerm}
use Rattle.vp_source.specs.declared.statement.Span.{Span}
use Rattle.vp_source.specs.declared.statement.Statement.{Statement}
use Rattle.vp_source.specs.declared.statement.Statement.TheVariants as statement
use Rattle.vp_source.specs.declared.source.Connection.{Connection}
use Rattle.vp_source.specs.declared.source.Direction.TheVariants as direction
use Rattle.vp_source.specs.declared.source.Source.{Source}
use Rattle.vp_source.specs.declared.source.Module.{Module}
use Rattle.vp_source.specs.declared.source.Item.{Item}
use Rattle.vp_source.specs.declared.source.Item.TheVariants as item
use Rattle.vp_modules.specs.declared.error.ElabError.TheVariants.{Duplicate, UnknownModule, Recursive, Undeclared, BadTarget, BadConnection, MultipleDrivers}
use Rattle.vp_modules.specs.Items.{definition_number, is_top}
use Rattle.vp_modules.specs.ModuleRefusals.{recursive, refusal_of}

abbrev tokens_in : Result (List Token) LexError → List Token
tokens_in (Ok tokens) = tokens
tokens_in (Err e) = []

abbrev span : ℕ → ℕ → Span
span first end = record { first = first; end = end }

-- a module with its name, its items, where its ports end, and its expressions; no statements, and so no parts of these
abbrev module_of : ℕ → Span → ℕ → Span → Module
module_of name items ports expressions = record { name = name; items = items; ports = ports; statements = span 0 0; expressions = expressions; terms = span 0 0; choices = span 0 0 }

abbrev source : List ℕ → List Module → List Item → List Connection → List Expression → Source
source text modules items connections expressions = record {
  text = text;
  tokens = tokens_in (tokens_of text);
  modules = modules;
  items = items;
  connections = connections;
  statements = [];
  expressions = expressions;
  terms = [];
  choices = [];
}

abbrev whole : ℕ → Expression
whole name = expression.Name name selection_of.Whole

-- the two assignments of a net
assigned_twice :
    refusal_of (source (codes "module m; wire w;\nassign w = 0;\nassign w = 1;\nendmodule\n")
    (module_of 1 (span 0 3) 0 (span 0 2) ∷ [])
    (item.Net 4 None ∷ item.Assignment 7 0 ∷ item.Assignment 12 1 ∷ []) [] (expression.Number 9 0 ∷ expression.Number 14 1 ∷ []))
    ≡ Some (MultipleDrivers 3)
unfolding digits is_utf8 chars encode_utf8
assigned_twice = refl

-- two outputs that are connected to one net
driven_through_two_ports :
    refusal_of (source (codes "module n(output y); endmodule module m; wire w; n x(w), z(\nw); endmodule")
    (module_of 1 (span 0 1) 1 (span 0 0) ∷ module_of 9 (span 1 4) 1 (span 0 2) ∷ [])
    (item.Port 4 direction.Output None ∷ item.Net 12 None ∷ item.Instance 15 14 0 1 ∷ item.Instance 20 14 1 2 ∷ [])
    (record { place = 17; port = None; value = Some 0 } ∷ record { place = 22; port = None; value = Some 1 } ∷ [])
    (whole 17 ∷ whole 22 ∷ []))
    ≡ Some (MultipleDrivers 2)
unfolding digits is_utf8 chars encode_utf8
driven_through_two_ports = refl

-- a module that instantiates itself
instantiates_itself :
    refusal_of (source (codes "module m;\nm x();\nendmodule") (module_of 1 (span 0 1) 0 (span 0 0) ∷ []) (item.Instance 4 3 0 0 ∷ []) [] [])
    ≡ Some (Recursive 1)
unfolding digits is_utf8 chars encode_utf8
instantiates_itself = refl

-- two modules that instantiate each other, after one that instantiates the second: the first of the two is reported
instantiate_each_other :
    refusal_of (source (codes "module t; b u(); endmodule\nmodule a; b u(); endmodule\nmodule b; a u(); endmodule")
    (module_of 1 (span 0 1) 0 (span 0 0) ∷ module_of 10 (span 1 2) 1 (span 0 0) ∷ module_of 19 (span 2 3) 2 (span 0 0) ∷ [])
    (item.Instance 4 3 0 0 ∷ item.Instance 13 12 0 0 ∷ item.Instance 22 21 0 0 ∷ []) [] [])
    ≡ Some (Recursive 2)
unfolding digits is_utf8 chars encode_utf8
instantiate_each_other = refl

-- a continuous assignment of a reg
reg_is_assigned :
    refusal_of (source (codes "module m; reg r;\nassign r = 0; endmodule") (module_of 1 (span 0 2) 0 (span 0 1) ∷ [])
    (item.Reg 4 None ∷ item.Assignment 7 0 ∷ []) [] (expression.Number 9 0 ∷ []))
    ≡ Some (BadTarget 2)
unfolding digits is_utf8 chars encode_utf8
reg_is_assigned = refl

-- a module that is nowhere
module_is_missing :
    refusal_of (source (codes "module m;\nn x(); endmodule") (module_of 1 (span 0 1) 0 (span 0 0) ∷ []) (item.Instance 4 3 0 0 ∷ []) [] [])
    ≡ Some (UnknownModule 2)
unfolding digits is_utf8 chars encode_utf8
module_is_missing = refl

-- a name that is declared twice
declared_twice :
    refusal_of (source (codes "module m; reg r,\nr; endmodule") (module_of 1 (span 0 2) 0 (span 0 0) ∷ []) (item.Reg 4 None ∷ item.Reg 6 None ∷ []) [] [])
    ≡ Some (Duplicate 2)
unfolding digits is_utf8 chars encode_utf8
declared_twice = refl

-- a text with one module of these items, after so many ports, statements, expressions and terms of events
abbrev procedural : List ℕ → ℕ → List Item → List Statement → List Expression → List EventTerm → Source
procedural text ports items statements expressions terms =
    let m : Module = record {
      name = 1;
      items = span 0 (length items);
      ports = ports;
      statements = span 0 (length statements);
      expressions = span 0 (length expressions);
      terms = span 0 (length terms);
      choices = span 0 0;
    } in
    let parts : Source = source text (m ∷ []) items [] expressions in
    record parts { statements = statements; terms = terms }

-- an event on a local parameter, which never changes
event_on_a_parameter :
    refusal_of (procedural (codes "module m; localparam p = 1'b0; always @(posedge\np) ; endmodule") 0
    (item.LocalParameter 4 0 ∷ item.Always 9 1 ∷ [])
    (statement.Null ∷ statement.Event (span 0 1) 0 ∷ []) (expression.Literal 6 1 7 ∷ [])
    (record { edge = edge.Posedge; name = 13 } ∷ []))
    ≡ Some (Undeclared 2)
unfolding digits is_utf8 chars encode_utf8
event_on_a_parameter = refl

-- an event on a port
event_on_a_port :
    refusal_of (procedural (codes "module m(input c); always @(c) ; endmodule") 1
    (item.Port 4 direction.Input None ∷ item.Always 7 1 ∷ [])
    (statement.Null ∷ statement.Event (span 0 1) 0 ∷ []) [] (record { edge = edge.Any; name = 10 } ∷ []))
    ≡ None
unfolding digits is_utf8 chars encode_utf8
event_on_a_port = refl

-- a nonblocking assignment to a net
net_is_assigned_later :
    refusal_of (procedural (codes "module m; wire a; initial\na <= 1; endmodule") 0
    (item.Net 4 None ∷ item.Initial 6 0 ∷ []) (statement.Nonblocking 7 selection_of.Whole 0 None ∷ [])
    (expression.Number 9 1 ∷ []) [])
    ≡ Some (BadTarget 2)
unfolding digits is_utf8 chars encode_utf8
net_is_assigned_later = refl

-- a nonblocking assignment to a name that is not declared
undeclared_is_assigned_later :
    refusal_of (procedural (codes "module m; always\na <= 1; endmodule") 0
    (item.Always 3 0 ∷ []) (statement.Nonblocking 4 selection_of.Whole 0 None ∷ []) (expression.Number 6 1 ∷ []) [])
    ≡ Some (Undeclared 2)
unfolding digits is_utf8 chars encode_utf8
undeclared_is_assigned_later = refl

-- a name that is not declared
not_declared :
    refusal_of (source (codes "module m; wire w; assign w =\nv; endmodule") (module_of 1 (span 0 2) 0 (span 0 1) ∷ [])
    (item.Net 4 None ∷ item.Assignment 7 0 ∷ []) [] (whole 9 ∷ []))
    ≡ Some (Undeclared 2)
unfolding digits is_utf8 chars encode_utf8
not_declared = refl

-- one position more than there are ports
position_too_many :
    refusal_of (source (codes "module n(input a); endmodule module m; reg r; n x(r,\nr); endmodule")
    (module_of 1 (span 0 1) 1 (span 0 0) ∷ module_of 9 (span 1 3) 1 (span 0 2) ∷ [])
    (item.Port 4 direction.Input None ∷ item.Reg 12 None ∷ item.Instance 15 14 0 2 ∷ [])
    (record { place = 17; port = None; value = Some 0 } ∷ record { place = 19; port = None; value = Some 1 } ∷ [])
    (whole 17 ∷ whole 19 ∷ []))
    ≡ Some (BadConnection 2)
unfolding digits is_utf8 chars encode_utf8
position_too_many = refl

-- an output that is connected to a net in parentheses: the expression begins before the name
net_in_parentheses :
    refusal_of (source (codes "module n(output y); endmodule module m; wire w; n x(.y(\n(w))); endmodule")
    (module_of 1 (span 0 1) 1 (span 0 0) ∷ module_of 9 (span 1 3) 1 (span 0 1) ∷ [])
    (item.Port 4 direction.Output None ∷ item.Net 12 None ∷ item.Instance 15 14 0 1 ∷ [])
    (record { place = 20; port = Some 18; value = Some 0 } ∷ [])
    (whole 21 ∷ []))
    ≡ Some (BadConnection 2)
unfolding digits is_utf8 chars encode_utf8
net_in_parentheses = refl

-- two inverters in a row
abbrev inverters : Source
inverters =
    let parts : Source = source (codes "module inv(input wire a, output wire y);\n  assign y = ~a;\nendmodule\nmodule top;\n  reg r;\n  wire y1, y2;\n  localparam W = 4'd9;\n  inv u(.a(r), .y(y1)), v(.a(y1), .y(y2));\n  initial r = 1'b1;\nendmodule\n")
    (record { name = 1; items = span 0 3; ports = 2; statements = span 0 0; expressions = span 0 2; terms = span 0 0; choices = span 0 0 }
    ∷ record { name = 20; items = span 3 10; ports = 3; statements = span 0 1; expressions = span 2 8; terms = span 0 0; choices = span 0 0 } ∷ [])
    (item.Port 5 direction.Input None ∷ item.Port 9 direction.Output None ∷ item.Assignment 13 1
    ∷ item.Reg 23 None ∷ item.Net 26 None ∷ item.Net 28 None ∷ item.LocalParameter 31 2
    ∷ item.Instance 37 36 0 2 ∷ item.Instance 52 36 2 4 ∷ item.Initial 67 0 ∷ [])
    (record { place = 42; port = Some 40; value = Some 3 } ∷ record { place = 48; port = Some 46; value = Some 4 }
    ∷ record { place = 57; port = Some 55; value = Some 5 } ∷ record { place = 63; port = Some 61; value = Some 6 } ∷ [])
    (whole 16 ∷ expression.Unary unary.Negation 15 0 ∷ expression.Literal 33 4 34 ∷ whole 42 ∷ whole 48 ∷ whole 57 ∷ whole 63
    ∷ expression.Literal 70 1 71 ∷ []) in
    record parts { statements = statement.Assign 68 selection_of.Whole 7 ∷ [] }

-- it has a design
inverters_have_a_design : refusal_of inverters ≡ None
unfolding digits is_utf8 chars encode_utf8
inverters_have_a_design = refl

-- each of its two instances is of the first module, and nothing else is an instance
inverters_instantiate_the_first :
    map (definition_number inverters) inverters.items ≡ None ∷ None ∷ None ∷ None ∷ None ∷ None ∷ None ∷ Some 0 ∷ Some 0 ∷ None ∷ []
unfolding digits is_utf8 chars encode_utf8
inverters_instantiate_the_first = refl

-- so the second alone is a top module
second_is_on_top : map (is_top inverters) inverters.modules ≡ false ∷ true ∷ []
unfolding digits is_utf8 chars encode_utf8
second_is_on_top = refl

-- two modules that instantiate each other, and one after them that stands alone
abbrev ring : Source
ring =
    source (codes "module a; b u(), v(); endmodule module b; a u(); endmodule module c; endmodule")
    (module_of 1 (span 0 2) 0 (span 0 0) ∷ module_of 14 (span 2 3) 2 (span 0 0) ∷ module_of 23 (span 3 3) 3 (span 0 0) ∷ [])
    (item.Instance 4 3 0 0 ∷ item.Instance 8 3 0 0 ∷ item.Instance 17 16 0 0 ∷ []) [] []

-- what each instance instantiates
ring_goes_round : map (definition_number ring) ring.items ≡ Some 1 ∷ Some 1 ∷ Some 0 ∷ []
unfolding digits is_utf8 chars encode_utf8
ring_goes_round = refl

-- only the one that stands alone is a top module
third_is_on_top : map (is_top ring) ring.modules ≡ false ∷ false ∷ true ∷ []
unfolding digits is_utf8 chars encode_utf8
third_is_on_top = refl

-- and it is not recursive, as the others are
first_two_are_recursive : map (recursive ring) ring.modules ≡ Some 1 ∷ Some 14 ∷ None ∷ []
unfolding digits is_utf8 chars encode_utf8
first_two_are_recursive = refl
