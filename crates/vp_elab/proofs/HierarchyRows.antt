-- The tree of small texts, computed from their bytes. Each row is an equation that holds by computation.
use Rattle.std.proofs.Common.{◌≡◌, ℕ, suc, List, [], ◌∷◌, Option, Some, None, Result, Ok, Err, refl}
use Rattle.std.specs.Prelude.{codes, map, option_map}
use Rattle.std.specs.Fmt.{digits}
use Rattle.std.specs.Str.{chars, is_utf8}
use Rattle.std.specs.Char.{encode_utf8}
use Rattle.vp_lex.specs.declared.error.LexError.{LexError}
use Rattle.vp_lex.specs.declared.token.Token.{Token}
use Rattle.vp_lex.specs.Tokens.{tokens_of}
use Rattle.vp_source.specs.declared.expression.Expression.{Expression}
use Rattle.vp_source.specs.declared.expression.Expression.TheVariants as expression
use Rattle.vp_source.specs.declared.expression.Selection.TheVariants as selection_of
use Rattle.vp_source.specs.declared.operator.UnaryOperator.TheVariants as unary
use Rattle.vp_source.specs.declared.statement.Edge.TheVariants as edge
use Rattle.vp_source.specs.declared.statement.Span.{Span}
use Rattle.vp_source.specs.declared.statement.Statement.TheVariants as statement
use Rattle.vp_source.specs.declared.source.Connection.{Connection}
use Rattle.vp_source.specs.declared.source.Direction.TheVariants as direction
use Rattle.vp_source.specs.declared.source.Source.{Source}
use Rattle.vp_source.specs.declared.source.Module.{Module}
use Rattle.vp_source.specs.declared.source.Item.{Item}
use Rattle.vp_source.specs.declared.source.Item.TheVariants as item
use Rattle.vp_elab.specs.declared.object.Kind.{Kind}
use Rattle.vp_elab.specs.declared.object.Kind.TheVariants as kind
use Rattle.vp_elab.specs.Tree.{Step, Node, children_of, full_name_at, kind_of_name, type_name}
use Rattle.vp_elab.specs.declared.object.Object.{Object}
use Rattle.vp_elab.specs.declared.object.ObjectId.{ObjectId}
use Rattle.vp_elab.specs.Objects.{objects_within}
use Rattle.vp_elab.specs.Refusals.{refusal_of}
use Rattle.vp_elab.specs.Sizes.{slots_in}
use Rattle.vp_elab.specs.Elaboration.{further_limit, nodes_of, tree_of}

abbrev tokens_in : Result (List Token) LexError → List Token
tokens_in (Ok tokens) = tokens
tokens_in (Err e) = []

abbrev span : ℕ → ℕ → Span
span first end = record { first = first; end = end }

abbrev source : List ℕ → List Module → List Item → List Connection → List Expression → Source
source text modules items connections expressions = record {
  text = text;
  tokens = tokens_in (tokens_of text);
  modules = modules;
  items = items;
  connections = connections;
  statements = [];
  expressions = expressions;
  terms = [];
  choices = [];
}

abbrev whole : ℕ → Expression
whole name = expression.Name name selection_of.Whole

-- two inverters in a row
abbrev inverters : Source
inverters =
    let parts : Source = source (codes "module inv(input wire a, output wire y);\n  assign y = ~a;\nendmodule\nmodule top;\n  reg r;\n  wire y1, y2;\n  localparam W = 4'd9;\n  inv u(.a(r), .y(y1)), v(.a(y1), .y(y2));\n  initial r = 1'b1;\nendmodule\n")
    (record { name = 1; items = span 0 3; ports = 2; statements = span 0 0; expressions = span 0 2; terms = span 0 0; choices = span 0 0 }
    ∷ record { name = 20; items = span 3 10; ports = 3; statements = span 0 1; expressions = span 2 8; terms = span 0 0; choices = span 0 0 } ∷ [])
    (item.Port 5 direction.Input None ∷ item.Port 9 direction.Output None ∷ item.Assignment 13 1
    ∷ item.Reg 23 None ∷ item.Net 26 None ∷ item.Net 28 None ∷ item.LocalParameter 31 2
    ∷ item.Instance 37 36 0 2 ∷ item.Instance 52 36 2 4 ∷ item.Initial 67 0 ∷ [])
    (record { place = 42; port = Some 40; value = Some 3 } ∷ record { place = 48; port = Some 46; value = Some 4 }
    ∷ record { place = 57; port = Some 55; value = Some 5 } ∷ record { place = 63; port = Some 61; value = Some 6 } ∷ [])
    (whole 16 ∷ expression.Unary unary.Negation 15 0 ∷ expression.Literal 33 4 34 ∷ whole 42 ∷ whole 48 ∷ whole 57 ∷ whole 63
    ∷ expression.Literal 70 1 71 ∷ []) in
    record parts { statements = statement.Assign 68 selection_of.Whole 7 ∷ [] }

-- a node's names, from the top, with its kind, its width and its line
pub record Row : Type 0 where
  pub names : List (List ℕ)
  pub kind : Kind
  pub width : ℕ
  pub line : ℕ

abbrev row_of : Node → Row
row_of n = record { names = map (λ (s : Step). s.name) n.path; kind = n.kind; width = n.width; line = n.line }

abbrev row : List (List ℕ) → Kind → ℕ → ℕ → Row
row names k width line = record { names = names; kind = k; width = width; line = line }

abbrev top_u : List (List ℕ) → List (List ℕ)
top_u names = codes "top" ∷ codes "u" ∷ names

abbrev top_v : List (List ℕ) → List (List ℕ)
top_v names = codes "top" ∷ codes "v" ∷ names

-- its objects: those of the module stand below each of its instances
nodes_of_inverters :
    map row_of (nodes_of inverters [])
    ≡ row (codes "top" ∷ []) kind.Module 1 4
    ∷ row (codes "top" ∷ codes "r" ∷ []) kind.Reg 1 5
    ∷ row (codes "top" ∷ codes "y1" ∷ []) kind.Net 1 6
    ∷ row (codes "top" ∷ codes "y2" ∷ []) kind.Net 1 6
    ∷ row (codes "top" ∷ codes "W" ∷ []) kind.Parameter 4 7
    ∷ row (top_u []) kind.Module 1 8
    ∷ row (top_u (codes "a" ∷ [])) kind.Net 1 1
    ∷ row (top_u (codes "y" ∷ [])) kind.Net 1 1
    ∷ row (top_u (codes "assign@2:10" ∷ [])) kind.Assign 1 2
    ∷ row (top_v []) kind.Module 1 8
    ∷ row (top_v (codes "a" ∷ [])) kind.Net 1 1
    ∷ row (top_v (codes "y" ∷ [])) kind.Net 1 1
    ∷ row (top_v (codes "assign@2:10" ∷ [])) kind.Assign 1 2
    ∷ row (codes "top" ∷ codes "initial@9:3" ∷ []) kind.Initial 1 9
    ∷ []
unfolding digits is_utf8 chars encode_utf8 further_limit
nodes_of_inverters = refl

-- how far the items stand after the object of their module: what stands after an instance stands after its items
slots_of_inverters :
    map (slots_in inverters) inverters.modules
    ≡ (1 ∷ 2 ∷ 3 ∷ [])
    ∷ (1 ∷ 2 ∷ 3 ∷ 4 ∷ 5 ∷ 9 ∷ 13 ∷ [])
    ∷ []
unfolding digits is_utf8 chars encode_utf8 further_limit
slots_of_inverters = refl

-- their parents, their indexes among the items of their modules, and the numbers of their own modules
parents_of_inverters :
    map {B = Option ℕ × ℕ × Option ℕ} (λ (o : Object). (option_map (λ (p : ObjectId). p.0) o.parent, o.index, o.scope)) (objects_within inverters [] (suc further_limit) 0 0 inverters.modules)
    ≡ (None, 0, Some 1)
    ∷ (Some 0, 0, None)
    ∷ (Some 0, 1, None)
    ∷ (Some 0, 2, None)
    ∷ (Some 0, 3, None)
    ∷ (Some 0, 4, Some 0)
    ∷ (Some 5, 0, None)
    ∷ (Some 5, 1, None)
    ∷ (Some 5, 2, None)
    ∷ (Some 0, 5, Some 0)
    ∷ (Some 9, 0, None)
    ∷ (Some 9, 1, None)
    ∷ (Some 9, 2, None)
    ∷ (Some 0, 6, None)
    ∷ []
unfolding digits is_utf8 chars encode_utf8 further_limit
parents_of_inverters = refl

-- what is declared in no scope, in the top module, in each of its instances, in a reg, and after the last object
children_of_inverters :
    map (children_of (nodes_of inverters [])) (None ∷ Some 0 ∷ Some 5 ∷ Some 9 ∷ Some 1 ∷ Some 14 ∷ [])
    ≡ (0 ∷ [])
    ∷ (1 ∷ 2 ∷ 3 ∷ 4 ∷ 5 ∷ 9 ∷ 13 ∷ [])
    ∷ (6 ∷ 7 ∷ 8 ∷ [])
    ∷ (10 ∷ 11 ∷ 12 ∷ [])
    ∷ []
    ∷ []
    ∷ []
unfolding digits is_utf8 chars encode_utf8 further_limit
children_of_inverters = refl

-- it has a design
accepted_inverters : refusal_of inverters (record { envelopes = []; viewports = [] }) ≡ None
unfolding digits is_utf8 chars encode_utf8 further_limit
accepted_inverters = refl

-- a reg, an initial, and an always after it
abbrev procedures : Source
procedures =
    let parts : Source = source (codes "module m;\n  reg r;\n  initial r = 1'b1;\n  always @(posedge r) ;\nendmodule\n")
    (record {
      name = 1;
      items = span 0 3;
      ports = 0;
      statements = span 0 3;
      expressions = span 0 1;
      terms = span 0 1;
      choices = span 0 0;
    } ∷ [])
    (item.Reg 4 None ∷ item.Initial 6 0 ∷ item.Always 12 2 ∷ []) [] (expression.Literal 9 1 10 ∷ []) in
    record parts {
      statements = statement.Assign 7 selection_of.Whole 0 ∷ statement.Null ∷ statement.Event (span 0 1) 1 ∷ [];
      terms = record { edge = edge.Posedge; name = 16 } ∷ [];
    }

-- the always is named as the initial is, by its keyword, its line and its column
nodes_of_procedures :
    map row_of (nodes_of procedures [])
    ≡ row (codes "m" ∷ []) kind.Module 1 1
    ∷ row (codes "m" ∷ codes "r" ∷ []) kind.Reg 1 2
    ∷ row (codes "m" ∷ codes "initial@3:3" ∷ []) kind.Initial 1 3
    ∷ row (codes "m" ∷ codes "always@4:3" ∷ []) kind.Always 1 4
    ∷ []
unfolding digits is_utf8 chars encode_utf8 further_limit
nodes_of_procedures = refl

-- it has a design
accepted_procedures : refusal_of procedures (record { envelopes = []; viewports = [] }) ≡ None
unfolding digits is_utf8 chars encode_utf8 further_limit
accepted_procedures = refl

-- ---- the names of kinds

-- a continuous assignment is a vpiContAssign, and a localparam a vpiParameter
type_names : map type_name (kind.Assign ∷ kind.Parameter ∷ []) ≡ codes "vpiContAssign" ∷ codes "vpiParameter" ∷ []
type_names = refl

-- a kind is named by its word, and by no other text
kinds_named :
    map kind_of_name (codes "assign" ∷ codes "module" ∷ codes "vpiModule" ∷ codes "wire" ∷ [] ∷ [])
    ≡ Some kind.Assign ∷ Some kind.Module ∷ None ∷ None ∷ None ∷ []
kinds_named = refl

-- ---- full names

-- the full names of the top module, of one of its instances, of that instance's net, and after the last object
full_names_of_inverters :
    map (full_name_at (tree_of inverters (record { envelopes = []; viewports = [] }))) (0 ∷ 5 ∷ 7 ∷ 14 ∷ [])
    ≡ codes "top"
    ∷ codes "top.u"
    ∷ codes "top.u.y"
    ∷ []
    ∷ []
unfolding digits is_utf8 chars encode_utf8 further_limit
full_names_of_inverters = refl
