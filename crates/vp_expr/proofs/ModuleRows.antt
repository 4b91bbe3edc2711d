-- Names of two modules, each of which declares an a at another slot.
use Rattle.std.proofs.Common.{◌≡◌, ℕ, ◌+◌, false, List, [], ◌∷◌, Option, Some, None, refl, arith}
use Rattle.std.specs.Prelude.{codes}
use Rattle.std.specs.Str.{chars, is_utf8}
use Rattle.std.proofs.Math.Utf8.{encode}
use Rattle.vp_lex.specs.declared.token.Token.{Token}
use Rattle.vp_lex.specs.declared.token.TokenKind.TheVariants as token
use Rattle.vp_source.specs.declared.expression.Expression.TheVariants as node
use Rattle.vp_source.specs.declared.expression.Selection.TheVariants as selected_as
use Rattle.vp_source.specs.ExprGrammar.{Name, Whole}
use Rattle.vp_source.specs.declared.statement.Statement.TheVariants as statement
use Rattle.vp_source.specs.declared.source.Module as declared
use Rattle.vp_source.specs.Whole.{AreWhole}
use Rattle.vp_elab.specs.declared.object.Kind.TheVariants.{Module, Reg}
use Rattle.vp_elab.specs.Built.{Elaborated}
use Rattle.vp_elab.specs.Tree.{Node, Step}
use Rattle.vp_operand.specs.declared.operand.Operand.TheVariants as operand
use Rattle.vp_expr.specs.declared.tables.Action.TheVariants as action
use Rattle.vp_expr.specs.declared.tables.Target.TheVariants as target
use Rattle.vp_resolve.specs.Checks.{bits_named, counted_sizes}
use Rattle.vp_expr.specs.Derived.{StandsAt, expr_term}
use Rattle.vp_expr.specs.Tables.{actions_of}
use Rattle.vp_resolve.specs.Names.{scope_of}
use Rattle.vp_resolve.specs.Operands.{operands_of}
use Rattle.vp_operand.specs.Terms as term

-- a word of one letter
abbrev word : ℕ → Token
word place = record { kind = token.Name; start = place; end = place + 1; line = 1; column = place + 1; directive = false }

-- module m; reg b; reg [3:0] a; initial a = a; endmodule module n; reg [1:0] a; initial a = a; endmodule
abbrev m : declared.Module
m = record {
  name = 0;
  items = record { first = 0; end = 0 };
  ports = 0;
  statements = record { first = 0; end = 1 };
  expressions = record { first = 0; end = 1 };
  terms = record { first = 0; end = 0 };
  choices = record { first = 0; end = 0 };
}

abbrev n : declared.Module
n = record {
  name = 1;
  items = record { first = 0; end = 0 };
  ports = 0;
  statements = record { first = 1; end = 2 };
  expressions = record { first = 1; end = 2 };
  terms = record { first = 0; end = 0 };
  choices = record { first = 0; end = 0 };
}

abbrev step : List ℕ → Option (List ℕ) → Step
step name in_module = record { name = name; place = 0; envelope = 0; in_module = in_module }

-- the object of a top module
abbrev top : List ℕ → Node
top name = record { path = step name None ∷ []; kind = Module; width = 1; lowest = None; line = 1; definition = Some name }

-- a reg of a top module
abbrev reg : (in_module name : List ℕ) → ℕ → Option ℕ → Node
reg in_module name width lowest = record {
  path = step in_module None ∷ step name (Some in_module) ∷ [];
  kind = Reg;
  width = width;
  lowest = lowest;
  line = 1;
  definition = None;
}

-- the words m, n and a have the places 0, 1 and 2
abbrev two : Elaborated
two = record {
  source = record {
    text = codes "mna";
    tokens = word 0 ∷ word 1 ∷ word 2 ∷ [];
    modules = m ∷ n ∷ [];
    connections = [];
    items = [];
    statements = statement.Assign 2 selected_as.Whole 0 ∷ statement.Assign 2 selected_as.Whole 1 ∷ [];
    expressions = node.Name 2 selected_as.Whole ∷ node.Name 2 selected_as.Whole ∷ [];
    terms = [];
    choices = [];
  };
  tree = record {
    nodes =
        top (codes "m")
        ∷ reg (codes "m") (codes "b") 1 None
        ∷ reg (codes "m") (codes "a") 4 (Some 0)
        ∷ top (codes "n")
        ∷ reg (codes "n") (codes "a") 2 (Some 0)
        ∷ [];
    viewports = [];
    authors = [];
  };
}

-- in m the name is two objects after the module, in n one
each_in_its_scope : operands_of two ≡ operand.Object (record { 0 = 2 }) 4 ∷ operand.Object (record { 0 = 1 }) 2 ∷ []
unfolding is_utf8 chars encode
each_in_its_scope = refl

targets_in_their_scopes :
    actions_of two (4 ∷ 2 ∷ [])
    ≡ action.Assign (target.Whole (record { 0 = 2 }) 4) (record { place = 0; size = 4 })
    ∷ action.Assign (target.Whole (record { 0 = 1 }) 2) (record { place = 1; size = 2 })
    ∷ []
unfolding is_utf8 chars encode
targets_in_their_scopes = refl

sizes_in_their_scopes : counted_sizes two ≡ 4 ∷ 2 ∷ []
unfolding is_utf8 chars encode
sizes_in_their_scopes = refl

-- a module without an object has no scope, and nothing is named in it
no_scope : scope_of (record two { tree = record { nodes = top (codes "m") ∷ []; viewports = []; authors = [] } }) n ≡ None
unfolding is_utf8 chars encode
no_scope = refl

nothing_named : bits_named two None 2 ≡ None
nothing_named = refl

-- the modules hold all, and the second expression stands in n
whole : AreWhole two.source
whole = record {
  expressions = (refl, omega arith, (refl, omega arith, refl));
  statements = (refl, omega arith, (refl, omega arith, refl));
  terms = (refl, omega arith, (refl, omega arith, refl));
  choices = (refl, omega arith, (refl, omega arith, refl));
}

in_n : StandsAt two n 1 (Name 2 Whole)
in_n = record {
  number = 1;
  one = refl;
  before = node.Name 2 selected_as.Whole ∷ [];
  following = [];
  laid = refl;
  there = refl;
  from = omega arith;
  to = omega arith;
}

term_in_n : expr_term two (scope_of two n) (Name 2 Whole) ≡ term.Object 1 2
unfolding is_utf8 chars encode
term_in_n = refl
