-- The values of derivations, computed.
use Rattle.std.proofs.Common.{◌≡◌, ℕ, true, List, [], ◌∷◌, Option, Some, None, drop, refl, arith}
use Rattle.std.specs.Prelude.{codes}
use Rattle.std.specs.Str.{chars, is_utf8}
use Rattle.std.proofs.Math.Utf8.{encode}
use Rattle.vp_bits.specs.declared.bit.Bit.TheVariants.{Zero, One, Unknown}
use Rattle.vp_source.specs.declared.expression.Expression.TheVariants as node_of
use Rattle.vp_source.specs.declared.operator.BinaryOperator.TheVariants.{Add, Subtract}
use Rattle.vp_source.specs.ExprGrammar.{Expr, Name, Number, Group, Binary, Selection, Whole, Bit}
use Rattle.vp_source.specs.declared.source.Module as declared
use Rattle.vp_elab.specs.declared.object.Kind.{Kind}
use Rattle.vp_elab.specs.declared.object.Kind.TheVariants.{Module, Reg}
use Rattle.vp_elab.specs.Built.{Elaborated}
use Rattle.vp_elab.specs.Tree.{Node, Step, find_in}
use Rattle.vp_operand.specs.Arena.{blank, value_in}
use Rattle.vp_expr.specs.Derived.{StandsAt, derived_value, named_term}
use Rattle.vp_operand.specs.Literals.{number_bits}
use Rattle.vp_operand.specs.Terms as term
use Rattle.vp_operand.specs.Terms.{Term, value}

-- 7 - (2 + 1), whose symbols have the places 0 to 6
abbrev difference : Expr
difference = Binary Subtract (Number 0 7) 1 (Group 2 (Binary Add (Number 3 2) 4 (Number 5 1)) 6)

-- a module with six expressions
abbrev six : declared.Module
six = record {
  name = 0;
  items = record { first = 0; end = 0 };
  ports = 0;
  statements = record { first = 0; end = 0 };
  expressions = record { first = 0; end = 6 };
  terms = record { first = 0; end = 0 };
  choices = record { first = 0; end = 0 };
}

-- a design without objects, in which it is laid out after another number
abbrev design : Elaborated
design = record {
  source = record {
    text = [];
    tokens = [];
    modules = six ∷ [];
    connections = [];
    items = [];
    statements = [];
    expressions =
        node_of.Number 9 5 ∷ node_of.Number 0 7 ∷ node_of.Number 3 2 ∷ node_of.Number 5 1
        ∷ node_of.Binary Add 4 2 3
        ∷ node_of.Binary Subtract 1 1 4 ∷ [];
    terms = [];
    choices = [];
  };
  tree = record { nodes = []; viewports = []; authors = [] };
}

in_4_bits : derived_value design None [] 4 difference ≡ Zero ∷ Zero ∷ One ∷ Zero ∷ []
in_4_bits = refl

-- a name that is no object
no_object : derived_value design None [] 2 (Name 0 Whole) ≡ Unknown ∷ Zero ∷ []
no_object = refl

stands : StandsAt design six 5 difference
stands = record {
  number = 0;
  one = refl;
  before = node_of.Number 9 5 ∷ [];
  following = [];
  laid = refl;
  there = refl;
  from = omega arith;
  to = omega arith;
}

-- ---- the module top has a reg [1:0] b and an instance u of a module whose reg [4:1] is a

abbrev step : List ℕ → Option (List ℕ) → Step
step name in_module = record { name = name; place = 0; envelope = 0; in_module = in_module }

abbrev top : Step
top = step (codes "top") None

abbrev u : Step
u = step (codes "u") (Some (codes "top"))

abbrev object : List Step → Kind → ℕ → Option ℕ → Node
object path kind width lowest = record { path = path; kind = kind; width = width; lowest = lowest; line = 1; definition = None }

abbrev nested : Elaborated
nested = record {
  source = record { text = []; tokens = []; modules = []; connections = []; items = []; statements = []; expressions = []; terms = []; choices = [] };
  tree = record {
    nodes =
        object (top ∷ []) Module 1 None
        ∷ object (top ∷ step (codes "b") (Some (codes "top")) ∷ []) Reg 2 (Some 0)
        ∷ object (top ∷ u ∷ []) Module 1 None
        ∷ object (top ∷ u ∷ step (codes "a") (Some (codes "m")) ∷ []) Reg 4 (Some 1)
        ∷ [];
    viewports = [];
    authors = [];
  };
}

-- what is selected of a name in u, which is object 2
abbrev in_u : List ℕ → Selection → Term
in_u name s = named_term nested (Some 2) (find_in nested.tree.nodes (Some 2) name) s

-- the reg stands one after its instance
slot_in_an_instance : in_u (codes "a") Whole ≡ term.Object 1 4
unfolding is_utf8 chars encode
slot_in_an_instance = refl

slot_of_a_bit : in_u (codes "a") (Bit 1 (Number 2 3) 3) ≡ term.BitSelect 1 1 (term.Constant (number_bits 3) true)
unfolding is_utf8 chars encode
slot_of_a_bit = refl

-- and its value one after that of the instance
value_in_an_instance : value (value_in (drop 2 ((Unknown ∷ []) ∷ (Zero ∷ Zero ∷ []) ∷ (Unknown ∷ []) ∷ (One ∷ Zero ∷ One ∷ One ∷ []) ∷ []))) 4 (in_u (codes "a") Whole) ≡ One ∷ Zero ∷ One ∷ One ∷ []
unfolding is_utf8 chars encode
value_in_an_instance = refl

-- b is none of its names
not_in_the_scope : in_u (codes "b") Whole ≡ blank
unfolding is_utf8 chars encode
not_in_the_scope = refl
