-- Where items stand, computed of `module a; initial ; assign b = c; d e(.f(g), .h()); wire i = j; endmodule`.
use Rattle.std.proofs.Common.{◌≡◌, ℕ, zero, suc, ◌+◌, [], ◌∷◌, slice_get, Option, Some, None, refl, sym, subst, arith}
use Rattle.vp_source.specs.declared.expression.Expression.TheVariants as node
use Rattle.vp_source.specs.declared.expression.Selection.TheVariants as selection
use Rattle.vp_source.specs.ExprGrammar.{Expr, Name, Whole}
use Rattle.vp_source.specs.declared.statement.Statement.TheVariants as statement
use Rattle.vp_source.specs.StmtGrammar as body
use Rattle.vp_source.specs.StmtLayout as layout
use Rattle.vp_source.specs.declared.source.Connection as connection
use Rattle.vp_source.specs.declared.source.Item.TheVariants as item
use Rattle.vp_source.specs.declared.source.Module as module_of
use Rattle.vp_source.specs.declared.source.Source.{Source}
use Rattle.vp_source.specs.Grammar.{Assignments, Connected, Connection, Connections, Declares, Derivation, Initial, Instance, Instances, Named, Nets, NoHeader, Valued}
use Rattle.vp_source.specs.Layout.{lists_of, put_source}
use Rattle.vp_source.specs.Standing.{ConnectionStands, InstanceStands, ItemsStand, OptionStandsAt, ProcedureStands, ValueStands, connections_of}
use Rattle.vp_source.proofs.Standing.{items_stand}

-- c, g and j
abbrev value : Expr
value = Name 8 Whole

abbrev expression : Expr
expression = Name 16 Whole

abbrev last : Expr
last = Name 28 Whole

-- .f(g), and .h()
abbrev first : Connection
first = Named 13 14 15 (Some expression) 17

abbrev second : Connection
second = Named 19 20 21 None 22

abbrev connections : Connections
connections = Connected first (record { comma = 18; part = second } ∷ [])

abbrev derivation : Derivation
derivation = record {
  keyword = 0;
  name = 1;
  header = NoHeader;
  semicolon = 2;
  items =
      Initial 3 (body.Null 4)
      ∷ Declares (Assignments 5) (Valued 6 7 value) [] 9
      ∷ Declares (Instances 10) (Instance 11 12 connections 23) [] 24
      ∷ Declares (Nets 25 None) (Valued 26 27 last) [] 29
      ∷ [];
  endmodule = 30;
} ∷ []

abbrev m : module_of.Module
m = record {
  name = 1;
  items = record { first = 0; end = 5 };
  ports = 0;
  statements = record { first = 0; end = 1 };
  expressions = record { first = 0; end = 3 };
  terms = record { first = 0; end = 0 };
  choices = record { first = 0; end = 0 };
}

abbrev to_port : connection.Connection
to_port = record { place = 16; port = Some 14; value = Some 1 }

abbrev open_port : connection.Connection
open_port = record { place = 22; port = Some 20; value = None }

abbrev source : Source
source = record {
  text = [];
  tokens = [];
  modules = m ∷ [];
  connections = to_port ∷ open_port ∷ [];
  items =
      item.Initial 3 0
      ∷ item.Assignment 6 0
      ∷ item.Instance 11 10 0 2
      ∷ item.Net 26 None
      ∷ item.Assignment 26 2
      ∷ [];
  statements = statement.Null ∷ [];
  expressions =
      node.Name 8 selection.Whole
      ∷ node.Name 16 selection.Whole
      ∷ node.Name 28 selection.Whole
      ∷ [];
  terms = [];
  choices = [];
}

-- this source is laid out of the derivation
laid : put_source derivation ≡ (m ∷ [], lists_of source)
laid = refl

-- its procedure stands there
stands : ProcedureStands source m (item.Initial 3) (body.Null 4)
stands = record {
  number = 0;
  from = omega arith;
  to = omega arith;
  place = 0;
  is = refl;
  stands = record {
    number = 0;
    one = refl;
    before = layout.no_parts;
    following = record layout.no_parts { expressions = source.expressions };
    statements = refl;
    expressions = refl;
    terms = refl;
    choices = refl;
    there = refl;
    statements_from = omega arith;
    statements_to = omega arith;
    expressions_from = omega arith;
    expressions_to = omega arith;
  };
}

-- so does the value of its continuous assignment
assignment_stands : ValueStands source m (item.Assignment 6) value
assignment_stands = record {
  number = 1;
  from = omega arith;
  to = omega arith;
  place = 0;
  is = refl;
  stands = record {
    number = 0;
    one = refl;
    before = [];
    following = node.Name 16 selection.Whole ∷ node.Name 28 selection.Whole ∷ [];
    laid = refl;
    there = refl;
    from = omega arith;
    to = omega arith;
  };
}

-- so does the value of its net
net_stands : ValueStands source m (item.Assignment 26) last
net_stands = record {
  number = 4;
  from = omega arith;
  to = omega arith;
  place = 2;
  is = refl;
  stands = record {
    number = 0;
    one = refl;
    before = node.Name 8 selection.Whole ∷ node.Name 16 selection.Whole ∷ [];
    following = [];
    laid = refl;
    there = refl;
    from = omega arith;
    to = omega arith;
  };
}

-- so does a connection of its instance
first_stands : ConnectionStands source m 0 first
first_stands = record {
  one = to_port;
  is = refl;
  port = refl;
  stands = record {
    number = 0;
    one = refl;
    before = node.Name 8 selection.Whole ∷ [];
    following = node.Name 28 selection.Whole ∷ [];
    laid = refl;
    there = refl;
    from = omega arith;
    to = omega arith;
  };
}

-- so does the connection of a port that is left open
second_stands : ConnectionStands source m 1 second
second_stands = record { one = open_port; is = refl; port = refl; stands = tt }

-- so each of its connections
connections_stand : (position : ℕ) (c : Connection) → slice_get (connections_of connections) position ≡ Some c → ConnectionStands source m (0 + position) c
connections_stand zero c h = let same : first ≡ c = cc in subst (λ (x : Connection). ConnectionStands source m 0 x) same first_stands
connections_stand (suc zero) c h = let same : second ≡ c = cc in subst (λ (x : Connection). ConnectionStands source m 1 x) same second_stands
connections_stand (suc (suc position)) c h = absurd cc

-- and so its instance
instance_stands : InstanceStands source m 11 10 connections
instance_stands = record {
  number = 2;
  from = omega arith;
  to = omega arith;
  first = 0;
  end = 2;
  is = refl;
  count = refl;
  stand = connections_stand;
}

-- a connection that has an expression stands not as that of a port that is left open
open_stands_not : ConnectionStands source m 1 (Named 19 20 21 (Some expression) 22) → ⊥
open_stands_not h =
    let same : open_port ≡ h.one = cc in
    subst (λ (c : connection.Connection). OptionStandsAt source m c.value (Some expression)) (sym same) h.stands

-- nor does one of another port
other_stands_not : ConnectionStands source m 0 (Named 13 8 15 (Some expression) 17) → ⊥
other_stands_not h =
    let same : to_port ≡ h.one = cc in
    let other : Option ℕ = Some 8 in
    let port : to_port.port ≡ other = subst (λ (c : connection.Connection). c.port ≡ other) (sym same) h.port in
    absurd cc

-- each item of the derivation stands there
all_stand : ItemsStand source derivation
all_stand = items_stand [] [] derivation source (record { of_text = refl; of_tokens = refl; parts = sym laid })
