-- Derivations and what runs at their places, computed.
use Rattle.std.proofs.Common.{[], ◌∷◌, None, refl, arith}
use Rattle.vp_source.specs.declared.expression.Expression.TheVariants as node
use Rattle.vp_source.specs.ExprGrammar as expression
use Rattle.vp_source.specs.declared.statement.Statement.TheVariants as statement
use Rattle.vp_source.specs.StmtGrammar.{Stmt, Block, Null, Delayed, While, Empty, Then, Plain}
use Rattle.vp_source.specs.StmtLayout.{no_parts}
use Rattle.vp_source.specs.declared.source.Module as declared
use Rattle.vp_source.specs.Standing.{StatementStandsAt}
use Rattle.vp_elab.specs.Built.{Elaborated}
use Rattle.vp_expr.specs.Derived.{StandsAt}
use Rattle.vp_expr.specs.Tables.{tables_of}
use Rattle.vp_statement.specs.Derived.{IsActionOf}

-- `begin #5 ; while (1) ; end`
abbrev block : Stmt
block = Block 0 (Then (Delayed 1 (Plain 5 2) (Null 3)) (Then (While 4 5 (expression.Number 6 1) 7 (Null 8)) Empty)) 9

-- a module with its seven statements and its expression
abbrev m : declared.Module
m = record {
  name = 0;
  items = record { first = 0; end = 0 };
  ports = 0;
  statements = record { first = 0; end = 7 };
  expressions = record { first = 0; end = 1 };
  terms = record { first = 0; end = 0 };
  choices = record { first = 0; end = 0 };
}

-- a design of it alone, without objects
abbrev design : Elaborated
design = record {
  source = record {
    text = [];
    tokens = [];
    modules = m ∷ [];
    connections = [];
    items = [];
    statements =
        statement.Empty ∷ statement.Null ∷ statement.Delay 5 1 ∷ statement.Then 0 2
        ∷ statement.Null ∷ statement.While 0 4 None ∷ statement.Then 3 5
        ∷ [];
    expressions = node.Number 6 1 ∷ [];
    terms = [];
    choices = [];
  };
  tree = record { nodes = []; viewports = []; authors = [] };
}

-- the block stands at the place of its last statement
stands : StatementStandsAt design.source m 6 block
stands = record {
  number = 0;
  one = refl;
  before = no_parts;
  following = no_parts;
  statements = refl;
  expressions = refl;
  terms = refl;
  choices = refl;
  there = refl;
  statements_from = omega arith;
  statements_to = omega arith;
  expressions_from = omega arith;
  expressions_to = omega arith;
}

-- its condition stands at the first place
condition : StandsAt design m 0 (expression.Number 6 1)
condition = record { number = 0; one = refl; before = []; following = []; laid = refl; there = refl; from = omega arith; to = omega arith }

-- and there run the delay and the loop, each with its part, one after the other
runs : IsActionOf design m 6 block
unfolding tables_of
runs = (
  0,
  record { action = refl; awaits = refl },
  (
    2,
    3,
    record { action = refl; awaits = refl },
    (1, record { action = refl; awaits = refl }, record { action = refl; awaits = refl }),
    (
      5,
      6,
      record { action = refl; awaits = refl },
      (0, 4, record { action = refl; awaits = refl }, condition, record { action = refl; awaits = refl }),
      refl,
    ),
  ),
)

-- another delay does not run there
other_delay : IsActionOf design m 2 (Delayed 1 (Plain 6 2) (Null 3)) → ⊥
unfolding tables_of
other_delay h = let e = h.1.action in absurd cc
