-- What the grammar sees of tokens, the lists of a source, and where an error is reported, computed on examples.
use Rattle.std.proofs.Common.{◌≡◌, false, List, [], ◌∷◌, Some, None, refl}
use Rattle.vp_source.specs.declared.expression.Expression.TheVariants as expression_of
use Rattle.vp_source.specs.declared.expression.Selection.TheVariants as selection_of
use Rattle.vp_source.specs.declared.statement.Edge.TheVariants as edge_of
use Rattle.vp_source.specs.declared.statement.Statement.TheVariants as statement_of
use Rattle.vp_source.specs.declared.source.Item.TheVariants as item_of
use Rattle.vp_source.specs.ExprGrammar.{Name, Sized, Whole}
use Rattle.vp_source.specs.StmtGrammar.{Also, Assign, Block, Case, Default, Empty, Exact, Labels, Last, More, Null, Only, Then, Unmarked}
use Rattle.vp_source.specs.declared.source.Direction.TheVariants as direction_of
use Rattle.vp_source.specs.Grammar.{Ordered, Connected, Nets, Regs, Instances, Plain, Valued, Instance, Declares, Initial, OutputReg, Declared, Bare, NoHeader, Ports, Derivation}
use Rattle.vp_source.specs.Layout.{put_source}
use Rattle.vp_source.specs.declared.symbol.Symbol.{Symbol}
use Rattle.vp_source.specs.declared.symbol.SymbolKind.TheVariants as symbol
use Rattle.vp_source.specs.Kinds.{symbol_at}
use Rattle.vp_parse.specs.Told.{place_told}
use Rattle.vp_parse.proofs.GrammarRows.{clocked}

-- the derivation of `module t ; reg a , b ; initial begin a = 1 'b1 ; begin end b = a ; end endmodule`
abbrev example : Derivation
example =
    record {
      keyword = 0;
      name = 1;
      header = NoHeader;
      semicolon = 2;
      items =
          Declares (Regs 3 None) (Plain 4) (record { comma = 5; part = Plain 6 } ∷ []) 7
          ∷ Initial 8 (Block 9 (Then (Assign 10 Whole 11 (Sized 12 1 symbol.Base 13) 14)
          (Then (Block 15 Empty 16) (Then (Assign 17 Whole 18 (Name 19 Whole) 20) Empty))) 21)
          ∷ [];
      endmodule = 22;
    }
    ∷ []

-- three items; the block's chain begins at statement 0 and ends at statement 6
lists_of_example : put_source example ≡ (
  record {
    name = 1;
    items = record { first = 0; end = 3 };
    ports = 0;
    statements = record { first = 0; end = 7 };
    expressions = record { first = 0; end = 2 };
    terms = record { first = 0; end = 0 };
    choices = record { first = 0; end = 0 };
  } ∷ [],
  record {
    items = item_of.Reg 4 None ∷ item_of.Reg 6 None ∷ item_of.Initial 8 6 ∷ [];
    connections = [];
    parts = record {
      statements =
          statement_of.Empty ∷ statement_of.Assign 10 selection_of.Whole 0 ∷ statement_of.Then 0 1
          ∷ statement_of.Empty ∷ statement_of.Then 2 3
          ∷ statement_of.Assign 17 selection_of.Whole 1 ∷ statement_of.Then 4 5 ∷ [];
      expressions = expression_of.Literal 12 1 13 ∷ expression_of.Name 19 selection_of.Whole ∷ [];
      terms = [];
      choices = [];
    };
  },
)
lists_of_example = refl

-- the derivation of `module n ( output reg [ 1 : 0 ] q , p ) ; endmodule module m ; wire w = a ; n u ( , a ) ; endmodule`
abbrev hierarchy : Derivation
hierarchy =
    record {
      keyword = 0;
      name = 1;
      header = Ports 2 (Some (record {
        first = Declared (OutputReg 3 4) (Some (record { opening = 5; msb_place = 6; msb = 1; colon = 7; lsb_place = 8; lsb = 0; closing = 9 })) 10;
        further = record { comma = 11; part = Bare 12 } ∷ [];
      })) 13;
      semicolon = 14;
      items = [];
      endmodule = 15;
    }
    ∷ record {
      keyword = 16;
      name = 17;
      header = NoHeader;
      semicolon = 18;
      items =
          Declares (Nets 19 None) (Valued 20 21 (Name 22 Whole)) [] 23
          ∷ Declares (Instances 24) (Instance 25 26 (Connected (Ordered None) (record { comma = 27; part = Ordered (Some (Name 28 Whole)) } ∷ [])) 29) [] 30
          ∷ [];
      endmodule = 31;
    }
    ∷ []

-- both ports have the range of the first; the net is followed by its assignment; the blank connection begins at the comma after it
lists_of_hierarchy : put_source hierarchy ≡ (
  record {
    name = 1;
    items = record { first = 0; end = 2 };
    ports = 2;
    statements = record { first = 0; end = 0 };
    expressions = record { first = 0; end = 0 };
    terms = record { first = 0; end = 0 };
    choices = record { first = 0; end = 0 };
  }
      ∷ record {
        name = 17;
        items = record { first = 2; end = 5 };
        ports = 2;
        statements = record { first = 0; end = 0 };
        expressions = record { first = 0; end = 2 };
        terms = record { first = 0; end = 0 };
        choices = record { first = 0; end = 0 };
      } ∷ [],
  record {
    items =
        item_of.Port 10 direction_of.OutputReg (Some (record { bracket = 5; range = record { msb = 1; lsb = 0 } }))
        ∷ item_of.Port 12 direction_of.OutputReg (Some (record { bracket = 5; range = record { msb = 1; lsb = 0 } }))
        ∷ item_of.Net 20 None ∷ item_of.Assignment 20 0 ∷ item_of.Instance 25 24 0 2 ∷ [];
    connections =
        record { place = 27; port = None; value = None } ∷ record { place = 28; port = None; value = Some 1 } ∷ [];
    parts = record {
      statements = [];
      expressions = expression_of.Name 22 selection_of.Whole ∷ expression_of.Name 28 selection_of.Whole ∷ [];
      terms = [];
      choices = [];
    };
  },
)
lists_of_hierarchy = refl

-- `always @(posedge c) if (a) b <= #2 c; else ;`: each statement stands after those in it, so the one after its event is the last
lists_of_clocked : put_source clocked ≡ (
  record {
    name = 1;
    items = record { first = 0; end = 1 };
    ports = 0;
    statements = record { first = 0; end = 4 };
    expressions = record { first = 0; end = 2 };
    terms = record { first = 0; end = 1 };
    choices = record { first = 0; end = 0 };
  } ∷ [],
  record {
    items = item_of.Always 3 3 ∷ [];
    connections = [];
    parts = record {
      statements =
          statement_of.Nonblocking 13 selection_of.Whole 1 (Some 2) ∷ statement_of.Null
          ∷ statement_of.If 0 0 (Some 1) ∷ statement_of.Event (record { first = 0; end = 1 }) 2 ∷ [];
      expressions = expression_of.Name 11 selection_of.Whole ∷ expression_of.Name 17 selection_of.Whole ∷ [];
      terms = record { edge = edge_of.Posedge; name = 7 } ∷ [];
      choices = [];
    };
  },
)
lists_of_clocked = refl

-- the derivation of `module m ; initial case ( a ) b , c : ; default ; endcase endmodule`
abbrev chosen : Derivation
chosen =
    record {
      keyword = 0;
      name = 1;
      header = NoHeader;
      semicolon = 2;
      items =
          Initial 3 (Case Exact 4 5 (Name 6 Whole) 7
          (More (Labels (Also (Name 8 Whole) 9 (Only (Name 10 Whole))) 11 (Null 12)) (Last (Default 13 Unmarked (Null 14)))) 15)
          ∷ [];
      endmodule = 16;
    }
    ∷ []

-- both labels of the first item choose its statement, and the choice of anything else is the last
lists_of_chosen : put_source chosen ≡ (
  record {
    name = 1;
    items = record { first = 0; end = 1 };
    ports = 0;
    statements = record { first = 0; end = 3 };
    expressions = record { first = 0; end = 3 };
    terms = record { first = 0; end = 0 };
    choices = record { first = 0; end = 3 };
  } ∷ [],
  record {
    items = item_of.Initial 3 2 ∷ [];
    connections = [];
    parts = record {
      statements =
          statement_of.Null ∷ statement_of.Null ∷ statement_of.Case false 0 (record { first = 0; end = 3 }) ∷ [];
      expressions = expression_of.Name 6 selection_of.Whole ∷ expression_of.Name 8 selection_of.Whole ∷ expression_of.Name 10 selection_of.Whole ∷ [];
      terms = [];
      choices =
          record { label = Some 1; body = 0 } ∷ record { label = Some 2; body = 0 } ∷ record { label = None; body = 1 } ∷ [];
    };
  },
)
lists_of_chosen = refl

-- ---- where an error is reported

-- three symbols
abbrev three : List Symbol
three = symbol_at symbol.Name 4 ∷ symbol_at symbol.Base 7 ∷ symbol_at symbol.String 9 ∷ []

-- with one left, and with all left
one_left : place_told three 1 ≡ 9
one_left = refl

all_left : place_told three 3 ≡ 4
all_left = refl

-- at the end of the text the last one, and 0 where there is none
none_left : place_told three 0 ≡ 9
none_left = refl

none_at_all : place_told [] 0 ≡ 0
none_at_all = refl
