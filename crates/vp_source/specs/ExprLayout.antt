-- How a derivation lies in a flat list: each part after its own parts, and nothing else.
use Rattle.std.specs.Prelude.{ℕ, List, [], ◌∷◌, ◌++◌, length}
use Rattle.vp_source.specs.declared.expression.Expression as node
use Rattle.vp_source.specs.declared.expression.Expression.TheVariants as node_of
use Rattle.vp_source.specs.declared.expression.Range as range
use Rattle.vp_source.specs.declared.expression.Selection as selection
use Rattle.vp_source.specs.declared.expression.Selection.TheVariants as selection_of
use Rattle.vp_source.specs.ExprGrammar.{Range, Expr, Name, Sized, Based, Number, Group, Unary, Binary, Conditional, Concatenation, Replication, Selection, Whole, Bit, Part, Parts, First, More}

-- one more part, and its place
abbrev pub with_node : node.Expression → List node.Expression → ℕ × List node.Expression
with_node n nodes = (length nodes, nodes ++ n ∷ [])

-- the bounds of a range
abbrev pub put_range : Range → range.Range
put_range r = record { msb = r.msb; lsb = r.lsb }

abbrev mutual
  -- the parts of an expression after others, and the place of the whole
  pub put_expr : Expr → List node.Expression → ℕ × List node.Expression
  put_expr (Name place s) nodes = let x = put_selection s nodes in with_node (node_of.Name place x.0) x.1
  put_expr (Sized place size kind digits) nodes = with_node (node_of.Literal place size digits) nodes
  put_expr (Based digits) nodes = with_node (node_of.Based digits) nodes
  put_expr (Number place value) nodes = with_node (node_of.Number place value) nodes
  put_expr (Group opening e closing) nodes = put_expr e nodes
  put_expr (Unary o place e) nodes = let x = put_expr e nodes in with_node (node_of.Unary o place x.0) x.1
  put_expr (Binary o a place b) nodes =
      let x = put_expr a nodes in let y = put_expr b x.1 in with_node (node_of.Binary o place x.0 y.0) y.1
  put_expr (Conditional c question a colon b) nodes =
      let x = put_expr c nodes in let y = put_expr a x.1 in let z = put_expr b y.1 in with_node (node_of.Conditional x.0 y.0 z.0) z.1
  put_expr (Concatenation opening l closing) nodes = put_parts opening l nodes
  put_expr (Replication opening count_place count inner_opening l inner_closing closing) nodes =
      let x = put_parts inner_opening l nodes in with_node (node_of.Replication opening count x.0) x.1

  -- the index of a selection after others, and the selection
  pub put_selection : Selection → List node.Expression → selection.Selection × List node.Expression
  put_selection Whole nodes = (selection_of.Whole, nodes)
  put_selection (Bit opening e closing) nodes = let x = put_expr e nodes in (selection_of.Bit x.0, x.1)
  put_selection (Part r) nodes = (selection_of.Part (put_range r), nodes)

  -- a concatenation after others, from the first of its expressions on, by the place of its brace
  pub put_parts : (opening : ℕ) → Parts → List node.Expression → ℕ × List node.Expression
  put_parts opening (First e) nodes = let x = put_expr e nodes in with_node (node_of.Concatenation opening x.0) x.1
  put_parts opening (More l comma e) nodes =
      let x = put_parts opening l nodes in let y = put_expr e x.1 in with_node (node_of.Appended opening x.0 y.0) y.1
