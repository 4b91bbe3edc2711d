-- The value of an expression by its derivation, and where a derivation stands in a design.
use Rattle.std.specs.Prelude.{◌≡◌, ℕ, ◌-◌, true, false, if◌then◌else◌, List, [], ◌∷◌, map, slice_index_or, Option, Some, None}
use Rattle.vp_bits.specs.declared.bit.Bit as bits
use Rattle.vp_source.specs.declared.expression.Range.{Range}
use Rattle.vp_source.specs.declared.operator.BinaryOperator.{BinaryOperator}
use Rattle.vp_source.specs.declared.operator.UnaryOperator.{UnaryOperator}
use Rattle.vp_source.specs.ExprGrammar.{Expr, Name, Sized, Based, Number, Group, Unary, Binary, Conditional, Concatenation, Replication, Selection, Whole, Bit, Part, Parts, First, More}
use Rattle.vp_source.specs.ExprLayout.{put_range}
use Rattle.vp_source.specs.Places.{word_at}
use Rattle.vp_source.specs.Standing.{ExpressionStandsAt}
use Rattle.vp_source.specs.declared.source.Module as declared
use Rattle.vp_elab.specs.Built.{Elaborated}
use Rattle.vp_elab.specs.Elaboration.{range_width}
use Rattle.vp_elab.specs.Tree.{definition_at}
use Rattle.vp_operand.specs.declared.operand.Operand.TheVariants as operand
use Rattle.vp_operand.specs.Arena.{blank, is_width, signs_in, term_from, value_in}
use Rattle.vp_operand.specs.Literals.{based_bits, literal_bits, number_bits}
use Rattle.vp_resolve.specs.Names.{lowest_in, object_named, slot_in, width_in}
use Rattle.vp_resolve.specs.Operands.{infix_of, operands_of, sizes_of, unary_operand}
use Rattle.vp_operand.specs.Reads.{reads, slot_at, slots_at}
use Rattle.vp_operand.specs.Terms as term
use Rattle.vp_operand.specs.Terms.{Term, is_signed, size, value}
use Rattle.vp_expr.specs.Tables.{size_at}

-- an operator on a term
abbrev pub unary_term : UnaryOperator → Term → Term
unary_term o a = term_from (a ∷ []) (unary_operand o 0)

-- an operator between terms
abbrev pub binary_term : BinaryOperator → Term → Term → Term
binary_term o a b = term_from (a ∷ b ∷ []) (operand.Paired (infix_of o) 0 1)

-- an object of an instance, by the module's object; one unknown bit in place of one that is no vector (clause 4.3)
abbrev pub object_term : Elaborated → (scope : Option ℕ) → (object : ℕ) → Term
object_term design scope object =
    if is_width (width_in design object) then term.Object (slot_in scope object).0 (width_in design object) else blank

-- a part of an object, by its range; one unknown bit in place of one that no vector can be (clause 5.2.1)
abbrev pub part_term : Elaborated → (scope : Option ℕ) → (object : ℕ) → Range → Term
part_term design scope object r =
    if is_width (range_width r)
    then term.PartSelect (slot_in scope object).0 (r.lsb - lowest_in design object) (range_width r)
    else blank

abbrev mutual
  -- an expression over the objects of an instance, by the object of its module: each name is the slot of its object, and each
  -- literal its value (clause 5)
  pub expr_term : Elaborated → (scope : Option ℕ) → Expr → Term
  expr_term design scope (Name place s) = named_term design scope (object_named design scope place) s
  expr_term design scope (Sized place size kind digits) = term.Constant (literal_bits size (word_at design.source digits)) false
  expr_term design scope (Based digits) = term.Constant (based_bits (word_at design.source digits)) false
  expr_term design scope (Number place number) = term.Constant (number_bits number) true
  expr_term design scope (Group opening e closing) = expr_term design scope e
  expr_term design scope (Unary o place e) = unary_term o (expr_term design scope e)
  expr_term design scope (Binary o a place b) = binary_term o (expr_term design scope a) (expr_term design scope b)
  expr_term design scope (Conditional c question a colon b) =
      term.Conditional (expr_term design scope c) (expr_term design scope a) (expr_term design scope b)
  expr_term design scope (Concatenation opening l closing) = parts_term design scope l
  expr_term design scope (Replication opening count_place count inner_opening l inner_closing closing) =
      term.Replicated count (parts_term design scope l)

  -- what is selected of the object of a name; one unknown bit where there is none (clause 5.2.1)
  pub named_term : Elaborated → (scope object : Option ℕ) → Selection → Term
  named_term design scope None s = blank
  named_term design scope (Some object) Whole = object_term design scope object
  named_term design scope (Some object) (Bit opening e closing) =
      term.BitSelect (slot_in scope object).0 (lowest_in design object) (expr_term design scope e)
  named_term design scope (Some object) (Part r) = part_term design scope object (put_range r)

  -- the expressions in braces, one after the other (clause 5.1.14)
  pub parts_term : Elaborated → (scope : Option ℕ) → Parts → Term
  parts_term design scope (First e) = term.Concatenated (expr_term design scope e)
  parts_term design scope (More l comma e) = term.Appended (parts_term design scope l) (expr_term design scope e)

-- the value of an expression in a context of a size, by the object of the module in which it stands and the values of the objects
-- of an instance of that (clause 5.4)
abbrev pub derived_value : Elaborated → (scope : Option ℕ) → List (List bits.Bit) → ℕ → Expr → List bits.Bit
derived_value design scope values n e = value (value_in values) n (expr_term design scope e)

-- an object is a module of this definition: its top module, or one of its instances (clauses 12.1 and 12.1.2)
abbrev pub IsInstanceOf : Elaborated → declared.Module → (object : ℕ) → Type 0
IsInstanceOf design m object = definition_at design.tree.nodes object ≡ Some (word_at design.source m.name)

-- ---- places

-- a derivation stands at a place of a design, in a module (clause 5)
abbrev pub StandsAt : Elaborated → declared.Module → (place : ℕ) → Expr → Type 0
StandsAt design m place e = ExpressionStandsAt design.source m place e

-- the expression at a place of a design has the size, the sign and the reads of a term (clauses 5.4.1, 5.5.1 and 9.7.5)
pub record HasTerm (design : Elaborated) (place : ℕ) (t : Term) : Type 0 where
  pub size : size_at (sizes_of design) place ≡ size t
  pub sign : slice_index_or (signs_in (operands_of design)) place false ≡ is_signed t
  pub reads : slots_at (operands_of design) place ≡ map slot_at (reads t)
