-- The expressions of a design as operands, with slots in place of names.
use Rattle.std.specs.Prelude.{ℕ, ◌-◌, ◌&&◌, Bool, false, true, if◌then◌else◌, List, map, Option, Some, None}
use Rattle.std.specs.List.{flat_map, list_all}
use Rattle.vp_source.specs.declared.expression.Expression.{Expression}
use Rattle.vp_source.specs.declared.expression.Expression.TheVariants as expression
use Rattle.vp_source.specs.declared.expression.Selection.{Selection}
use Rattle.vp_source.specs.declared.expression.Selection.TheVariants as selection
use Rattle.vp_source.specs.declared.operator.BinaryOperator.{BinaryOperator}
use Rattle.vp_source.specs.declared.operator.BinaryOperator.TheVariants as between
use Rattle.vp_source.specs.declared.operator.UnaryOperator.{UnaryOperator}
use Rattle.vp_source.specs.declared.operator.UnaryOperator.TheVariants as before
use Rattle.vp_source.specs.Places.{word_at}
use Rattle.vp_source.specs.declared.source.Module as declared
use Rattle.vp_modules.specs.Items.{expressions_in}
use Rattle.vp_elab.specs.Built.{Elaborated}
use Rattle.vp_elab.specs.Elaboration.{range_width}
use Rattle.vp_operand.specs.declared.operand.Operand.{Operand}
use Rattle.vp_operand.specs.declared.operand.Operand.TheVariants as operand
use Rattle.vp_operand.specs.declared.operand.Infix.{Infix}
use Rattle.vp_operand.specs.declared.operand.Infix.TheVariants as pair
use Rattle.vp_operand.specs.declared.operand.Unary.TheVariants as unary
use Rattle.vp_operand.specs.declared.operand.Reduction.TheVariants as reduction
use Rattle.vp_operand.specs.declared.operand.Binary.TheVariants as binary
use Rattle.vp_operand.specs.declared.operand.Shift.TheVariants as shift
use Rattle.vp_operand.specs.declared.operand.Comparison.TheVariants as comparison
use Rattle.vp_operand.specs.declared.operand.Logical.TheVariants as logical
use Rattle.vp_operand.specs.Arena.{is_width, sizes_in}
use Rattle.vp_operand.specs.Literals.{based_bits, literal_bits, number_bits}
use Rattle.vp_operand.specs.Values.{no_value}
use Rattle.vp_resolve.specs.Names.{lowest_in, object_named, scope_of, slot_in, width_in}

-- what is selected of an object as an operand; one unknown bit in place of an object or a part that no vector can be (clause 5.2.1)
abbrev pub selected_operand : Elaborated → (scope : Option ℕ) → (object : ℕ) → Selection → Operand
selected_operand design scope object selection.Whole =
    if is_width (width_in design object)
    then operand.Object (slot_in scope object) (width_in design object)
    else operand.Constant no_value false
selected_operand design scope object (selection.Bit index) = operand.BitSelect (slot_in scope object) (lowest_in design object) index
selected_operand design scope object (selection.Part r) =
    if is_width (range_width r)
    then operand.PartSelect (slot_in scope object) (r.lsb - lowest_in design object) (range_width r)
    else operand.Constant no_value false

-- what is selected of a name as an operand; one unknown bit where there is no such object
abbrev pub named_operand : Elaborated → (scope object : Option ℕ) → Selection → Operand
named_operand design scope None s = operand.Constant no_value false
named_operand design scope (Some object) s = selected_operand design scope object s

-- an operator of one operand (table 5-1)
abbrev pub unary_operand : UnaryOperator → ℕ → Operand
unary_operand before.Plus a = operand.Applied unary.Plus a
unary_operand before.Minus a = operand.Applied unary.Minus a
unary_operand before.Negation a = operand.Applied unary.Negation a
unary_operand before.LogicalNegation a = operand.Reduced reduction.LogicalNegation a
unary_operand before.ReductionAnd a = operand.Reduced reduction.And a
unary_operand before.ReductionNand a = operand.Reduced reduction.Nand a
unary_operand before.ReductionOr a = operand.Reduced reduction.Or a
unary_operand before.ReductionNor a = operand.Reduced reduction.Nor a
unary_operand before.ReductionXor a = operand.Reduced reduction.Xor a
unary_operand before.ReductionXnor a = operand.Reduced reduction.Xnor a

-- an operator between operands (table 5-1)
abbrev pub infix_of : BinaryOperator → Infix
infix_of between.Multiply = pair.Combined binary.Multiply
infix_of between.Add = pair.Combined binary.Add
infix_of between.Subtract = pair.Combined binary.Subtract
infix_of between.And = pair.Combined binary.And
infix_of between.Or = pair.Combined binary.Or
infix_of between.Xor = pair.Combined binary.Xor
infix_of between.Xnor = pair.Combined binary.Xnor
infix_of between.ShiftLeft = pair.Shifted shift.Left
infix_of between.ShiftRight = pair.Shifted shift.Right
infix_of between.Less = pair.Compared comparison.Less
infix_of between.LessOrEqual = pair.Compared comparison.LessOrEqual
infix_of between.Greater = pair.Compared comparison.Greater
infix_of between.GreaterOrEqual = pair.Compared comparison.GreaterOrEqual
infix_of between.Equal = pair.Compared comparison.Equal
infix_of between.Unequal = pair.Compared comparison.Unequal
infix_of between.CaseEqual = pair.Compared comparison.CaseEqual
infix_of between.CaseUnequal = pair.Compared comparison.CaseUnequal
infix_of between.LogicalAnd = pair.Joined logical.And
infix_of between.LogicalOr = pair.Joined logical.Or

-- an expression of a module, by its object: with a slot in place of its name, and the value of its literal (clause 5)
abbrev pub operand_of : Elaborated → (scope : Option ℕ) → Expression → Operand
operand_of design scope (expression.Name name s) = named_operand design scope (object_named design scope name) s
operand_of design scope (expression.Literal place size digits) = operand.Constant (literal_bits size (word_at design.source digits)) false
operand_of design scope (expression.Based digits) = operand.Constant (based_bits (word_at design.source digits)) false
operand_of design scope (expression.Number place number) = operand.Constant (number_bits number) true
operand_of design scope (expression.Unary operator place a) = unary_operand operator a
operand_of design scope (expression.Binary operator place a b) = operand.Paired (infix_of operator) a b
operand_of design scope (expression.Conditional c a b) = operand.Conditional c a b
operand_of design scope (expression.Concatenation brace part) = operand.Concatenated part
operand_of design scope (expression.Appended brace list part) = operand.Appended list part
operand_of design scope (expression.Replication brace count list) = operand.Replicated count list

-- the expressions of a module as operands
abbrev pub operands_in : Elaborated → declared.Module → List Operand
operands_in design m = map (operand_of design (scope_of design m)) (expressions_in design.source m)

-- the expressions of a design as operands, module by module
abbrev pub operands_of : Elaborated → List Operand
operands_of design = flat_map (operands_in design) design.source.modules

-- the widths of the objects of a design
abbrev pub widths_of : Elaborated → List ℕ
widths_of design = map (λ n. n.width) design.tree.nodes

-- the sizes of the expressions of a design (clause 5.4.1)
abbrev pub sizes_of : Elaborated → List ℕ
sizes_of design = sizes_in (operands_of design)

-- each width and each size is that of a vector
abbrev pub all_fit : Elaborated → Bool
all_fit design = list_all is_width (widths_of design) && list_all is_width (sizes_of design)
