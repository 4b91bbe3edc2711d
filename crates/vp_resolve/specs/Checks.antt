-- Which expressions of a design are refused: the refusals, each tested over the whole text, in this order.
use Rattle.std.specs.Prelude.{◌≡◌, ℕ, ◌+◌, ◌==◌, ◌&&◌, max, min, nat_lt, nat_le, not, Bool, true, false, if◌then◌else◌, List, [], ◌∷◌, ◌++◌, drop, length, slice_get, slice_index_or, Option, Some, None, option_and_then, option_map}
use Rattle.std.specs.List.{fold}
use Rattle.vp_source.specs.declared.expression.Expression.{Expression}
use Rattle.vp_source.specs.declared.expression.Expression.TheVariants as expression
use Rattle.vp_source.specs.declared.expression.Selection.{Selection}
use Rattle.vp_source.specs.declared.expression.Selection.TheVariants as selection
use Rattle.vp_source.specs.declared.operator.BinaryOperator.{BinaryOperator}
use Rattle.vp_source.specs.declared.operator.BinaryOperator.TheVariants as binary
use Rattle.vp_source.specs.Places.{earlier, earliest, line_at}
use Rattle.vp_source.specs.declared.source.Source.{Source}
use Rattle.vp_source.specs.declared.source.DeclaredRange.{DeclaredRange}
use Rattle.vp_source.specs.declared.source.Item.{Item}
use Rattle.vp_source.specs.declared.source.Item.TheVariants as item
use Rattle.vp_source.specs.declared.source.Module as declared
use Rattle.vp_source.specs.declared.statement.Statement.{Statement}
use Rattle.vp_source.specs.declared.statement.Statement.TheVariants as statement
use Rattle.vp_modules.specs.Items.{expressions_in, items_in, statements_in}
use Rattle.vp_modules.specs.Refusals.{first_in}
use Rattle.vp_elab.specs.Built.{Elaborated}
use Rattle.vp_elab.specs.Elaboration.{range_width}
use Rattle.vp_elab.specs.Tree.{below}
use Rattle.vp_resolve.specs.declared.error.ExprError.{ExprError}
use Rattle.vp_resolve.specs.declared.error.ExprError.TheVariants.{TooWide, SignedCompare, BadSelect}
use Rattle.vp_operand.specs.Arena.{operand_size, signs_in}
use Rattle.vp_resolve.specs.Names.{node_named, scope_of}
use Rattle.vp_resolve.specs.Operands.{operand_of, operands_of}

-- a place, where something is so
abbrev pub place_if : Bool → ℕ → Option ℕ
place_if so place = if so then Some place else None

-- ---- wider than 64 bits (profile)

-- a size is greater than a vector may have
abbrev pub is_wide : ℕ → Bool
is_wide size = nat_lt 64 size

-- a size as it is counted: one that is too great as 65
abbrev pub counted : ℕ → ℕ
counted size = min size 65

-- the bits of the name at a place: how many, and the lowest index, if there is one (clause 4.3.1)
abbrev pub bits_named : Elaborated → (scope : Option ℕ) → (name : ℕ) → Option (ℕ × Option ℕ)
bits_named design scope name = option_map (λ n. (n.width, n.lowest)) (node_named design scope name)

-- how many of so many bits are selected (clause 5.2.1)
abbrev pub selected_width : Selection → ℕ → ℕ
selected_width selection.Whole width = width
selected_width (selection.Bit index) width = 1
selected_width (selection.Part r) width = range_width r

-- how many bits are selected of these; 1 where there is no such object
abbrev pub size_of_bits : Selection → Option (ℕ × Option ℕ) → ℕ
size_of_bits s None = 1
size_of_bits s (Some bits) = selected_width s bits.0

-- how many bits are selected of the name at a place; 1 where there is no such object
abbrev pub node_size : Elaborated → (scope : Option ℕ) → (name : ℕ) → Selection → ℕ
node_size design scope name s = size_of_bits s (bits_named design scope name)

-- the size of an expression as it is counted, by the sizes of those before it; that of a literal is not 0 (clauses 3.5.1 and 5.4.1)
abbrev pub counted_size : Elaborated → (scope : Option ℕ) → List ℕ → Expression → ℕ
counted_size design scope sizes (expression.Name name s) = counted (node_size design scope name s)
counted_size design scope sizes (expression.Literal place size digits) = counted (max 1 size)
counted_size design scope sizes e = counted (operand_size sizes (operand_of design scope e))

-- sizes, and after them that of one more expression
abbrev pub with_size : Elaborated → (scope : Option ℕ) → List ℕ → Expression → List ℕ
with_size design scope sizes e = sizes ++ counted_size design scope sizes e ∷ []

-- sizes, and after them those of the expressions of a module
abbrev pub with_sizes : Elaborated → List ℕ → declared.Module → List ℕ
with_sizes design sizes m = fold (with_size design (scope_of design m)) sizes (expressions_in design.source m)

-- the sizes of the expressions of a design, as they are counted, module by module
abbrev pub counted_sizes : Elaborated → List ℕ
counted_sizes design = fold (with_sizes design) [] design.source.modules

-- a selection of a part is too wide (clause 5.2.1)
abbrev pub is_wide_part : Selection → Bool
is_wide_part (selection.Part r) = is_wide (range_width r)
is_wide_part _ = false

-- an expression that is too wide by itself, by its size: a literal, a part of a name, braces (clauses 3.5.1, 5.1.14, 5.2.1)
abbrev pub wide_at : ℕ → Expression → Option ℕ
wide_at size (expression.Name name s) = place_if (is_wide_part s) name
wide_at size (expression.Literal place bits digits) = place_if (is_wide bits) place
wide_at size (expression.Concatenation brace part) = place_if (is_wide size) brace
wide_at size (expression.Appended brace list part) = place_if (is_wide size) brace
wide_at size (expression.Replication brace count list) = place_if (is_wide size) brace
wide_at size _ = None

-- the range of a declaration
abbrev pub range_in : Item → Option DeclaredRange
range_in (item.Port name direction range) = range
range_in (item.Net name range) = range
range_in (item.Reg name range) = range
range_in _ = None

-- the bracket of a range that is too wide
abbrev pub wide_range : DeclaredRange → Option ℕ
wide_range declared = place_if (is_wide (range_width declared.range)) declared.bracket

-- a declaration whose range is too wide, by its bracket (clause 4.3.1)
abbrev pub wide_item : Item → Option ℕ
wide_item i = option_and_then wide_range (range_in i)

-- an assignment to a part that is too wide (clauses 5.2.1, 9.2.1 and 9.2.2)
abbrev pub wide_target : Statement → Option ℕ
wide_target (statement.Assign target s value) = place_if (is_wide_part s) target
wide_target (statement.Nonblocking target s value delay) = place_if (is_wide_part s) target
wide_target _ = None

-- ---- relational operators on signed operands (profile)

-- an operator compares sizes of numbers (clause 5.1.7)
abbrev pub is_relational : BinaryOperator → Bool
is_relational binary.Less = true
is_relational binary.LessOrEqual = true
is_relational binary.Greater = true
is_relational binary.GreaterOrEqual = true
is_relational _ = false

-- a relational operator whose operands are both signed, by the signs of expressions
abbrev pub signed_at : List Bool → Expression → Option ℕ
signed_at signs (expression.Binary operator place left right) =
    place_if (is_relational operator && (slice_index_or signs left false && slice_index_or signs right false)) place
signed_at signs _ = None

-- ---- selections that are none (clause 5.2.1, profile)

-- a selection of a name that has these bits is bad: of a scalar, or of a part that is not inside the declared range
abbrev pub is_bad : (lowest : Option ℕ) → (width : ℕ) → Selection → Bool
is_bad lowest width selection.Whole = false
is_bad None width s = true
is_bad (Some low) width (selection.Bit index) = false
is_bad (Some low) width (selection.Part r) = not (nat_le low r.lsb && (nat_le r.lsb r.msb && nat_lt r.msb (low + width)))

-- the place of a name that has these bits, where the selection of them is bad
abbrev pub bad_bits : ℕ → Selection → Option (ℕ × Option ℕ) → Option ℕ
bad_bits name s None = None
bad_bits name s (Some bits) = place_if (is_bad bits.1 bits.0 s) name

-- the name at a place, where the selection of its bits is bad
abbrev pub bad_name : Elaborated → (scope : Option ℕ) → (name : ℕ) → Selection → Option ℕ
bad_name design scope name s = bad_bits name s (bits_named design scope name)

-- a bad selection in an expression; a replication of 0
abbrev pub bad_at : Elaborated → (scope : Option ℕ) → Expression → Option ℕ
bad_at design scope (expression.Name name s) = bad_name design scope name s
bad_at design scope (expression.Replication brace count list) = place_if (count == 0) brace
bad_at design scope _ = None

-- a bad selection on the left side of an assignment, blocking or not (clauses 9.2.1 and 9.2.2)
abbrev pub bad_target : Elaborated → (scope : Option ℕ) → Statement → Option ℕ
bad_target design scope (statement.Assign target s value) = bad_name design scope target s
bad_target design scope (statement.Nonblocking target s value delay) = bad_name design scope target s
bad_target design scope _ = None

-- ---- all of them

-- the first place of a module that is too wide, in a declaration or in a statement's target
abbrev pub wide_declared : Source → declared.Module → Option ℕ
wide_declared source m = earlier (earliest wide_item (items_in source m)) (earliest wide_target (statements_in source m))

-- the expression at a place that is too wide by itself, by the sizes of all
abbrev pub wide_among : List Expression → List ℕ → ℕ → Option ℕ
wide_among es sizes place = option_and_then (wide_at (slice_index_or sizes place 1)) (slice_get es place)

-- the first expression that is too wide by itself
abbrev pub first_wide_of : List Expression → List ℕ → Option ℕ
first_wide_of es sizes = earliest (wide_among es sizes) (below (length es))

-- the first expression of modules that is too wide by itself, by the sizes of the expressions of all of them
abbrev pub first_wide_in : Source → List declared.Module → List ℕ → Option ℕ
first_wide_in source [] sizes = None
first_wide_in source (m ∷ ms) sizes =
    let es = expressions_in source m in
    earlier (first_wide_of es sizes) (first_wide_in source ms (drop (length es) sizes))

-- the first place that is too wide: in a declaration, in a statement's target, or in an expression
unfoldable pub first_wide : Elaborated → Option ℕ
first_wide design =
    earlier (first_in design.source (wide_declared design.source))
    (first_wide_in design.source design.source.modules (counted_sizes design))

-- the first relational operator of a module on two signed operands, by the signs of expressions
abbrev pub signed_in : Source → List Bool → declared.Module → Option ℕ
signed_in source signs m = earliest (signed_at signs) (expressions_in source m)

-- the first relational operator on two signed operands
unfoldable pub first_signed : Elaborated → Option ℕ
first_signed design = first_in design.source (signed_in design.source (signs_in (operands_of design)))

-- the first bad selection of a module
abbrev pub bad_in : Elaborated → declared.Module → Option ℕ
bad_in design m =
    earlier (earliest (bad_target design (scope_of design m)) (statements_in design.source m))
    (earliest (bad_at design (scope_of design m)) (expressions_in design.source m))

-- the first bad selection
unfoldable pub first_bad : Elaborated → Option ℕ
first_bad design = first_in design.source (bad_in design)

-- a refusal by the line of the place that is at fault, if one is; else another
abbrev pub refused_at : Source → (ℕ → ExprError) → Option ℕ → Option ExprError → Option ExprError
refused_at source refusal None other = other
refused_at source refusal (Some place) other = Some (refusal (line_at source place))

-- the first refusal of a design that holds
unfoldable pub refusal_of : Elaborated → Option ExprError
refusal_of design =
    refused_at design.source (λ line. TooWide line) (first_wide design)
    (refused_at design.source (λ line. SignedCompare line) (first_signed design)
    (refused_at design.source (λ line. BadSelect line) (first_bad design) None))
