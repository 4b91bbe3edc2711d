-- That nothing of a checked design is lost: each name finds its item, and each statement is an action.
use Rattle.std.specs.Prelude.{◌≡◌, ◌⊎◌, ℕ, slice_get, Some, IsSome}
use Rattle.vp_source.specs.declared.expression.Expression.{Expression}
use Rattle.vp_source.specs.declared.statement.EventTerm.{EventTerm}
use Rattle.vp_source.specs.declared.statement.Statement.{Statement}
use Rattle.vp_source.specs.declared.source.Item.{Item}
use Rattle.vp_source.specs.declared.source.Module as declared
use Rattle.vp_source.specs.declared.source.Source.{Source}
use Rattle.vp_source.specs.Places.{word_at}
use Rattle.vp_modules.specs.Items.{expressions_in, items_in, named_at, statements_in, terms_in}
use Rattle.vp_modules.specs.Refusals.{assigned_by, name_in, target_of}
use Rattle.vp_elab.specs.Built.{Elaborated, IsFoundAs}
use Rattle.vp_resolve.specs.Names.{scope_of}
use Rattle.vp_resolve.specs.Operands.{sizes_of}
use Rattle.vp_expr.specs.Derived.{IsInstanceOf}
use Rattle.vp_expr.specs.Tables.{action_for}

-- the name at a place is used in a module: in an expression, as the target of a statement or of a continuous assignment, or in an
-- event (clauses 5.2, 9.2, 6.1 and 9.7.2)
abbrev pub IsUsedIn : Source → declared.Module → (place : ℕ) → Type 0
IsUsedIn source m place =
    ((k : ℕ) × (e : Expression) × (slice_get (expressions_in source m) k ≡ Some e) × (name_in e ≡ Some place))
    ⊎ (((k : ℕ) × (s : Statement) × (slice_get (statements_in source m) k ≡ Some s) × (target_of s ≡ Some place))
    ⊎ (((k : ℕ) × (i : Item) × (slice_get (items_in source m) k ≡ Some i) × (assigned_by i ≡ Some place))
    ⊎ ((k : ℕ) × (t : EventTerm) × (slice_get (terms_in source m) k ≡ Some t) × (t.name ≡ place))))

-- each name that is used in a module finds, in each object of the module, the item that is declared there by that name (clause 12.5)
abbrev pub NamesAreFound : Elaborated → Type 0
NamesAreFound design =
    (number id place : ℕ) (m : declared.Module)
    → slice_get design.source.modules number ≡ Some m → IsInstanceOf design m id
    → IsUsedIn design.source m place
    → (i : Item) × (named_at design.source m place ≡ Some i) × IsFoundAs design id (word_at design.source place) i

-- each statement of a module that has an object is an action, so that nothing stands in for one (clause 9)
abbrev pub StatementsAreActions : Elaborated → Type 0
StatementsAreActions design =
    (number id k : ℕ) (m : declared.Module) (s : Statement)
    → slice_get design.source.modules number ≡ Some m → IsInstanceOf design m id
    → slice_get (statements_in design.source m) k ≡ Some s
    → IsSome (action_for design (scope_of design m) (sizes_of design) s)
