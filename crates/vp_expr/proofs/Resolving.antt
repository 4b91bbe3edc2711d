-- Nothing of a checked design is lost: each name finds its item, and each statement is an action.
use Rattle.std.proofs.Common.{◌≡◌, ◌∙◌, ℕ, ◌-◌, max, Bool, true, false, cond, inl, inr, List, [], ◌∷◌, slice_get, Option, Some, None, refl, sym, ap, subst, arith}
use Rattle.std.specs.Prelude.{IsSome, option_map}
use Rattle.std.specs.List.{fold, list_all}
use Rattle.std.specs.Option.{option_and_then, option_map_or}
use Rattle.std.proofs.lemmas.Bool.{and_from, le-leb}
use Rattle.std.proofs.lemmas.Option.{slice_get-map}
use Rattle.vp_source.specs.declared.expression.Expression.{Expression}
use Rattle.vp_source.specs.declared.expression.Range.{Range}
use Rattle.vp_source.specs.declared.expression.Selection.{Selection}
use Rattle.vp_source.specs.declared.expression.Selection.TheVariants as selection
use Rattle.vp_source.specs.declared.statement.Choice.{Choice}
use Rattle.vp_source.specs.declared.statement.EventTerm.{EventTerm}
use Rattle.vp_source.specs.declared.statement.Statement.{Statement}
use Rattle.vp_source.specs.declared.statement.Statement.TheVariants as statement
use Rattle.vp_source.specs.declared.source.Item.{Item}
use Rattle.vp_source.specs.declared.source.Module.{Module}
use Rattle.vp_source.specs.declared.source.Source.{Source}
use Rattle.vp_source.specs.Places.{earliest, word_at}
use Rattle.vp_modules.specs.declared.error.ElabError.{ElabError}
use Rattle.vp_modules.specs.declared.error.ElabError.TheVariants.{Undeclared}
use Rattle.vp_modules.specs.Items.{expressions_in, is_operand, is_signal, items_in, named_at, statements_in, terms_in}
use Rattle.vp_modules.specs.Refusals.{assigned_by, first_in, first_of_two, name_in, refused_at, target_of, undeclared, unfit}
use Rattle.vp_elab.specs.modules as modules
use Rattle.vp_elab.specs.Built.{Elaborated, IsFoundAs, ItemsAreFound}
use Rattle.vp_elab.specs.Elaboration.{range_width}
use Rattle.vp_elab.specs.Tree.{Node, first_of}
use Rattle.vp_operand.specs.Arena.{is_width}
use Rattle.vp_operand.specs.Ids.{Sized}
use Rattle.vp_operand.proofs.Arenas.{each_fits, width_from}
use Rattle.vp_resolve.specs.declared.error.ExprError.TheVariants.{BadSelect, SignedCompare, TooWide}
use Rattle.vp_resolve.specs.Checks as checks
use Rattle.vp_resolve.specs.Checks.{counted_sizes, first_bad, first_signed, first_wide, first_wide_in, is_wide, is_wide_part, place_if, refusal_of, wide_declared, wide_item, wide_target}
use Rattle.vp_resolve.specs.Names.{lowest_in, object_named, scope_of, slot_in, width_in}
use Rattle.vp_resolve.specs.Operands.{sizes_of, widths_of}
use Rattle.vp_resolve.proofs.Nowhere.{all_at, earlier_none, earliest_none, place_none, refused_none}
use Rattle.vp_resolve.proofs.Widths.{width_there}
use Rattle.vp_expr.specs.declared.tables.Action.{Action}
use Rattle.vp_expr.specs.declared.tables.Action.TheVariants as action
use Rattle.vp_expr.specs.declared.tables.Target.{Target}
use Rattle.vp_expr.specs.declared.tables.Target.TheVariants as target
use Rattle.vp_expr.specs.Awaits.{choices_at}
use Rattle.vp_expr.specs.Resolved.{IsUsedIn, NamesAreFound, StatementsAreActions}
use Rattle.vp_expr.specs.Tables.{action_for, assigned, named_target, own_sized, selected_target, size_at, sized_at, target_width, value_for, with_label}
use Rattle.vp_expr.proofs.Instances.{first_is, first_there}

-- ---- names

first_none : (a b : Option ElabError) → first_of_two a b ≡ None → (a ≡ None) × (b ≡ None)
first_none None b h = (refl, h)
first_none (Some e) b h = absurd cc

place_missing : (source : Source) (because : ℕ → ElabError) (place : Option ℕ) → refused_at source because place ≡ None → place ≡ None
place_missing source because None h = refl
place_missing source because (Some p) h = absurd cc

-- in modules that are right no name is undeclared
uses_right : (source : Source) → modules.refusal_of source ≡ None → first_in source (undeclared source) ≡ None
uses_right source right =
    let uses = (first_none _ _ (first_none _ _ right).1).1 in
    place_missing source Undeclared (first_in source (undeclared source)) (first_none _ _ uses).0

-- a place that is fit names an item
fit_named : (source : Source) (m : Module) (fits : Item → Bool) (p : ℕ) → unfit source m fits (Some p) ≡ None → (i : Item) × (named_at source m p ≡ Some i)
fit_named source m fits p h = by (named_at source m p) h
  where
    by : (o : Option Item) → cond (option_map_or fits o false) None (Some p) ≡ None → (i : Item) × (o ≡ Some i)
    by None none = absurd cc
    by (Some i) none = (i, refl)

-- a name that is used in a module whose names are declared names an item of it
used_named : (source : Source) (m : Module) (place : ℕ) → undeclared source m ≡ None → IsUsedIn source m place → (i : Item) × (named_at source m place ≡ Some i)
used_named source m place none used =
    let statements = earlier_none _ _ none in
    let expressions = earlier_none _ _ statements.1 in
    let others = earlier_none _ _ expressions.1 in
    elim used [
      | inl (k, e, at, is) ↦
          fit_named source m is_operand place
          (subst (λ (o : Option ℕ). unfit source m is_operand o ≡ None) is (earliest_none (λ (e : Expression). unfit source m is_operand (name_in e)) (expressions_in source m) k e expressions.0 at))
      | inr (inl (k, s, at, is)) ↦
          fit_named source m is_operand place
          (subst (λ (o : Option ℕ). unfit source m is_operand o ≡ None) is (earliest_none (λ (s : Statement). unfit source m is_operand (target_of s)) (statements_in source m) k s statements.0 at))
      | inr (inr (inl (k, i, at, is))) ↦
          fit_named source m is_operand place
          (subst (λ (o : Option ℕ). unfit source m is_operand o ≡ None) is (earliest_none (λ (i : Item). unfit source m is_operand (assigned_by i)) (items_in source m) k i others.0 at))
      | inr (inr (inr (k, t, at, is))) ↦
          fit_named source m is_signal place
          (subst (λ (p : ℕ). unfit source m is_signal (Some p) ≡ None) is (earliest_none (λ (t : EventTerm). unfit source m is_signal (Some t.name)) (terms_in source m) k t others.1 at))
    ]

-- each name finds its item
pub names_found : (d : Elaborated) → modules.refusal_of d.source ≡ None → ItemsAreFound d → NamesAreFound d
names_found d right found = λ number id place m there is used.
    let none = earliest_none (undeclared d.source) d.source.modules number m (uses_right d.source right) there in
    let i = used_named d.source m place none used in
    (i.0, i.1, found number id m (word_at d.source place) i.0 there is i.1)

-- ---- sizes

wider_fits : (a b : ℕ) → is_width a ≡ true → is_width b ≡ true → is_width (max a b) ≡ true
wider_fits a b h k =
    let first = width_from a h in
    let second = width_from b k in
    and_from _ _ (le-leb 1 (max a b) (omega arith)) (le-leb (max a b) 64 (omega arith))

sized_there : (place size : ℕ) → is_width size ≡ true → IsSome (sized_at place size)
sized_there place size fits = subst (λ (b : Bool). IsSome (let s : Option Sized = cond b (Some (record { place = place; size = size })) None in s)) (sym fits) refl

mapped_some : {A B : Type 0} (f : A → B) (o : Option A) → IsSome o → IsSome (option_map f o)
mapped_some f None none = absurd cc
mapped_some f (Some x) some = refl

module _ (d : Elaborated) (wide : list_all is_width (widths_of d) ≡ true) (fit : list_all is_width (sizes_of d) ≡ true) where
  size_fits : (place : ℕ) → is_width (size_at (sizes_of d) place) ≡ true
  size_fits place = each_fits (sizes_of d) place fit

  own_there : (place : ℕ) → IsSome (own_sized (sizes_of d) place)
  own_there place = sized_there place (size_at (sizes_of d) place) (size_fits place)

  -- the greatest of a size and those of labels fits
  labels_fit : (choices : List Choice) (size : ℕ) → is_width size ≡ true → is_width (fold (with_label (sizes_of d)) size choices) ≡ true
  labels_fit [] size fits = fits
  labels_fit (c ∷ choices) size fits = labels_fit choices (with_label (sizes_of d) size c) (label_fits c.label)
    where
      label_fits : (label : Option ℕ) → is_width (option_map_or (λ label. max size (size_at (sizes_of d) label)) label size) ≡ true
      label_fits None = fits
      label_fits (Some label) = wider_fits size (size_at (sizes_of d) label) fits (size_fits label)

  width_fits : (object : ℕ) (n : Node) → slice_get d.tree.nodes object ≡ Some n → is_width (width_in d object) ≡ true
  width_fits object n at =
      ap (λ (o : Option Node). is_width (option_map_or (λ (n : Node). n.width) o 0)) at
      ∙ all_at is_width (widths_of d) object n.width wide (slice_get-map (λ (n : Node). n.width) d.tree.nodes object ∙ ap (option_map (λ (n : Node). n.width)) at)

  -- what is selected of an object is a target of 1 to 64 bits
  abbrev Selected : Option Target → Type 0
  Selected o = (t : Target) × (o ≡ Some t) × (is_width (target_width t) ≡ true)

  selected_there : (scope : Option ℕ) (object : ℕ) (n : Node) (s : Selection) → slice_get d.tree.nodes object ≡ Some n → ((r : Range) → s ≡ selection.Part r → is_width (range_width r) ≡ true) → Selected (selected_target d scope object s)
  selected_there scope object n selection.Whole at parts =
      let fits = width_fits object n at in (_, ap (λ (b : Bool). (let o : Option Target = cond b (Some (target.Whole (slot_in scope object) (width_in d object))) None in o)) fits, fits)
  selected_there scope object n (selection.Bit index) at parts = (_, refl, refl)
  selected_there scope object n (selection.Part r) at parts =
      let fits = parts r refl in
      (_, ap (λ (b : Bool). (let o : Option Target = cond b (Some (target.Part (slot_in scope object) (r.lsb - lowest_in d object) (range_width r))) None in o)) fits, fits)

  -- a target with its value
  abbrev paired : (value : ℕ) → Target → Option (Target × Sized)
  paired value t = option_map (λ v. (t, v)) (value_for (sizes_of d) value t)

  assigned_there : (scope : Option ℕ) (name value : ℕ) (s : Selection) → Selected (named_target d scope (object_named d scope name) s) → IsSome (assigned d scope (sizes_of d) name s value)
  assigned_there scope name value s (t, is, fits) =
      subst (λ (o : Option Target). IsSome (option_and_then (paired value) o)) (sym is)
      (mapped_some {B = Target × Sized} (λ v. (t, v)) (value_for (sizes_of d) value t) (sized_there value (max (target_width t) (size_at (sizes_of d) value)) (wider_fits (target_width t) (size_at (sizes_of d) value) fits (size_fits value))))

  own_action : (make : Sized → Action) (place : ℕ) → IsSome (option_map make (own_sized (sizes_of d) place))
  own_action make place = mapped_some make (own_sized (sizes_of d) place) (own_there place)

  selector_there : (make : Sized → Action) (selector : ℕ) (choices : List Choice) → IsSome (option_map make (sized_at selector (fold (with_label (sizes_of d)) (size_at (sizes_of d) selector) choices)))
  selector_there make selector choices =
      let size = fold (with_label (sizes_of d)) (size_at (sizes_of d) selector) choices in
      mapped_some make (sized_at selector size) (sized_there selector size (labels_fit choices (size_at (sizes_of d) selector) (size_fits selector)))

-- a part that is not too wide is one of 1 to 64 bits
part_fits : (s : Selection) (target : ℕ) → place_if (is_wide_part s) target ≡ None → (r : Range) → s ≡ selection.Part r → is_width (range_width r) ≡ true
part_fits s target none r is =
    width_there (range_width r) (omega arith)
    (place_none (is_wide (range_width r)) target (subst (λ (s : Selection). place_if (is_wide_part s) target ≡ None) is none))

-- where nothing is too wide, no target of a statement is
targets_narrow : (d : Elaborated) → refusal_of d ≡ None → first_in d.source (wide_declared d.source) ≡ None
unfolding refusal_of first_wide
targets_narrow d accepted =
    (earlier_none (first_in d.source (wide_declared d.source)) (first_wide_in d.source d.source.modules (counted_sizes d)) (refused_none d.source (λ line. TooWide line) (first_wide d) (checks.refused_at d.source (λ line. SignedCompare line) (first_signed d) (checks.refused_at d.source (λ line. BadSelect line) (first_bad d) None)) accepted).0).0

module _ (d : Elaborated) (wide : list_all is_width (widths_of d) ≡ true) (fit : list_all is_width (sizes_of d) ≡ true) (m : Module) (f : ℕ) (at : first_of d.tree.nodes (word_at d.source m.name) ≡ Some f) where
  -- an assignment to a name that finds its item is an action
  target_there : (name value : ℕ) (s : Selection) (i : Item) → IsFoundAs d f (word_at d.source name) i → place_if (is_wide_part s) name ≡ None → IsSome (assigned d (scope_of d m) (sizes_of d) name s value)
  target_there name value s i found none =
      let named : object_named d (scope_of d m) name ≡ Some found.object =
      ap (λ (scope : Option ℕ). object_named d scope name) at ∙ found.found in
      let selected = selected_there d wide fit (scope_of d m) found.object found.node s found.at (part_fits s name none) in
      assigned_there d wide fit (scope_of d m) name value s
      (subst (λ (o : Option ℕ). Selected d wide fit (named_target d (scope_of d m) o s)) (sym named) selected)

  statement_there : (s : Statement) → ((place : ℕ) → target_of s ≡ Some place → (i : Item) × IsFoundAs d f (word_at d.source place) i) → wide_target s ≡ None → IsSome (action_for d (scope_of d m) (sizes_of d) s)
  statement_there statement.Empty target none = refl
  statement_there (statement.Then list last) target none = refl
  statement_there (statement.Assign name s value) target none =
      let found = target name refl in
      mapped_some _ (assigned d (scope_of d m) (sizes_of d) name s value) (target_there name value s found.0 found.1 none)
  statement_there statement.Null target none = refl
  statement_there (statement.Nonblocking name s value delay) target none =
      let found = target name refl in
      mapped_some _ (assigned d (scope_of d m) (sizes_of d) name s value) (target_there name value s found.0 found.1 none)
  statement_there (statement.Delay amount body) target none = refl
  statement_there (statement.Event terms body) target none = refl
  statement_there (statement.AnyEvent body) target none = refl
  statement_there (statement.Wait condition body) target none = own_action d wide fit (λ c. action.Wait c body) condition
  statement_there (statement.If condition first second) target none = own_action d wide fit (λ c. action.If c first second) condition
  statement_there (statement.While condition body step) target none = own_action d wide fit (λ c. action.While c body step) condition
  statement_there (statement.Case is_wild selector choices) target none =
      selector_there d wide fit (λ s. action.Case is_wild s choices) selector (choices_at d.source choices)
  statement_there statement.Finish target none = refl
  statement_there (statement.Forever body) target none = refl
  statement_there (statement.For start turns) target none = refl

-- each statement of a module that has an object is an action
pub statements_there : (d : Elaborated) → list_all is_width (widths_of d) ≡ true → list_all is_width (sizes_of d) ≡ true → refusal_of d ≡ None → NamesAreFound d → StatementsAreActions d
statements_there d wide fit accepted found = λ number id k m s there is at.
    let name = word_at d.source m.name in
    let first = first_there d.tree.nodes name id (first_of d.tree.nodes name) is refl in
    let first_instance = first_is d.tree.nodes name first.0 first.1 in
    let narrow = earliest_none (wide_declared d.source) d.source.modules number m (targets_narrow d accepted) there in
    let wide_none = earliest_none wide_target (statements_in d.source m) k s (earlier_none (earliest wide_item (items_in d.source m)) (earliest wide_target (statements_in d.source m)) narrow).1 at in
    statement_there d wide fit m first.0 first.1 s
    (λ place target. let item = found number first.0 place m there first_instance (inr (inl (k, s, at, target))) in (item.0, item.2))
    wide_none
