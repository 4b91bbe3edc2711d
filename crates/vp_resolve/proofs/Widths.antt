-- The objects of a design whose declarations are not too wide: each has 1 to 64 bits.
use Rattle.std.proofs.Common.{◌≡◌, ℕ, zero, suc, ◌+◌, ◌-◌, ◌≤◌, Bool, true, false, cond, List, [], ◌∷◌, ◌++◌, filter, slice_get, Option, Some, None, refl, ap, arith}
use Rattle.std.specs.Prelude.{not, option_map}
use Rattle.std.proofs.lemmas.Bool.{and_from, le-leb, ltb-false}
use Rattle.std.specs.List.{flat_map, list_all}
use Rattle.std.specs.Option.{option_and_then, option_map_or}
use Rattle.vp_source.specs.declared.expression.Expression.{Expression}
use Rattle.vp_source.specs.declared.expression.Expression.TheVariants as expression
use Rattle.vp_source.specs.declared.source.DeclaredRange.{DeclaredRange}
use Rattle.vp_source.specs.declared.source.Item.{Item}
use Rattle.vp_source.specs.declared.source.Item.TheVariants as item
use Rattle.vp_source.specs.declared.source.Module.{Module}
use Rattle.vp_source.specs.declared.source.Source.{Source}
use Rattle.vp_source.specs.Places.{earliest}
use Rattle.vp_modules.specs.Items.{definition_of, instantiated, is_top, items_in, module_named, module_number}
use Rattle.vp_elab.specs.Envelopes.{Protection}
use Rattle.vp_elab.specs.Elaboration.{item_nodes, item_range, item_step, literal_range, nodes_below, nodes_within, range_width, root_step, top_nodes, width_of}
use Rattle.vp_elab.specs.Tree.{Node, Step}
use Rattle.vp_operand.specs.Arena.{is_width}
use Rattle.vp_resolve.specs.Checks.{is_wide, wide_at, wide_item, wide_range}
use Rattle.vp_resolve.proofs.Nowhere.{all_at, all_both, earlier_none, place_none}

-- a size of one bit or more that is not too great is that of a vector
pub width_there : (size : ℕ) → 1 ≤ size → is_wide size ≡ false → is_width size ≡ true
width_there size some narrow = and_from _ _ (le-leb 1 size some) (le-leb size 64 (ltb-false 64 size narrow))

-- ---- literals

-- a literal, if it is one, is not too wide
abbrev pub is_narrow : Expression → Bool
is_narrow (expression.Literal place size digits) = not (is_wide size)
is_narrow _ = true

-- an expression that is not too wide is no literal that is
pub narrow_there : (size : ℕ) (e : Expression) → wide_at size e ≡ None → is_narrow e ≡ true
narrow_there size (expression.Literal place bits digits) h = ap not (place_none (is_wide bits) place h)
narrow_there size (expression.Name name s) h = refl
narrow_there size (expression.Based digits) h = refl
narrow_there size (expression.Number place number) h = refl
narrow_there size (expression.Unary operator place a) h = refl
narrow_there size (expression.Binary operator place a b) h = refl
narrow_there size (expression.Conditional c a b) h = refl
narrow_there size (expression.Concatenation brace part) h = refl
narrow_there size (expression.Appended brace list part) h = refl
narrow_there size (expression.Replication brace count list) h = refl

narrow_size : (b : Bool) → not b ≡ true → b ≡ false
narrow_size true h = absurd cc
narrow_size false h = refl

-- a range of a literal that is not too wide
literal_fits : (e : Expression) → is_narrow e ≡ true → is_width (width_of (literal_range e)) ≡ true
literal_fits (expression.Literal place size digits) h =
    let most = ltb-false 64 size (narrow_size (is_wide size) h) in
    let width = size - 1 - 0 + 1 in
    and_from _ _ (le-leb 1 width (omega arith)) (le-leb width 64 (omega arith))
literal_fits (expression.Name name s) h = refl
literal_fits (expression.Based digits) h = refl
literal_fits (expression.Number place number) h = refl
literal_fits (expression.Unary operator place a) h = refl
literal_fits (expression.Binary operator place a b) h = refl
literal_fits (expression.Conditional c a b) h = refl
literal_fits (expression.Concatenation brace part) h = refl
literal_fits (expression.Appended brace list part) h = refl
literal_fits (expression.Replication brace count list) h = refl

-- ---- items

-- the literal at a place, if one is there, gives a range that fits
value_fits : (es : List Expression) (value : ℕ) (found : Option Expression) → list_all is_narrow es ≡ true → slice_get es value ≡ found → is_width (width_of (option_and_then literal_range found)) ≡ true
value_fits es value None h at = refl
value_fits es value (Some e) h at = literal_fits e (all_at is_narrow es value e h at)

-- a range that is not too wide fits
range_fits : (range : Option DeclaredRange) → option_and_then wide_range range ≡ None → is_width (width_of (option_map (λ (d : DeclaredRange). d.range) range)) ≡ true
range_fits None h = refl
range_fits (Some d) h =
    width_there (range_width d.range) (omega arith) (place_none (is_wide (range_width d.range)) d.bracket h)

-- what an item declares has 1 to 64 bits
item_fits : (source : Source) (i : Item) → list_all is_narrow source.expressions ≡ true → wide_item i ≡ None → is_width (width_of (item_range source i)) ≡ true
item_fits source (item.Port name direction range) narrow h = range_fits range h
item_fits source (item.Net name range) narrow h = range_fits range h
item_fits source (item.Reg name range) narrow h = range_fits range h
item_fits source (item.LocalParameter name value) narrow h =
    value_fits source.expressions value (slice_get source.expressions value) narrow refl
item_fits source (item.Assignment target value) narrow h = refl
item_fits source (item.Instance name definition first end) narrow h = refl
item_fits source (item.Initial keyword body) narrow h = refl
item_fits source (item.Always keyword body) narrow h = refl

-- ---- nodes

-- a node has 1 to 64 bits
abbrev pub node_fits : Node → Bool
node_fits node = is_width node.width

-- the number of a module that a name gives
number_there : (modules : List Module) (number : Option ℕ) (m : Module) → option_and_then (slice_get modules) number ≡ Some m → (k : ℕ) × (slice_get modules k ≡ Some m)
number_there modules None m h = absurd cc
number_there modules (Some k) m h = (k, h)

-- the number of the module of a name
name_there : (source : Source) (name : Option (List ℕ)) (m : Module) → option_and_then (module_named source) name ≡ Some m → (k : ℕ) × (slice_get source.modules k ≡ Some m)
name_there source None m h = absurd cc
name_there source (Some name) m h = number_there source.modules (module_number source name) m h

module _ (source : Source) (protection : Protection) (narrow : list_all is_narrow source.expressions ≡ true) (declared : (k : ℕ) (m : Module) → slice_get source.modules k ≡ Some m → earliest wide_item (items_in source m) ≡ None) where
  -- the nodes of an instance, if it is one
  instance_fits : (nodes_of : List Step → Module → List Node) → ((above : List Step) (k : ℕ) (m : Module) → slice_get source.modules k ≡ Some m → list_all node_fits (nodes_of above m) ≡ true) → (above : List Step) (definition : Option Module) → ((m : Module) → definition ≡ Some m → (k : ℕ) × (slice_get source.modules k ≡ Some m)) → list_all node_fits (option_map_or (nodes_of above) definition []) ≡ true
  instance_fits nodes_of fit above None there = refl
  instance_fits nodes_of fit above (Some m) there = let at = there m refl in fit above at.0 m at.1

  -- the nodes of items
  items_fit : (nodes_of : List Step → Module → List Node) → ((above : List Step) (k : ℕ) (m : Module) → slice_get source.modules k ≡ Some m → list_all node_fits (nodes_of above m) ≡ true) → (above : List Step) (m : Module) (is : List Item) → earliest wide_item is ≡ None → list_all node_fits (flat_map (item_nodes source protection.envelopes nodes_of above m) is) ≡ true
  items_fit nodes_of fit above m [] h = refl
  items_fit nodes_of fit above m (i ∷ is) h =
      let both = earlier_none (wide_item i) (earliest wide_item is) h in
      let path = above ++ item_step source protection.envelopes m i ∷ [] in
      let own = instance_fits nodes_of fit path (definition_of source i) (name_there source (instantiated source i)) in
      all_both node_fits (item_nodes source protection.envelopes nodes_of above m i) (flat_map (item_nodes source protection.envelopes nodes_of above m) is)
      (and_from _ _ (item_fits source i narrow both.0) own)
      (items_fit nodes_of fit above m is both.1)

  -- the nodes below an object of a module
  below_fit : (d : ℕ) (above : List Step) (k : ℕ) (m : Module) → slice_get source.modules k ≡ Some m → list_all node_fits (nodes_below source protection.envelopes d above m) ≡ true
  below_fit zero above k m at = refl
  below_fit (suc d) above k m at =
      items_fit (nodes_below source protection.envelopes d) (below_fit d) above m (items_in source m) (declared k m at)

  -- the nodes of a module, if it is a top module
  top_fits : (further : ℕ) (m : Module) (ms : List Module) (top : Bool) → list_all node_fits (top_nodes source protection.envelopes further m) ≡ true → list_all node_fits (flat_map (top_nodes source protection.envelopes further) ms) ≡ true → list_all node_fits (flat_map (top_nodes source protection.envelopes further) (cond top (m ∷ ms) ms)) ≡ true
  top_fits further m ms true own rest =
      all_both node_fits (top_nodes source protection.envelopes further m) (flat_map (top_nodes source protection.envelopes further) ms) own rest
  top_fits further m ms false own rest = rest

  -- the nodes of top modules among these
  tops_fit : (further : ℕ) (ms : List Module) → ((k : ℕ) (m : Module) → slice_get ms k ≡ Some m → (j : ℕ) × (slice_get source.modules j ≡ Some m)) → list_all node_fits (flat_map (top_nodes source protection.envelopes further) (filter (is_top source) ms)) ≡ true
  tops_fit further [] there = refl
  tops_fit further (m ∷ ms) there =
      let at = there 0 m refl in
      top_fits further m (filter (is_top source) ms) (is_top source m)
      (below_fit further (root_step source protection.envelopes m ∷ []) at.0 m at.1)
      (tops_fit further ms (λ k n found. there (suc k) n found))

  -- the nodes of a source
  pub nodes_fit : (further : ℕ) → list_all node_fits (nodes_within source protection.envelopes further) ≡ true
  nodes_fit further = tops_fit further source.modules (λ k m at. (k, at))
