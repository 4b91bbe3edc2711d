-- The tree of a source: its top modules, and below each the items of its module, in preorder (clause 12.5).
use Rattle.std.specs.Prelude.{ℕ, zero, suc, ◌+◌, ◌-◌, List, [], ◌∷◌, ◌++◌, map, filter, Option, Some, None, option_map, slice_get}
use Rattle.std.specs.List.{flat_map}
use Rattle.std.specs.Option.{option_and_then, option_map_or}
use Rattle.vp_source.specs.declared.expression.Range.{Range}
use Rattle.vp_source.specs.declared.expression.Expression.{Expression}
use Rattle.vp_source.specs.declared.expression.Expression.TheVariants as expression
use Rattle.vp_source.specs.Places.{line_at, word_at}
use Rattle.vp_source.specs.declared.source.Direction.TheVariants as direction
use Rattle.vp_source.specs.declared.source.DeclaredRange.{DeclaredRange}
use Rattle.vp_source.specs.declared.source.Source.{Source}
use Rattle.vp_source.specs.declared.source.Module as declared
use Rattle.vp_source.specs.declared.source.Item.{Item}
use Rattle.vp_source.specs.declared.source.Item.TheVariants as item
use Rattle.vp_modules.specs.Items.{definition_of, instantiated, is_top, item_name, item_place, items_in}
use Rattle.vp_pragma.specs.declared.envelope.Envelope.{Envelope}
use Rattle.vp_pragma.specs.Envelopes.{Protection, envelope_at}
use Rattle.vp_elab.specs.declared.object.Kind.{Kind}
use Rattle.vp_elab.specs.declared.object.Kind.TheVariants as kind
use Rattle.vp_elab.specs.Tree.{Step, Node, Tree}

-- ---- items

-- the kind of what an item declares: a port is a net, or a reg (clauses 12.3.3 and 26.6)
abbrev pub item_kind : Item → Kind
item_kind (item.Port name direction.OutputReg range) = kind.Reg
item_kind (item.Port name _ range) = kind.Net
item_kind (item.Net name range) = kind.Net
item_kind (item.Reg name range) = kind.Reg
item_kind (item.LocalParameter name value) = kind.Parameter
item_kind (item.Assignment target value) = kind.Assign
item_kind (item.Instance name definition first end) = kind.Module
item_kind (item.Initial keyword body) = kind.Initial
item_kind (item.Always keyword body) = kind.Always

-- the range of a literal with a size (profile)
abbrev pub literal_range : Expression → Option Range
literal_range (expression.Literal place size digits) = Some (record { msb = size - 1; lsb = 0 })
literal_range _ = None

-- the range of the bits of what an item declares; that of a local parameter is its literal's size (clauses 4.3.1 and 4.10.2)
abbrev pub item_range : Source → Item → Option Range
item_range source (item.Port name direction range) = option_map (λ (d : DeclaredRange). d.range) range
item_range source (item.Net name range) = option_map (λ (d : DeclaredRange). d.range) range
item_range source (item.Reg name range) = option_map (λ (d : DeclaredRange). d.range) range
item_range source (item.LocalParameter name value) = option_and_then literal_range (slice_get source.expressions value)
item_range source _ = None

-- how many bits a range has (clause 4.3.1)
abbrev pub range_width : Range → ℕ
range_width range = range.msb - range.lsb + 1

-- how many bits what has a range or none has: a scalar has one (clause 4.3.1)
abbrev pub width_of : Option Range → ℕ
width_of range = option_map_or range_width range 1

-- the index of the least significant bit of what has a range; a scalar has none (clause 4.3.1)
abbrev pub lowest_of : Option Range → Option ℕ
lowest_of range = option_map (λ (r : Range). r.lsb) range

-- ---- nodes

-- the step to a declaration in a module
abbrev pub step_at : List Envelope → Option (List ℕ) → List ℕ → ℕ → Step
step_at envelopes in_module name place = record {
  name = name;
  place = place;
  envelope = envelope_at envelopes place;
  in_module = in_module;
}

-- the step to a top module
abbrev pub root_step : Source → List Envelope → declared.Module → Step
root_step source envelopes m = step_at envelopes None (word_at source m.name) m.name

-- the step to an item of a module, which is the same in each instance of it
abbrev pub item_step : Source → List Envelope → declared.Module → Item → Step
item_step source envelopes m i = step_at envelopes (Some (word_at source m.name)) (item_name source i) (item_place i)

-- the node of a top module
abbrev pub root_node : Source → List Envelope → declared.Module → Node
root_node source envelopes m = record {
  path = root_step source envelopes m ∷ [];
  kind = kind.Module;
  width = 1;
  lowest = None;
  line = line_at source m.name;
  definition = Some (word_at source m.name);
}

-- the node of an item of a module, after the steps of the module's object
abbrev pub item_node : Source → List Envelope → List Step → declared.Module → Item → Node
item_node source envelopes above m i = record {
  path = above ++ item_step source envelopes m i ∷ [];
  kind = item_kind i;
  width = width_of (item_range source i);
  lowest = lowest_of (item_range source i);
  line = line_at source (item_place i);
  definition = instantiated source i;
}

-- the nodes of an item: its own, and those below an instance, which are those of its module (clause 12.1.2)
abbrev pub item_nodes : Source → List Envelope → (List Step → declared.Module → List Node) → List Step → declared.Module → Item → List Node
item_nodes source envelopes below above m i =
    item_node source envelopes above m i
    ∷ option_map_or (below (above ++ item_step source envelopes m i ∷ [])) (definition_of source i) []

-- the nodes below an object of a module, which has these steps; a number bounds how many steps more there may be (profile)
abbrev pub nodes_below : Source → List Envelope → ℕ → List Step → declared.Module → List Node
nodes_below source envelopes zero above m = []
nodes_below source envelopes (suc d) above m = flat_map (item_nodes source envelopes (nodes_below source envelopes d) above m) (items_in source m)

-- the nodes of a top module, on paths of at most so many steps more than one
abbrev pub top_nodes : Source → List Envelope → ℕ → declared.Module → List Node
top_nodes source envelopes further m =
    root_node source envelopes m ∷ nodes_below source envelopes further (root_step source envelopes m ∷ []) m

-- the top modules, in the order of the text (clause 12.1.1)
abbrev pub tops : Source → List declared.Module
tops source = filter (is_top source) source.modules

-- the nodes of a source with these envelopes, on paths of at most so many steps more than one
abbrev pub nodes_within : Source → List Envelope → ℕ → List Node
nodes_within source envelopes further = flat_map (top_nodes source envelopes further) (tops source)

-- how many steps a path may have after its first: 64 in all (profile)
unfoldable pub further_limit : ℕ
further_limit = 63

-- the nodes of a source with these envelopes, so far down that a path which is too long is seen
abbrev pub nodes_of : Source → List Envelope → List Node
nodes_of source envelopes = nodes_within source envelopes (suc further_limit)

-- the tree of a source with these envelopes and viewports
abbrev pub tree_of : Source → Protection → Tree
tree_of source protection = record {
  nodes = nodes_of source protection.envelopes;
  viewports = protection.viewports;
  authors = map (λ e. e.author) protection.envelopes;
}
