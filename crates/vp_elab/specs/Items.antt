-- The items that objects are, and the objects above them.
use Rattle.std.specs.Prelude.{ℕ, List, [], ◌∷◌, slice_get, Option}
use Rattle.std.specs.Option.{option_and_then}
use Rattle.vp_source.specs.declared.source.Source.{Source}
use Rattle.vp_source.specs.declared.source.Module as declared
use Rattle.vp_source.specs.declared.source.Item.{Item}
use Rattle.vp_modules.specs.Items.{definition_of, item_named, items_in, module_named}
use Rattle.vp_elab.specs.Tree.{Node, Step, find_named, last_step, names_of}

-- the item to which a step leads; none where it leads to a top module (clause 12.5)
abbrev pub item_of : Source → Step → Option Item
item_of source step =
    option_and_then (λ name. option_and_then (λ (m : declared.Module). item_named source (items_in source m) step.name) (module_named source name)) step.in_module

-- the item that an object is; none of a top module
abbrev pub node_item : Source → Node → Option Item
node_item source node = option_and_then (item_of source) (last_step node.path)

-- the module that the object of a number instantiates; none of a top module (clause 12.1.2)
abbrev pub instantiated_at : Source → List Node → ℕ → Option declared.Module
instantiated_at source nodes id = option_and_then (definition_of source) (option_and_then (node_item source) (slice_get nodes id))

-- all steps of a path but the last
abbrev pub steps_above : List Step → List Step
steps_above [] = []
steps_above (s ∷ []) = []
steps_above (s ∷ t ∷ path) = s ∷ steps_above (t ∷ path)

-- the number of the object above another, in which it is declared; none of a top module (clause 12.4)
abbrev pub parent_of : List Node → Node → Option ℕ
parent_of nodes node = find_named nodes (names_of (steps_above node.path))
