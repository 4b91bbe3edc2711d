-- The lines for the objects of a flat list, of which each has the number of the one in which it is declared.
use Rattle.std.specs.Prelude.{ℕ, List, [], ◌++◌, codes, length, map, slice_index, Option}
use Rattle.std.specs.List.{repeat}
use Rattle.std.specs.Option.{option_map_or}
use Rattle.vp_policy.specs.declared.view.SeenObject.{SeenObject}
use Rattle.vp_policy.specs.SeenObjects.{node_after, own_step}
use Rattle.vp_policy.specs.View.{SeenNode}
use Rattle.vp_replay.specs.Outline.{line_of, node_words}

-- the words for an object
abbrev pub object_words : SeenObject → List (List ℕ)
object_words o = node_words (node_after [] o) (own_step o)

-- the line for an object that has so many steps above it
abbrev pub object_line : ℕ → SeenObject → List ℕ
object_line above o = repeat above (codes "  ") ++ line_of (object_words o)

-- how many steps lead to each of these objects
abbrev pub steps_to : List SeenNode → List ℕ
steps_to nodes = map (λ node. length node.path) nodes

-- how many steps are above an object that is declared in the one of this number, where so many steps lead to each object before it
abbrev pub steps_above : List ℕ → Option ℕ → ℕ
steps_above steps parent = option_map_or (slice_index steps) parent 0
