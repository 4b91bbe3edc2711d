-- What a flat list of objects shows, of which each has the number of the one in which it is declared.
use Rattle.std.specs.Prelude.{ℕ, ◌+◌, Bool, if◌then◌else◌, List, [], ◌∷◌, ◌++◌, map, slice_get, Option, Some, None, option_and_then}
use Rattle.std.specs.Option.{option_map_or}
use Rattle.vp_pragma.specs.Rights.{set_of}
use Rattle.vp_policy.specs.declared.grant.GrantedBy.{GrantedBy}
use Rattle.vp_policy.specs.declared.view.SeenEnvelope.{SeenEnvelope}
use Rattle.vp_policy.specs.declared.view.SeenObject.{SeenObject}
use Rattle.vp_policy.specs.declared.view.SeenViewport as declared
use Rattle.vp_policy.specs.View.{SeenNode, SeenStep, SeenViewport, View}

-- the path to the object of a number among these; the path of no step where no number is given, and where no object is
abbrev pub path_to : List SeenNode → Option ℕ → List SeenStep
path_to nodes None = []
path_to nodes (Some n) = option_map_or (λ node. node.path) (slice_get nodes n) []

-- the object that a viewport names, and the rights that it opens
abbrev pub viewport_shown : declared.SeenViewport → SeenViewport
viewport_shown v = record { object = v.object; rights = set_of v.rights }

-- the last step to an object
abbrev pub own_step : SeenObject → SeenStep
own_step o = record {
  name = o.name;
  envelope = o.envelope;
  rights = set_of o.rights;
  viewports = map viewport_shown o.viewports;
}

-- the node of an object after these nodes: its step stands after the path to the object in which it is declared
abbrev pub node_after : List SeenNode → SeenObject → SeenNode
node_after nodes o = record {
  path = path_to nodes o.parent ++ own_step o ∷ [];
  kind = o.kind;
  width = o.width;
  line = o.line;
  definition = o.definition;
  value = o.value;
  closed_list = o.closed;
}

-- these nodes, and after them those of objects, one after the other
abbrev pub nodes_from : List SeenNode → List SeenObject → List SeenNode
nodes_from nodes [] = nodes
nodes_from nodes (o ∷ objects) = nodes_from (nodes ++ node_after nodes o ∷ []) objects

-- the author of an envelope, and by what the user has a grant entry for it
abbrev pub envelope_shown : SeenEnvelope → List ℕ × GrantedBy
envelope_shown e = (e.author, e.granted)

-- what is seen of the objects, the closed list of the top modules, the envelopes and the run flag
abbrev pub view_shown : List SeenObject → List ℕ → List SeenEnvelope → Bool → View
view_shown objects closed_list envelopes run = record {
  nodes = nodes_from [] objects;
  closed_list = closed_list;
  envelopes = map envelope_shown envelopes;
  run = run;
}

-- of each of these marks its number among those that are set, from this number on; none of one that is not
abbrev pub numbers_from : ℕ → (marks : List Bool) → List (Option ℕ)
numbers_from n [] = []
numbers_from n (m ∷ marks) = if m then Some n ∷ numbers_from (n + 1) marks else None ∷ numbers_from n marks

-- the number, among those marked, of the object in which another is declared
abbrev pub number_in : List (Option ℕ) → Option ℕ → Option ℕ
number_in numbers parent = option_and_then (λ p. option_and_then (λ n. n) (slice_get numbers p)) parent
