-- What the processes of a design come of, in order: procedures, continuous assignments, and connections of ports.
use Rattle.std.specs.Prelude.{◌≡◌, ℕ, ◌+◌, ◌==◌, Bool, true, false, if◌then◌else◌, List, [], ◌∷◌, ◌++◌, length, slice_get, Option, Some, None}
use Rattle.std.specs.List.{flat_map, position}
use Rattle.std.specs.Option.{option_and_then, option_map_or}
use Rattle.std.specs.Str.{bytes_eq}
use Rattle.vp_source.specs.Places.{word_at}
use Rattle.vp_source.specs.declared.source.Connection.{Connection}
use Rattle.vp_source.specs.declared.source.Source.{Source}
use Rattle.vp_source.specs.declared.source.Module as declared
use Rattle.vp_source.specs.declared.source.Item.{Item}
use Rattle.vp_source.specs.declared.source.Item.TheVariants as item
use Rattle.vp_modules.specs.Items.{connections_of, definition_of, is_input, item_place, ports_in}
use Rattle.vp_elab.specs.declared.object.ObjectId.{ObjectId}
use Rattle.vp_elab.specs.Built.{Elaborated}
use Rattle.vp_elab.specs.Items.{node_item, parent_of}
use Rattle.vp_elab.specs.Tree.{Node, below, find_in}

-- what a process comes of (clause 11.1): a procedure, by its object, the instance in which it stands, whether it repeats, and its
-- statement; a continuous assignment, by its object, its instance, the net that it drives, and its value; a connection of a port
-- inwards, by the port, the instance in which the value stands, and the value; and one outwards, by the port and the net
pub data Origin : Type 0 where
  Procedure : (object instance : ObjectId) → (repeats : Bool) → (body : ℕ) → Origin
  Assignment : (object instance net : ObjectId) → (value : ℕ) → Origin
  Inward : (port instance : ObjectId) → (value : ℕ) → Origin
  Outward : (port net : ObjectId) → Origin

-- the object of a number
abbrev pub object_of : ℕ → ObjectId
object_of id = record { 0 = id }

-- ---- the ports that connections name (clause 12.3.6)

-- a connection names a port so
abbrev pub names_port : Source → List ℕ → Connection → Bool
names_port source name c = option_map_or (λ place. bytes_eq name (word_at source place)) c.port false

-- the index of a name, by these names and the index of each
abbrev pub first_index : List (List ℕ) → List ℕ → List ℕ → Option ℕ
first_index names firsts name = option_and_then (slice_get firsts) (position (bytes_eq name) names)

-- an index where there is one; else this one, where a test holds
abbrev pub by_first : Option ℕ → Bool → ℕ → Option ℕ
by_first (Some first) here index = Some first
by_first None here index = if here then Some index else None

-- these are the names of the ports that connections name, each with the index of the first that does
abbrev pub AreNamed : Source → List Connection → List (List ℕ) → List ℕ → Type 0
AreNamed source cs names firsts = (name : List ℕ) → first_index names firsts name ≡ position (names_port source name) cs

-- ---- connections of ports (clause 12.3.9.2)

-- the name of a port
abbrev pub port_name : Source → Item → List ℕ
port_name source i = word_at source (item_place i)

-- a connection after so many is to the port of this index and name: by its port's name where it has one (clause 12.3.6), or else by
-- its position (clause 12.3.5)
abbrev pub is_to : Source → (index : ℕ) → (name : List ℕ) → (before : ℕ) → Connection → Bool
is_to source index name before c = option_map_or (λ place. bytes_eq name (word_at source place)) c.port (before == index)

-- the first of these connections, after so many, that is to the port of this index and name
abbrev pub connected : Source → (index : ℕ) → (name : List ℕ) → (before : ℕ) → List Connection → Option Connection
connected source index name before [] = None
connected source index name before (c ∷ cs) =
    if is_to source index name before c then Some c else connected source index name (before + 1) cs

-- the index of the connection that is to the port of an index by its position; how many there are, where there is none
abbrev pub place_of_port : List Connection → ℕ → ℕ
place_of_port cs index = option_map_or (λ (c : Connection). option_map_or (λ _. length cs) c.port index) (slice_get cs index) (length cs)

-- what is there, as a list
abbrev pub listed : {A : Type 0} → Option A → List A
listed o = option_map_or (λ x. x ∷ []) o []

-- the origin of a connection: the port gets the value of an expression outside, or a whole net outside that of the port
abbrev pub through_port : Source → List Node → (outer : ℕ) → (port : ℕ) → Item → Connection → (value : ℕ) → Option Origin
through_port source nodes outer port i c value =
    if is_input i then Some (Inward (object_of port) (object_of outer) value)
    else option_and_then (λ net. Some (Outward (object_of port) (object_of net))) (find_in nodes (Some outer) (word_at source c.place))

-- the origin of a connection to a port of an instance, in the object in which the instance stands; a blank connection gives none
abbrev pub port_origin : Source → List Node → (outer : ℕ) → (id : ℕ) → Item → Connection → Option Origin
port_origin source nodes outer id i c =
    option_and_then (λ value. option_and_then (λ port. through_port source nodes outer port i c value) (find_in nodes (Some id) (port_name source i))) c.value

-- the origin of a port of an instance, by its index, and by the instance's connections
abbrev pub origin_at_port : Source → List Node → (outer : ℕ) → (id : ℕ) → List Connection → (index : ℕ) → Item → Option Origin
origin_at_port source nodes outer id cs index i =
    option_and_then (port_origin source nodes outer id i) (connected source index (port_name source i) 0 cs)

-- the origins of these ports of an instance, of which the first has this index
abbrev pub port_origins : Source → List Node → (outer : ℕ) → (id : ℕ) → List Connection → (index : ℕ) → List Item → List Origin
port_origins source nodes outer id cs index [] = []
port_origins source nodes outer id cs index (i ∷ is) =
    listed (origin_at_port source nodes outer id cs index i) ++ port_origins source nodes outer id cs (index + 1) is

-- ---- all of them

-- the origin of a continuous assignment (clause 6.1)
abbrev pub assignment_origin : Source → List Node → (outer : ℕ) → (id : ℕ) → (target : ℕ) → (value : ℕ) → Option Origin
assignment_origin source nodes outer id target value =
    option_and_then (λ net. Some (Assignment (object_of id) (object_of outer) (object_of net) value)) (find_in nodes (Some outer) (word_at source target))

-- the origins of the ports of an instance of a module
abbrev pub instance_origins : Source → List Node → (outer : ℕ) → (id : ℕ) → Item → declared.Module → List Origin
instance_origins source nodes outer id i m = port_origins source nodes outer id (connections_of source i) 0 (ports_in source m)

-- the origins that the object of a number gives, which is this item in the instance of another; an always repeats, an initial does
-- not (clauses 6.1, 9.9.1, 9.9.2 and 12.3.9.2)
abbrev pub item_origins : Source → List Node → (outer : ℕ) → (id : ℕ) → Item → List Origin
item_origins source nodes outer id (item.Initial keyword body) = Procedure (object_of id) (object_of outer) false body ∷ []
item_origins source nodes outer id (item.Always keyword body) = Procedure (object_of id) (object_of outer) true body ∷ []
item_origins source nodes outer id (item.Assignment target value) = listed (assignment_origin source nodes outer id target value)
item_origins source nodes outer id i = option_map_or (instance_origins source nodes outer id i) (definition_of source i) []

-- the origins that an object gives; a top module gives none
abbrev pub node_origins : Source → List Node → (id : ℕ) → Node → List Origin
node_origins source nodes id node =
    option_map_or (λ i. option_map_or (λ outer. item_origins source nodes outer id i) (parent_of nodes node) []) (node_item source node) []

-- the origins that the object of a number gives
abbrev pub origins_at : Source → List Node → ℕ → List Origin
origins_at source nodes id = option_map_or (node_origins source nodes id) (slice_get nodes id) []

-- the origins of the processes of a design, in order: those of its objects in preorder (clause 11.1; profile)
abbrev pub origins_of : Elaborated → List Origin
origins_of design = flat_map (origins_at design.source design.tree.nodes) (below (length design.tree.nodes))
