-- A design as a list of nodes in preorder, each with the steps of its path.
use Rattle.std.specs.Prelude.{◌≡◌, ℕ, zero, suc, ◌-◌, ◌==◌, ◌&&◌, Bool, true, false, if◌then◌else◌, codes, List, [], ◌∷◌, ◌++◌, length, map, filter, slice_get, slice_index_or, Option, Some, None, is_some, option_map, option_and_then}
use Rattle.std.specs.List.{filter_map, join_with_byte, list_any, position}
use Rattle.std.specs.Option.{option_map_or}
use Rattle.std.specs.Str.{bytes_eq}
use Rattle.vp_pragma.specs.Rights.{RightSet, nothing, either}
use Rattle.vp_pragma.specs.Envelopes.{Viewport}
use Rattle.vp_elab.specs.declared.object.Kind.{Kind}
use Rattle.vp_elab.specs.declared.object.Kind.TheVariants as kind

-- a step of a path: the name, the place and the envelope of a declaration, and the module in which it stands; a top
-- module stands in none (clause 12.5, profile)
pub record Step : Type 0 where
  pub name : List ℕ
  pub place : ℕ
  pub envelope : ℕ
  pub in_module : Option (List ℕ)

-- an object: the steps from its top module down to itself, its kind, its width in bits, of a vector the index of its least
-- significant bit, its line, and of a module the name of its definition (clauses 4.3.1 and 26.6)
pub record Node : Type 0 where
  pub path : List Step
  pub kind : Kind
  pub width : ℕ
  pub lowest : Option ℕ
  pub line : ℕ
  pub definition : Option (List ℕ)

-- a design: its nodes in preorder, its viewports in the order of the text, and the author of each envelope
pub record Tree : Type 0 where
  pub nodes : List Node
  pub viewports : List Viewport
  pub authors : List (List ℕ)

-- an object of a kind has a value: it is a net, a reg or a localparam (clause 4)
abbrev pub has_value : Kind → Bool
has_value kind.Net = true
has_value kind.Reg = true
has_value kind.Parameter = true
has_value kind.Module = false
has_value kind.Always = false
has_value kind.Initial = false
has_value kind.Assign = false

-- the name of the type of an object of a kind (IEEE Std 1364-2005, 26.6)
abbrev pub type_name : Kind → List ℕ
type_name kind.Module = codes "vpiModule"
type_name kind.Net = codes "vpiNet"
type_name kind.Reg = codes "vpiReg"
type_name kind.Parameter = codes "vpiParameter"
type_name kind.Always = codes "vpiAlways"
type_name kind.Initial = codes "vpiInitial"
type_name kind.Assign = codes "vpiContAssign"

-- the kind that a word names; none of any other word (profile)
abbrev pub kind_of_name : List ℕ → Option Kind
kind_of_name name =
    if bytes_eq name (codes "module") then Some kind.Module
    else (if bytes_eq name (codes "net") then Some kind.Net
    else (if bytes_eq name (codes "reg") then Some kind.Reg
    else (if bytes_eq name (codes "parameter") then Some kind.Parameter
    else (if bytes_eq name (codes "always") then Some kind.Always
    else (if bytes_eq name (codes "initial") then Some kind.Initial
    else (if bytes_eq name (codes "assign") then Some kind.Assign
    else None))))))

-- the steps have these names
abbrev pub is_named : List (List ℕ) → List Step → Bool
is_named [] [] = true
is_named [] (s ∷ path) = false
is_named (n ∷ names) [] = false
is_named (n ∷ names) (s ∷ path) = bytes_eq n s.name && is_named names path

-- the last step of a path that has one step after these names
abbrev pub step_in : List (List ℕ) → List Step → Option Step
step_in [] [] = None
step_in [] (s ∷ []) = Some s
step_in [] (s ∷ t ∷ path) = None
step_in (n ∷ names) [] = None
step_in (n ∷ names) (s ∷ path) = if bytes_eq n s.name then step_in names path else None

-- what is declared in the scope of these names; in that of no name, the top modules
abbrev pub declared_in : List (List ℕ) → List Node → List Step
declared_in scope nodes = filter_map (λ node. step_in scope node.path) nodes

-- two modules' names are given, and the same; or the first is not given
abbrev pub fits_module : Option (List ℕ) → Option (List ℕ) → Bool
fits_module None there = true
fits_module (Some m) None = false
fits_module (Some m) (Some n) = bytes_eq m n

-- a viewport matches a step: an item of its name, and of its module where it names one, in its envelope (profile)
abbrev pub matches : Step → Viewport → Bool
matches s v = (v.envelope == s.envelope) && is_some s.in_module && bytes_eq v.item s.name && fits_module v.in_module s.in_module

-- the step to an item of this name in a module and an envelope, whatever its place: viewports don't see it
abbrev pub step_named : (envelope : ℕ) → (in_module : List ℕ) → (name : List ℕ) → Step
step_named envelope in_module name = record { name = name; place = 0; envelope = envelope; in_module = Some in_module }

-- the last step of a path
abbrev pub last_step : List Step → Option Step
last_step [] = None
last_step (s ∷ []) = Some s
last_step (s ∷ t ∷ path) = last_step (t ∷ path)

-- the name of an object, which is that of the last step of its path
abbrev pub node_name : Node → List ℕ
node_name node = option_map_or (λ s. s.name) (last_step node.path) []

-- the number of the envelope in which an object is declared, by the last step of its path; 0 for the open text
abbrev pub node_envelope : Node → ℕ
node_envelope node = option_map_or (λ s. s.envelope) (last_step node.path) 0

-- a viewport matches an object, by the last step of its path
abbrev pub matches_node : Viewport → Node → Bool
matches_node v node = option_map_or (λ s. matches s v) (last_step node.path) false

-- what the viewports that match a step open
abbrev pub viewed : List Viewport → Step → RightSet
viewed [] s = nothing
viewed (v ∷ vs) s = if matches s v then either v.rights (viewed vs s) else viewed vs s

-- the number of the first of these viewports that matches a step, from 0
abbrev pub first_viewport : List Viewport → Step → Option ℕ
first_viewport viewports s = position (matches s) viewports

-- what the viewports that match a step open, and the number of the first
abbrev pub step_rights_of : List Viewport → Step → RightSet × Option ℕ
step_rights_of viewports s = (viewed viewports s, first_viewport viewports s)

-- the same of an object, by the last step of its path
abbrev pub step_rights_in : List Viewport → Node → RightSet × Option ℕ
step_rights_in viewports node = option_map_or (step_rights_of viewports) (last_step node.path) (nothing, None)

-- the same of the object of a number; nothing where no object is
abbrev pub step_rights_at : Tree → ℕ → RightSet × Option ℕ
step_rights_at tree id = option_map_or (step_rights_in tree.viewports) (slice_get tree.nodes id) (nothing, None)

-- the name of the object of a number; empty where no object is
abbrev pub name_at : Tree → ℕ → List ℕ
name_at tree id = option_map_or node_name (slice_get tree.nodes id) []

-- a viewport matches the object of a number; not where no object is
abbrev pub matches_at : Tree → Viewport → ℕ → Bool
matches_at tree v id = option_map_or (matches_node v) (slice_get tree.nodes id) false

-- the author of the envelope of a number; of number 0, the open text, and of no envelope the empty text
abbrev pub author_in : List (List ℕ) → ℕ → List ℕ
author_in authors zero = []
author_in authors (suc n) = slice_index_or authors n []

-- ---- objects by their numbers

-- the path to the object of a number; the path of no step to what contains the top modules, and where no object is
abbrev pub path_of : List Node → Option ℕ → List Step
path_of nodes None = []
path_of nodes (Some id) = option_map_or (λ n. n.path) (slice_get nodes id) []

-- the names of a path
abbrev pub names_of : List Step → List (List ℕ)
names_of path = map (λ s. s.name) path

-- these names with a '.' between each two
abbrev pub dotted : List (List ℕ) → List ℕ
dotted names = join_with_byte 46 names

-- the full name of the object of a number: the names of its path, from the top module down; empty where no object is
-- (IEEE Std 1364-2005, 26.6)
abbrev pub full_name_at : Tree → ℕ → List ℕ
full_name_at tree id = dotted (names_of (path_of tree.nodes (Some id)))

-- the number of the first object whose path has these names
abbrev pub find_named : List Node → List (List ℕ) → Option ℕ
find_named nodes names = position (λ node. is_named names node.path) nodes

-- an object is a module of this definition (clause 12.1)
abbrev pub is_module_of : List ℕ → Node → Bool
is_module_of name node = option_map_or (bytes_eq name) node.definition false

-- the number of the first object of a definition
abbrev pub first_of : List Node → List ℕ → Option ℕ
first_of nodes name = position (is_module_of name) nodes

-- ---- envelopes of a scope

-- the numbers below this one, rising
abbrev pub below : ℕ → List ℕ
below zero = []
below (suc n) = below n ++ n ∷ []

-- something is declared in an envelope, in the scope of these names
abbrev pub declares_in : Tree → List (List ℕ) → ℕ → Bool
declares_in tree scope envelope = list_any (λ s. s.envelope == envelope) (declared_in scope tree.nodes)

-- the numbers of the envelopes of what is declared in the scope of these names, rising, each once
abbrev pub envelopes_in : Tree → List (List ℕ) → List ℕ
envelopes_in tree scope = filter (declares_in tree scope) (below (suc (length tree.authors)))

-- ---- scopes

-- the names of a scope, which is an object or contains the top modules; none where the object is not there
abbrev pub scope_names : List Node → Option ℕ → Option (List (List ℕ))
scope_names nodes None = Some []
scope_names nodes (Some id) = option_map (λ n. names_of n.path) (slice_get nodes id)

-- the number of the object of a name in a scope
abbrev pub find_in : List Node → Option ℕ → List ℕ → Option ℕ
find_in nodes scope name = option_and_then (λ names. find_named nodes (names ++ name ∷ [])) (scope_names nodes scope)

-- an object is declared in the scope of these names
abbrev pub is_in : List (List ℕ) → Node → Bool
is_in scope node = is_some (step_in scope node.path)

-- the numbers of the objects that are declared in the scope of these names, rising
abbrev pub children_named : List Node → List (List ℕ) → List ℕ
children_named nodes scope = filter (λ id. option_map_or (is_in scope) (slice_get nodes id) false) (below (length nodes))

-- the numbers of the objects that are declared in a scope, rising; none where the object is not there (clauses 12.5 and 26.6.1)
abbrev pub children_of : List Node → Option ℕ → List ℕ
children_of nodes scope = option_map_or (children_named nodes) (scope_names nodes scope) []

-- the object of a number is declared in a scope; none is in an object that is not there (clause 12.5)
abbrev pub is_declared_in : List Node → Option ℕ → ℕ → Bool
is_declared_in nodes scope id = option_map_or (λ names. option_map_or (is_in names) (slice_get nodes id) false) (scope_names nodes scope) false

-- the numbers of the envelopes of what is declared in a scope, rising, each once; none where the object is not there
abbrev pub declared_envelopes : Tree → Option ℕ → List ℕ
declared_envelopes tree scope = option_map_or (envelopes_in tree) (scope_names tree.nodes scope) []

-- ---- instances

-- the definition of the object of a number; none where it is no module
abbrev pub definition_at : List Node → ℕ → Option (List ℕ)
definition_at nodes id = option_and_then (λ n. n.definition) (slice_get nodes id)

-- what a name names in an object: how far that stands after the object, its kind, and its bits
pub record Named : Type 0 where
  pub distance : ℕ
  pub kind : Kind
  pub width : ℕ
  pub lowest : Option ℕ

-- what an object of a number is, seen from another
abbrev pub seen_from : (id number : ℕ) → Node → Named
seen_from id number n = record { distance = number - id; kind = n.kind; width = n.width; lowest = n.lowest }

-- what a name names in an object; none where nothing is declared there by that name
abbrev pub named_in : List Node → (id : ℕ) → (name : List ℕ) → Option Named
named_in nodes id name = option_and_then (λ i. option_map (seen_from id i) (slice_get nodes i)) (find_in nodes (Some id) name)

-- the instances of a module are alike: what a name names stands as far after one as after another, and is of the same kind and
-- bits (clause 12.1.2)
abbrev pub AreAlike : List Node → Type 0
AreAlike nodes =
    (a b : ℕ) (definition name : List ℕ) → definition_at nodes a ≡ Some definition → definition_at nodes b ≡ Some definition
    → named_in nodes a name ≡ named_in nodes b name
