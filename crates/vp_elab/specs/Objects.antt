-- The objects of a design, in preorder, and how each belongs to its node of the tree.
use Rattle.std.specs.Prelude.{◌≡◌, ℕ, zero, suc, ◌+◌, ◌<◌, ◌==◌, nat_eq, Bool, false, if◌then◌else◌, List, [], ◌∷◌, ◌++◌, length, map, filter, position, slice_get, slice_index_or, Option, Some, None, option_and_then, option_map, IfSome, MatchOption}
use Rattle.std.specs.List.{list_any}
use Rattle.std.specs.Option.{option_map_or}
use Rattle.vp_source.specs.declared.source.Source.{Source}
use Rattle.vp_source.specs.declared.source.Item.{Item}
use Rattle.vp_source.specs.declared.source.Module as declared
use Rattle.vp_modules.specs.Items.{definition_number, definition_of, is_top, item_place, items_in}
use Rattle.vp_modules.specs.Tables.{module_names}
use Rattle.vp_pragma.specs.declared.envelope.Envelope.{Envelope}
use Rattle.vp_pragma.specs.Envelopes.{Protection, envelope_at}
use Rattle.vp_pragma.specs.Rights.{RightSet}
use Rattle.vp_elab.specs.declared.object.Kind.TheVariants as kind
use Rattle.vp_elab.specs.declared.object.Object.{Object}
use Rattle.vp_elab.specs.declared.object.ObjectId.{ObjectId}
use Rattle.vp_elab.specs.Tree.{Step, Node, below, path_of, step_rights_of}
use Rattle.vp_elab.specs.Elaboration.{item_kind, item_range, item_step, lowest_of, width_of}
use Rattle.vp_elab.specs.Sizes.{slots_in}

-- ---- what modules declare

-- the numbers of the envelopes of these places, rising, each once
abbrev pub numbers_of : List Envelope → List ℕ → List ℕ
numbers_of envelopes places =
    filter (λ e. list_any (λ place. envelope_at envelopes place == e) places) (below (suc (length envelopes)))

-- what the items of a module have in common in each of its instances: the envelopes of their places, how far each stands after
-- the module's object, and what viewports open of it
pub record Declared : Type 0 where
  pub envelopes : List ℕ
  pub slots : List ℕ
  pub all_step_rights : List (RightSet × Option ℕ)

-- what a module declares
abbrev pub declared_in : Source → Protection → declared.Module → Declared
declared_in source protection m = record {
  envelopes = numbers_of protection.envelopes (map item_place (items_in source m));
  slots = slots_in source m;
  all_step_rights = map (λ i. step_rights_of protection.viewports (item_step source protection.envelopes m i)) (items_in source m);
}

-- the name of the module that has this number in the text
abbrev pub module_name_at : Source → Option ℕ → Option (List ℕ)
module_name_at source number = option_and_then (slice_get (module_names source source.modules)) number

-- ---- objects

-- the object of a top module, by the number of its module
abbrev pub root_object : List Envelope → ℕ → declared.Module → Object
root_object envelopes number m = record {
  kind = kind.Module;
  parent = None;
  index = 0;
  scope = Some number;
  place = m.name;
  envelope = envelope_at envelopes m.name;
  width = 1;
  lowest = None;
}

-- the object of an item, by its index among the items of the module whose object has this number
abbrev pub item_object : Source → List Envelope → ℕ → ℕ → Item → Object
item_object source envelopes parent index i = record {
  kind = item_kind i;
  parent = Some (record { 0 = parent });
  index = index;
  scope = definition_number source i;
  place = item_place i;
  envelope = envelope_at envelopes (item_place i);
  width = width_of (item_range source i);
  lowest = lowest_of (item_range source i);
}

-- the objects of an item after so many others: its own, and those below an instance
abbrev pub item_objects : Source → List Envelope → (ℕ → declared.Module → List Object) → ℕ → ℕ → ℕ → Item → List Object
item_objects source envelopes below parent index next i =
    item_object source envelopes parent index i ∷ option_map_or (below next) (definition_of source i) []

-- the objects of items, of which the first has this index, after so many others
abbrev pub objects_from : Source → List Envelope → (ℕ → declared.Module → List Object) → ℕ → ℕ → ℕ → List Item → List Object
objects_from source envelopes below parent index next [] = []
objects_from source envelopes below parent index next (i ∷ is) =
    item_objects source envelopes below parent index next i
    ++ objects_from source envelopes below parent (index + 1) (next + length (item_objects source envelopes below parent index next i)) is

-- the objects below that of a number, which is one of a module; a number bounds how many steps more their paths may have (profile)
abbrev pub objects_below : Source → List Envelope → ℕ → ℕ → declared.Module → List Object
objects_below source envelopes zero root m = []
objects_below source envelopes (suc d) root m =
    objects_from source envelopes (objects_below source envelopes d) root 0 (root + 1) (items_in source m)

-- the objects of a top module after so many others
abbrev pub top_objects : Source → List Envelope → ℕ → ℕ → ℕ → declared.Module → List Object
top_objects source envelopes further number next m =
    root_object envelopes number m ∷ objects_below source envelopes further next m

-- the objects of these modules' top modules, of which the first has this number, after so many others
abbrev pub objects_within : Source → List Envelope → ℕ → ℕ → ℕ → List declared.Module → List Object
objects_within source envelopes further number next [] = []
objects_within source envelopes further number next (m ∷ ms) =
    if is_top source m
    then top_objects source envelopes further number next m
    ++ objects_within source envelopes further (number + 1) (next + length (top_objects source envelopes further number next m)) ms
    else objects_within source envelopes further (number + 1) next ms

-- an object is of the module of a number: its top module, or an instance of it
abbrev pub is_of : ℕ → Object → Bool
is_of number o = option_map_or (nat_eq number) o.scope false

-- for each of so many modules its first object, if it has one
pub record AreFirsts (objects : List Object) (count : ℕ) (firsts : List (Option ObjectId)) : Type 0 where
  pub each : length firsts ≡ count
  pub first : (number : ℕ) → number < count → option_map (λ o. o.0) (slice_index_or firsts number None) ≡ position (is_of number) objects

-- the first object of a module, where it is that of a top module: it is declared in no other
abbrev pub top_of : List Object → Option ObjectId → Option ObjectId
top_of objects first =
    option_and_then (λ id. option_and_then (λ o. option_map_or (λ p. None) o.parent (Some id)) (slice_get objects id.0)) first

-- ---- objects and nodes

-- an object of a number stands for a node of the tree: its kind, its width, its lowest index, and the last step of its path; what stands
-- above that step is the path of its parent, which has a smaller number; it stands in the text of the module of which its parent is one
pub record StandsFor (nodes : List Node) (id : ℕ) (o : Object) : Type 0 where
  pub node : Node
  pub step : Step
  pub there : slice_get nodes id ≡ Some node
  pub kind : o.kind ≡ node.kind
  pub width : o.width ≡ node.width
  pub lowest : o.lowest ≡ node.lowest
  pub path : node.path ≡ path_of nodes (option_map (λ p. p.0) o.parent) ++ step ∷ []
  pub place : step.place ≡ o.place
  pub envelope : step.envelope ≡ o.envelope
  pub inside : step.in_module ≡ option_and_then (λ p. option_and_then (λ n. n.definition) (slice_get nodes p.0)) o.parent
  pub following : IfSome o.parent (λ p. p.0 < id)

-- these objects stand for the nodes: each for that of its number, and none is left out
abbrev pub AreObjects : List Node → List Object → Type 0
AreObjects nodes objects =
    (id : ℕ) → MatchOption (slice_get objects id) (slice_get nodes id ≡ None) (λ o. StandsFor nodes id o)
