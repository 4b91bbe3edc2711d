-- What nodes and objects are made of: one list of entries gives both.
use Rattle.std.proofs.Common.{◌≡◌, ℕ, zero, suc, ◌+◌, Bool, true, false, cond, List, [], ◌∷◌, ◌++◌, length, map, filter, Option, Some, None, refl, sym, ap, ◌∙◌}
use Rattle.std.specs.List.{flat_map}
use Rattle.std.specs.Option.{option_map_or}
use Rattle.std.proofs.lemmas.List.{map-append, length-map}
use Rattle.vp_source.specs.declared.source.Source.{Source}
use Rattle.vp_source.specs.declared.source.Module.{Module}
use Rattle.vp_source.specs.declared.source.Item.{Item}
use Rattle.vp_modules.specs.Items.{definition_of, is_top, items_in}
use Rattle.vp_pragma.specs.declared.envelope.Envelope.{Envelope}
use Rattle.vp_elab.specs.declared.object.Object.{Object}
use Rattle.vp_elab.specs.Tree.{Step, Node}
use Rattle.vp_elab.specs.Elaboration.{item_node, item_nodes, item_step, nodes_below, root_node, root_step, top_nodes}
use Rattle.vp_elab.specs.Objects.{item_object, item_objects, objects_below, objects_from, objects_within, root_object, top_objects}

-- a top module by its number in the text; or an item of a module, by its index, below the object of this path and this number
pub data Entry : Type 0 where
  Top : ℕ → Module → Entry
  Inner : List Step → ℕ → Module → ℕ → Item → Entry

module _ (source : Source) (envelopes : List Envelope) where
  abbrev pub node_at : Entry → Node
  node_at (Top k m) = root_node source envelopes m
  node_at (Inner above p m k i) = item_node source envelopes above m i

  abbrev pub object_at : Entry → Object
  object_at (Top k m) = root_object envelopes k m
  object_at (Inner above p m k i) = item_object source envelopes p k i

  abbrev pub path_at : Entry → List Step
  path_at (Top k m) = root_step source envelopes m ∷ []
  path_at (Inner above p m k i) = above ++ item_step source envelopes m i ∷ []

  -- the module of which it is a top module or an instance
  abbrev pub module_at : Entry → Option Module
  module_at (Top k m) = Some m
  module_at (Inner above p m k i) = definition_of source i

  abbrev pub item_entries : (List Step → ℕ → Module → List Entry) → List Step → ℕ → Module → ℕ → ℕ → Item → List Entry
  item_entries below above p m k next i =
      Inner above p m k i ∷ option_map_or (below (above ++ item_step source envelopes m i ∷ []) next) (definition_of source i) []

  abbrev pub entries_from : (List Step → ℕ → Module → List Entry) → List Step → ℕ → Module → ℕ → ℕ → List Item → List Entry
  entries_from below above p m k next [] = []
  entries_from below above p m k next (i ∷ is) =
      item_entries below above p m k next i ++ entries_from below above p m (k + 1) (next + length (item_entries below above p m k next i)) is

  abbrev pub entries_below : ℕ → List Step → ℕ → Module → List Entry
  entries_below zero above p m = []
  entries_below (suc d) above p m = entries_from (entries_below d) above p m 0 (p + 1) (items_in source m)

  abbrev pub top_entries : ℕ → ℕ → ℕ → Module → List Entry
  top_entries further k next m = Top k m ∷ entries_below further (root_step source envelopes m ∷ []) next m

  abbrev pub entries_within : ℕ → ℕ → ℕ → List Module → List Entry
  entries_within further k next [] = []
  entries_within further k next (m ∷ ms) =
      cond (is_top source m)
      (top_entries further k next m ++ entries_within further (k + 1) (next + length (top_entries further k next m)) ms)
      (entries_within further (k + 1) next ms)

  -- ---- their nodes

  some_nodes :
      (below : List Step → ℕ → Module → List Entry) (nodes : List Step → Module → List Node)
      → ((above : List Step) (p : ℕ) (m : Module) → map node_at (below above p m) ≡ nodes above m)
      → (path : List Step) (next : ℕ) (o : Option Module) → map node_at (option_map_or (below path next) o []) ≡ option_map_or (nodes path) o []
  some_nodes below nodes same path next None = refl
  some_nodes below nodes same path next (Some m) = same path next m

  from_nodes :
      (below : List Step → ℕ → Module → List Entry) (nodes : List Step → Module → List Node)
      → ((above : List Step) (p : ℕ) (m : Module) → map node_at (below above p m) ≡ nodes above m)
      → (above : List Step) (p : ℕ) (m : Module) (k next : ℕ) (is : List Item)
      → map node_at (entries_from below above p m k next is) ≡ flat_map (item_nodes source envelopes nodes above m) is
  from_nodes below nodes same above p m k next [] = refl
  from_nodes below nodes same above p m k next (i ∷ is) =
      let own : List Entry = item_entries below above p m k next i in
      let rest : List Entry = entries_from below above p m (k + 1) (next + length own) is in
      map-append node_at own rest
      ∙ ap (λ (ns : List Node). (item_node source envelopes above m i ∷ ns) ++ map node_at rest) (some_nodes below nodes same (above ++ item_step source envelopes m i ∷ []) next (definition_of source i))
      ∙ ap (λ (ns : List Node). item_nodes source envelopes nodes above m i ++ ns) (from_nodes below nodes same above p m (k + 1) (next + length own) is)

  pub below_nodes : (d : ℕ) (above : List Step) (p : ℕ) (m : Module) → map node_at (entries_below d above p m) ≡ nodes_below source envelopes d above m
  below_nodes zero above p m = refl
  below_nodes (suc d) above p m = from_nodes (entries_below d) (nodes_below source envelopes d) (below_nodes d) above p m 0 (p + 1) (items_in source m)

  within_nodes_by :
      (further k next : ℕ) (m : Module) (ms : List Module) (b : Bool)
      → ((k next : ℕ) → map node_at (entries_within further k next ms) ≡ flat_map (top_nodes source envelopes further) (filter (is_top source) ms))
      → map node_at (cond b (top_entries further k next m ++ entries_within further (k + 1) (next + length (top_entries further k next m)) ms) (entries_within further (k + 1) next ms))
      ≡ flat_map (top_nodes source envelopes further) (cond b (m ∷ filter (is_top source) ms) (filter (is_top source) ms))
  within_nodes_by further k next m ms true rest =
      let own : List Entry = top_entries further k next m in
      map-append node_at own (entries_within further (k + 1) (next + length own) ms)
      ∙ ap (λ (ns : List Node). (root_node source envelopes m ∷ ns) ++ map node_at (entries_within further (k + 1) (next + length own) ms)) (below_nodes further (root_step source envelopes m ∷ []) next m)
      ∙ ap (λ (ns : List Node). top_nodes source envelopes further m ++ ns) (rest (k + 1) (next + length own))
  within_nodes_by further k next m ms false rest = rest (k + 1) next

  pub within_nodes : (further k next : ℕ) (ms : List Module) → map node_at (entries_within further k next ms) ≡ flat_map (top_nodes source envelopes further) (filter (is_top source) ms)
  within_nodes further k next [] = refl
  within_nodes further k next (m ∷ ms) = within_nodes_by further k next m ms (is_top source m) (λ k next. within_nodes further k next ms)

  -- ---- their objects

  some_objects :
      (below : List Step → ℕ → Module → List Entry) (objects : ℕ → Module → List Object)
      → ((above : List Step) (p : ℕ) (m : Module) → map object_at (below above p m) ≡ objects p m)
      → (path : List Step) (next : ℕ) (o : Option Module) → map object_at (option_map_or (below path next) o []) ≡ option_map_or (objects next) o []
  some_objects below objects same path next None = refl
  some_objects below objects same path next (Some m) = same path next m

  from_objects :
      (below : List Step → ℕ → Module → List Entry) (objects : ℕ → Module → List Object)
      → ((above : List Step) (p : ℕ) (m : Module) → map object_at (below above p m) ≡ objects p m)
      → (above : List Step) (p : ℕ) (m : Module) (k next : ℕ) (is : List Item)
      → map object_at (entries_from below above p m k next is) ≡ objects_from source envelopes objects p k next is
  from_objects below objects same above p m k next [] = refl
  from_objects below objects same above p m k next (i ∷ is) =
      let own : List Entry = item_entries below above p m k next i in
      let mine : List Object = item_objects source envelopes objects p k next i in
      let rest : List Entry = entries_from below above p m (k + 1) (next + length own) is in
      let same_own : map object_at own ≡ mine =
      ap (λ (os : List Object). item_object source envelopes p k i ∷ os) (some_objects below objects same (above ++ item_step source envelopes m i ∷ []) next (definition_of source i)) in
      let long : length own ≡ length mine = sym (length-map own object_at) ∙ ap length same_own in
      map-append object_at own rest
      ∙ ap (λ (os : List Object). os ++ map object_at rest) same_own
      ∙ ap (λ (os : List Object). mine ++ os)
      (from_objects below objects same above p m (k + 1) (next + length own) is
      ∙ ap (λ (n : ℕ). objects_from source envelopes objects p (k + 1) (next + n) is) long)

  pub below_objects : (d : ℕ) (above : List Step) (p : ℕ) (m : Module) → map object_at (entries_below d above p m) ≡ objects_below source envelopes d p m
  below_objects zero above p m = refl
  below_objects (suc d) above p m = from_objects (entries_below d) (objects_below source envelopes d) (below_objects d) above p m 0 (p + 1) (items_in source m)

  within_objects_by :
      (further k next : ℕ) (m : Module) (ms : List Module) (b : Bool)
      → ((k next : ℕ) → map object_at (entries_within further k next ms) ≡ objects_within source envelopes further k next ms)
      → map object_at (cond b (top_entries further k next m ++ entries_within further (k + 1) (next + length (top_entries further k next m)) ms) (entries_within further (k + 1) next ms))
      ≡ cond b (top_objects source envelopes further k next m ++ objects_within source envelopes further (k + 1) (next + length (top_objects source envelopes further k next m)) ms)
      (objects_within source envelopes further (k + 1) next ms)
  within_objects_by further k next m ms true rest =
      let own : List Entry = top_entries further k next m in
      let mine : List Object = top_objects source envelopes further k next m in
      let same_own : map object_at own ≡ mine = ap (λ (os : List Object). root_object envelopes k m ∷ os) (below_objects further (root_step source envelopes m ∷ []) next m) in
      let long : length own ≡ length mine = sym (length-map own object_at) ∙ ap length same_own in
      map-append object_at own (entries_within further (k + 1) (next + length own) ms)
      ∙ ap (λ (os : List Object). os ++ map object_at (entries_within further (k + 1) (next + length own) ms)) same_own
      ∙ ap (λ (os : List Object). mine ++ os)
      (rest (k + 1) (next + length own) ∙ ap (λ (n : ℕ). objects_within source envelopes further (k + 1) (next + n) ms) long)
  within_objects_by further k next m ms false rest = rest (k + 1) next

  pub within_objects : (further k next : ℕ) (ms : List Module) → map object_at (entries_within further k next ms) ≡ objects_within source envelopes further k next ms
  within_objects further k next [] = refl
  within_objects further k next (m ∷ ms) = within_objects_by further k next m ms (is_top source m) (λ k next. within_objects further k next ms)

  -- those of an item
  pub item_objects_are : (d : ℕ) (above : List Step) (p : ℕ) (m : Module) (k next : ℕ) (i : Item) → map object_at (item_entries (entries_below d) above p m k next i) ≡ item_objects source envelopes (objects_below source envelopes d) p k next i
  item_objects_are d above p m k next i =
      ap (λ (os : List Object). item_object source envelopes p k i ∷ os)
      (some_objects (entries_below d) (objects_below source envelopes d) (below_objects d) (above ++ item_step source envelopes m i ∷ []) next (definition_of source i))
