-- What the tables of a design that is built answer is what its tree answers.
use Rattle.std.proofs.Common.{◌≡◌, ℕ, zero, suc, ◌+◌, ◌-◌, ◌<◌, ◌≤◌, Bool, true, false, cond, List, [], ◌∷◌, ◌++◌, length, map, filter, position, get_or, take, slice_get, slice_index_or, Option, Some, None, refl, sym, ap, subst, ◌∙◌, arith}
use Rattle.std.specs.Prelude.{◌==◌, All, IfSome, MatchOption, nat_eq, option_map}
use Rattle.std.specs.List.{list_any}
use Rattle.std.specs.Option.{option_and_then, option_eq, option_map_or}
use Rattle.std.specs.Str.{bytes_eq}
use Rattle.std.proofs.lemmas.List.{append-nil, length-append, length-map}
use Rattle.std.proofs.lemmas.Option.{slice_get_within, slice_get-get_or, slice_get-map}
use Rattle.std.proofs.lemmas.List.Quantifiers.{position-Some}
use Rattle.vp_source.specs.Places.{line_at, word_at}
use Rattle.vp_source.specs.declared.source.Source.{Source}
use Rattle.vp_source.specs.declared.source.Module.{Module}
use Rattle.vp_source.specs.declared.source.Item.{Item}
use Rattle.vp_modules.specs.declared.tables.Tables.{Tables}
use Rattle.vp_modules.specs.Items.{definition_of, has_name, is_top, item_name, item_named, items_in}
use Rattle.vp_modules.specs.Refusals.{twice_in}
use Rattle.vp_modules.specs.Tables.{module_names, scope_in}
use Rattle.vp_pragma.specs.declared.envelope.Envelope.{Envelope}
use Rattle.vp_pragma.specs.Envelopes.{Protection}
use Rattle.vp_pragma.specs.Rights.{nothing}
use Rattle.vp_elab.specs.declared.design.Objects.{Objects}
use Rattle.vp_elab.specs.declared.object.TheConstants.{OBJECT_LIMIT}
use Rattle.vp_elab.specs.declared.object.Object.{Object}
use Rattle.vp_elab.specs.declared.object.ObjectId.{ObjectId}
use Rattle.vp_elab.specs.Tree.{declared_in as declared_in_scope}
use Rattle.vp_elab.specs.Tree.{AreAlike, Node, Step, Tree, below, declared_envelopes, Named, definition_at, envelopes_in, find_in, find_named, first_of, is_declared_in, name_at, named_in, names_of, node_name, scope_names, seen_from, step_rights_at, step_rights_in}
use Rattle.vp_elab.specs.Elaboration.{further_limit, item_kind, item_range, lowest_of, root_step, width_of}
use Rattle.vp_elab.specs.Objects.{AreObjects, Declared, StandsFor, declared_in, is_of, module_name_at}
use Rattle.vp_elab.specs.Sizes.{capped, size, slots_from, slots_in, total, whole_size}
use Rattle.vp_elab.specs.Built.{Elaborated, IsBuilt, IsFoundAs, design_of}
use Rattle.vp_elab.specs.Items.{instantiated_at, node_item, parent_of}
use Rattle.vp_elab.proofs.Contained.{declared_in_parent, declared_nowhere}
use Rattle.vp_elab.proofs.Entries.{Entry, Inner, Top, entries_within, module_at, node_at, object_at, path_at, top_entries, within_nodes, within_objects}
use Rattle.vp_elab.proofs.Found.{at_mapped, child_found, child_nothing, leaf_nothing, path_is, root_after, root_first, root_other, root_unknown}
use Rattle.vp_elab.proofs.Items.{inner_item, instance_same, item_inner, item_top, parent_same, position_mapped}
use Rattle.vp_elab.proofs.Named.{found_at, module_index, right_once}
use Rattle.vp_elab.proofs.Parts.{nowhere, some_same}
use Rattle.vp_elab.proofs.Placed.{AllFrom, Good, Tops, full_size, slot, within_good}
use Rattle.vp_elab.proofs.Scopes.{child_numbers, leaf_numbers, root_numbers, scoped}
use Rattle.vp_elab.proofs.Stable.{long_below}
use Rattle.vp_elab.proofs.Standing.{definition_entry, first_same, kinds_same, line_same, lowest_same, name_inner, name_top, object_stands, scope_same, scopes_same, step_rights_inner, step_rights_top, widths_same, widths_some}
use Rattle.vp_elab.proofs.Unique.{good_at, module_there}

module _ (source : Source) (envelopes : List Envelope) where
  long_by :
      (k next : ℕ) (m : Module) (ms : List Module) (b : Bool)
      → ((k next : ℕ) → total (λ m. 1 + whole_size source m) (filter (is_top source) ms) ≤ OBJECT_LIMIT → length (entries_within source envelopes (suc further_limit) k next ms) ≡ total (λ m. 1 + whole_size source m) (filter (is_top source) ms))
      → total (λ m. 1 + whole_size source m) (cond b (m ∷ filter (is_top source) ms) (filter (is_top source) ms)) ≤ OBJECT_LIMIT
      → length (cond b (top_entries source envelopes (suc further_limit) k next m ++ entries_within source envelopes (suc further_limit) (k + 1) (next + length (top_entries source envelopes (suc further_limit) k next m)) ms) (entries_within source envelopes (suc further_limit) (k + 1) next ms))
      ≡ total (λ m. 1 + whole_size source m) (cond b (m ∷ filter (is_top source) ms) (filter (is_top source) ms))
  long_by k next m ms true rest few =
      let own : List Entry = top_entries source envelopes (suc further_limit) k next m in
      let few_here : size source further_limit m ≤ OBJECT_LIMIT = omega arith in
      let here = long_below source envelopes further_limit (root_step source envelopes m ∷ []) next m few_here in
      let on = rest (k + 1) (next + length own) (omega arith) in
      length-append own (entries_within source envelopes (suc further_limit) (k + 1) (next + length own) ms) ∙ omega arith
  long_by k next m ms false rest few = rest (k + 1) next few

  -- how far an item stands after the object of its module
  pub slot_at : (next k : ℕ) (is : List Item) (i : Item) → slice_get is k ≡ Some i → slice_index_or (slots_from source next is) k 0 ≡ capped (next + total (full_size source envelopes) (take k is))
  slot_at next k [] i at = absurd cc
  slot_at next zero (x ∷ is) i at = ap capped (let sum : next ≡ next + 0 = omega arith in sum)
  slot_at next (suc k) (x ∷ is) i at =
      let sum : (next + full_size source envelopes x) + total (full_size source envelopes) (take k is) ≡ next + (full_size source envelopes x + total (full_size source envelopes) (take k is)) = omega arith in
      slot_at (next + full_size source envelopes x) k is i at ∙ ap capped sum

  -- how many entries there are
  pub long_within : (k next : ℕ) (ms : List Module) → total (λ m. 1 + whole_size source m) (filter (is_top source) ms) ≤ OBJECT_LIMIT → length (entries_within source envelopes (suc further_limit) k next ms) ≡ total (λ m. 1 + whole_size source m) (filter (is_top source) ms)
  long_within k next [] few = refl
  long_within k next (m ∷ ms) few = long_by k next m ms (is_top source m) (λ k next few. long_within k next ms few) few

module _ (source : Source) (protection : Protection) (tables : Tables) (scopes : List Declared) (objects : Objects) (built : IsBuilt source protection tables scopes objects) (d : Elaborated) (view : design_of source protection ≡ d) where
  abbrev envelopes : List Envelope
  envelopes = protection.envelopes

  -- the entries of the source
  abbrev all : List Entry
  all = entries_within source envelopes (suc further_limit) 0 0 source.modules

  once : twice_in source [] source.modules ≡ None
  once = right_once source built.right

  good : AllFrom (Good source envelopes all) 0 all × Tops source envelopes all 0
  good = within_good source envelopes all [] source.modules 0 0 refl refl refl [] [] (sym (append-nil all)) refl built.few

  placed : AllFrom (Good source envelopes all) 0 all
  placed = good.0

  abbrev nodes : List Node
  nodes = map (node_at source envelopes) all

  abbrev made : List Object
  made = map (object_at source envelopes) all

  nodes_are : nodes ≡ d.tree.nodes
  nodes_are = within_nodes source envelopes (suc further_limit) 0 0 source.modules ∙ ap (λ (x : Elaborated). x.tree.nodes) view

  made_is : objects.all ≡ made
  made_is = built.flat ∙ sym (within_objects source envelopes (suc further_limit) 0 0 source.modules)

  long_all : length all ≤ OBJECT_LIMIT
  long_all = let long = long_within source envelopes 0 0 source.modules built.few in let few = built.few in omega arith

  -- ---- the objects

  pub objects_stand : (os : List Object) → os ≡ objects.all → AreObjects d.tree.nodes os
  objects_stand os is = subst (λ (ns : List Node). AreObjects ns os) nodes_are (subst (AreObjects nodes) (sym (is ∙ made_is)) (object_stands source envelopes built.right all placed))

  pub kinds_are : (os : List Object) → os ≡ objects.all → map (λ (o : Object). o.kind) os ≡ map (λ (n : Node). n.kind) d.tree.nodes
  kinds_are os is = ap (map (λ (o : Object). o.kind)) (is ∙ made_is) ∙ kinds_same source envelopes built.right all placed ∙ ap (map (λ (n : Node). n.kind)) nodes_are

  pub widths_are : (os : List Object) → os ≡ objects.all → map (λ (o : Object). o.width) os ≡ map (λ (n : Node). n.width) d.tree.nodes
  widths_are os is = ap (map (λ (o : Object). o.width)) (is ∙ made_is) ∙ widths_same source envelopes built.right all placed ∙ ap (map (λ (n : Node). n.width)) nodes_are

  pub lowest_are : (os : List Object) → os ≡ objects.all → map (λ (o : Object). o.lowest) os ≡ map (λ (n : Node). n.lowest) d.tree.nodes
  lowest_are os is = ap (map (λ (o : Object). o.lowest)) (is ∙ made_is) ∙ lowest_same source envelopes built.right all placed ∙ ap (map (λ (n : Node). n.lowest)) nodes_are

  pub scopes_are : (os : List Object) → os ≡ objects.all → map (λ (o : Object). module_name_at d.source o.scope) os ≡ map (λ (n : Node). n.definition) d.tree.nodes
  scopes_are os is =
      ap (λ (x : Elaborated). map (λ (o : Object). module_name_at x.source o.scope) os) (sym view)
      ∙ ap (map (λ (o : Object). module_name_at source o.scope)) (is ∙ made_is) ∙ scopes_same source envelopes built.right all placed ∙ ap (map (λ (n : Node). n.definition)) nodes_are

  pub widths_each : (os : List Object) → os ≡ objects.all → All (λ (o : Object). 1 ≤ o.width) os
  widths_each os is = subst (All (λ (o : Object). 1 ≤ o.width)) (sym (is ∙ made_is)) (widths_some source envelopes built.right all placed)

  pub count_is : length objects.all ≡ length d.tree.nodes
  count_is = ap length made_is ∙ length-map all (object_at source envelopes) ∙ sym (length-map all (node_at source envelopes)) ∙ ap length nodes_are

  pub few_objects : length objects.all ≤ OBJECT_LIMIT
  few_objects =
      let same : length objects.all ≡ length all = ap length made_is ∙ length-map all (object_at source envelopes) in
      let few = long_all in
      omega arith

  -- ---- an object of a number

  node_is : (id : ℕ) (e : Entry) → slice_get all id ≡ Some e → slice_get d.tree.nodes id ≡ Some (node_at source envelopes e)
  node_is id e at = ap (λ (ns : List Node). slice_get ns id) (sym nodes_are) ∙ slice_get-map (node_at source envelopes) all id ∙ ap (option_map (node_at source envelopes)) at

  no_node : (id : ℕ) → slice_get all id ≡ None → slice_get d.tree.nodes id ≡ None
  no_node id at = ap (λ (ns : List Node). slice_get ns id) (sym nodes_are) ∙ slice_get-map (node_at source envelopes) all id ∙ ap (option_map (node_at source envelopes)) at

  entry_of : (os : List Object) (id : ℕ) (o : Object) → os ≡ objects.all → Some o ≡ slice_get os id → (e : Entry) × (slice_get all id ≡ Some e) × (object_at source envelopes e ≡ o)
  entry_of os id o is found = at_mapped (object_at source envelopes) all id o (ap (λ (xs : List Object). slice_get xs id) (sym (is ∙ made_is)) ∙ sym found)

  none_by : (o : Option Entry) → None ≡ option_map (object_at source envelopes) o → o ≡ None
  none_by None h = refl
  none_by (Some e) h = absurd cc

  no_entry : (os : List Object) (id : ℕ) → os ≡ objects.all → None ≡ slice_get os id → slice_get all id ≡ None
  no_entry os id is none = none_by (slice_get all id) (none ∙ ap (λ (xs : List Object). slice_get xs id) (is ∙ made_is) ∙ slice_get-map (object_at source envelopes) all id)

  scope_by : (id : ℕ) (o : Option Entry) → slice_get all id ≡ o → IfSome (option_map (object_at source envelopes) o) (λ (x : Object). module_name_at source x.scope ≡ option_and_then (λ (n : Node). n.definition) (slice_get nodes id))
  scope_by id None at = tt
  scope_by id (Some e) at = scope_same source envelopes built.right all placed id e at ∙ sym (ap (option_and_then (λ (n : Node). n.definition)) (slice_get-map (node_at source envelopes) all id ∙ ap (option_map (node_at source envelopes)) at))

  pub object_scope : (os : List Object) (id : ℕ) (found : Option Object) → os ≡ objects.all → found ≡ slice_get os id → IfSome found (λ (x : Object). module_name_at d.source x.scope ≡ option_and_then (λ (n : Node). n.definition) (slice_get d.tree.nodes id))
  object_scope os id found is h =
      let here = scope_by id (slice_get all id) refl in
      let object : option_map (object_at source envelopes) (slice_get all id) ≡ found = sym (h ∙ ap (λ (xs : List Object). slice_get xs id) (is ∙ made_is) ∙ slice_get-map (object_at source envelopes) all id) in
      subst (λ (s : Source). IfSome found (λ (x : Object). module_name_at s x.scope ≡ option_and_then (λ (n : Node). n.definition) (slice_get d.tree.nodes id))) (ap (λ (x : Elaborated). x.source) view)
      (subst (λ (ns : List Node). IfSome found (λ (x : Object). module_name_at source x.scope ≡ option_and_then (λ (n : Node). n.definition) (slice_get ns id))) nodes_are
      (subst (λ (o : Option Object). IfSome o (λ (x : Object). module_name_at source x.scope ≡ option_and_then (λ (n : Node). n.definition) (slice_get nodes id))) object here))

  pub object_node : (os : List Object) (id : ℕ) (found : Option Object) → os ≡ objects.all → found ≡ slice_get os id → MatchOption found (slice_get d.tree.nodes id ≡ None) (λ o. StandsFor d.tree.nodes id o)
  object_node os id found is h = subst (λ (o : Option Object). MatchOption o (slice_get d.tree.nodes id ≡ None) (λ o. StandsFor d.tree.nodes id o)) (sym h) (objects_stand os is id)

  -- its line
  pub line_some : (os : List Object) (id : ℕ) (o : Object) → os ≡ objects.all → Some o ≡ slice_get os id → line_at source o.place ≡ option_map_or (λ (n : Node). n.line) (slice_get d.tree.nodes id) 0
  line_some os id o is found =
      let it = entry_of os id o is found in
      ap (λ (x : Object). line_at source x.place) (sym it.2) ∙ line_same source envelopes built.right all placed it.0
      ∙ sym (ap (λ (x : Option Node). option_map_or (λ (n : Node). n.line) x 0) (node_is id it.0 it.1))

  pub line_none : (os : List Object) (id : ℕ) → os ≡ objects.all → None ≡ slice_get os id → 0 ≡ option_map_or (λ (n : Node). n.line) (slice_get d.tree.nodes id) 0
  line_none os id is found = sym (ap (λ (x : Option Node). option_map_or (λ (n : Node). n.line) x 0) (no_node id (no_entry os id is found)))

  -- its name
  pub name_child : (os : List Object) (ns : List (List (List ℕ))) (id : ℕ) (o : Object) (parent : ObjectId) → os ≡ objects.all → ns ≡ tables.scopes → Some o ≡ slice_get os id → o.parent ≡ Some parent → option_map_or (λ (ns : List (List ℕ)). slice_index_or ns o.index []) (option_and_then (slice_get ns) (option_and_then (λ (o : Object). o.scope) (slice_get os parent.0))) [] ≡ name_at d.tree id
  name_child os ns id o parent is ns_is found inside =
      let it = entry_of os id o is found in
      ap (λ (xs : List Object). option_map_or (λ (ns : List (List ℕ)). slice_index_or ns o.index []) (option_and_then (slice_get ns) (option_and_then (λ (o : Object). o.scope) (slice_get xs parent.0))) []) (is ∙ made_is)
      ∙ ap (λ (xs : List (List (List ℕ))). option_map_or (λ (ns : List (List ℕ)). slice_index_or ns o.index []) (option_and_then (slice_get xs) (option_and_then (λ (o : Object). o.scope) (slice_get made parent.0))) []) (ns_is ∙ ap (λ (t : Tables). t.scopes) built.names)
      ∙ ap (λ (x : Option (List (List ℕ))). option_map_or (λ (ns : List (List ℕ)). slice_index_or ns o.index []) x []) (scoped source envelopes once all placed (scope_in source) parent.0)
      ∙ ap (λ (x : Object). option_map_or (λ (ns : List (List ℕ)). slice_index_or ns x.index []) (option_map (scope_in source) (option_and_then (module_at source envelopes) (slice_get all parent.0))) []) (sym it.2)
      ∙ name_inner source envelopes built.right all placed id it.0 parent it.1 (ap (λ (x : Object). x.parent) it.2 ∙ inside)
      ∙ sym (ap (λ (x : Option Node). option_map_or node_name x []) (node_is id it.0 it.1))

  pub name_root : (os : List Object) (id : ℕ) (o : Object) → os ≡ objects.all → Some o ≡ slice_get os id → o.parent ≡ None → word_at source o.place ≡ name_at d.tree id
  name_root os id o is found inside =
      let it = entry_of os id o is found in
      ap (λ (x : Object). word_at source x.place) (sym it.2) ∙ name_top source envelopes built.right all placed it.0 (ap (λ (x : Object). x.parent) it.2 ∙ inside)
      ∙ sym (ap (λ (x : Option Node). option_map_or node_name x []) (node_is id it.0 it.1))

  pub name_none : (os : List Object) (id : ℕ) → os ≡ objects.all → None ≡ slice_get os id → [] ≡ name_at d.tree id
  name_none os id is found = sym (ap (λ (x : Option Node). option_map_or node_name x []) (no_node id (no_entry os id is found)))

  -- what viewports open of it
  pub step_rights_child : (os : List Object) (ss : List Declared) (id : ℕ) (o : Object) (parent : ObjectId) → os ≡ objects.all → ss ≡ scopes → Some o ≡ slice_get os id → o.parent ≡ Some parent → option_map_or (λ (s : Declared). slice_index_or s.all_step_rights o.index (nothing, None)) (option_and_then (slice_get ss) (option_and_then (λ (o : Object). o.scope) (slice_get os parent.0))) (nothing, None) ≡ step_rights_at d.tree id
  step_rights_child os ss id o parent is ss_is found inside =
      let it = entry_of os id o is found in
      ap (λ (xs : List Object). option_map_or (λ (s : Declared). slice_index_or s.all_step_rights o.index (nothing, None)) (option_and_then (slice_get ss) (option_and_then (λ (o : Object). o.scope) (slice_get xs parent.0))) (nothing, None)) (is ∙ made_is)
      ∙ ap (λ (xs : List Declared). option_map_or (λ (s : Declared). slice_index_or s.all_step_rights o.index (nothing, None)) (option_and_then (slice_get xs) (option_and_then (λ (o : Object). o.scope) (slice_get made parent.0))) (nothing, None)) (ss_is ∙ built.declared)
      ∙ ap (λ (x : Option Declared). option_map_or (λ (s : Declared). slice_index_or s.all_step_rights o.index (nothing, None)) x (nothing, None)) (scoped source envelopes once all placed (declared_in source protection) parent.0)
      ∙ ap (λ (x : Object). option_map_or (λ (s : Declared). slice_index_or s.all_step_rights x.index (nothing, None)) (option_map (declared_in source protection) (option_and_then (module_at source envelopes) (slice_get all parent.0))) (nothing, None)) (sym it.2)
      ∙ step_rights_inner source envelopes built.right all placed protection.viewports id it.0 parent it.1 (ap (λ (x : Object). x.parent) it.2 ∙ inside)
      ∙ sym (ap (λ (x : Option Node). option_map_or (step_rights_in protection.viewports) x (nothing, None)) (node_is id it.0 it.1))
      ∙ ap (λ (x : Elaborated). option_map_or (step_rights_in x.tree.viewports) (slice_get d.tree.nodes id) (nothing, None)) view

  pub step_rights_root : (os : List Object) (id : ℕ) (o : Object) → os ≡ objects.all → Some o ≡ slice_get os id → o.parent ≡ None → (nothing, None) ≡ step_rights_at d.tree id
  step_rights_root os id o is found inside =
      let it = entry_of os id o is found in
      step_rights_top source envelopes built.right all placed d.tree.viewports it.0 (ap (λ (x : Object). x.parent) it.2 ∙ inside)
      ∙ sym (ap (λ (x : Option Node). option_map_or (step_rights_in d.tree.viewports) x (nothing, None)) (node_is id it.0 it.1))

  pub step_rights_none : (os : List Object) (id : ℕ) → os ≡ objects.all → None ≡ slice_get os id → (nothing, None) ≡ step_rights_at d.tree id
  step_rights_none os id is found = sym (ap (λ (x : Option Node). option_map_or (step_rights_in d.tree.viewports) x (nothing, None)) (no_node id (no_entry os id is found)))

  -- its definition
  definition_by : (id : ℕ) (o : Option Entry) → slice_get all id ≡ o → option_map (λ (m : Module). word_at source m.name) (option_and_then (module_at source envelopes) o) ≡ option_and_then (λ (n : Node). n.definition) (slice_get d.tree.nodes id)
  definition_by id None at = sym (ap (option_and_then (λ (n : Node). n.definition)) (no_node id at))
  definition_by id (Some e) at = definition_entry source envelopes built.right all placed id e at ∙ sym (ap (option_and_then (λ (n : Node). n.definition)) (node_is id e at))

  pub definition_found : (os : List Object) (ns : List (List ℕ)) (id : ℕ) → os ≡ objects.all → ns ≡ tables.modules → option_and_then (slice_get ns) (option_and_then (λ (o : Object). o.scope) (slice_get os id)) ≡ option_and_then (λ (n : Node). n.definition) (slice_get d.tree.nodes id)
  definition_found os ns id is ns_is =
      ap (λ (xs : List Object). option_and_then (slice_get ns) (option_and_then (λ (o : Object). o.scope) (slice_get xs id))) (is ∙ made_is)
      ∙ ap (λ (xs : List (List ℕ)). option_and_then (slice_get xs) (option_and_then (λ (o : Object). o.scope) (slice_get made id))) (ns_is ∙ ap (λ (t : Tables). t.modules) built.names)
      ∙ scoped source envelopes once all placed (λ (m : Module). word_at source m.name) id ∙ definition_by id (slice_get all id) refl

  -- the item that it is
  item_is : (id : ℕ) (e : Entry) → slice_get all id ≡ Some e → option_and_then (node_item d.source) (slice_get d.tree.nodes id) ≡ node_item source (node_at source envelopes e)
  item_is id e at =
      ap (λ (x : Elaborated). option_and_then (node_item x.source) (slice_get d.tree.nodes id)) (sym view) ∙ ap (option_and_then (node_item source)) (node_is id e at)

  pub item_child : (os : List Object) (id : ℕ) (o : Object) (parent : ObjectId) → os ≡ objects.all → Some o ≡ slice_get os id → o.parent ≡ Some parent → option_and_then (λ (m : Module). slice_get (items_in source m) o.index) (option_and_then (slice_get source.modules) (option_and_then (λ (o : Object). o.scope) (slice_get os parent.0))) ≡ option_and_then (node_item d.source) (slice_get d.tree.nodes id)
  item_child os id o parent is found inside =
      let it = entry_of os id o is found in
      ap (λ (xs : List Object). option_and_then (λ (m : Module). slice_get (items_in source m) o.index) (option_and_then (slice_get source.modules) (option_and_then (λ (o : Object). o.scope) (slice_get xs parent.0)))) (is ∙ made_is)
      ∙ ap (λ (x : Object). option_and_then (λ (m : Module). slice_get (items_in source m) x.index) (option_and_then (slice_get source.modules) (option_and_then (λ (o : Object). o.scope) (slice_get made parent.0)))) (sym it.2)
      ∙ item_inner source envelopes once all placed id it.0 parent it.1 (ap (λ (x : Object). x.parent) it.2 ∙ inside)
      ∙ sym (item_is id it.0 it.1)

  pub item_root : (os : List Object) (id : ℕ) (o : Object) → os ≡ objects.all → Some o ≡ slice_get os id → o.parent ≡ None → None ≡ option_and_then (node_item d.source) (slice_get d.tree.nodes id)
  item_root os id o is found inside =
      let it = entry_of os id o is found in
      item_top source envelopes once all placed it.0 (ap (λ (x : Object). x.parent) it.2 ∙ inside) ∙ sym (item_is id it.0 it.1)

  pub item_none : (os : List Object) (id : ℕ) → os ≡ objects.all → None ≡ slice_get os id → None ≡ option_and_then (node_item d.source) (slice_get d.tree.nodes id)
  item_none os id is found = sym (ap (option_and_then (node_item d.source)) (no_node id (no_entry os id is found)))

  -- the module that it instantiates
  pub instance_found : (os : List Object) (id : ℕ) (o : Object) (parent : ObjectId) → os ≡ objects.all → Some o ≡ slice_get os id → o.parent ≡ Some parent → option_and_then (slice_get source.modules) o.scope ≡ instantiated_at d.source d.tree.nodes id
  instance_found os id o parent is found inside =
      let it = entry_of os id o is found in
      ap (λ (x : Object). option_and_then (slice_get source.modules) x.scope) (sym it.2)
      ∙ instance_same source envelopes once all placed id it.0 parent it.1 (ap (λ (x : Object). x.parent) it.2 ∙ inside)
      ∙ sym (ap (option_and_then (definition_of source)) (item_is id it.0 it.1))
      ∙ ap (λ (x : Elaborated). option_and_then (definition_of x.source) (option_and_then (node_item d.source) (slice_get d.tree.nodes id))) view

  pub instance_root : (os : List Object) (id : ℕ) (o : Object) → os ≡ objects.all → Some o ≡ slice_get os id → o.parent ≡ None → None ≡ instantiated_at d.source d.tree.nodes id
  instance_root os id o is found inside = ap (option_and_then (definition_of d.source)) (item_root os id o is found inside)

  pub instance_none : (os : List Object) (id : ℕ) → os ≡ objects.all → None ≡ slice_get os id → None ≡ instantiated_at d.source d.tree.nodes id
  instance_none os id is found = ap (option_and_then (definition_of d.source)) (item_none os id is found)

  -- the object above it
  parent_by : (id : ℕ) (o : Option Entry) → slice_get all id ≡ o → option_map (λ (q : ObjectId). q.0) (option_and_then (λ (x : Object). x.parent) (option_map (object_at source envelopes) o)) ≡ option_and_then (parent_of d.tree.nodes) (slice_get d.tree.nodes id)
  parent_by id None at = sym (ap (option_and_then (parent_of d.tree.nodes)) (no_node id at))
  parent_by id (Some e) at =
      parent_same source envelopes once all placed id e at ∙ ap (λ (ns : List Node). parent_of ns (node_at source envelopes e)) nodes_are
      ∙ sym (ap (option_and_then (parent_of d.tree.nodes)) (node_is id e at))

  pub parent_found : (os : List Object) (id : ℕ) → os ≡ objects.all → option_map (λ (q : ObjectId). q.0) (option_and_then (λ (x : Object). x.parent) (slice_get os id)) ≡ option_and_then (parent_of d.tree.nodes) (slice_get d.tree.nodes id)
  parent_found os id is =
      ap (λ (xs : List Object). option_map (λ (q : ObjectId). q.0) (option_and_then (λ (x : Object). x.parent) (slice_get xs id))) (is ∙ made_is)
      ∙ ap (λ (x : Option Object). option_map (λ (q : ObjectId). q.0) (option_and_then (λ (x : Object). x.parent) x)) (slice_get-map (object_at source envelopes) all id)
      ∙ parent_by id (slice_get all id) refl

  -- the scope in which it is declared
  pub declared_some : (os : List Object) (id : ℕ) (o : Object) (scope : Option ℕ) → os ≡ objects.all → Some o ≡ slice_get os id → option_eq nat_eq (option_map (λ (q : ObjectId). q.0) o.parent) scope ≡ is_declared_in d.tree.nodes scope id
  declared_some os id o scope is found =
      let it = entry_of os id o is found in
      ap (λ (x : Object). option_eq nat_eq (option_map (λ (q : ObjectId). q.0) x.parent) scope) (sym it.2)
      ∙ sym (declared_in_parent source envelopes once all placed id it.0 scope it.1)
      ∙ ap (λ (ns : List Node). is_declared_in ns scope id) nodes_are

  pub declared_none : (os : List Object) (id : ℕ) (scope : Option ℕ) → os ≡ objects.all → None ≡ slice_get os id → false ≡ is_declared_in d.tree.nodes scope id
  declared_none os id scope is found =
      sym (declared_nowhere source envelopes once all placed id (scope_names nodes scope) (no_entry os id is found))
      ∙ ap (λ (ns : List Node). is_declared_in ns scope id) nodes_are

  -- ---- what is found

  -- the index of a name in an object
  abbrev pub index_in : List Object → List (List (List ℕ)) → ℕ → List ℕ → Option ℕ
  index_in os ns id name = option_and_then (λ (xs : List (List ℕ)). position (bytes_eq name) xs) (option_and_then (slice_get ns) (option_and_then (λ (o : Object). o.scope) (slice_get os id)))

  -- how far an item stands after an object
  abbrev pub slot_in : List Object → List Declared → ℕ → ℕ → ℕ
  slot_in os ss id index = option_map_or (λ (s : Declared). slice_index_or s.slots index 0) (option_and_then (slice_get ss) (option_and_then (λ (o : Object). o.scope) (slice_get os id))) 0

  index_is : (os : List Object) (ns : List (List (List ℕ))) (id : ℕ) (name : List ℕ) → os ≡ objects.all → ns ≡ tables.scopes → index_in os ns id name ≡ option_and_then (λ (xs : List (List ℕ)). position (bytes_eq name) xs) (option_map (scope_in source) (option_and_then (module_at source envelopes) (slice_get all id)))
  index_is os ns id name is ns_is =
      ap (λ (xs : List Object). index_in xs ns id name) (is ∙ made_is) ∙ ap (λ (xs : List (List (List ℕ))). index_in made xs id name) (ns_is ∙ ap (λ (t : Tables). t.scopes) built.names)
      ∙ ap (option_and_then (λ (xs : List (List ℕ)). position (bytes_eq name) xs)) (scoped source envelopes once all placed (scope_in source) id)

  slot_is : (os : List Object) (ss : List Declared) (id index : ℕ) → os ≡ objects.all → ss ≡ scopes → slot_in os ss id index ≡ option_map_or (λ (s : Declared). slice_index_or s.slots index 0) (option_map (declared_in source protection) (option_and_then (module_at source envelopes) (slice_get all id))) 0
  slot_is os ss id index is ss_is =
      ap (λ (xs : List Object). slot_in xs ss id index) (is ∙ made_is) ∙ ap (λ (xs : List Declared). slot_in made xs id index) (ss_is ∙ built.declared)
      ∙ ap (λ (x : Option Declared). option_map_or (λ (s : Declared). slice_index_or s.slots index 0) x 0) (scoped source envelopes once all placed (declared_in source protection) id)

  -- what is found below an entry
  find_at : (id : ℕ) (e : Entry) (name : List ℕ) → slice_get all id ≡ Some e → find_in d.tree.nodes (Some id) name ≡ find_named nodes (names_of (path_at source envelopes e) ++ name ∷ [])
  find_at id e name at =
      ap (λ (x : Option Node). option_and_then (λ names. find_named d.tree.nodes (names ++ name ∷ [])) (option_map (λ (n : Node). names_of n.path) x)) (node_is id e at)
      ∙ ap (λ (path : List Step). find_named d.tree.nodes (names_of path ++ name ∷ [])) (path_is source envelopes once all placed e)
      ∙ ap (λ (ns : List Node). find_named ns (names_of (path_at source envelopes e) ++ name ∷ [])) (sym nodes_are)

  find_nowhere : (id : ℕ) (name : List ℕ) → slice_get all id ≡ None → find_in d.tree.nodes (Some id) name ≡ None
  find_nowhere id name at = ap (λ (x : Option Node). option_and_then (λ names. find_named d.tree.nodes (names ++ name ∷ [])) (option_map (λ (n : Node). names_of n.path) x)) (no_node id at)

  child_none_in : (id : ℕ) (name : List ℕ) (e : Entry) (m : Option Module) → slice_get all id ≡ Some e → module_at source envelopes e ≡ m → None ≡ option_and_then (λ (xs : List (List ℕ)). position (bytes_eq name) xs) (option_map (scope_in source) m) → None ≡ find_in d.tree.nodes (Some id) name
  child_none_in id name e None at inside none = sym (find_at id e name at ∙ leaf_nothing source envelopes once all placed id e name at inside)
  child_none_in id name e (Some m) at inside none = sym (find_at id e name at ∙ child_nothing source envelopes once all placed id e m name at inside (sym none))

  child_none_by : (id : ℕ) (name : List ℕ) (o : Option Entry) → slice_get all id ≡ o → None ≡ option_and_then (λ (xs : List (List ℕ)). position (bytes_eq name) xs) (option_map (scope_in source) (option_and_then (module_at source envelopes) o)) → None ≡ find_in d.tree.nodes (Some id) name
  child_none_by id name None at none = sym (find_nowhere id name at)
  child_none_by id name (Some e) at none = child_none_in id name e (module_at source envelopes e) at refl none

  -- a name that is not found
  pub child_none : (os : List Object) (ns : List (List (List ℕ))) (id : ℕ) (name : List ℕ) → os ≡ objects.all → ns ≡ tables.scopes → None ≡ index_in os ns id name → None ≡ find_in d.tree.nodes (Some id) name
  child_none os ns id name is ns_is none = child_none_by id name (slice_get all id) refl (none ∙ index_is os ns id name is ns_is)

  -- a name that is found, and its number is small
  child_in : (id i : ℕ) (name : List ℕ) (e : Entry) (m : Option Module) → slice_get all id ≡ Some e → module_at source envelopes e ≡ m → Some i ≡ option_and_then (λ (xs : List (List ℕ)). position (bytes_eq name) xs) (option_map (scope_in source) m)
      → (Some (id + option_map_or (λ (s : Declared). slice_index_or s.slots i 0) (option_map (declared_in source protection) m) 0) ≡ find_in d.tree.nodes (Some id) name) × (id + option_map_or (λ (s : Declared). slice_index_or s.slots i 0) (option_map (declared_in source protection) m) 0 < OBJECT_LIMIT)
  child_in id i name e None at inside found = absurd cc
  child_in id i name e (Some m) at inside found =
      let it = found_at source (item_name source) (items_in source m) name i (sym found) in
      let there = (good_at source envelopes once all placed id e at).children m inside i it.0 it.1 in
      let within = slice_get_within all (id + slot source envelopes m i) _ there in
      let few = long_all in
      let far : slice_index_or (slots_in source m) i 0 ≡ capped (slot source envelopes m i) = slot_at source envelopes 1 i (items_in source m) it.0 it.1 in
      let same : slice_index_or (slots_in source m) i 0 ≡ slot source envelopes m i = far ∙ omega arith in
      (some_same _ _ (ap (λ (n : ℕ). id + n) same) ∙ sym (find_at id e name at ∙ child_found source envelopes once all placed id e m name i at inside (sym found)), omega arith)

  child_by : (id i : ℕ) (name : List ℕ) (o : Option Entry) → slice_get all id ≡ o → Some i ≡ option_and_then (λ (xs : List (List ℕ)). position (bytes_eq name) xs) (option_map (scope_in source) (option_and_then (module_at source envelopes) o))
      → (Some (id + option_map_or (λ (s : Declared). slice_index_or s.slots i 0) (option_map (declared_in source protection) (option_and_then (module_at source envelopes) o)) 0) ≡ find_in d.tree.nodes (Some id) name) × (id + option_map_or (λ (s : Declared). slice_index_or s.slots i 0) (option_map (declared_in source protection) (option_and_then (module_at source envelopes) o)) 0 < OBJECT_LIMIT)
  child_by id i name None at found = absurd cc
  child_by id i name (Some e) at found = child_in id i name e (module_at source envelopes e) at refl found

  pub child_some : (os : List Object) (ns : List (List (List ℕ))) (ss : List Declared) (id i : ℕ) (name : List ℕ) → os ≡ objects.all → ns ≡ tables.scopes → ss ≡ scopes → Some i ≡ index_in os ns id name → (Some (id + slot_in os ss id i) ≡ find_in d.tree.nodes (Some id) name) × (id + slot_in os ss id i < OBJECT_LIMIT)
  child_some os ns ss id i name is ns_is ss_is found =
      subst (λ (n : ℕ). (Some (id + n) ≡ find_in d.tree.nodes (Some id) name) × (id + n < OBJECT_LIMIT)) (sym (slot_is os ss id i is ss_is))
      (child_by id i name (slice_get all id) refl (found ∙ index_is os ns id name is ns_is))

  -- ---- top modules

  modules_are : (ns : List (List ℕ)) → ns ≡ tables.modules → ns ≡ map (λ (m : Module). word_at source m.name) source.modules
  modules_are ns is = is ∙ ap (λ (t : Tables). t.modules) built.names

  find_top : (name : List ℕ) → find_named nodes (name ∷ []) ≡ find_in d.tree.nodes None name
  find_top name = ap (λ (ns : List Node). find_named ns (name ∷ [])) nodes_are

  pub top_unknown : (ns : List (List ℕ)) (name : List ℕ) → ns ≡ tables.modules → None ≡ position (bytes_eq name) ns → None ≡ find_in d.tree.nodes None name
  top_unknown ns name is none =
      sym (root_unknown source envelopes once all placed name (ap (position (bytes_eq name)) (sym (modules_are ns is)) ∙ sym none)) ∙ find_top name

  first_is : (fs : List (Option ObjectId)) (number : ℕ) → fs ≡ objects.firsts → number < length source.modules → option_map (λ (o : ObjectId). o.0) (slice_index_or fs number None) ≡ position (is_of number) made
  first_is fs number is within =
      ap (λ (xs : List (Option ObjectId)). option_map (λ (o : ObjectId). o.0) (slice_index_or xs number None)) is ∙ built.firsts.first number within ∙ ap (position (is_of number)) made_is

  number_within : (ns : List (List ℕ)) (name : List ℕ) (number : ℕ) → ns ≡ tables.modules → Some number ≡ position (bytes_eq name) ns → number < length source.modules
  number_within ns name number is found =
      let there = position-Some (bytes_eq name) ns number [] (sym found) in
      let long : length ns ≡ length source.modules = ap length (modules_are ns is) ∙ length-map source.modules (λ (m : Module). word_at source m.name) in
      omega (arith, there.0)

  at_names : (ns : List (List ℕ)) (name : List ℕ) (number : ℕ) → ns ≡ tables.modules → Some number ≡ position (bytes_eq name) ns → position (bytes_eq name) (map (λ (m : Module). word_at source m.name) source.modules) ≡ Some number
  at_names ns name number is found = ap (position (bytes_eq name)) (sym (modules_are ns is)) ∙ sym found

  pub top_after : (ns : List (List ℕ)) (fs : List (Option ObjectId)) (name : List ℕ) (number : ℕ) → ns ≡ tables.modules → fs ≡ objects.firsts → Some number ≡ position (bytes_eq name) ns → None ≡ slice_index_or fs number None → None ≡ find_in d.tree.nodes None name
  top_after ns fs name number is fs_is found none =
      sym (root_after source envelopes once all placed name number (at_names ns name number is found)
      (sym (first_is fs number fs_is (number_within ns name number is found)) ∙ ap (option_map (λ (o : ObjectId). o.0)) (sym none))) ∙ find_top name

  first_found : (ns : List (List ℕ)) (fs : List (Option ObjectId)) (name : List ℕ) (number : ℕ) (first : ObjectId) → ns ≡ tables.modules → fs ≡ objects.firsts → Some number ≡ position (bytes_eq name) ns → Some first ≡ slice_index_or fs number None → position (is_of number) made ≡ Some first.0
  first_found ns fs name number first is fs_is found there =
      sym (first_is fs number fs_is (number_within ns name number is found)) ∙ ap (option_map (λ (o : ObjectId). o.0)) (sym there)

  pub top_nowhere : (os : List Object) (ns : List (List ℕ)) (fs : List (Option ObjectId)) (name : List ℕ) (number : ℕ) (first : ObjectId) → os ≡ objects.all → ns ≡ tables.modules → fs ≡ objects.firsts → Some number ≡ position (bytes_eq name) ns → Some first ≡ slice_index_or fs number None → None ≡ slice_get os first.0 → None ≡ find_in d.tree.nodes None name
  top_nowhere os ns fs name number first os_is is fs_is found there none =
      let o : Object = object_at source envelopes (Top 0 nowhere) in
      let within = position-Some (is_of number) made first.0 o (first_found ns fs name number first is fs_is found there) in
      let some = slice_get-get_or made first.0 o within.0 in
      let nothing : None ≡ slice_get made first.0 = none ∙ ap (λ (xs : List Object). slice_get xs first.0) (os_is ∙ made_is) in
      absurd (let wrong : None ≡ Some (get_or made first.0 o) = nothing ∙ some in cc)

  pub top_first : (os : List Object) (ns : List (List ℕ)) (fs : List (Option ObjectId)) (name : List ℕ) (number : ℕ) (first : ObjectId) (o : Object) → os ≡ objects.all → ns ≡ tables.modules → fs ≡ objects.firsts → Some number ≡ position (bytes_eq name) ns → Some first ≡ slice_index_or fs number None → Some o ≡ slice_get os first.0 → o.parent ≡ None → Some first.0 ≡ find_in d.tree.nodes None name
  top_first os ns fs name number first o os_is is fs_is found there object inside =
      let it = entry_of os first.0 o os_is object in
      sym (root_first source envelopes once all placed name number first.0 it.0 (at_names ns name number is found) (first_found ns fs name number first is fs_is found there) it.1 (ap (λ (x : Object). x.parent) it.2 ∙ inside)) ∙ find_top name

  pub top_other : (os : List Object) (ns : List (List ℕ)) (fs : List (Option ObjectId)) (name : List ℕ) (number : ℕ) (first : ObjectId) (o : Object) (parent : ObjectId) → os ≡ objects.all → ns ≡ tables.modules → fs ≡ objects.firsts → Some number ≡ position (bytes_eq name) ns → Some first ≡ slice_index_or fs number None → Some o ≡ slice_get os first.0 → o.parent ≡ Some parent → None ≡ find_in d.tree.nodes None name
  top_other os ns fs name number first o parent os_is is fs_is found there object inside =
      let it = entry_of os first.0 o os_is object in
      sym (root_other source envelopes once all placed name number first.0 it.0 parent (at_names ns name number is found) (first_found ns fs name number first is fs_is found there) it.1 (ap (λ (x : Object). x.parent) it.2 ∙ inside)) ∙ find_top name

  first_by : (fs : List (Option ObjectId)) (number : ℕ) (o : Option Module) → fs ≡ objects.firsts → slice_get source.modules number ≡ o → option_map (λ (o : ObjectId). o.0) (slice_index_or fs number None) ≡ option_and_then (first_of d.tree.nodes) (option_map (λ (m : Module). word_at source m.name) o)
  first_by fs number None is at =
      let long : length fs ≡ length source.modules = ap length is ∙ built.firsts.each in
      ap (option_map (λ (o : ObjectId). o.0)) (past fs number (let following = no_item source.modules number at in omega arith))
    where
      no_item : (ms : List Module) (n : ℕ) → slice_get ms n ≡ None → length ms ≤ n
      no_item [] n h = omega arith
      no_item (m ∷ ms) zero h = absurd cc
      no_item (m ∷ ms) (suc n) h = let rest = no_item ms n h in omega arith

      past : (fs : List (Option ObjectId)) (n : ℕ) → length fs ≤ n → slice_index_or fs n None ≡ None
      past [] n h = refl
      past (f ∷ fs) zero h = absurd (omega arith)
      past (f ∷ fs) (suc n) h = past fs n (omega arith)
  first_by fs number (Some m) is at =
      first_is fs number is (slice_get_within source.modules number m at) ∙ first_same source envelopes built.right all placed number m at ∙ ap (λ (ns : List Node). first_of ns (word_at source m.name)) nodes_are

  -- the first object of a module
  pub first_answer : (fs : List (Option ObjectId)) (number : ℕ) → fs ≡ objects.firsts → option_map (λ (o : ObjectId). o.0) (slice_index_or fs number None) ≡ option_and_then (first_of d.tree.nodes) (slice_get (module_names d.source d.source.modules) number)
  first_answer fs number is =
      first_by fs number (slice_get source.modules number) is refl
      ∙ ap (option_and_then (first_of d.tree.nodes)) (sym (slice_get-map (λ (m : Module). word_at source m.name) source.modules number))
      ∙ ap (λ (x : Elaborated). option_and_then (first_of d.tree.nodes) (slice_get (module_names x.source x.source.modules) number)) view

  -- ---- envelopes

  -- the tree of these nodes
  abbrev tree_with : List Node → Tree
  tree_with ns = record { nodes = ns; viewports = protection.viewports; authors = map (λ (e : Envelope). e.author) envelopes }

  tree_is : tree_with nodes ≡ d.tree
  tree_is = ap tree_with (within_nodes source envelopes (suc further_limit) 0 0 source.modules) ∙ ap (λ (x : Elaborated). x.tree) view

  authors_long : suc (length (map (λ (e : Envelope). e.author) envelopes)) ≡ suc (length envelopes)
  authors_long = ap (λ (n : ℕ). suc n) (length-map envelopes (λ (e : Envelope). e.author))

  abbrev numbers_by : Option Module → List ℕ
  numbers_by o = option_map_or (λ (s : Declared). s.envelopes) (option_map (declared_in source protection) o) []

  abbrev declares : List (List ℕ) → ℕ → Bool
  declares scope e = list_any (λ (s : Step). s.envelope == e) (declared_in_scope scope nodes)

  numbers_in : (id : ℕ) (e : Entry) (m : Option Module) → slice_get all id ≡ Some e → module_at source envelopes e ≡ m → numbers_by m ≡ filter (declares (names_of (path_at source envelopes e))) (below (suc (length envelopes)))
  numbers_in id e None at inside = sym (leaf_numbers source envelopes once all placed (suc (length envelopes)) id e at inside)
  numbers_in id e (Some m) at inside = sym (child_numbers source envelopes once all placed (suc (length envelopes)) id e m at inside)

  numbers_at : (id : ℕ) (o : Option Entry) → slice_get all id ≡ o → numbers_by (option_and_then (module_at source envelopes) o) ≡ declared_envelopes (tree_with nodes) (Some id)
  numbers_at id None at = sym (ap (λ (x : Option Node). option_map_or (envelopes_in (tree_with nodes)) (option_map (λ (n : Node). names_of n.path) x) []) (slice_get-map (node_at source envelopes) all id ∙ ap (option_map (node_at source envelopes)) at))
  numbers_at id (Some e) at =
      numbers_in id e (module_at source envelopes e) at refl
      ∙ ap (λ (n : ℕ). filter (declares (names_of (path_at source envelopes e))) (below n)) (sym authors_long)
      ∙ ap (λ (path : List Step). envelopes_in (tree_with nodes) (names_of path)) (sym (path_is source envelopes once all placed e))
      ∙ sym (ap (λ (x : Option Node). option_map_or (envelopes_in (tree_with nodes)) (option_map (λ (n : Node). names_of n.path) x) []) (slice_get-map (node_at source envelopes) all id ∙ ap (option_map (node_at source envelopes)) at))

  -- those of what is declared in an object
  pub numbers_found : (os : List Object) (ss : List Declared) (id : ℕ) → os ≡ objects.all → ss ≡ scopes → option_map_or (λ (s : Declared). s.envelopes) (option_and_then (slice_get ss) (option_and_then (λ (o : Object). o.scope) (slice_get os id))) [] ≡ declared_envelopes d.tree (Some id)
  numbers_found os ss id is ss_is =
      ap (λ (xs : List Object). option_map_or (λ (s : Declared). s.envelopes) (option_and_then (slice_get ss) (option_and_then (λ (o : Object). o.scope) (slice_get xs id))) []) (is ∙ made_is)
      ∙ ap (λ (xs : List Declared). option_map_or (λ (s : Declared). s.envelopes) (option_and_then (slice_get xs) (option_and_then (λ (o : Object). o.scope) (slice_get made id))) []) (ss_is ∙ built.declared)
      ∙ ap (λ (x : Option Declared). option_map_or (λ (s : Declared). s.envelopes) x []) (scoped source envelopes once all placed (declared_in source protection) id)
      ∙ numbers_at id (slice_get all id) refl ∙ ap (λ (t : Tree). declared_envelopes t (Some id)) tree_is

  -- those of the top modules
  pub numbers_root : objects.root_envelopes ≡ declared_envelopes d.tree None
  numbers_root =
      built.root_envelopes
      ∙ sym (root_numbers source envelopes once all placed (λ k m at top. good.1 k m (omega arith) at top) (suc (length envelopes)))
      ∙ ap (λ (n : ℕ). filter (declares []) (below n)) (sym authors_long) ∙ ap (λ (t : Tree). declared_envelopes t None) tree_is

  -- ---- instances of one module

  -- what an item declares, seen from the object of its module
  abbrev item_seen : ℕ → Item → Named
  item_seen far i = record { distance = far; kind = item_kind i; width = width_of (item_range source i); lowest = lowest_of (item_range source i) }

  -- what a name names in an object of a module is what the item of that name declares there
  named_item : (id : ℕ) (name : List ℕ) (e : Entry) (m : Module) (k : ℕ) (i : Item) → slice_get all id ≡ Some e → module_at source envelopes e ≡ Some m → position (bytes_eq name) (map (item_name source) (items_in source m)) ≡ Some k → slice_get (items_in source m) k ≡ Some i
      → named_in d.tree.nodes id name ≡ Some (item_seen (slot source envelopes m k) i)
  named_item id name e m k i at inside found there =
      let far : ℕ = slot source envelopes m k in
      let child : Entry = Inner (path_at source envelopes e) id m k i in
      let node : Node = node_at source envelopes child in
      let same : (id + far) - id ≡ far = omega arith in
      ap (λ (o : Option ℕ). option_and_then (λ n. option_map (seen_from id n) (slice_get d.tree.nodes n)) o)
      (find_at id e name at ∙ child_found source envelopes once all placed id e m name k at inside found)
      ∙ ap (λ (o : Option Node). option_map (seen_from id (id + far)) o)
      (node_is (id + far) child ((good_at source envelopes once all placed id e at).children m inside k i there))
      ∙ ap (λ (x : ℕ). (let seen : Option Named = Some (record { distance = x; kind = node.kind; width = node.width; lowest = node.lowest }) in seen)) same

  alike_in : (a b : ℕ) (name : List ℕ) (e f : Entry) (m : Module) (found : Option ℕ) → slice_get all a ≡ Some e → slice_get all b ≡ Some f → module_at source envelopes e ≡ Some m → module_at source envelopes f ≡ Some m → position (bytes_eq name) (map (item_name source) (items_in source m)) ≡ found → named_in d.tree.nodes a name ≡ named_in d.tree.nodes b name
  alike_in a b name e f m None at_e at_f in_e in_f found =
      ap (λ (o : Option ℕ). option_and_then (λ n. option_map (seen_from a n) (slice_get d.tree.nodes n)) o)
      (find_at a e name at_e ∙ child_nothing source envelopes once all placed a e m name at_e in_e found)
      ∙ sym (ap (λ (o : Option ℕ). option_and_then (λ n. option_map (seen_from b n) (slice_get d.tree.nodes n)) o)
      (find_at b f name at_f ∙ child_nothing source envelopes once all placed b f m name at_f in_f found))
  alike_in a b name e f m (Some k) at_e at_f in_e in_f found =
      let it = found_at source (item_name source) (items_in source m) name k found in
      named_item a name e m k it.0 at_e in_e found it.1 ∙ sym (named_item b name f m k it.0 at_f in_f found it.1)

  module_by : (definition : List ℕ) (m : Option Module) → option_map (λ (m : Module). word_at source m.name) m ≡ Some definition → (x : Module) × (m ≡ Some x) × (word_at source x.name ≡ definition)
  module_by definition None h = absurd cc
  module_by definition (Some m) h = (m, refl, cc)

  entry_by : (id : ℕ) (definition : List ℕ) (o : Option Entry) → slice_get all id ≡ o → definition_at d.tree.nodes id ≡ Some definition → (e : Entry) × (m : Module) × (slice_get all id ≡ Some e) × (module_at source envelopes e ≡ Some m) × (word_at source m.name ≡ definition)
  entry_by id definition None at h = absurd (let none = ap (option_and_then (λ (n : Node). n.definition)) (no_node id at) in cc (none, h))
  entry_by id definition (Some e) at h =
      let it = module_by definition (module_at source envelopes e) (definition_entry source envelopes built.right all placed id e at ∙ sym (ap (option_and_then (λ (n : Node). n.definition)) (node_is id e at)) ∙ h) in
      (e, it.0, at, it.1, it.2)

  -- they are alike
  pub alike : AreAlike d.tree.nodes
  alike a b definition name is_a is_b =
      let first = entry_by a definition (slice_get all a) refl is_a in
      let second = entry_by b definition (slice_get all b) refl is_b in
      let there = module_there source envelopes once all placed a first.0 first.1 first.2 first.3 in
      let there_too = module_there source envelopes once all placed b second.0 second.1 second.2 second.3 in
      let number : there.0 ≡ there_too.0 = module_index source there.0 there_too.0 first.1 second.1 once there.1 there_too.1 (first.4 ∙ sym second.4) in
      let same : second.1 ≡ first.1 = cc (there.1, there_too.1, number) in
      alike_in a b name first.0 second.0 first.1 (position (bytes_eq name) (map (item_name source) (items_in source first.1))) first.2 second.2 first.3
      (second.3 ∙ ap (λ (x : Module). (let o : Option Module = Some x in o)) same) refl

  -- what is found in a list by a test, and where
  named_there : (name : List ℕ) (is : List Item) (i : Item) (o : Option ℕ) → position (has_name source name) is ≡ o → option_and_then (slice_get is) o ≡ Some i → (k : ℕ) × (position (has_name source name) is ≡ Some k) × (slice_get is k ≡ Some i)
  named_there name is i None at h = absurd cc
  named_there name is i (Some k) at h = (k, at, h)

  -- each item of a module is found by its name in each object of the module
  pub item_found : (number id : ℕ) (m : Module) (name : List ℕ) (i : Item) → slice_get source.modules number ≡ Some m → definition_at d.tree.nodes id ≡ Some (word_at source m.name) → item_named source (items_in source m) name ≡ Some i → IsFoundAs d id name i
  item_found number id m name i there is named =
      let e = entry_by id (word_at source m.name) (slice_get all id) refl is in
      let own = module_there source envelopes once all placed id e.0 e.1 e.2 e.3 in
      let number_is : own.0 ≡ number = module_index source own.0 number e.1 m once own.1 there e.4 in
      let same : e.1 ≡ m = cc (own.1, there, number_is) in
      let inside : module_at source envelopes e.0 ≡ Some m = e.3 ∙ ap (λ (x : Module). (let o : Option Module = Some x in o)) same in
      let k = named_there name (items_in source m) i (position (has_name source name) (items_in source m)) refl named in
      let position_is : position (bytes_eq name) (map (item_name source) (items_in source m)) ≡ Some k.0 =
      sym (position_mapped (bytes_eq name) (item_name source) (items_in source m)) ∙ k.1 in
      let far : ℕ = slot source envelopes m k.0 in
      let child : Entry = Inner (path_at source envelopes e.0) id m k.0 i in
      let child_at = (good_at source envelopes once all placed id e.0 e.2).children m inside k.0 i k.2 in
      record {
        object = id + far;
        found = find_at id e.0 name e.2 ∙ child_found source envelopes once all placed id e.0 m name k.0 e.2 inside position_is;
        node = node_at source envelopes child;
        at = node_is (id + far) child child_at;
        is =
            ap (λ (x : Elaborated). node_item x.source (node_at source envelopes child)) (sym view)
            ∙ inner_item source envelopes once all placed (id + far) (path_at source envelopes e.0) id m k.0 i child_at;
      }
