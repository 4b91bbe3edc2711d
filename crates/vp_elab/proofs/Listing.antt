-- What a design that is built lists of a scope is what its tree has there.
use Rattle.std.proofs.Common.{◌≡◌, ℕ, suc, ◌+◌, ◌<◌, ◌≤◌, ◌^◌, List, [], ◌∷◌, length, map, position, get_or, slice_get, slice_index_or, Option, Some, None, refl, sym, ap, subst, ◌∙◌, arith}
use Rattle.std.specs.Prelude.{All, option_map}
use Rattle.std.specs.List.{cons_option, filter_map}
use Rattle.std.specs.Option.{option_and_then, option_map_or}
use Rattle.std.specs.Str.{bytes_eq}
use Rattle.std.proofs.lemmas.List.{append-nil, length-map}
use Rattle.std.proofs.lemmas.Option.{get_or_from_slice_get, slice_get-get_or, slice_get-map}
use Rattle.vp_source.specs.Places.{word_at}
use Rattle.vp_source.specs.declared.source.Source.{Source}
use Rattle.vp_source.specs.declared.source.Module.{Module}
use Rattle.vp_modules.specs.declared.tables.Tables.{Tables}
use Rattle.vp_modules.specs.Refusals.{twice_in}
use Rattle.vp_pragma.specs.declared.envelope.Envelope.{Envelope}
use Rattle.vp_pragma.specs.Envelopes.{Protection}
use Rattle.vp_elab.specs.declared.design.Objects.{Objects}
use Rattle.vp_elab.specs.declared.object.TheConstants.{OBJECT_LIMIT}
use Rattle.vp_elab.specs.declared.object.Object.{Object}
use Rattle.vp_elab.specs.declared.object.ObjectId.{ObjectId}
use Rattle.vp_elab.specs.Tree.{Node, Step, children_named, children_of, find_in, names_of}
use Rattle.vp_elab.specs.Elaboration.{further_limit}
use Rattle.vp_elab.specs.Objects.{Declared, declared_in, top_of}
use Rattle.vp_elab.specs.Built.{Elaborated, IsBuilt, design_of}
use Rattle.vp_elab.proofs.Designed.{long_within, top_after, top_first, top_nowhere, top_other}
use Rattle.vp_elab.proofs.Entries.{Entry, entries_within, module_at, node_at, object_at, path_at, within_nodes, within_objects}
use Rattle.vp_elab.proofs.Found.{path_is}
use Rattle.vp_elab.proofs.Listed.{child_back, child_list, child_slots, found, leaf_list, roots_are}
use Rattle.vp_elab.proofs.Named.{module_position, right_once}
use Rattle.vp_elab.proofs.Placed.{AllFrom, Good, Tops, within_good}
use Rattle.vp_elab.proofs.Scopes.{scoped}

-- what two lists give is the same, where items side by side give the same
filter_maps_same :
    {X Y A B : Type 0} (f : X → Option A) (g : Y → Option B) (h : A → B) (xs : List X) (ys : List Y)
    → length xs ≡ length ys → ((k : ℕ) (x : X) (y : Y) → slice_get xs k ≡ Some x → slice_get ys k ≡ Some y → option_map h (f x) ≡ g y)
    → map h (filter_map f xs) ≡ filter_map g ys
filter_maps_same f g h [] [] long same = refl
filter_maps_same f g h [] (y ∷ ys) long same = absurd (omega arith)
filter_maps_same f g h (x ∷ xs) [] long same = absurd (omega arith)
filter_maps_same f g h (x ∷ xs) (y ∷ ys) long same =
    by h (f x) (g y) (filter_map f xs) (filter_map g ys) (same 0 x y refl refl) (filter_maps_same f g h xs ys (omega arith) (λ k a b at_a at_b. same (suc k) a b at_a at_b))
  where
    by : {A B : Type 0} (h : A → B) (o : Option A) (p : Option B) (firsts : List A) (seconds : List B) → option_map h o ≡ p → map h firsts ≡ seconds → map h (cons_option o firsts) ≡ cons_option p seconds
    by h None p firsts seconds is rest = rest ∙ ap (λ q. cons_option q seconds) is
    by h (Some a) p firsts seconds is rest = ap (λ zs. h a ∷ zs) rest ∙ ap (λ q. cons_option q seconds) is

module _ (source : Source) (protection : Protection) (tables : Tables) (scopes : List Declared) (objects : Objects) (built : IsBuilt source protection tables scopes objects) (d : Elaborated) (view : design_of source protection ≡ d) where
  abbrev envelopes : List Envelope
  envelopes = protection.envelopes

  -- the entries of the source
  abbrev all : List Entry
  all = entries_within source envelopes (suc further_limit) 0 0 source.modules

  once : twice_in source [] source.modules ≡ None
  once = right_once source built.right

  good : AllFrom (Good source envelopes all) 0 all × Tops source envelopes all 0
  good = within_good source envelopes all [] source.modules 0 0 refl refl refl [] [] (sym (append-nil all)) refl built.few

  placed : AllFrom (Good source envelopes all) 0 all
  placed = good.0

  abbrev nodes : List Node
  nodes = map (node_at source envelopes) all

  abbrev made : List Object
  made = map (object_at source envelopes) all

  nodes_are : nodes ≡ d.tree.nodes
  nodes_are = within_nodes source envelopes (suc further_limit) 0 0 source.modules ∙ ap (λ (x : Elaborated). x.tree.nodes) view

  made_is : objects.all ≡ made
  made_is = built.flat ∙ sym (within_objects source envelopes (suc further_limit) 0 0 source.modules)

  few : length all ≤ OBJECT_LIMIT
  few = let long = long_within source envelopes 0 0 source.modules built.few in let size = built.few in omega arith

  -- ---- below an object

  -- the slots of a module
  abbrev slots_by : Option Module → List ℕ
  slots_by m = option_map_or (λ (s : Declared). s.slots) (option_map (declared_in source protection) m) []

  -- the numbers so far after an object are those of what is declared in it, and none is too large
  abbrev AreChildren : ℕ → List ℕ → Type 0
  AreChildren id slots = (map (λ slot. id + slot) slots ≡ children_of nodes (Some id)) × ((k x : ℕ) → slice_get slots k ≡ Some x → id + x < OBJECT_LIMIT)

  children_at : (id : ℕ) (o : Option Entry) → slice_get all id ≡ o → children_of nodes (Some id) ≡ option_map_or (λ (e : Entry). children_named nodes (names_of (path_at source envelopes e))) o []
  children_at id None at = ap (λ (x : Option Node). option_map_or (children_named nodes) (option_map (λ (n : Node). names_of n.path) x) []) (slice_get-map (node_at source envelopes) all id ∙ ap (option_map (node_at source envelopes)) at)
  children_at id (Some e) at =
      ap (λ (x : Option Node). option_map_or (children_named nodes) (option_map (λ (n : Node). names_of n.path) x) []) (slice_get-map (node_at source envelopes) all id ∙ ap (option_map (node_at source envelopes)) at)
      ∙ ap (λ (path : List Step). children_named nodes (names_of path)) (path_is source envelopes once all placed e)

  are_in : (id : ℕ) (e : Entry) (m : Option Module) → slice_get all id ≡ Some e → module_at source envelopes e ≡ m → AreChildren id (slots_by m)
  are_in id e None at inside = (sym (children_at id (Some e) at ∙ leaf_list source envelopes once all placed id e at inside), λ k x at_x. absurd cc)
  are_in id e (Some m) at inside =
      let following = child_slots source envelopes once all placed id e m few at inside in (
        following ∙ sym (children_at id (Some e) at ∙ child_list source envelopes once all placed id e m at inside),
        λ k x at_x.
            let there = ap (λ (xs : List ℕ). slice_get xs k) (sym following) ∙ slice_get-map (λ (slot : ℕ). id + slot) (slots_by (Some m)) k ∙ ap (option_map (λ (slot : ℕ). id + slot)) at_x in
            let within = (child_back source envelopes once all placed id e m k (id + x) at inside there).1 in
            let long = length-map all (node_at source envelopes) in
            let most = few in
            omega arith,
      )

  are_at : (id : ℕ) (o : Option Entry) → slice_get all id ≡ o → AreChildren id (slots_by (option_and_then (module_at source envelopes) o))
  are_at id None at = (sym (children_at id None at), λ k x at_x. absurd cc)
  are_at id (Some e) at = are_in id e (module_at source envelopes e) at refl

  -- the slots of an object
  abbrev pub slots_in : List Object → List Declared → ℕ → List ℕ
  slots_in os ss id = option_map_or (λ (s : Declared). s.slots) (option_and_then (slice_get ss) (option_and_then (λ (o : Object). o.scope) (slice_get os id))) []

  are_children : (os : List Object) (ss : List Declared) (id : ℕ) → os ≡ objects.all → ss ≡ scopes → AreChildren id (slots_in os ss id)
  are_children os ss id is ss_is =
      subst (AreChildren id)
      (sym
      (ap (λ (xs : List Object). slots_in xs ss id) (is ∙ made_is) ∙ ap (λ (xs : List Declared). slots_in made xs id) (ss_is ∙ built.declared)
      ∙ ap (λ (x : Option Declared). option_map_or (λ (s : Declared). s.slots) x []) (scoped source envelopes once all placed (declared_in source protection) id)))
      (are_at id (slice_get all id) refl)

  pub children_are : (os : List Object) (ss : List Declared) (id : ℕ) → os ≡ objects.all → ss ≡ scopes → map (λ slot. id + slot) (slots_in os ss id) ≡ children_of d.tree.nodes (Some id)
  children_are os ss id is ss_is = (are_children os ss id is ss_is).0 ∙ ap (λ (ns : List Node). children_of ns (Some id)) nodes_are

  pub children_fit : (os : List Object) (ss : List Declared) (id : ℕ) → os ≡ objects.all → ss ≡ scopes → All (λ slot. id + slot < 2 ^ 32) (slots_in os ss id)
  children_fit os ss id is ss_is k e within =
      let small = (are_children os ss id is ss_is).1 k (get_or (slots_in os ss id) k e) (slice_get-get_or (slots_in os ss id) k e within) in
      omega arith

  -- ---- top modules

  module _ (os : List Object) (ns : List (List ℕ)) (fs : List (Option ObjectId)) (is : os ≡ objects.all) (ns_is : ns ≡ tables.modules) (fs_is : fs ≡ objects.firsts) where
    top_in : (name : List ℕ) (number : ℕ) (first : ObjectId) (o : Object) (parent : Option ObjectId) → Some number ≡ position (bytes_eq name) ns → Some first ≡ slice_index_or fs number None → Some o ≡ slice_get os first.0 → o.parent ≡ parent → option_map (λ (o : ObjectId). o.0) (option_map_or (λ p. None) parent (Some first)) ≡ find_in d.tree.nodes None name
    top_in name number first o None found there object inside =
        top_first source protection tables scopes objects built d view os ns fs name number first o is ns_is fs_is found there object inside
    top_in name number first o (Some p) found there object inside =
        top_other source protection tables scopes objects built d view os ns fs name number first o p is ns_is fs_is found there object inside

    top_by : (name : List ℕ) (number : ℕ) (first : ObjectId) (object : Option Object) → Some number ≡ position (bytes_eq name) ns → Some first ≡ slice_index_or fs number None → object ≡ slice_get os first.0 → option_map (λ (o : ObjectId). o.0) (option_and_then (λ (o : Object). option_map_or (λ p. None) o.parent (Some first)) object) ≡ find_in d.tree.nodes None name
    top_by name number first None found there object = top_nowhere source protection tables scopes objects built d view os ns fs name number first is ns_is fs_is found there object
    top_by name number first (Some o) found there object = top_in name number first o o.parent found there object refl

    top_at : (name : List ℕ) (number : ℕ) (first : Option ObjectId) → Some number ≡ position (bytes_eq name) ns → first ≡ slice_index_or fs number None → option_map (λ (o : ObjectId). o.0) (top_of os first) ≡ find_in d.tree.nodes None name
    top_at name number None found there = top_after source protection tables scopes objects built d view ns fs name number ns_is fs_is found there
    top_at name number (Some first) found there = top_by name number first (slice_get os first.0) found there refl

    -- the top module of a name
    pub top_is : (name : List ℕ) (number : ℕ) → Some number ≡ position (bytes_eq name) ns → option_map (λ (o : ObjectId). o.0) (top_of os (slice_index_or fs number None)) ≡ find_in d.tree.nodes None name
    top_is name number found = top_at name number (slice_index_or fs number None) found refl

  -- the top modules
  pub roots_found : (os : List Object) (fs : List (Option ObjectId)) → os ≡ objects.all → fs ≡ objects.firsts → map (λ (o : ObjectId). o.0) (filter_map (top_of os) fs) ≡ children_of d.tree.nodes None
  roots_found os fs is fs_is =
      filter_maps_same (top_of os) (found source envelopes once all placed (λ k m at top. good.1 k m (omega arith) at top)) (λ (o : ObjectId). o.0) fs source.modules
      (ap (λ (xs : List (Option ObjectId)). length xs) fs_is ∙ built.firsts.each)
      (λ k first m at_first at.
      let name : List ℕ = word_at source m.name in
      let position_is : position (bytes_eq name) tables.modules ≡ Some k = ap (λ (t : Tables). position (bytes_eq name) t.modules) built.names ∙ module_position source k m once at in
      ap (λ (o : Option ObjectId). option_map (λ (o : ObjectId). o.0) (top_of os o)) (sym (get_or_from_slice_get fs k first None at_first))
      ∙ top_is os tables.modules fs is refl fs_is name k (sym position_is)
      ∙ ap (λ (ns : List Node). find_in ns None name) (sym nodes_are))
      ∙ roots_are source envelopes once all placed (λ k m at top. good.1 k m (omega arith) at top)
      ∙ ap (λ (ns : List Node). children_of ns None) nodes_are
