-- The objects of entries stand for their nodes.
use Rattle.std.proofs.Common.{◌≡◌, ℕ, zero, suc, ◌+◌, ◌<◌, ◌≤◌, Bool, false, cond, List, [], ◌∷◌, ◌++◌, length, map, position, get_or, slice_get, slice_index_or, Option, Some, None, refl, sym, ap, subst, ◌∙◌, arith}
use Rattle.std.specs.Prelude.{All, MatchOption, nat_eq, option_map}
use Rattle.std.specs.List.{position_from}
use Rattle.std.specs.Option.{option_and_then, option_map_or}
use Rattle.std.specs.Str.{bytes_eq}
use Rattle.std.proofs.lemmas.Bool.{eqb-true}
use Rattle.std.proofs.lemmas.List.Quantifiers.{position-Some}
use Rattle.std.proofs.lemmas.Option.{slice_get-get_or, slice_get-map}
use Rattle.std.proofs.lemmas.Slice.Eq.{bytes_eq-Decides}
use Rattle.vp_source.specs.declared.expression.Range.{Range}
use Rattle.vp_source.specs.Places.{line_at, word_at}
use Rattle.vp_source.specs.declared.source.Source.{Source}
use Rattle.vp_source.specs.declared.source.Module.{Module}
use Rattle.vp_source.specs.declared.source.Item.{Item}
use Rattle.vp_modules.specs.Items.{definition_number, instantiated, item_name, items_in, module_number}
use Rattle.vp_modules.specs.ModuleRefusals.{refusal_of}
use Rattle.vp_modules.specs.Tables.{scope_in}
use Rattle.vp_pragma.specs.declared.envelope.Envelope.{Envelope}
use Rattle.vp_pragma.specs.Envelopes.{Viewport, envelope_at}
use Rattle.vp_pragma.specs.Rights.{nothing}
use Rattle.vp_elab.specs.declared.object.Object.{Object}
use Rattle.vp_elab.specs.declared.object.ObjectId.{ObjectId}
use Rattle.vp_elab.specs.Tree.{Node, Step, is_module_of, node_name, path_of, step_rights_in, step_rights_of}
use Rattle.vp_elab.specs.Elaboration.{item_node, item_range, item_step, root_node, root_step, width_of}
use Rattle.vp_elab.specs.Objects.{Declared, StandsFor, declared_in, is_of, module_name_at}
use Rattle.vp_elab.proofs.Distinct.{bytes_eq-self}
use Rattle.vp_elab.proofs.Entries.{Entry, Top, Inner, module_at, node_at, object_at}
use Rattle.vp_elab.proofs.Found.{nat_same, path_is}
use Rattle.vp_elab.proofs.LastSteps.{last_after}
use Rattle.vp_elab.proofs.Named.{definition_named, module_index, right_definition, right_once, some_of}
use Rattle.vp_elab.proofs.Parts.{definition_at, nowhere}
use Rattle.vp_elab.proofs.Placed.{AllFrom, Good}
use Rattle.vp_elab.proofs.Scopes.{bool_same, scoped_entry}
use Rattle.vp_elab.proofs.OpenedSteps.{nothing_at_root}
use Rattle.vp_elab.proofs.Unique.{good_at}
use Rattle.vp_elab.specs.laws.Positions.{position_is}

-- a range has a bit
range_some : (range : Option Range) → 1 ≤ width_of range
range_some None = omega arith
range_some (Some range) = omega arith

-- functions that agree on the items of a list
pub map_same : {X Y : Type 0} (f g : X → Y) (xs : List X) → ((j : ℕ) (x : X) → slice_get xs j ≡ Some x → f x ≡ g x) → map f xs ≡ map g xs
map_same f g [] same = refl
map_same f g (x ∷ xs) same = ap (λ y. y ∷ map f xs) (same 0 x refl) ∙ ap (λ ys. g x ∷ ys) (map_same f g xs (λ j y at. same (suc j) y at))

map_of_map : {X Y Z : Type 0} (g : Y → Z) (f : X → Y) (xs : List X) → map g (map f xs) ≡ map (λ x. g (f x)) xs
map_of_map g f [] = refl
map_of_map g f (x ∷ xs) = ap (λ ys. g (f x) ∷ ys) (map_of_map g f xs)

-- searches by tests that agree on the items of a list
search_from : {X : Type 0} (t u : X → Bool) (n : ℕ) (xs : List X) → ((j : ℕ) (x : X) → slice_get xs j ≡ Some x → t x ≡ u x) → position_from t n xs ≡ position_from u n xs
search_from t u n [] same = refl
search_from t u n (x ∷ xs) same =
    ap (λ b. cond b (Some n) (position_from t (n + 1) xs)) (same 0 x refl)
    ∙ ap (λ (o : Option ℕ). cond (u x) (Some n) o) (search_from t u (n + 1) xs (λ j y at. same (suc j) y at))

map_from : {X Y : Type 0} (t : Y → Bool) (f : X → Y) (n : ℕ) (xs : List X) → position_from t n (map f xs) ≡ position_from (λ x. t (f x)) n xs
map_from t f n [] = refl
map_from t f n (x ∷ xs) = ap (λ (o : Option ℕ). cond (t (f x)) (Some n) o) (map_from t f (n + 1) xs)

-- what holds of what f gives holds of all of it
all_mapped : {X Y : Type 0} (P : Y → Type 0) (f : X → Y) → ((x : X) → P (f x)) → (xs : List X) (k : ℕ) (d : Y) → k < length (map f xs) → P (slice_index_or (map f xs) k d)
all_mapped P f each [] k d l = absurd (omega arith)
all_mapped P f each (x ∷ xs) zero d l = each x
all_mapped P f each (x ∷ xs) (suc k) d l = all_mapped P f each xs k d (omega arith)

-- an item of what f gives, or another
pub or_mapped : {X Y : Type 0} (f : X → Y) (xs : List X) (k : ℕ) (x : X) (d : Y) → slice_get xs k ≡ Some x → slice_index_or (map f xs) k d ≡ f x
or_mapped f [] k x d at = absurd cc
or_mapped f (y ∷ ys) zero x d at = let same : y ≡ x = cc in ap f same
or_mapped f (y ∷ ys) (suc k) x d at = or_mapped f ys k x d at

module _ (source : Source) (envelopes : List Envelope) (right : refusal_of source ≡ None) (all : List Entry) (placed : AllFrom (Good source envelopes all) 0 all) where
  abbrev nodes : List Node
  nodes = map (node_at source envelopes) all

  abbrev objects : List Object
  objects = map (object_at source envelopes) all

  node_there : (id : ℕ) (e : Entry) → slice_get all id ≡ Some e → slice_get nodes id ≡ Some (node_at source envelopes e)
  node_there id e at = slice_get-map (node_at source envelopes) all id ∙ ap (option_map (node_at source envelopes)) at

  -- the definition of a module's object
  pub definition_is : (e : Entry) (m : Module) → module_at source envelopes e ≡ Some m → (node_at source envelopes e).definition ≡ Some (word_at source m.name)
  definition_is (Top k x) m is = ap (λ (y : Option Module). option_map (λ (m : Module). word_at source m.name) y) is
  definition_is (Inner above p x k i) m is = definition_named source i m is

  -- the definition of an entry is the name of its module
  pub definition_entry : (id : ℕ) (e : Entry) → slice_get all id ≡ Some e → option_map (λ (m : Module). word_at source m.name) (module_at source envelopes e) ≡ (node_at source envelopes e).definition
  definition_entry id (Top k m) at = refl
  definition_entry id (Inner above p m k i) at =
      let role = (good_at source envelopes (right_once source right) all placed id (Inner above p m k i) at).role in
      right_definition source right m k i role.4

  -- the object of an entry stands for its node
  pub stands : (id : ℕ) (e : Entry) → slice_get all id ≡ Some e → StandsFor nodes id (object_at source envelopes e)
  stands id (Top k m) at = record {
    node = root_node source envelopes m;
    step = root_step source envelopes m;
    there = node_there id (Top k m) at;
    kind = refl;
    width = refl;
    lowest = refl;
    path = refl;
    place = refl;
    envelope = refl;
    inside = refl;
    following = tt;
  }
  stands id (Inner above p m k i) at =
      let role = (good_at source envelopes (right_once source right) all placed id (Inner above p m k i) at).role in
      let parent : slice_get nodes p ≡ Some (node_at source envelopes role.0) = node_there p role.0 role.1 in
      let step : Step = item_step source envelopes m i in
      let above_is : above ≡ path_of nodes (Some p) =
      sym role.3 ∙ sym (path_is source envelopes (right_once source right) all placed role.0) ∙ sym (ap (λ (o : Option Node). option_map_or (λ (n : Node). n.path) o []) parent) in
      let inside_is : Some (word_at source m.name) ≡ option_and_then (λ (n : Node). n.definition) (slice_get nodes p) =
      sym (definition_is role.0 m role.2) ∙ sym (ap (option_and_then (λ (n : Node). n.definition)) parent) in
      record {
        node = item_node source envelopes above m i;
        step = step;
        there = node_there id (Inner above p m k i) at;
        kind = refl;
        width = refl;
        lowest = refl;
        path = ap (λ (path : List Step). path ++ step ∷ []) above_is;
        place = refl;
        envelope = refl;
        inside = inside_is;
        following = omega (arith, role.5);
      }

  match_by : (id : ℕ) (o : Option Entry) → slice_get all id ≡ o → MatchOption (option_map (object_at source envelopes) o) (slice_get nodes id ≡ None) (λ x. StandsFor nodes id x)
  match_by id None at = slice_get-map (node_at source envelopes) all id ∙ ap (option_map (node_at source envelopes)) at
  match_by id (Some e) at = stands id e at

  -- the object of a number stands for the node
  pub object_stands : (id : ℕ) → MatchOption (slice_get objects id) (slice_get nodes id ≡ None) (λ x. StandsFor nodes id x)
  object_stands id =
      subst (λ (o : Option Object). MatchOption o (slice_get nodes id ≡ None) (λ x. StandsFor nodes id x)) (sym (slice_get-map (object_at source envelopes) all id)) (match_by id (slice_get all id) refl)

  -- ---- what the lists have in common

  pub kinds_same : map (λ (o : Object). o.kind) objects ≡ map (λ (n : Node). n.kind) nodes
  kinds_same =
      map_of_map (λ (o : Object). o.kind) (object_at source envelopes) all
      ∙ map_same (λ e. (object_at source envelopes e).kind) (λ e. (node_at source envelopes e).kind) all (λ j e at. kind_same e)
      ∙ sym (map_of_map (λ (n : Node). n.kind) (node_at source envelopes) all)
    where
      kind_same : (e : Entry) → (object_at source envelopes e).kind ≡ (node_at source envelopes e).kind
      kind_same (Top k m) = refl
      kind_same (Inner above p m k i) = refl

  pub widths_same : map (λ (o : Object). o.width) objects ≡ map (λ (n : Node). n.width) nodes
  widths_same =
      map_of_map (λ (o : Object). o.width) (object_at source envelopes) all
      ∙ map_same (λ e. (object_at source envelopes e).width) (λ e. (node_at source envelopes e).width) all (λ j e at. width_same e)
      ∙ sym (map_of_map (λ (n : Node). n.width) (node_at source envelopes) all)
    where
      width_same : (e : Entry) → (object_at source envelopes e).width ≡ (node_at source envelopes e).width
      width_same (Top k m) = refl
      width_same (Inner above p m k i) = refl

  pub lowest_same : map (λ (o : Object). o.lowest) objects ≡ map (λ (n : Node). n.lowest) nodes
  lowest_same =
      map_of_map (λ (o : Object). o.lowest) (object_at source envelopes) all
      ∙ map_same (λ e. (object_at source envelopes e).lowest) (λ e. (node_at source envelopes e).lowest) all (λ j e at. low_same e)
      ∙ sym (map_of_map (λ (n : Node). n.lowest) (node_at source envelopes) all)
    where
      low_same : (e : Entry) → (object_at source envelopes e).lowest ≡ (node_at source envelopes e).lowest
      low_same (Top k m) = refl
      low_same (Inner above p m k i) = refl

  -- the name of the module of an object is the definition of the node
  pub scope_same : (id : ℕ) (e : Entry) → slice_get all id ≡ Some e → module_name_at source (object_at source envelopes e).scope ≡ (node_at source envelopes e).definition
  scope_same id e at = scoped_entry source envelopes (right_once source right) all placed (λ (m : Module). word_at source m.name) id e at ∙ definition_entry id e at

  pub scopes_same : map (λ (o : Object). module_name_at source o.scope) objects ≡ map (λ (n : Node). n.definition) nodes
  scopes_same =
      map_of_map (λ (o : Object). module_name_at source o.scope) (object_at source envelopes) all
      ∙ map_same (λ e. module_name_at source (object_at source envelopes e).scope) (λ e. (node_at source envelopes e).definition) all scope_same
      ∙ sym (map_of_map (λ (n : Node). n.definition) (node_at source envelopes) all)

  pub widths_some : All (λ (o : Object). 1 ≤ o.width) objects
  widths_some = λ k d l. all_mapped (λ (o : Object). 1 ≤ o.width) (object_at source envelopes) width_some all k d l
    where
      width_some : (e : Entry) → 1 ≤ (object_at source envelopes e).width
      width_some (Top k m) = omega arith
      width_some (Inner above p m k i) = range_some (item_range source i)

  -- the line of an object is that of its node
  pub line_same : (e : Entry) → line_at source (object_at source envelopes e).place ≡ (node_at source envelopes e).line
  line_same (Top k m) = refl
  line_same (Inner above p m k i) = refl

  -- ---- names and sights

  -- the name of an item, from the table of its module
  pub name_inner : (id : ℕ) (e : Entry) (parent : ObjectId) → slice_get all id ≡ Some e → (object_at source envelopes e).parent ≡ Some parent → option_map_or (λ (ns : List (List ℕ)). slice_index_or ns (object_at source envelopes e).index []) (option_map (scope_in source) (option_and_then (module_at source envelopes) (slice_get all parent.0))) [] ≡ node_name (node_at source envelopes e)
  name_inner id (Top k m) parent at inside = absurd cc
  name_inner id (Inner above p m k i) parent at inside =
      let role = (good_at source envelopes (right_once source right) all placed id (Inner above p m k i) at).role in
      let below : parent.0 ≡ p = ap (λ (o : Option ObjectId). option_map_or (λ (q : ObjectId). q.0) o 0) (sym inside) in
      let module_is : option_and_then (module_at source envelopes) (slice_get all parent.0) ≡ Some m =
      ap (λ (n : ℕ). option_and_then (module_at source envelopes) (slice_get all n)) below ∙ ap (option_and_then (module_at source envelopes)) role.1 ∙ role.2 in
      ap (λ (o : Option Module). option_map_or (λ (ns : List (List ℕ)). slice_index_or ns k []) (option_map (scope_in source) o) []) module_is
      ∙ or_mapped (item_name source) (items_in source m) k i [] role.4
      ∙ sym (ap (λ (s : Option Step). option_map_or (λ (s : Step). s.name) s []) (last_after above (item_step source envelopes m i)))

  -- the name of a top module
  pub name_top : (e : Entry) → (object_at source envelopes e).parent ≡ None → word_at source (object_at source envelopes e).place ≡ node_name (node_at source envelopes e)
  name_top (Top k m) inside = refl
  name_top (Inner above p m k i) inside = absurd cc

  -- what viewports open of an item, from the table of its module
  pub step_rights_inner : (vs : List Viewport) (id : ℕ) (e : Entry) (parent : ObjectId) → slice_get all id ≡ Some e → (object_at source envelopes e).parent ≡ Some parent → option_map_or (λ (d : Declared). slice_index_or d.all_step_rights (object_at source envelopes e).index (nothing, None)) (option_map (declared_in source (record { envelopes = envelopes; viewports = vs })) (option_and_then (module_at source envelopes) (slice_get all parent.0))) (nothing, None) ≡ step_rights_in vs (node_at source envelopes e)
  step_rights_inner vs id (Top k m) parent at inside = absurd cc
  step_rights_inner vs id (Inner above p m k i) parent at inside =
      let role = (good_at source envelopes (right_once source right) all placed id (Inner above p m k i) at).role in
      let below : parent.0 ≡ p = ap (λ (o : Option ObjectId). option_map_or (λ (q : ObjectId). q.0) o 0) (sym inside) in
      let module_is : option_and_then (module_at source envelopes) (slice_get all parent.0) ≡ Some m =
      ap (λ (n : ℕ). option_and_then (module_at source envelopes) (slice_get all n)) below ∙ ap (option_and_then (module_at source envelopes)) role.1 ∙ role.2 in
      ap (λ (o : Option Module). option_map_or (λ (d : Declared). slice_index_or d.all_step_rights k (nothing, None)) (option_map (declared_in source (record { envelopes = envelopes; viewports = vs })) o) (nothing, None)) module_is
      ∙ or_mapped (λ i. step_rights_of vs (item_step source envelopes m i)) (items_in source m) k i (nothing, None) role.4
      ∙ sym (ap (λ (s : Option Step). option_map_or (step_rights_of vs) s (nothing, None)) (last_after above (item_step source envelopes m i)))

  -- they open nothing of a top module
  pub step_rights_top : (vs : List Viewport) (e : Entry) → (object_at source envelopes e).parent ≡ None → (nothing, None) ≡ step_rights_in vs (node_at source envelopes e)
  step_rights_top vs (Top k m) inside = sym (nothing_at_root (word_at source m.name) m.name (envelope_at envelopes m.name) vs)
  step_rights_top vs (Inner above p m k i) inside = absurd cc

  -- ---- the first object of a module

  is_of_by : (k : ℕ) (m x : Module) (j : ℕ) → slice_get source.modules k ≡ Some m → slice_get source.modules j ≡ Some x → nat_eq k j ≡ bytes_eq (word_at source m.name) (word_at source x.name)
  is_of_by k m x j at_m at_x =
      bool_same (nat_eq k j) (bytes_eq (word_at source m.name) (word_at source x.name))
      (λ h.
      let number : k ≡ j = eqb-true k j h in
      let same : m ≡ x = cc (at_m, at_x, number) in
      ap (λ (y : Module). bytes_eq (word_at source m.name) (word_at source y.name)) (sym same) ∙ bytes_eq-self (word_at source m.name))
      (λ h.
      let number : k ≡ j = module_index source k j m x (right_once source right) at_m at_x ((bytes_eq-Decides (word_at source m.name) (word_at source x.name)).0 h) in
      ap (nat_eq k) (sym number) ∙ nat_same k)

  is_of_none : (k : ℕ) (m : Module) (i : Item) (o : Option ℕ) (d : Option (List ℕ)) → slice_get source.modules k ≡ Some m → definition_number source i ≡ o → option_map (λ (m : Module). word_at source m.name) (option_and_then (slice_get source.modules) o) ≡ d → ((j : ℕ) → o ≡ Some j → (x : Module) × (slice_get source.modules j ≡ Some x)) → option_map_or (nat_eq k) o false ≡ option_map_or (bytes_eq (word_at source m.name)) d false
  is_of_none k m i None d at_m is named there = ap (λ (x : Option (List ℕ)). option_map_or (bytes_eq (word_at source m.name)) x false) named
  is_of_none k m i (Some j) d at_m is named there =
      let it = there j refl in
      is_of_by k m it.0 j at_m it.1
      ∙ ap (λ (x : Option (List ℕ)). option_map_or (bytes_eq (word_at source m.name)) x false) (sym (ap (option_map (λ (m : Module). word_at source m.name)) it.1) ∙ named)

  number_there : (i : Item) (j : ℕ) → definition_number source i ≡ Some j → (x : Module) × (slice_get source.modules j ≡ Some x)
  number_there i j h =
      let there = some_of (module_number source) (instantiated source i) j h in
      let found = position-Some (λ (x : Module). bytes_eq there.0 (word_at source x.name)) source.modules j nowhere there.2 in
      (get_or source.modules j nowhere, slice_get-get_or source.modules j nowhere found.0)

  first_entry : (k : ℕ) (m : Module) → slice_get source.modules k ≡ Some m → (id : ℕ) (e : Entry) → slice_get all id ≡ Some e → is_of k (object_at source envelopes e) ≡ is_module_of (word_at source m.name) (node_at source envelopes e)
  first_entry k m at_m id (Top j x) at =
      let role = (good_at source envelopes (right_once source right) all placed id (Top j x) at).role in
      is_of_by k m x j at_m role.0
  first_entry k m at_m id (Inner above p x j i) at =
      let role = (good_at source envelopes (right_once source right) all placed id (Inner above p x j i) at).role in
      is_of_none k m i (definition_number source i) (instantiated source i) at_m refl
      (ap (option_map (λ (m : Module). word_at source m.name)) (definition_at source i) ∙ right_definition source right x j i role.4) (number_there i)

  -- the first object of a module is that of its name
  pub first_same : (k : ℕ) (m : Module) → slice_get source.modules k ≡ Some m → position (is_of k) objects ≡ position (is_module_of (word_at source m.name)) nodes
  first_same k m at_m =
      position_is (is_of k) objects ∙ map_from (is_of k) (object_at source envelopes) 0 all
      ∙ search_from (λ e. is_of k (object_at source envelopes e)) (λ e. is_module_of (word_at source m.name) (node_at source envelopes e)) 0 all (first_entry k m at_m)
      ∙ sym (map_from (is_module_of (word_at source m.name)) (node_at source envelopes) 0 all) ∙ sym (position_is (is_module_of (word_at source m.name)) nodes)
