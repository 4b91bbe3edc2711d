-- What the tables say of an object's module, and the envelopes of what is declared in a scope.
use Rattle.std.proofs.Common.{◌≡◌, ℕ, suc, ◌+◌, ◌==◌, Bool, true, false, cond, ◌||◌, ◌&&◌, List, [], ◌∷◌, ◌++◌, map, filter, slice_get, Option, Some, None, refl, sym, ap, subst, ◌∙◌}
use Rattle.std.specs.Prelude.{option_map}
use Rattle.std.specs.List.{cons_option, filter_map, list_any}
use Rattle.std.specs.Option.{option_and_then, option_map_or}
use Rattle.std.specs.Str.{bytes_eq}
use Rattle.std.proofs.lemmas.List.{map-append}
use Rattle.std.proofs.lemmas.Option.{slice_get-map}
use Rattle.std.proofs.lemmas.Slice.Eq.{bytes_eq-Decides}
use Rattle.vp_text.specs.laws.Searches.{list_any-map}
use Rattle.vp_source.specs.declared.source.Source.{Source}
use Rattle.vp_source.specs.declared.source.Module.{Module}
use Rattle.vp_modules.specs.Items.{definition_number, is_top, item_place, items_in}
use Rattle.vp_modules.specs.Refusals.{twice_in}
use Rattle.vp_pragma.specs.declared.envelope.Envelope.{Envelope}
use Rattle.vp_pragma.specs.Envelopes.{envelope_at}
use Rattle.vp_elab.specs.declared.object.Object.{Object}
use Rattle.vp_elab.specs.laws.Children.{filter_none}
use Rattle.vp_elab.specs.Tree.{Node, Step, below, declared_in, names_of, step_in}
use Rattle.vp_elab.specs.Elaboration.{item_step, root_step, tops}
use Rattle.vp_elab.proofs.Distinct.{bytes_eq-self}
use Rattle.vp_elab.proofs.Entries.{Entry, Top, Inner, module_at, node_at, object_at, path_at}
use Rattle.vp_elab.proofs.Found.{any_of, at_mapped, child_of, path_is, root_of}
use Rattle.vp_elab.proofs.Marks.{filter_below_same}
use Rattle.vp_elab.proofs.Parts.{definition_at}
use Rattle.vp_elab.proofs.Placed.{AllFrom, Good, root_slot, slot}
use Rattle.vp_elab.proofs.Unique.{good_at, same_ends}

-- tests that imply each other are the same
pub bool_same : (a b : Bool) → (a ≡ true → b ≡ true) → (b ≡ true → a ≡ true) → a ≡ b
bool_same true b h k = sym (h refl)
bool_same false true h k = k refl
bool_same false false h k = refl

exists_by : {X : Type 0} (p : X → Bool) (x : X) (xs : List X) (b : Bool) → p x ≡ b → (list_any p xs ≡ true → (j : ℕ) × (y : X) × (slice_get xs j ≡ Some y) × (p y ≡ true)) → (b || list_any p xs) ≡ true → (j : ℕ) × (y : X) × (slice_get (x ∷ xs) j ≡ Some y) × (p y ≡ true)
exists_by p x xs true is rest h = (0, x, refl, is)
exists_by p x xs false is rest h = let it = rest h in (suc it.0, it.1, it.2, it.3)

-- one passes
pub exists : {X : Type 0} (p : X → Bool) (xs : List X) → list_any p xs ≡ true → (j : ℕ) × (x : X) × (slice_get xs j ≡ Some x) × (p x ≡ true)
exists p [] h = absurd cc
exists p (x ∷ xs) h = exists_by p x xs (p x) refl (exists p xs) h

any_some : {Y : Type 0} (p : Y → Bool) (o : Option Y) (ys : List Y) → list_any p (cons_option o ys) ≡ (option_map_or p o false || list_any p ys)
any_some p None ys = refl
any_some p (Some y) ys = refl

-- one of those that h gives passes
pub any_filter_map : {X Y : Type 0} (p : Y → Bool) (h : X → Option Y) (xs : List X) → list_any p (filter_map h xs) ≡ list_any (λ x. option_map_or p (h x) false) xs
any_filter_map p h [] = refl
any_filter_map p h (x ∷ xs) = any_some p (h x) (filter_map h xs) ∙ ap (λ b. option_map_or p (h x) false || b) (any_filter_map p h xs)

any_filter_by : {X : Type 0} (p : X → Bool) (x : X) (b : Bool) (ys : List X) → list_any p (cond b (x ∷ ys) ys) ≡ ((b && p x) || list_any p ys)
any_filter_by p x true ys = refl
any_filter_by p x false ys = refl

any_filter : {X : Type 0} (p t : X → Bool) (xs : List X) → list_any p (filter t xs) ≡ list_any (λ x. t x && p x) xs
any_filter p t [] = refl
any_filter p t (x ∷ xs) = any_filter_by p x (t x) (filter t xs) ∙ ap (λ b. (t x && p x) || b) (any_filter p t xs)

both : (a b : Bool) → (a && b) ≡ true → (a ≡ true) × (b ≡ true)
both true b h = (refl, h)
both false b h = absurd cc

passes_by : (p : Step → Bool) (o : Option Step) → option_map_or p o false ≡ true → (s : Step) × (o ≡ Some s) × (p s ≡ true)
passes_by p None h = absurd cc
passes_by p (Some s) h = (s, refl, h)

step_by : (n : List ℕ) (s t : Step) (b : Bool) (o : Option Step) → bytes_eq n s.name ≡ b → cond b o None ≡ Some t → (n ≡ s.name) × (o ≡ Some t)
step_by n s t true o is h = ((bytes_eq-Decides n s.name).0 is, h)
step_by n s t false o is h = absurd cc

-- a step that stands after these names is the last of its path
pub step_read : (scope : List (List ℕ)) (path : List Step) (t : Step) → step_in scope path ≡ Some t → (above : List Step) × (path ≡ above ++ t ∷ []) × (names_of above ≡ scope)
step_read [] [] t h = absurd cc
step_read [] (s ∷ []) t h = let same : s ≡ t = cc in ([], ap (λ x. x ∷ []) same, refl)
step_read [] (s ∷ s' ∷ path) t h = absurd cc
step_read (n ∷ scope) [] t h = absurd cc
step_read (n ∷ scope) (s ∷ path) t h =
    let parts = step_by n s t (bytes_eq n s.name) (step_in scope path) refl h in
    let it = step_read scope path t parts.1 in
    (s ∷ it.0, ap (λ xs. s ∷ xs) it.1, ap (λ x. x ∷ names_of it.0) (sym parts.0) ∙ ap (λ xs. n ∷ xs) it.2)

-- and the last of a path stands after the names of the others
pub step_last : (above : List Step) (t : Step) → step_in (names_of above) (above ++ t ∷ []) ≡ Some t
step_last [] t = refl
step_last (s ∷ above) t = ap (λ b. cond b (step_in (names_of above) (above ++ t ∷ [])) None) (bytes_eq-self s.name) ∙ step_last above t

number_found : {A : Type 0} (f : Module → A) (ms : List Module) (number : Option ℕ) → option_and_then (slice_get (map f ms)) number ≡ option_map f (option_and_then (slice_get ms) number)
number_found f ms None = refl
number_found f ms (Some k) = slice_get-map f ms k

module _ (source : Source) (envelopes : List Envelope) (once : twice_in source [] source.modules ≡ None) (all : List Entry) (placed : AllFrom (Good source envelopes all) 0 all) where
  -- the same of an entry
  pub scoped_entry : {A : Type 0} (f : Module → A) (id : ℕ) (e : Entry) → slice_get all id ≡ Some e → option_and_then (slice_get (map f source.modules)) (object_at source envelopes e).scope ≡ option_map f (module_at source envelopes e)
  scoped_entry f id (Top k m) at = slice_get-map f source.modules k ∙ ap (option_map f) (good_at source envelopes once all placed id (Top k m) at).role.0
  scoped_entry f id (Inner above p m k i) at = number_found f source.modules (definition_number source i) ∙ ap (option_map f) (definition_at source i)

  scoped_by :
      {A : Type 0} (f : Module → A) (id : ℕ) (o : Option Entry) → slice_get all id ≡ o
      → option_and_then (slice_get (map f source.modules)) (option_and_then (λ (o : Object). o.scope) (option_map (object_at source envelopes) o)) ≡ option_map f (option_and_then (module_at source envelopes) o)
  scoped_by f id None at = refl
  scoped_by f id (Some e) at = scoped_entry f id e at

  -- what a table says of the module of an object
  pub scoped : {A : Type 0} (f : Module → A) (id : ℕ) → option_and_then (slice_get (map f source.modules)) (option_and_then (λ (o : Object). o.scope) (slice_get (map (object_at source envelopes) all) id)) ≡ option_map f (option_and_then (module_at source envelopes) (slice_get all id))
  scoped f id =
      ap (λ (x : Option Object). option_and_then (slice_get (map f source.modules)) (option_and_then (λ (o : Object). o.scope) x)) (slice_get-map (object_at source envelopes) all id)
      ∙ scoped_by f id (slice_get all id) refl

  -- ---- envelopes

  -- the nodes
  abbrev nodes : List Node
  nodes = map (node_at source envelopes) all

  -- something is declared in an envelope, after these names
  abbrev declares : List (List ℕ) → ℕ → Bool
  declares scope e = list_any (λ (s : Step). s.envelope == e) (declared_in scope nodes)

  entry_by :
      (scope : List (List ℕ)) (e j : ℕ) (n : Node) (s : Step) → slice_get nodes j ≡ Some n → step_in scope n.path ≡ Some s → (s.envelope == e) ≡ true
      → (j : ℕ) × (f : Entry) × (s : Step) × (above : List Step) × (slice_get all j ≡ Some f) × (path_at source envelopes f ≡ above ++ s ∷ []) × (names_of above ≡ scope) × ((s.envelope == e) ≡ true)
  entry_by scope e j n s at step is =
      let there = at_mapped (node_at source envelopes) all j n at in
      let last = step_read scope n.path s step in
      (j, there.0, s, last.0, there.1, sym (path_is source envelopes once all placed there.0) ∙ ap (λ (x : Node). x.path) there.2 ∙ last.1, last.2, is)

  -- an entry that is declared in an envelope, after these names
  declared_entry : (scope : List (List ℕ)) (e : ℕ) → declares scope e ≡ true → (j : ℕ) × (f : Entry) × (s : Step) × (above : List Step) × (slice_get all j ≡ Some f) × (path_at source envelopes f ≡ above ++ s ∷ []) × (names_of above ≡ scope) × ((s.envelope == e) ≡ true)
  declared_entry scope e h =
      let it = exists (λ (n : Node). option_map_or (λ (s : Step). s.envelope == e) (step_in scope n.path) false) nodes (sym (any_filter_map (λ (s : Step). s.envelope == e) (λ (n : Node). step_in scope n.path) nodes) ∙ h) in
      let step = passes_by (λ (s : Step). s.envelope == e) (step_in scope it.1.path) it.3 in
      entry_by scope e it.0 it.1 step.0 it.2 step.1 step.2

  -- and the other way round
  declared_there : (j : ℕ) (f : Entry) (above : List Step) (s : Step) (e : ℕ) → slice_get all j ≡ Some f → path_at source envelopes f ≡ above ++ s ∷ [] → (s.envelope == e) ≡ true → declares (names_of above) e ≡ true
  declared_there j f above s e at path is =
      let node : Node = node_at source envelopes f in
      let there : slice_get nodes j ≡ Some node = slice_get-map (node_at source envelopes) all j ∙ ap (option_map (node_at source envelopes)) at in
      let step : step_in (names_of above) node.path ≡ Some s = ap (step_in (names_of above)) (path_is source envelopes once all placed f ∙ path) ∙ step_last above s in
      any_filter_map (λ (s : Step). s.envelope == e) (λ (n : Node). step_in (names_of above) n.path) nodes
      ∙ any_of (λ (n : Node). option_map_or (λ (s : Step). s.envelope == e) (step_in (names_of above) n.path) false) nodes j node there
      (ap (λ (x : Option Step). option_map_or (λ (s : Step). s.envelope == e) x false) step ∙ is)

  -- below an object, where its module's items stand
  child_declares : (id : ℕ) (o : Entry) (m : Module) (e : ℕ) → slice_get all id ≡ Some o → module_at source envelopes o ≡ Some m → declares (names_of (path_at source envelopes o)) e ≡ list_any (λ place. envelope_at envelopes place == e) (map item_place (items_in source m))
  child_declares id o m e at inside =
      bool_same (declares (names_of (path_at source envelopes o)) e) (list_any (λ place. envelope_at envelopes place == e) (map item_place (items_in source m)))
      (λ h.
      let it = declared_entry (names_of (path_at source envelopes o)) e h in
      let names : names_of (path_at source envelopes it.1) ≡ names_of (path_at source envelopes o) ++ it.2.name ∷ [] =
      ap names_of it.5 ∙ map-append (λ (s : Step). s.name) it.3 (it.2 ∷ []) ∙ ap (λ (ns : List (List ℕ)). ns ++ it.2.name ∷ []) it.6 in
      let child = child_of source envelopes once all placed id o it.2.name it.0 it.1 at it.4 names in
      let modules : child.0 ≡ m = cc (child.3, inside) in
      let ends = same_ends it.3 (path_at source envelopes o) it.2 (item_step source envelopes child.0 child.2) (sym it.5 ∙ ap (path_at source envelopes) child.6) in
      let there : slice_get (items_in source m) child.1 ≡ Some child.2 = subst (λ (x : Module). slice_get (items_in source x) child.1 ≡ Some child.2) modules child.4 in
      let is : (envelope_at envelopes (item_place child.2) == e) ≡ true = ap (λ (s : Step). s.envelope == e) (sym ends.1) ∙ it.7 in
      list_any-map (λ place. envelope_at envelopes place == e) item_place (items_in source m) ∙ any_of (λ i. envelope_at envelopes (item_place i) == e) (items_in source m) child.1 child.2 there is)
      (λ h.
      let it = exists (λ i. envelope_at envelopes (item_place i) == e) (items_in source m) (sym (list_any-map (λ place. envelope_at envelopes place == e) item_place (items_in source m)) ∙ h) in
      let there = (good_at source envelopes once all placed id o at).children m inside it.0 it.1 it.2 in
      declared_there (id + slot source envelopes m it.0) (Inner (path_at source envelopes o) id m it.0 it.1) (path_at source envelopes o) (item_step source envelopes m it.1) e there refl it.3)

  -- nothing below what is no module
  leaf_declares : (id : ℕ) (o : Entry) (e : ℕ) → slice_get all id ≡ Some o → module_at source envelopes o ≡ None → declares (names_of (path_at source envelopes o)) e ≡ false
  leaf_declares id o e at none =
      bool_same (declares (names_of (path_at source envelopes o)) e) false
      (λ h.
      let it = declared_entry (names_of (path_at source envelopes o)) e h in
      let names : names_of (path_at source envelopes it.1) ≡ names_of (path_at source envelopes o) ++ it.2.name ∷ [] =
      ap names_of it.5 ∙ map-append (λ (s : Step). s.name) it.3 (it.2 ∷ []) ∙ ap (λ (ns : List (List ℕ)). ns ++ it.2.name ∷ []) it.6 in
      let child = child_of source envelopes once all placed id o it.2.name it.0 it.1 at it.4 names in
      cc (child.3, none))
      (λ h. absurd cc)

  pub child_numbers : (count id : ℕ) (o : Entry) (m : Module) → slice_get all id ≡ Some o → module_at source envelopes o ≡ Some m → filter (declares (names_of (path_at source envelopes o))) (below count) ≡ filter (λ e. list_any (λ place. envelope_at envelopes place == e) (map item_place (items_in source m))) (below count)
  child_numbers count id o m at inside =
      filter_below_same (declares (names_of (path_at source envelopes o))) (λ e. list_any (λ place. envelope_at envelopes place == e) (map item_place (items_in source m))) count (λ e l. child_declares id o m e at inside)

  pub leaf_numbers : (count id : ℕ) (o : Entry) → slice_get all id ≡ Some o → module_at source envelopes o ≡ None → filter (declares (names_of (path_at source envelopes o))) (below count) ≡ []
  leaf_numbers count id o at none =
      filter_below_same (declares (names_of (path_at source envelopes o))) (λ e. false) count (λ e l. leaf_declares id o e at none) ∙ filter_none (below count)

  -- ---- top modules

  module _ (roots : (k : ℕ) (m : Module) → slice_get source.modules k ≡ Some m → is_top source m ≡ true → slice_get all (root_slot source envelopes k) ≡ Some (Top k m)) where
    -- the envelope of the name of a module
    abbrev stands_in : ℕ → Module → Bool
    stands_in e m = envelope_at envelopes m.name == e

    any_top : (e : ℕ) → list_any (λ place. envelope_at envelopes place == e) (map (λ (m : Module). m.name) (tops source)) ≡ list_any (λ m. is_top source m && stands_in e m) source.modules
    any_top e = list_any-map (λ place. envelope_at envelopes place == e) (λ (m : Module). m.name) (tops source) ∙ any_filter (stands_in e) (is_top source) source.modules

    root_declares : (e : ℕ) → declares [] e ≡ list_any (λ place. envelope_at envelopes place == e) (map (λ (m : Module). m.name) (tops source))
    root_declares e =
        bool_same (declares [] e) (list_any (λ place. envelope_at envelopes place == e) (map (λ (m : Module). m.name) (tops source)))
        (λ h.
        let it = declared_entry [] e h in
        let names : names_of (path_at source envelopes it.1) ≡ it.2.name ∷ [] =
        ap names_of it.5 ∙ map-append (λ (s : Step). s.name) it.3 (it.2 ∷ []) ∙ ap (λ (ns : List (List ℕ)). ns ++ it.2.name ∷ []) it.6 in
        let root = root_of source envelopes once all placed it.2.name it.0 it.1 it.4 names in
        let ends = same_ends it.3 [] it.2 (root_step source envelopes root.1) (sym it.5 ∙ ap (path_at source envelopes) root.2) in
        let is : stands_in e root.1 ≡ true = ap (λ (s : Step). s.envelope == e) (sym ends.1) ∙ it.7 in
        any_top e
        ∙ any_of (λ m. is_top source m && stands_in e m) source.modules root.0 root.1 root.3 (ap (λ b. b && stands_in e root.1) root.4 ∙ is))
        (λ h.
        let it = exists (λ m. is_top source m && stands_in e m) source.modules (sym (any_top e) ∙ h) in
        let parts = both (is_top source it.1) (stands_in e it.1) it.3 in
        declared_there (root_slot source envelopes it.0) (Top it.0 it.1) [] (root_step source envelopes it.1) e (roots it.0 it.1 it.2 parts.0) refl parts.1)

    pub root_numbers : (count : ℕ) → filter (declares []) (below count) ≡ filter (λ e. list_any (λ place. envelope_at envelopes place == e) (map (λ (m : Module). m.name) (tops source))) (below count)
    root_numbers count =
        filter_below_same (declares []) (λ e. list_any (λ place. envelope_at envelopes place == e) (map (λ (m : Module). m.name) (tops source))) count (λ e l. root_declares e)
