-- The items that objects are, and the objects above them.
use Rattle.std.proofs.Common.{◌≡◌, ℕ, Bool, List, [], ◌∷◌, ◌++◌, length, map, position, slice_get, Option, Some, None, refl, sym, ap, ◌∙◌, arith}
use Rattle.std.specs.Prelude.{option_map}
use Rattle.std.specs.Option.{option_and_then, option_map_or}
use Rattle.std.specs.Str.{bytes_eq}
use Rattle.std.proofs.lemmas.List.{length-map}
use Rattle.std.proofs.lemmas.Option.{slice_get-map}
use Rattle.vp_source.specs.Places.{word_at}
use Rattle.vp_source.specs.declared.source.Source.{Source}
use Rattle.vp_source.specs.declared.source.Module.{Module}
use Rattle.vp_source.specs.declared.source.Item.{Item}
use Rattle.vp_modules.specs.Items.{definition_of, item_name, item_named, items_in, module_named}
use Rattle.vp_modules.specs.Refusals.{twice_in}
use Rattle.vp_pragma.specs.declared.envelope.Envelope.{Envelope}
use Rattle.vp_elab.specs.declared.object.Object.{Object}
use Rattle.vp_elab.specs.declared.object.ObjectId.{ObjectId}
use Rattle.vp_elab.specs.Tree.{Node, Step, find_named, names_of}
use Rattle.vp_elab.specs.Elaboration.{item_step}
use Rattle.vp_elab.specs.Items.{item_of, node_item, parent_of, steps_above}
use Rattle.vp_elab.proofs.Entries.{Entry, Top, Inner, module_at, node_at, object_at, path_at}
use Rattle.vp_elab.proofs.Found.{found_entry, nothing_named}
use Rattle.vp_elab.proofs.LastSteps.{last_after}
use Rattle.vp_elab.proofs.Named.{item_position, module_position, once_in}
use Rattle.vp_elab.proofs.Parts.{definition_at}
use Rattle.vp_elab.proofs.Placed.{AllFrom, Good}
use Rattle.vp_elab.proofs.Unique.{good_at, module_there, path_some}
use Rattle.vp_elab.specs.laws.Positions.{position_from-same, position_is}

-- the steps above the last one
pub above_after : (above : List Step) (s : Step) → steps_above (above ++ s ∷ []) ≡ above
above_after [] s = refl
above_after (t ∷ []) s = refl
above_after (t ∷ t' ∷ above) s = ap (λ (path : List Step). t ∷ path) (above_after (t' ∷ above) s)

-- a search by what f gives
pub position_mapped : {X : Type 0} (t : List ℕ → Bool) (f : X → List ℕ) (xs : List X) → position (λ x. t (f x)) xs ≡ position t (map f xs)
position_mapped t f xs = position_is (λ x. t (f x)) xs ∙ sym (position_from-same (λ x. t (f x)) t f (λ x. refl) 0 xs) ∙ sym (position_is t (map f xs))

module _ (source : Source) (envelopes : List Envelope) (once : twice_in source [] source.modules ≡ None) (all : List Entry) (placed : AllFrom (Good source envelopes all) 0 all) where
  abbrev nodes : List Node
  nodes = map (node_at source envelopes) all

  abbrev objects : List Object
  objects = map (object_at source envelopes) all

  -- ---- items

  -- a module is that of its name
  named_again : (k : ℕ) (m : Module) → slice_get source.modules k ≡ Some m → module_named source (word_at source m.name) ≡ Some m
  named_again k m at =
      ap (option_and_then (slice_get source.modules)) (position_mapped (bytes_eq (word_at source m.name)) (λ (x : Module). word_at source x.name) source.modules ∙ module_position source k m once at)
      ∙ at

  -- an item of a module is that of its name
  item_again : (j : ℕ) (m : Module) (k : ℕ) (i : Item) → slice_get source.modules j ≡ Some m → slice_get (items_in source m) k ≡ Some i → item_named source (items_in source m) (item_name source i) ≡ Some i
  item_again j m k i there at =
      ap (option_and_then (slice_get (items_in source m)))
      (position_mapped (bytes_eq (item_name source i)) (item_name source) (items_in source m) ∙ item_position source (items_in source m) k i (once_in source j m once there) at)
      ∙ at

  -- the step to an item leads to it
  step_item : (j : ℕ) (m : Module) (k : ℕ) (i : Item) → slice_get source.modules j ≡ Some m → slice_get (items_in source m) k ≡ Some i → item_of source (item_step source envelopes m i) ≡ Some i
  step_item j m k i there at =
      ap (option_and_then (λ (x : Module). item_named source (items_in source x) (item_name source i))) (named_again j m there) ∙ item_again j m k i there at

  -- the item that an entry is
  pub inner_item : (id : ℕ) (above : List Step) (p : ℕ) (m : Module) (k : ℕ) (i : Item) → slice_get all id ≡ Some (Inner above p m k i) → node_item source (node_at source envelopes (Inner above p m k i)) ≡ Some i
  inner_item id above p m k i at =
      let role = (good_at source envelopes once all placed id (Inner above p m k i) at).role in
      let there = module_there source envelopes once all placed p role.0 m role.1 role.2 in
      ap (option_and_then (item_of source)) (last_after above (item_step source envelopes m i)) ∙ step_item there.0 m k i there.1 role.4

  -- the module of an object, by its number
  module_scoped : (id : ℕ) (e : Entry) → slice_get all id ≡ Some e → option_and_then (slice_get source.modules) (object_at source envelopes e).scope ≡ module_at source envelopes e
  module_scoped id (Top k m) at = (good_at source envelopes once all placed id (Top k m) at).role.0
  module_scoped id (Inner above p m k i) at = definition_at source i

  object_there : (id : ℕ) (e : Entry) → slice_get all id ≡ Some e → slice_get objects id ≡ Some (object_at source envelopes e)
  object_there id e at = slice_get-map (object_at source envelopes) all id ∙ ap (option_map (object_at source envelopes)) at

  -- the item of an object, by its index in the module of its parent
  pub item_inner : (id : ℕ) (e : Entry) (parent : ObjectId) → slice_get all id ≡ Some e → (object_at source envelopes e).parent ≡ Some parent → option_and_then (λ (m : Module). slice_get (items_in source m) (object_at source envelopes e).index) (option_and_then (slice_get source.modules) (option_and_then (λ (o : Object). o.scope) (slice_get objects parent.0))) ≡ node_item source (node_at source envelopes e)
  item_inner id (Top k m) parent at inside = absurd cc
  item_inner id (Inner above p m k i) parent at inside =
      let role = (good_at source envelopes once all placed id (Inner above p m k i) at).role in
      let above_is : parent.0 ≡ p = ap (λ (o : Option ObjectId). option_map_or (λ (q : ObjectId). q.0) o 0) (sym inside) in
      let module_is : option_and_then (slice_get source.modules) (option_and_then (λ (o : Object). o.scope) (slice_get objects parent.0)) ≡ Some m =
      ap (λ (n : ℕ). option_and_then (slice_get source.modules) (option_and_then (λ (o : Object). o.scope) (slice_get objects n))) above_is
      ∙ ap (λ (x : Option Object). option_and_then (slice_get source.modules) (option_and_then (λ (o : Object). o.scope) x)) (object_there p role.0 role.1)
      ∙ module_scoped p role.0 role.1 ∙ role.2 in
      ap (option_and_then (λ (x : Module). slice_get (items_in source x) k)) module_is ∙ role.4 ∙ sym (inner_item id above p m k i at)

  -- a top module is none
  pub item_top : (e : Entry) → (object_at source envelopes e).parent ≡ None → None ≡ node_item source (node_at source envelopes e)
  item_top (Top k m) inside = refl
  item_top (Inner above p m k i) inside = absurd cc

  -- ---- objects above

  -- the object above an entry
  pub parent_same : (id : ℕ) (e : Entry) → slice_get all id ≡ Some e → option_map (λ (q : ObjectId). q.0) (object_at source envelopes e).parent ≡ parent_of nodes (node_at source envelopes e)
  parent_same id (Top k m) at =
      sym (nothing_named source envelopes once all placed [] (λ j f at_f same.
      let some = path_some source envelopes once all placed f in
      let long = length-map (path_at source envelopes f) (λ (s : Step). s.name) in
      let lengths : length (names_of (path_at source envelopes f)) ≡ 0 = ap length same in
      absurd (omega arith)))
  parent_same id (Inner above p m k i) at =
      let role = (good_at source envelopes once all placed id (Inner above p m k i) at).role in
      sym (found_entry source envelopes once all placed p role.0 (names_of above) role.1 (ap names_of role.3))
      ∙ ap (λ (path : List Step). find_named nodes (names_of path)) (sym (above_after above (item_step source envelopes m i)))

  -- ---- what an instance instantiates

  -- the module that an entry instantiates
  pub instance_same : (id : ℕ) (e : Entry) (parent : ObjectId) → slice_get all id ≡ Some e → (object_at source envelopes e).parent ≡ Some parent → option_and_then (slice_get source.modules) (object_at source envelopes e).scope ≡ option_and_then (definition_of source) (node_item source (node_at source envelopes e))
  instance_same id (Top k m) parent at inside = absurd cc
  instance_same id (Inner above p m k i) parent at inside = definition_at source i ∙ sym (ap (option_and_then (definition_of source)) (inner_item id above p m k i at))
