-- Objects, made one after the other.
use Rattle.std.proofs.Common.{◌≡◌, ℕ, zero, suc, ◌+◌, ◌-◌, ◌<◌, ◌≤◌, Bool, true, false, cond, List, [], ◌∷◌, ◌++◌, length, drop, get_or, Option, Some, sym, ap, ◌∙◌, arith}
use Rattle.std.specs.Prelude.{slice_get}
use Rattle.std.specs.Option.{option_and_then, option_map_or}
use Rattle.std.proofs.Math.Seq.{drop-cons}
use Rattle.std.proofs.lemmas.List.{append_assoc, length-append, length-map}
use Rattle.vp_source.specs.declared.source.Source.{Source}
use Rattle.vp_source.specs.declared.source.Module.{Module}
use Rattle.vp_source.specs.declared.source.Item.{Item}
use Rattle.vp_modules.specs.Items.{definition_of, is_top}
use Rattle.vp_pragma.specs.declared.envelope.Envelope.{Envelope}
use Rattle.vp_elab.specs.declared.object.TheConstants.{OBJECT_LIMIT}
use Rattle.vp_elab.specs.declared.object.Object.{Object}
use Rattle.vp_elab.specs.Elaboration.{further_limit}
use Rattle.vp_elab.specs.Objects.{item_object, item_objects, objects_below, objects_from, objects_within, root_object, top_objects}
use Rattle.vp_elab.specs.Sizes.{item_size, size, total, whole_size}
use Rattle.vp_elab.proofs.Entries.{below_objects, entries_below, item_entries, item_objects_are, object_at}
use Rattle.vp_elab.proofs.Parts.{definition_at, nowhere}
use Rattle.vp_elab.proofs.Stable.{long_below, long_item}

module _ (source : Source) (envelopes : List Envelope) where
  -- an object, and those below it, after others
  pub object_made :
      (old pushed new : List Object) (o : Object) (further id : ℕ) (m : Module) (there : Option Module)
      → pushed ≡ old ++ o ∷ [] → 1 ≤ further → id ≡ length old → Some m ≡ there → new ≡ pushed ++ objects_below source envelopes (suc (further - 1)) id m
      → new ≡ old ++ o ∷ option_map_or (objects_below source envelopes further (length old)) there []
  object_made old pushed new o further id m there is_pushed some is_id found is_new =
      let same : suc (further - 1) ≡ further = omega arith in
      is_new ∙ ap (λ (os : List Object). os ++ objects_below source envelopes (suc (further - 1)) id m) is_pushed
      ∙ append_assoc old (o ∷ []) (objects_below source envelopes (suc (further - 1)) id m)
      ∙ ap (λ (n : ℕ). old ++ o ∷ objects_below source envelopes n id m) same
      ∙ ap (λ (n : ℕ). old ++ o ∷ objects_below source envelopes further n m) is_id
      ∙ ap (λ (x : Option Module). old ++ o ∷ option_map_or (objects_below source envelopes further (length old)) x []) found

  -- an item that has room has a step left
  pub item_room : (further n rest : ℕ) (i : Item) → n + (item_size source further i + rest) ≤ OBJECT_LIMIT → (1 ≤ further) × (n + (1 + option_map_or (size source (further - 1)) (definition_of source i) 0) ≤ OBJECT_LIMIT)
  item_room zero n rest i room = absurd (omega arith)
  item_room (suc d) n rest i room =
      let same : suc d - 1 ≡ d = omega arith in
      let size_same = ap (λ (e : ℕ). option_map_or (size source e) (definition_of source i) 0) same in
      (omega arith, omega arith)

  -- the module of the object of an item is what the item instantiates
  pub object_module : (o : Object) (parent index : ℕ) (i : Item) → o ≡ item_object source envelopes parent index i → option_and_then (slice_get source.modules) o.scope ≡ definition_of source i
  object_module o parent index i is = ap (λ (x : Object). option_and_then (slice_get source.modules) x.scope) is ∙ definition_at source i

  -- the objects of one item more
  pub items_made :
      (old new : List Object) (o : Object) (further parent index : ℕ) (i : Item) (is : List Item)
      → o ≡ item_object source envelopes parent index i → new ≡ old ++ o ∷ option_map_or (objects_below source envelopes further (length old)) (option_and_then (slice_get source.modules) o.scope) []
      → new ++ objects_from source envelopes (objects_below source envelopes further) parent (index + 1) (length new) is
      ≡ old ++ objects_from source envelopes (objects_below source envelopes further) parent index (length old) (i ∷ is)
  items_made old new o further parent index i is is_object is_new =
      let below : ℕ → Module → List Object = objects_below source envelopes further in
      let own : List Object = item_objects source envelopes below parent index (length old) i in
      let new_is : new ≡ old ++ own =
      is_new ∙ ap (λ (x : Option Module). old ++ o ∷ option_map_or (below (length old)) x []) (object_module o parent index i is_object)
      ∙ ap (λ (x : Object). old ++ x ∷ option_map_or (below (length old)) (definition_of source i) []) is_object in
      let long : length new ≡ length old + length own = ap length new_is ∙ length-append old own in
      ap (λ (os : List Object). os ++ objects_from source envelopes below parent (index + 1) (length new) is) new_is
      ∙ ap (λ (n : ℕ). (old ++ own) ++ objects_from source envelopes below parent (index + 1) n is) long
      ∙ append_assoc old own (objects_from source envelopes below parent (index + 1) (length old + length own) is)

  -- and how many there are
  pub items_long :
      (old new : List Object) (o : Object) (further parent index : ℕ) (i : Item)
      → o ≡ item_object source envelopes parent index i → new ≡ old ++ o ∷ option_map_or (objects_below source envelopes further (length old)) (option_and_then (slice_get source.modules) o.scope) []
      → item_size source further i ≤ OBJECT_LIMIT → length new ≡ length old + item_size source further i
  items_long old new o further parent index i is_object is_new few =
      let below : ℕ → Module → List Object = objects_below source envelopes further in
      let own : List Object = item_objects source envelopes below parent index (length old) i in
      let new_is : new ≡ old ++ own =
      is_new ∙ ap (λ (x : Option Module). old ++ o ∷ option_map_or (below (length old)) x []) (object_module o parent index i is_object)
      ∙ ap (λ (x : Object). old ++ x ∷ option_map_or (below (length old)) (definition_of source i) []) is_object in
      let long_own : length own ≡ item_size source further i =
      ap length (sym (item_objects_are source envelopes further [] parent nowhere index (length old) i))
      ∙ length-map (item_entries source envelopes (entries_below source envelopes further) [] parent nowhere index (length old) i) (object_at source envelopes)
      ∙ long_item source envelopes further [] parent nowhere index (length old) i few in
      ap length new_is ∙ length-append old own ∙ omega arith

  -- what is left, from one item on
  pub room_split : (further index : ℕ) (items : List Item) (d : Item) → index < length items → total (item_size source further) (drop index items) ≡ item_size source further (get_or items index d) + total (item_size source further) (drop (index + 1) items)
  room_split further index items d within =
      let next : suc index ≡ index + 1 = omega arith in
      ap (total (item_size source further)) (drop-cons items index d within)
      ∙ ap (λ (n : ℕ). item_size source further (get_or items index d) + total (item_size source further) (drop n items)) next

  pub from_split : (below : ℕ → Module → List Object) (parent index next : ℕ) (items : List Item) (d : Item) → index < length items → objects_from source envelopes below parent index next (drop index items) ≡ objects_from source envelopes below parent index next (get_or items index d ∷ drop (index + 1) items)
  from_split below parent index next items d within =
      let after : suc index ≡ index + 1 = omega arith in
      ap (objects_from source envelopes below parent index next) (drop-cons items index d within ∙ ap (λ (n : ℕ). get_or items index d ∷ drop n items) after)

  -- an item is one object at least
  pub item_some : (further : ℕ) (i : Item) → 1 ≤ item_size source further i
  item_some zero i = omega arith
  item_some (suc d) i = omega arith

  pub items_some : (further : ℕ) (items : List Item) → length items ≤ total (item_size source further) items
  items_some further [] = omega arith
  items_some further (i ∷ is) = let here = item_some further i in let rest = items_some further is in omega arith

  -- ---- top modules

  -- the objects of a top module more
  pub top_made :
      (old new : List Object) (o : Object) (k : ℕ) (m : Module) (ms : List Module)
      → is_top source m ≡ true → slice_get source.modules k ≡ Some m → o ≡ root_object envelopes k m
      → new ≡ old ++ o ∷ option_map_or (objects_below source envelopes (suc further_limit) (length old)) (option_and_then (slice_get source.modules) o.scope) []
      → new ++ objects_within source envelopes (suc further_limit) (k + 1) (length new) ms ≡ old ++ objects_within source envelopes (suc further_limit) k (length old) (m ∷ ms)
  top_made old new o k m ms top at is_object is_new =
      let below : ℕ → Module → List Object = objects_below source envelopes (suc further_limit) in
      let own : List Object = top_objects source envelopes (suc further_limit) k (length old) m in
      let new_is : new ≡ old ++ own =
      is_new ∙ ap (λ (x : Object). old ++ x ∷ option_map_or (below (length old)) (option_and_then (slice_get source.modules) x.scope) []) is_object
      ∙ ap (λ (x : Option Module). old ++ root_object envelopes k m ∷ option_map_or (below (length old)) x []) at in
      let long : length new ≡ length old + length own = ap length new_is ∙ length-append old own in
      ap (λ (os : List Object). os ++ objects_within source envelopes (suc further_limit) (k + 1) (length new) ms) new_is
      ∙ ap (λ (n : ℕ). (old ++ own) ++ objects_within source envelopes (suc further_limit) (k + 1) n ms) long
      ∙ append_assoc old own (objects_within source envelopes (suc further_limit) (k + 1) (length old + length own) ms)
      ∙ ap (λ (b : Bool). old ++ cond b (own ++ objects_within source envelopes (suc further_limit) (k + 1) (length old + length own) ms) (objects_within source envelopes (suc further_limit) (k + 1) (length old) ms)) (sym top)

  -- a module that is no top module has no objects here
  pub none_made :
      (old : List Object) (k : ℕ) (m : Module) (ms : List Module) → is_top source m ≡ false
      → old ++ objects_within source envelopes (suc further_limit) (k + 1) (length old) ms ≡ old ++ objects_within source envelopes (suc further_limit) k (length old) (m ∷ ms)
  none_made old k m ms top =
      let own : List Object = top_objects source envelopes (suc further_limit) k (length old) m in
      ap (λ (b : Bool). old ++ cond b (own ++ objects_within source envelopes (suc further_limit) (k + 1) (length old + length own) ms) (objects_within source envelopes (suc further_limit) (k + 1) (length old) ms)) (sym top)

  -- and how many there are
  pub top_long :
      (old new : List Object) (o : Object) (k : ℕ) (m : Module)
      → slice_get source.modules k ≡ Some m → o ≡ root_object envelopes k m
      → new ≡ old ++ o ∷ option_map_or (objects_below source envelopes (suc further_limit) (length old)) (option_and_then (slice_get source.modules) o.scope) []
      → whole_size source m ≤ OBJECT_LIMIT → length new ≡ length old + (1 + whole_size source m)
  top_long old new o k m at is_object is_new few =
      let below : ℕ → Module → List Object = objects_below source envelopes (suc further_limit) in
      let own : List Object = top_objects source envelopes (suc further_limit) k (length old) m in
      let new_is : new ≡ old ++ own =
      is_new ∙ ap (λ (x : Object). old ++ x ∷ option_map_or (below (length old)) (option_and_then (slice_get source.modules) x.scope) []) is_object
      ∙ ap (λ (x : Option Module). old ++ root_object envelopes k m ∷ option_map_or (below (length old)) x []) at in
      let long : length (below (length old) m) ≡ whole_size source m =
      ap length (sym (below_objects source envelopes (suc further_limit) [] (length old) m))
      ∙ length-map (entries_below source envelopes (suc further_limit) [] (length old) m) (object_at source envelopes)
      ∙ long_below source envelopes further_limit [] (length old) m few in
      ap length new_is ∙ length-append old own ∙ omega arith

  -- the modules that are left, from one on
  pub within_split : (k next : ℕ) → k < length source.modules → objects_within source envelopes (suc further_limit) k next (drop k source.modules) ≡ objects_within source envelopes (suc further_limit) k next (get_or source.modules k nowhere ∷ drop (k + 1) source.modules)
  within_split k next within =
      let after : suc k ≡ k + 1 = omega arith in
      ap (objects_within source envelopes (suc further_limit) k next) (drop-cons source.modules k nowhere within ∙ ap (λ (n : ℕ). get_or source.modules k nowhere ∷ drop n source.modules) after)
