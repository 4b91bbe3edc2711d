-- Names of modules and of their items stand for one each, in a text that is accepted.
use Rattle.std.proofs.Common.{◌≡◌, ℕ, zero, suc, ◌+◌, ◌-◌, ◌<◌, Bool, true, false, cond, ◌||◌, List, [], ◌∷◌, ◌++◌, length, take, drop, map, position, get_or, slice_get, Option, Some, None, refl, sym, ap, subst, ◌∙◌, arith}
use Rattle.std.specs.Prelude.{option_map}
use Rattle.std.specs.List.{position_from}
use Rattle.std.specs.Option.{option_and_then, option_map_or}
use Rattle.std.specs.Str.{bytes_eq}
use Rattle.std.proofs.lemmas.List.Folds.{list_any-append}
use Rattle.std.proofs.lemmas.List.Quantifiers.{position-Some}
use Rattle.std.proofs.lemmas.Option.{get_or_from_slice_get}
use Rattle.std.proofs.lemmas.Slice.Eq.{bytes_eq-Decides}
use Rattle.vp_text.specs.Lists.{has_range}
use Rattle.vp_source.specs.Places.{earlier, earliest, line_at, word_at}
use Rattle.vp_source.specs.declared.source.Source.{Source}
use Rattle.vp_source.specs.declared.source.Module.{Module}
use Rattle.vp_source.specs.declared.source.Item.{Item}
use Rattle.vp_source.specs.declared.source.Item.TheVariants as item
use Rattle.vp_modules.specs.declared.error.ElabError.{ElabError}
use Rattle.vp_modules.specs.declared.error.ElabError.TheVariants.{Duplicate, UnknownModule, Recursive}
use Rattle.vp_modules.specs.Items.{definition_number, definition_of, instantiated, is_among, item_name, item_place, items_in, module_named, module_number}
use Rattle.vp_modules.specs.Refusals.{first_in, first_of_two, refused_at, twice, twice_in}
use Rattle.vp_modules.specs.ModuleRefusals.{missing_module, recursive, refusal_of, refusal_of_instances, refusal_of_uses}
use Rattle.vp_elab.proofs.Distinct.{accepted, bytes_eq-self, neither, new_by}
use Rattle.vp_elab.proofs.Parts.{definition_at, nowhere, some_same}
use Rattle.vp_elab.specs.laws.Positions.{position_is}

pub either_false : (a b : Bool) → (a || b) ≡ false → (a ≡ false) × (b ≡ false)
either_false true b h = absurd cc
either_false false b h = (refl, h)

-- a name that is among none of these names and one more is none of these, and is not the one
split_among : (names : List (List ℕ)) (x n : List ℕ) → is_among (names ++ x ∷ []) n ≡ false → (is_among names n ≡ false) × (bytes_eq n x ≡ false)
split_among names x n h =
    let parts = either_false (is_among names n) (bytes_eq n x || false) (sym (list_any-append (bytes_eq n) names (x ∷ [])) ∙ h) in
    (parts.0, (either_false (bytes_eq n x) false parts.1).0)

-- ---- parts of lists

at_take : {X : Type 0} (n k : ℕ) (xs : List X) (x : X) → slice_get (take n xs) k ≡ Some x → slice_get xs k ≡ Some x
at_take zero k xs x h = absurd cc
at_take (suc n) k [] x h = absurd cc
at_take (suc n) zero (y ∷ ys) x h = h
at_take (suc n) (suc k) (y ∷ ys) x h = at_take n k ys x h

at_drop : {X : Type 0} (n k : ℕ) (xs : List X) (x : X) → slice_get (drop n xs) k ≡ Some x → (j : ℕ) × (slice_get xs j ≡ Some x)
at_drop zero k xs x h = (k, h)
at_drop (suc n) k [] x h = absurd cc
at_drop (suc n) k (y ∷ ys) x h = let found = at_drop n k ys x h in (suc found.0, found.1)

at_part : {X : Type 0} (there : Bool) (a b k : ℕ) (xs : List X) (x : X) → slice_get (cond there (take (b - a) (drop a xs)) []) k ≡ Some x → (j : ℕ) × (slice_get xs j ≡ Some x)
at_part true a b k xs x h = at_drop a k xs x (at_take (b - a) k (drop a xs) x h)
at_part false a b k xs x h = absurd cc

-- a place with an option that is there
pub some_of : {A B : Type 0} (f : A → Option B) (o : Option A) (b : B) → option_and_then f o ≡ Some b → (a : A) × (o ≡ Some a) × (f a ≡ Some b)
some_of f None b h = absurd cc
some_of f (Some a) b h = (a, refl, h)

module _ (source : Source) where
  -- an item of a module is one of the text
  pub item_in_text : (m : Module) (k : ℕ) (i : Item) → slice_get (items_in source m) k ≡ Some i → (j : ℕ) × (slice_get source.items j ≡ Some i)
  item_in_text m k i h = at_part (has_range source.items m.items.first m.items.end) m.items.first m.items.end k source.items i h

  -- ---- items

  fresh_item : (names : List (List ℕ)) (is : List Item) (k : ℕ) (i : Item) → twice source names is ≡ None → slice_get is k ≡ Some i → is_among names (item_name source i) ≡ false
  fresh_item names [] k i once at = absurd cc
  fresh_item names (x ∷ is) zero i once at =
      let same : x ≡ i = cc in
      subst (λ (y : Item). is_among names (item_name source y) ≡ false) same
      (new_by (is_among names (item_name source x)) (Duplicate (line_at source (item_place x))) (twice source (names ++ item_name source x ∷ []) is) once).0
  fresh_item names (x ∷ is) (suc k) i once at =
      let rest = (new_by (is_among names (item_name source x)) (Duplicate (line_at source (item_place x))) (twice source (names ++ item_name source x ∷ []) is) once).1 in
      (split_among names (item_name source x) (item_name source i) (fresh_item (names ++ item_name source x ∷ []) is k i rest at)).0

  item_from : (names : List (List ℕ)) (n : ℕ) (is : List Item) (k : ℕ) (i : Item) → twice source names is ≡ None → slice_get is k ≡ Some i → position_from (bytes_eq (item_name source i)) n (map (item_name source) is) ≡ Some (n + k)
  item_from names n [] k i once at = absurd cc
  item_from names n (x ∷ is) zero i once at =
      let same : x ≡ i = cc in
      let sum : n ≡ n + 0 = omega arith in
      ap (λ (y : Item). cond (bytes_eq (item_name source i) (item_name source y)) (Some n) (position_from (bytes_eq (item_name source i)) (n + 1) (map (item_name source) is))) same
      ∙ ap (λ (b : Bool). cond b (Some n) (position_from (bytes_eq (item_name source i)) (n + 1) (map (item_name source) is))) (bytes_eq-self (item_name source i))
      ∙ some_same _ _ sum
  item_from names n (x ∷ is) (suc k) i once at =
      let rest = (new_by (is_among names (item_name source x)) (Duplicate (line_at source (item_place x))) (twice source (names ++ item_name source x ∷ []) is) once).1 in
      let differs = (split_among names (item_name source x) (item_name source i) (fresh_item (names ++ item_name source x ∷ []) is k i rest at)).1 in
      let sum : (n + 1) + k ≡ n + suc k = omega arith in
      ap (λ (b : Bool). cond b (Some n) (position_from (bytes_eq (item_name source i)) (n + 1) (map (item_name source) is))) differs
      ∙ item_from (names ++ item_name source x ∷ []) (n + 1) is k i rest at ∙ some_same _ _ sum

  -- the name of an item is found at its index
  pub item_position : (is : List Item) (k : ℕ) (i : Item) → twice source [] is ≡ None → slice_get is k ≡ Some i → position (bytes_eq (item_name source i)) (map (item_name source) is) ≡ Some k
  item_position is k i once at = position_is (bytes_eq (item_name source i)) (map (item_name source) is) ∙ item_from [] 0 is k i once at ∙ some_same (0 + k) k (omega arith)

  -- items of one name are at one index
  pub item_index : (is : List Item) (j k : ℕ) (a b : Item) → twice source [] is ≡ None → slice_get is j ≡ Some a → slice_get is k ≡ Some b → item_name source a ≡ item_name source b → j ≡ k
  item_index is j k a b once at_a at_b same =
      let first = item_position is j a once at_a in
      let second = ap (λ (n : List ℕ). position (bytes_eq n) (map (item_name source) is)) same ∙ item_position is k b once at_b in
      cc (first, second)

  at_map : {X : Type 0} (f : X → List ℕ) (xs : List X) (k : ℕ) → k < length (map f xs) → (x : X) × (slice_get xs k ≡ Some x) × (get_or (map f xs) k [] ≡ f x)
  at_map f [] k l = absurd (omega arith)
  at_map f (x ∷ xs) zero l = (x, refl, refl)
  at_map f (x ∷ xs) (suc k) l = at_map f xs k (omega arith)

  -- where a name is found, there is one of the name
  pub found_at : {X : Type 0} (f : X → List ℕ) (xs : List X) (name : List ℕ) (k : ℕ) → position (bytes_eq name) (map f xs) ≡ Some k → (x : X) × (slice_get xs k ≡ Some x) × (f x ≡ name)
  found_at f xs name k found =
      let there = position-Some (bytes_eq name) (map f xs) k [] found in
      let it = at_map f xs k there.0 in
      (it.0, it.1, sym it.2 ∙ sym ((bytes_eq-Decides name (get_or (map f xs) k [])).0 there.1))

  -- ---- modules

  fresh_module : (names : List (List ℕ)) (ms : List Module) (k : ℕ) (m : Module) → twice_in source names ms ≡ None → slice_get ms k ≡ Some m → is_among names (word_at source m.name) ≡ false
  fresh_module names [] k m once at = absurd cc
  fresh_module names (x ∷ ms) zero m once at =
      let same : x ≡ m = cc in
      subst (λ (y : Module). is_among names (word_at source y.name) ≡ false) same (accepted source names x ms once).0
  fresh_module names (x ∷ ms) (suc k) m once at =
      (split_among names (word_at source x.name) (word_at source m.name) (fresh_module (names ++ word_at source x.name ∷ []) ms k m (accepted source names x ms once).1 at)).0

  module_from : (names : List (List ℕ)) (n : ℕ) (ms : List Module) (k : ℕ) (m : Module) → twice_in source names ms ≡ None → slice_get ms k ≡ Some m → position_from (bytes_eq (word_at source m.name)) n (map (λ (x : Module). word_at source x.name) ms) ≡ Some (n + k)
  module_from names n [] k m once at = absurd cc
  module_from names n (x ∷ ms) zero m once at =
      let same : x ≡ m = cc in
      let sum : n ≡ n + 0 = omega arith in
      let w : List ℕ = word_at source m.name in
      ap (λ (y : Module). cond (bytes_eq w (word_at source y.name)) (Some n) (position_from (bytes_eq w) (n + 1) (map (λ (x : Module). word_at source x.name) ms))) same
      ∙ ap (λ (b : Bool). cond b (Some n) (position_from (bytes_eq w) (n + 1) (map (λ (x : Module). word_at source x.name) ms))) (bytes_eq-self w)
      ∙ some_same _ _ sum
  module_from names n (x ∷ ms) (suc k) m once at =
      let rest = (accepted source names x ms once).1 in
      let w : List ℕ = word_at source m.name in
      let differs = (split_among names (word_at source x.name) w (fresh_module (names ++ word_at source x.name ∷ []) ms k m rest at)).1 in
      let sum : (n + 1) + k ≡ n + suc k = omega arith in
      ap (λ (b : Bool). cond b (Some n) (position_from (bytes_eq w) (n + 1) (map (λ (x : Module). word_at source x.name) ms))) differs
      ∙ module_from (names ++ word_at source x.name ∷ []) (n + 1) ms k m rest at ∙ some_same _ _ sum

  -- the name of a module is found at its number
  pub module_position : (k : ℕ) (m : Module) → twice_in source [] source.modules ≡ None → slice_get source.modules k ≡ Some m → position (bytes_eq (word_at source m.name)) (map (λ (x : Module). word_at source x.name) source.modules) ≡ Some k
  module_position k m once at =
      position_is (bytes_eq (word_at source m.name)) (map (λ (x : Module). word_at source x.name) source.modules) ∙ module_from [] 0 source.modules k m once at ∙ some_same (0 + k) k (omega arith)

  -- modules of one name have one number
  pub module_index : (j k : ℕ) (a b : Module) → twice_in source [] source.modules ≡ None → slice_get source.modules j ≡ Some a → slice_get source.modules k ≡ Some b → word_at source a.name ≡ word_at source b.name → j ≡ k
  module_index j k a b once at_a at_b same =
      let first = module_position j a once at_a in
      let second = ap (λ (n : List ℕ). position (bytes_eq n) (map (λ (x : Module). word_at source x.name) source.modules)) same ∙ module_position k b once at_b in
      cc (first, second)

  once_from : (names : List (List ℕ)) (ms : List Module) (k : ℕ) (m : Module) → twice_in source names ms ≡ None → slice_get ms k ≡ Some m → twice source [] (items_in source m) ≡ None
  once_from names [] k m once at = absurd cc
  once_from names (x ∷ ms) zero m once at =
      let same : x ≡ m = cc in
      subst (λ (y : Module). twice source [] (items_in source y) ≡ None) same
      (neither (twice source [] (items_in source x)) (twice_in source (names ++ word_at source x.name ∷ []) ms)
      (new_by (is_among names (word_at source x.name)) (Duplicate (line_at source x.name)) (first_of_two (twice source [] (items_in source x)) (twice_in source (names ++ word_at source x.name ∷ []) ms)) once).1).0
  once_from names (x ∷ ms) (suc k) m once at = once_from (names ++ word_at source x.name ∷ []) ms k m (accepted source names x ms once).1 at

  -- no module declares a name twice
  pub once_in : (k : ℕ) (m : Module) → twice_in source [] source.modules ≡ None → slice_get source.modules k ≡ Some m → twice source [] (items_in source m) ≡ None
  once_in k m once at = once_from [] source.modules k m once at

  -- ---- what items instantiate

  -- the module that an item instantiates is one of the text
  pub definition_there : (i : Item) (m : Module) → definition_of source i ≡ Some m → (k : ℕ) × (definition_number source i ≡ Some k) × (slice_get source.modules k ≡ Some m)
  definition_there i m h = some_of (slice_get source.modules) (definition_number source i) m (definition_at source i ∙ h)

  named_module : (name : List ℕ) (m : Module) → module_named source name ≡ Some m → word_at source m.name ≡ name
  named_module name m h =
      let there = some_of (slice_get source.modules) (module_number source name) m h in
      let found = position-Some (λ (x : Module). bytes_eq name (word_at source x.name)) source.modules there.0 nowhere there.1 in
      ap (λ (x : Module). word_at source x.name) (sym (get_or_from_slice_get source.modules there.0 m nowhere there.2)) ∙ sym ((bytes_eq-Decides name (word_at source (get_or source.modules there.0 nowhere).name)).0 found.1)

  -- and has the name that stands there
  pub definition_named : (i : Item) (m : Module) → definition_of source i ≡ Some m → instantiated source i ≡ Some (word_at source m.name)
  definition_named i m h =
      let there = some_of (module_named source) (instantiated source i) m h in
      there.1 ∙ ap (λ (n : List ℕ). (let o : Option (List ℕ) = Some n in o)) (sym (named_module there.0 m there.2))

  known_by : (o : Option Module) (name : List ℕ) (place : ℕ) → module_named source name ≡ o → option_map_or (λ m. None) o (Some place) ≡ None → option_map (λ (m : Module). word_at source m.name) o ≡ Some name
  known_by None name place is h = absurd cc
  known_by (Some m) name place is h = ap (λ (n : List ℕ). (let o : Option (List ℕ) = Some n in o)) (named_module name m is)

  known_item : (i : Item) → missing_module source i ≡ None → option_map (λ (m : Module). word_at source m.name) (definition_of source i) ≡ instantiated source i
  known_item (item.Instance name definition first end) h = known_by (module_named source (word_at source definition)) (word_at source definition) definition refl h
  known_item _ h = refl

  no_earlier : (a b : Option ℕ) → earlier a b ≡ None → (a ≡ None) × (b ≡ None)
  no_earlier None b h = (refl, h)
  no_earlier (Some a) None h = absurd cc
  no_earlier (Some a) (Some b) h = absurd cc

  none_missing : (is : List Item) (j : ℕ) (i : Item) → earliest (missing_module source) is ≡ None → slice_get is j ≡ Some i → missing_module source i ≡ None
  none_missing [] j i h at = absurd cc
  none_missing (x ∷ is) zero i h at =
      let same : x ≡ i = cc in
      subst (λ (y : Item). missing_module source y ≡ None) same (no_earlier (missing_module source x) (earliest (missing_module source) is) h).0
  none_missing (x ∷ is) (suc j) i h at = none_missing is j i (no_earlier (missing_module source x) (earliest (missing_module source) is) h).1 at

  none_refused : (because : ℕ → ElabError) (place : Option ℕ) → refused_at source because place ≡ None → place ≡ None
  none_refused because None h = refl
  none_refused because (Some p) h = absurd cc

  -- no name is declared twice, where the modules are right
  pub right_once : refusal_of source ≡ None → twice_in source [] source.modules ≡ None
  right_once right = (neither (twice_in source [] source.modules) (first_of_two (refusal_of_instances source) (refusal_of_uses source)) right).0

  -- the name that stands in an item is that of the module that it instantiates
  pub right_definition : refusal_of source ≡ None → (m : Module) (k : ℕ) (i : Item) → slice_get (items_in source m) k ≡ Some i → option_map (λ (m : Module). word_at source m.name) (definition_of source i) ≡ instantiated source i
  right_definition right m k i at =
      let instances = (neither (refusal_of_instances source) (refusal_of_uses source) (neither (twice_in source [] source.modules) (first_of_two (refusal_of_instances source) (refusal_of_uses source)) right).1).0 in
      let none = none_refused UnknownModule (earliest (missing_module source) source.items) (neither (refused_at source UnknownModule (earliest (missing_module source) source.items)) (refused_at source Recursive (first_in source (recursive source))) instances).0 in
      let there = item_in_text m k i at in
      known_item i (none_missing source.items there.0 i none there.1)
