-- Whether a viewport is on an item: the item of its name, since no name is declared twice in a module.
use Rattle.std.proofs.Common.{◌≡◌, ℕ, zero, suc, ◌+◌, ◌<◌, ◌==◌, Bool, true, false, cond, ◌&&◌, ◌||◌, List, [], ◌∷◌, ◌++◌, length, map, position, slice_get, get_or, Option, Some, None, refl, sym, ap, subst, ◌∙◌, arith}
use Rattle.std.specs.List.{list_any, position_from}
use Rattle.std.specs.Str.{bytes_eq}
use Rattle.std.proofs.lemmas.List.{append_assoc}
use Rattle.std.proofs.lemmas.Slice.Eq.{bytes_eq-Decides}
use Rattle.std.proofs.Math.Bool.{and-false, or-false}
use Rattle.vp_source.specs.Places.{line_at, word_at}
use Rattle.vp_source.specs.declared.source.Source.{Source}
use Rattle.vp_source.specs.declared.source.Item.{Item}
use Rattle.vp_source.specs.declared.source.Module.{Module}
use Rattle.vp_pragma.specs.declared.envelope.Envelope.{Envelope}
use Rattle.vp_pragma.specs.Envelopes.{Viewport, envelope_at}
use Rattle.vp_modules.specs.declared.error.ElabError.TheVariants.{Duplicate}
use Rattle.vp_modules.specs.Items.{is_among, item_name, item_place, items_in}
use Rattle.vp_modules.specs.Refusals.{first_of_two, twice, twice_in}
use Rattle.vp_modules.specs.Tables.{scope_in}
use Rattle.vp_elab.specs.Tree.{fits_module, matches, step_named}
use Rattle.vp_elab.specs.Refusals.{is_on_item}
use Rattle.vp_elab.proofs.Distinct.{accepted, bytes_eq-swap, neither, new_by, not_there}
use Rattle.vp_elab.specs.laws.Positions.{position_is}

either_false : (a b : Bool) → (a || b) ≡ false → (a ≡ false) × (b ≡ false)
either_false true b h = absurd cc
either_false false b h = (refl, h)

none_by : (b : Bool) (n : ℕ) (found : Option ℕ) (any : Bool) → cond b (Some n) found ≡ None → (found ≡ None → any ≡ false) → (b || any) ≡ false
none_by true n found any h k = absurd cc
none_by false n found any h k = k h

module _ (source : Source) (envelopes : List Envelope) (v : Viewport) (m : Module) where
  -- a viewport is on an item of the module
  abbrev is_on : Item → Bool
  is_on i = is_on_item source envelopes v m i

  -- it is on none of another name
  other_name : (i : Item) → bytes_eq v.item (item_name source i) ≡ false → is_on i ≡ false
  other_name i h =
      ap (λ b. ((v.envelope == envelope_at envelopes (item_place i)) && true) && b && fits_module v.in_module (Some (word_at source m.name))) h
      ∙ ap (λ b. b && fits_module v.in_module (Some (word_at source m.name))) (and-false ((v.envelope == envelope_at envelopes (item_place i)) && true))

  -- an item has the name of the viewport's
  abbrev is_named : Item → Bool
  is_named i = bytes_eq v.item (item_name source i)

  -- names of items that are accepted after others are none of those
  new_names : (names front back : List (List ℕ)) (w : List ℕ) (is : List Item) → names ≡ front ++ w ∷ back → bytes_eq v.item w ≡ true → twice source names is ≡ None → list_any is_named is ≡ false
  new_names names front back w [] e h k = refl
  new_names names front back w (i ∷ is) e h k =
      let x : List ℕ = item_name source i in
      let parts = new_by (is_among names x) (Duplicate (line_at source (item_place i))) (twice source (names ++ x ∷ []) is) k in
      let more : names ++ x ∷ [] ≡ front ++ w ∷ (back ++ x ∷ []) = ap (λ (ns : List (List ℕ)). ns ++ x ∷ []) e ∙ append_assoc front (w ∷ back) (x ∷ []) in
      let differs : bytes_eq w x ≡ false = bytes_eq-swap x w (not_there front back w x (subst (λ (ns : List (List ℕ)). is_among ns x ≡ false) e parts.0)) in
      let here : is_named i ≡ false = ap (λ (n : List ℕ). bytes_eq n x) ((bytes_eq-Decides v.item w).0 h) ∙ differs in
      ap (λ b. b || list_any is_named is) here ∙ new_names (names ++ x ∷ []) front (back ++ x ∷ []) w is more h parts.1

  -- it is on none, where none has its name
  none_on : (is : List Item) → list_any is_named is ≡ false → list_any is_on is ≡ false
  none_on [] h = refl
  none_on (i ∷ is) h =
      let parts = either_false (is_named i) (list_any is_named is) h in
      ap (λ b. b || list_any is_on is) (other_name i parts.0) ∙ none_on is parts.1

  -- no item has a name that is not found
  pub none_named : (is : List Item) (n : ℕ) → position_from (bytes_eq v.item) n (map (item_name source) is) ≡ None → list_any is_named is ≡ false
  none_named [] n h = refl
  none_named (i ∷ is) n h = none_by (is_named i) n (position_from (bytes_eq v.item) (n + 1) (map (item_name source) is)) (list_any is_named is) h (none_named is (n + 1))

  not_named : (j : ℕ) (is : List Item) (i : Item) → slice_get is j ≡ Some i → list_any is_named is ≡ false → is_named i ≡ false
  not_named j [] i h k = absurd cc
  not_named zero (x ∷ is) i h k = let same : x ≡ i = cc in subst (λ (y : Item). is_named y ≡ false) same (either_false (is_named x) (list_any is_named is) k).0
  not_named (suc j) (x ∷ is) i h k = not_named j is i h (either_false (is_named x) (list_any is_named is) k).1

  on_found_by : (names : List (List ℕ)) (j : ℕ) (x : Item) (is : List Item) (i : Item) (b : Bool) → is_named x ≡ b → twice source (names ++ item_name source x ∷ []) is ≡ None → slice_get is j ≡ Some i → is_named i ≡ true → list_any is_on is ≡ is_on i → list_any is_on (x ∷ is) ≡ is_on i
  on_found_by names j x is i true named t h k rest =
      let none : list_any is_named is ≡ false = new_names (names ++ item_name source x ∷ []) names [] (item_name source x) is refl named t in
      let differs : is_named i ≡ false = not_named j is i h none in
      absurd cc
  on_found_by names j x is i false named t h k rest = ap (λ b. b || list_any is_on is) (other_name x named) ∙ rest

  -- of the items, each with its own name, it can be on the one that has its name
  on_found : (names : List (List ℕ)) (j : ℕ) (is : List Item) (i : Item) → twice source names is ≡ None → slice_get is j ≡ Some i → is_named i ≡ true → list_any is_on is ≡ is_on i
  on_found names j [] i t h k = absurd cc
  on_found names zero (x ∷ is) i t h k =
      let same : x ≡ i = cc in
      let rest = (new_by (is_among names (item_name source x)) (Duplicate (line_at source (item_place x))) (twice source (names ++ item_name source x ∷ []) is) t).1 in
      let named : is_named x ≡ true = subst (λ (y : Item). is_named y ≡ true) (sym same) k in
      ap (λ b. is_on x || b) (none_on is (new_names (names ++ item_name source x ∷ []) names [] (item_name source x) is refl named rest))
      ∙ or-false (is_on x) ∙ ap is_on same
  on_found names (suc j) (x ∷ is) i t h k =
      let rest = (new_by (is_among names (item_name source x)) (Duplicate (line_at source (item_place x))) (twice source (names ++ item_name source x ∷ []) is) t).1 in
      on_found_by names j x is i (is_named x) refl rest h k (on_found (names ++ item_name source x ∷ []) j is i rest h k)

  -- where no item of the module has its name, it is on none
  pub is_on_none : position (bytes_eq v.item) (map (item_name source) (items_in source m)) ≡ None → list_any is_on (items_in source m) ≡ false
  is_on_none h = none_on (items_in source m) (none_named (items_in source m) 0 (sym (position_is (bytes_eq v.item) (map (item_name source) (items_in source m))) ∙ h))

  -- where an item has its name, it is on this one, or on none
  pub is_on_one : (j : ℕ) (i : Item) → twice source [] (items_in source m) ≡ None → slice_get (items_in source m) j ≡ Some i → bytes_eq v.item (item_name source i) ≡ true → list_any is_on (items_in source m) ≡ matches (step_named (envelope_at envelopes (item_place i)) (word_at source m.name) v.item) v
  is_on_one j i t h k =
      on_found [] j (items_in source m) i t h k
      ∙ ap (λ (n : List ℕ). matches (step_named (envelope_at envelopes (item_place i)) (word_at source m.name) n) v) (sym ((bytes_eq-Decides v.item (item_name source i)).0 k))

-- no module of a text that is accepted declares a name twice
pub once_each : (source : Source) (names : List (List ℕ)) (ms : List Module) (i : ℕ) (d : Module) → i < length ms → twice_in source names ms ≡ None → twice source [] (items_in source (get_or ms i d)) ≡ None
once_each source names [] i d l h = absurd (omega arith)
once_each source names (m ∷ ms) zero d l h =
    (neither (twice source [] (items_in source m)) (twice_in source (names ++ word_at source m.name ∷ []) ms)
    (new_by (is_among names (word_at source m.name)) (Duplicate (line_at source m.name)) (first_of_two (twice source [] (items_in source m)) (twice_in source (names ++ word_at source m.name ∷ []) ms)) h).1).0
once_each source names (m ∷ ms) (suc i) d l h = once_each source (names ++ word_at source m.name ∷ []) ms i d (omega arith) (accepted source names m ms h).1

-- the names in the table of a module are those of its items
pub names_at : (source : Source) (scopes : List (List (List ℕ))) (ms : List Module) (i : ℕ) (s : List (List ℕ)) (d : Module) → i < length ms → scopes ≡ map (scope_in source) ms → get_or scopes i s ≡ scope_in source (get_or ms i d)
names_at source scopes [] i s d l h = absurd (omega arith)
names_at source [] (m ∷ ms) i s d l h = absurd cc
names_at source (x ∷ xs) (m ∷ ms) zero s d l h = cc
names_at source (x ∷ xs) (m ∷ ms) (suc i) s d l h =
    let rest : xs ≡ map (scope_in source) ms = cc in
    names_at source xs ms i s d (omega arith) rest
