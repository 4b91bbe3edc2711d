-- Objects are too many where sizes say so.
use Rattle.std.proofs.Common.{◌≡◌, ℕ, zero, suc, ◌+◌, ◌<◌, ◌≤◌, Bool, true, false, cond, ◌||◌, List, [], ◌∷◌, ◌++◌, length, filter, Option, Some, None, refl, sym, ap, subst, ◌∙◌, ◌⊎◌, inl, inr, arith, rules, tests}
use Rattle.std.specs.Prelude.{nat_lt}
use Rattle.std.specs.List.{flat_map, list_any}
use Rattle.std.specs.Option.{option_map_or}
use Rattle.std.proofs.Math.Bool.{or-false, or-true}
use Rattle.std.proofs.lemmas.List.{length-append, length-map}
use Rattle.std.proofs.lemmas.List.Folds.{list_any-append}
use Rattle.vp_text.specs.Refusals.{MayExplain}
use Rattle.vp_source.specs.declared.source.Source.{Source}
use Rattle.vp_source.specs.declared.source.Module.{Module}
use Rattle.vp_source.specs.declared.source.Item.{Item}
use Rattle.vp_modules.specs.declared.error.ElabError.{ElabError}
use Rattle.vp_modules.specs.declared.error.ElabError.TheVariants.{TooManyObjects, NoMemory}
use Rattle.vp_modules.specs.Items.{definition_of, is_top, items_in}
use Rattle.vp_pragma.specs.declared.envelope.Envelope.{Envelope}
use Rattle.vp_elab.specs.declared.object.TheConstants.{OBJECT_LIMIT}
use Rattle.vp_elab.specs.Tree.{Node, Step}
use Rattle.vp_elab.specs.Elaboration.{further_limit, item_node, item_nodes, item_step, nodes_below, nodes_of, root_node, root_step, top_nodes}
use Rattle.vp_modules.specs.Refusals.{first_of_two}
use Rattle.vp_modules.specs.ModuleRefusals as modules
use Rattle.vp_pragma.specs.Envelopes.{Protection}
use Rattle.vp_elab.specs.Objects.{objects_within}
use Rattle.vp_elab.specs.Refusals.{are_too_many, is_too_long, refusal_of, too_many, unmatched_in}
use Rattle.vp_elab.specs.Sizes.{item_size, object_count, size, total, whole_size}
use Rattle.vp_elab.proofs.Designed.{long_within}
use Rattle.vp_elab.proofs.Entries.{entries_within, object_at, within_objects}

lt_yes : (a b : ℕ) → a < b → nat_lt a b ≡ true
lt_yes a b l = search (rules, tests)

lt_no : (a b : ℕ) → b ≤ a → nat_lt a b ≡ false
lt_no a b l = search (rules, tests)

-- one of the nodes has a path that is too long, and the number is too large; or none has, and it is how many there are
abbrev Counted : List Node → ℕ → Type 0
Counted nodes n = ((list_any is_too_long nodes ≡ true) × (OBJECT_LIMIT < n)) ⊎ ((list_any is_too_long nodes ≡ false) × (length nodes ≡ n))

counted_append : (xs ys : List Node) (n m : ℕ) → Counted xs n → Counted ys m → Counted (xs ++ ys) (n + m)
counted_append xs ys n m (inl h) k = inl (list_any-append is_too_long xs ys ∙ ap (λ b. b || list_any is_too_long ys) h.0, omega (arith, h.1))
counted_append xs ys n m (inr h) (inl k) = inl (list_any-append is_too_long xs ys ∙ ap (λ b. list_any is_too_long xs || b) k.0 ∙ or-true (list_any is_too_long xs), omega (arith, k.1))
counted_append xs ys n m (inr h) (inr k) =
    inr (list_any-append is_too_long xs ys ∙ ap (λ b. b || list_any is_too_long ys) h.0 ∙ k.0, length-append xs ys ∙ omega (arith, h.1, k.1))

counted_more : (x : Node) (xs : List Node) (n : ℕ) → is_too_long x ≡ false → Counted xs n → Counted (x ∷ xs) (1 + n)
counted_more x xs n short (inl h) = inl (ap (λ b. b || list_any is_too_long xs) short ∙ h.0, omega (arith, h.1))
counted_more x xs n short (inr h) = inr (ap (λ b. b || list_any is_too_long xs) short ∙ h.0, omega (arith, h.1))

-- whether they are too many
counted_is : (nodes : List Node) (n : ℕ) → Counted nodes n → are_too_many nodes ≡ nat_lt OBJECT_LIMIT n
counted_is nodes n (inl h) = ap (λ b. nat_lt OBJECT_LIMIT (length nodes) || b) h.0 ∙ or-true (nat_lt OBJECT_LIMIT (length nodes)) ∙ sym (lt_yes OBJECT_LIMIT n h.1)
counted_is nodes n (inr h) = ap (λ b. nat_lt OBJECT_LIMIT (length nodes) || b) h.0 ∙ or-false (nat_lt OBJECT_LIMIT (length nodes)) ∙ ap (nat_lt OBJECT_LIMIT) h.1

module _ (source : Source) (envelopes : List Envelope) where
  step_short : (above : List Step) (m : Module) (i : Item) → length above ≤ further_limit → is_too_long (item_node source envelopes above m i) ≡ false
  step_short above m i short = let long = length-append above (item_step source envelopes m i ∷ []) in lt_no (suc further_limit) (length (above ++ item_step source envelopes m i ∷ [])) (omega arith)

  step_long : (above : List Step) (m : Module) (i : Item) → further_limit < length above → is_too_long (item_node source envelopes above m i) ≡ true
  step_long above m i far = let long = length-append above (item_step source envelopes m i ∷ []) in lt_yes (suc further_limit) (length (above ++ item_step source envelopes m i ∷ [])) (omega arith)

  items_counted :
      (d : ℕ) (above : List Step) (m : Module) → ((i : Item) → Counted (item_nodes source envelopes (nodes_below source envelopes d) above m i) (item_size source d i))
      → (is : List Item) → Counted (flat_map (item_nodes source envelopes (nodes_below source envelopes d) above m) is) (total (item_size source d) is)
  items_counted d above m each [] = inr (refl, refl)
  items_counted d above m each (i ∷ is) =
      counted_append (item_nodes source envelopes (nodes_below source envelopes d) above m i) (flat_map (item_nodes source envelopes (nodes_below source envelopes d) above m) is)
      (item_size source d i) (total (item_size source d) is) (each i) (items_counted d above m each is)

  below_counted :
      (d : ℕ) (path : List Step) → ((m : Module) → Counted (nodes_below source envelopes (suc d) path m) (size source d m)) → (o : Option Module)
      → Counted (option_map_or (nodes_below source envelopes (suc d) path) o []) (option_map_or (size source d) o 0)
  below_counted d path each None = inr (refl, refl)
  below_counted d path each (Some m) = each m

  item_counted : (d : ℕ) (above : List Step) (m : Module) (i : Item) → length above + d ≡ suc further_limit → Counted (item_nodes source envelopes (nodes_below source envelopes d) above m i) (item_size source d i)
  item_counted zero above m i deep =
      inl (ap (λ b. b || list_any is_too_long (option_map_or (λ (n : Module). []) (definition_of source i) [])) (step_long above m i (omega arith)), omega arith)
  item_counted (suc d) above m i deep =
      let path : List Step = above ++ item_step source envelopes m i ∷ [] in
      let long : length path ≡ length above + 1 = length-append above (item_step source envelopes m i ∷ []) in
      counted_more (item_node source envelopes above m i) (option_map_or (nodes_below source envelopes (suc d) path) (definition_of source i) []) (option_map_or (size source d) (definition_of source i) 0)
      (step_short above m i (omega arith))
      (below_counted d path (λ n. items_counted d path n (λ j. item_counted d path n j (omega arith)) (items_in source n)) (definition_of source i))

  tops_counted : (ms : List Module) → Counted (flat_map (top_nodes source envelopes (suc further_limit)) ms) (total (λ m. 1 + whole_size source m) ms)
  tops_counted [] = inr (refl, refl)
  tops_counted (m ∷ ms) =
      let path : List Step = root_step source envelopes m ∷ [] in
      counted_append (top_nodes source envelopes (suc further_limit) m) (flat_map (top_nodes source envelopes (suc further_limit)) ms) (1 + whole_size source m) (total (λ m. 1 + whole_size source m) ms)
      (counted_more (root_node source envelopes m) (nodes_below source envelopes (suc further_limit) path m) (size source further_limit m) (lt_no (suc further_limit) 1 (omega arith))
      (items_counted further_limit path m (λ i. item_counted further_limit path m i (omega arith)) (items_in source m)))
      (tops_counted ms)

  -- the objects of a source are too many where its sizes say so
  many_is : are_too_many (nodes_of source envelopes) ≡ nat_lt OBJECT_LIMIT (object_count source)
  many_is = counted_is (nodes_of source envelopes) (object_count source) (tops_counted (filter (is_top source) source.modules))

  pub not_many : object_count source ≤ OBJECT_LIMIT → too_many source envelopes ≡ None
  not_many few = ap (λ (b : Bool). cond b (Some TooManyObjects) None) (many_is ∙ lt_no OBJECT_LIMIT (object_count source) few)

  pub many : OBJECT_LIMIT < object_count source → too_many source envelopes ≡ Some TooManyObjects
  many more = ap (λ (b : Bool). cond b (Some TooManyObjects) None) (many_is ∙ lt_yes OBJECT_LIMIT (object_count source) more)

-- ---- the refusals, one after the other

module _ (source : Source) (protection : Protection) (right : modules.refusal_of source ≡ None) where
  -- there are too many objects
  pub refused_many : OBJECT_LIMIT < object_count source → (e : ElabError) → e ≡ TooManyObjects → MayExplain NoMemory (refusal_of source protection) e
  refused_many more e is =
      subst (MayExplain NoMemory (refusal_of source protection)) (sym is)
      (λ other. ap (λ (o : Option ElabError). first_of_two o (first_of_two (too_many source protection.envelopes) (unmatched_in source protection))) right
      ∙ ap (λ (o : Option ElabError). first_of_two o (unmatched_in source protection)) (many source protection.envelopes more))

  module _ (few : object_count source ≤ OBJECT_LIMIT) where
    last_is : refusal_of source protection ≡ unmatched_in source protection
    last_is =
        ap (λ (o : Option ElabError). first_of_two o (first_of_two (too_many source protection.envelopes) (unmatched_in source protection))) right
        ∙ ap (λ (o : Option ElabError). first_of_two o (unmatched_in source protection)) (not_many source protection.envelopes few)

    -- a viewport is on nothing
    pub refused_viewport : (e : ElabError) → MayExplain NoMemory (unmatched_in source protection) e → MayExplain NoMemory (refusal_of source protection) e
    refused_viewport e h = subst (λ (o : Option ElabError). MayExplain NoMemory o e) (sym last_is) h

    -- none
    pub accepted : unmatched_in source protection ≡ None → refusal_of source protection ≡ None
    accepted h = last_is ∙ h

    -- the objects are as few
    pub objects_few : length (objects_within source protection.envelopes (suc further_limit) 0 0 source.modules) ≤ OBJECT_LIMIT
    objects_few =
        let long =
        ap length (sym (within_objects source protection.envelopes (suc further_limit) 0 0 source.modules))
        ∙ length-map (entries_within source protection.envelopes (suc further_limit) 0 0 source.modules) (object_at source protection.envelopes)
        ∙ long_within source protection.envelopes 0 0 source.modules few in
        omega arith
