-- Where the entries of a source stand: each below its parent's, and each module's object before those of its items.
use Rattle.std.proofs.Common.{◌≡◌, ℕ, zero, suc, ◌+◌, ◌≤◌, Bool, true, false, cond, List, [], ◌∷◌, ◌++◌, length, take, filter, slice_get, Option, Some, None, refl, sym, ap, subst, ◌∙◌, ◌⊎◌, inl, inr, arith}
use Rattle.std.specs.Option.{option_map_or}
use Rattle.std.proofs.lemmas.List.{append_assoc, append-nil, length-append}
use Rattle.std.proofs.lemmas.List.Elements.{filter-append}
use Rattle.std.proofs.lemmas.Option.{slice_get_within}
use Rattle.vp_source.specs.declared.source.Source.{Source}
use Rattle.vp_source.specs.declared.source.Module.{Module}
use Rattle.vp_source.specs.declared.source.Item.{Item}
use Rattle.vp_modules.specs.Items.{definition_of, is_top, items_in}
use Rattle.vp_pragma.specs.declared.envelope.Envelope.{Envelope}
use Rattle.vp_elab.specs.declared.object.TheConstants.{OBJECT_LIMIT}
use Rattle.vp_elab.specs.Tree.{Step}
use Rattle.vp_elab.specs.Elaboration.{further_limit, item_step, root_step}
use Rattle.vp_elab.specs.Sizes.{item_size, size, total, whole_size}
use Rattle.vp_elab.specs.laws.Positions.{slice_get_after}
use Rattle.vp_elab.proofs.Stable.{long_below, long_item, stable, total-append}
use Rattle.vp_elab.proofs.Entries.{Entry, Top, Inner, entries_below, entries_from, entries_within, item_entries, module_at, path_at, top_entries}

-- a fact holds of each, by its number, of which the first is n
abbrev pub AllFrom : {X : Type 0} → (ℕ → X → Type 0) → ℕ → List X → Type 0
AllFrom P n [] = Unit {0}
AllFrom P n (x ∷ xs) = P n x × AllFrom P (n + 1) xs

-- of lists that follow each other
pub all_append : {X : Type 0} (P : ℕ → X → Type 0) (n m : ℕ) (xs ys : List X) → m ≡ n + length xs → AllFrom P n xs → AllFrom P m ys → AllFrom P n (xs ++ ys)
all_append P n m [] ys e h k = let same : m ≡ n = omega arith in subst (λ (i : ℕ). AllFrom P i ys) same k
all_append P n m (x ∷ xs) ys e h k = (h.0, all_append P (n + 1) m xs ys (omega arith) h.1 k)

-- of the one of a number
pub all_at : {X : Type 0} (P : ℕ → X → Type 0) (n m i : ℕ) (xs : List X) (x : X) → m ≡ n + i → slice_get xs i ≡ Some x → AllFrom P n xs → P m x
all_at P n m i [] x e there h = absurd cc
all_at P n m zero (y ∷ ys) x e there h =
    let same : y ≡ x = cc in
    let first : n ≡ m = omega arith in
    subst (λ (k : ℕ). P k x) first (subst (P n) same h.0)
all_at P n m (suc i) (y ∷ ys) x e there h = all_at P (n + 1) m i ys x (omega arith) there h.1

-- the front of a list
pub take_front : {X : Type 0} (n : ℕ) (xs ys : List X) → length xs ≡ n → take n (xs ++ ys) ≡ xs
take_front zero [] ys e = refl
take_front zero (x ∷ xs) ys e = absurd (omega arith)
take_front (suc n) [] ys e = absurd (omega arith)
take_front (suc n) (x ∷ xs) ys e = ap (λ zs. x ∷ zs) (take_front n xs ys (omega arith))

-- what stands after a front of so many
pub at_after : {X : Type 0} (n : ℕ) (all xs : List X) (y : X) (ys : List X) → all ≡ xs ++ y ∷ ys → length xs ≡ n → slice_get all n ≡ Some y
at_after n all xs y ys e l = ap (λ zs. slice_get zs n) e ∙ ap (slice_get (xs ++ y ∷ ys)) (sym l) ∙ slice_get_after xs y ys

here_or_on : (k j : ℕ) → k ≤ j → (k ≡ j) ⊎ (k + 1 ≤ j)
here_or_on k j l = grind arith

module _ (source : Source) (envelopes : List Envelope) where
  -- the size of an item in a source whose objects are not too many
  abbrev pub full_size : Item → ℕ
  full_size i = item_size source (suc further_limit) i

  -- how far an item of a module stands after its object
  abbrev pub slot : Module → ℕ → ℕ
  slot m k = 1 + total full_size (take k (items_in source m))

  -- the number of the object of a top module
  abbrev pub root_slot : ℕ → ℕ
  root_slot k = total (λ m. 1 + whole_size source m) (filter (is_top source) (take k source.modules))

  module _ (all : List Entry) where
    -- where an entry stands: a top module by its number; an item by its index in a module, below an entry of that module
    abbrev pub HasRole : ℕ → Entry → Type 0
    HasRole id (Top k m) = (slice_get source.modules k ≡ Some m) × (is_top source m ≡ true) × (id ≡ root_slot k)
    HasRole id (Inner above p m k i) =
        (e : Entry) × (slice_get all p ≡ Some e) × (module_at source envelopes e ≡ Some m) × (path_at source envelopes e ≡ above) × (slice_get (items_in source m) k ≡ Some i) × (id ≡ p + slot m k)

    -- below the object of a number, on this path, stand the items of a module
    abbrev pub HasChildren : ℕ → List Step → Module → Type 0
    HasChildren id path m = (k : ℕ) (i : Item) → slice_get (items_in source m) k ≡ Some i → slice_get all (id + slot m k) ≡ Some (Inner path id m k i)

    pub record Good (id : ℕ) (e : Entry) : Type 0 where
      pub role : HasRole id e
      pub children : (m : Module) → module_at source envelopes e ≡ Some m → HasChildren id (path_at source envelopes e) m

    -- the entries of an item are placed so
    abbrev ItemGood : ℕ → Type 0
    ItemGood d =
        (above : List Step) (p : ℕ) (m : Module) (k next : ℕ) (i : Item) (front back : List Entry)
        → item_size source d i ≤ OBJECT_LIMIT → d ≤ suc further_limit
        → all ≡ front ++ (item_entries source envelopes (entries_below source envelopes d) above p m k next i ++ back) → length front ≡ next
        → HasRole next (Inner above p m k i) → AllFrom Good next (item_entries source envelopes (entries_below source envelopes d) above p m k next i)

    -- the entries of items that are left, after those that are done
    walk :
        (d : ℕ) → ItemGood d → d ≤ suc further_limit → (above : List Step) (p : ℕ) (m : Module) (e : Entry)
        → slice_get all p ≡ Some e → module_at source envelopes e ≡ Some m → path_at source envelopes e ≡ above
        → (done rest : List Item) (k next : ℕ) → items_in source m ≡ done ++ rest → length done ≡ k → next ≡ p + (1 + total full_size done)
        → (front back : List Entry) → all ≡ front ++ (entries_from source envelopes (entries_below source envelopes d) above p m k next rest ++ back) → length front ≡ next
        → total (item_size source d) rest ≤ OBJECT_LIMIT
        → AllFrom Good next (entries_from source envelopes (entries_below source envelopes d) above p m k next rest)
        × ((j : ℕ) (i : Item) → k ≤ j → slice_get (items_in source m) j ≡ Some i → slice_get all (p + slot m j) ≡ Some (Inner above p m j i))
    walk d item less above p m e there own_module own_path done [] k next split long is_next front back split_all long_front few = (
      tt,
      λ j i from at.
          let within = slice_get_within (items_in source m) j i at in
          let many = length-append done [] in
          let lengths = ap length split in
          absurd (omega arith),
    )
    walk d item less above p m e there own_module own_path done (i ∷ is) k next split long is_next front back split_all long_front few =
        let own : List Entry = item_entries source envelopes (entries_below source envelopes d) above p m k next i in
        let rest : List Entry = entries_from source envelopes (entries_below source envelopes d) above p m (k + 1) (next + length own) is in
        let at : slice_get (items_in source m) k ≡ Some i = at_after k (items_in source m) done i is split long in
        let before : take k (items_in source m) ≡ done = ap (take k) split ∙ take_front k done (i ∷ is) long in
        let is_id : next ≡ p + slot m k = is_next ∙ ap (λ (xs : List Item). p + (1 + total full_size xs)) (sym before) in
        let few_here : item_size source d i ≤ OBJECT_LIMIT = omega arith in
        let split_here : all ≡ front ++ (own ++ (rest ++ back)) = split_all ∙ ap (λ (xs : List Entry). front ++ xs) (append_assoc own rest back) in
        let good_here : AllFrom Good next own = item above p m k next i front (rest ++ back) few_here less split_here long_front (e, there, own_module, own_path, at, is_id) in
        let first : slice_get all next ≡ Some (Inner above p m k i) = at_after next all front (Inner above p m k i) _ split_here long_front in
        let long_own : length own ≡ full_size i = long_item source envelopes d above p m k next i few_here ∙ sym (stable source d (suc further_limit) i few_here less) in
        let sum : total full_size (done ++ i ∷ []) ≡ total full_size done + full_size i = total-append full_size done (i ∷ []) ∙ omega arith in
        let next_is : next + length own ≡ p + (1 + total full_size (done ++ i ∷ [])) = omega arith in
        let longer : length (done ++ i ∷ []) ≡ k + 1 = length-append done (i ∷ []) ∙ omega arith in
        let front_is : length (front ++ own) ≡ next + length own = length-append front own ∙ omega arith in
        let on =
        walk d item less above p m e there own_module own_path (done ++ i ∷ []) is (k + 1) (next + length own)
        (split ∙ sym (append_assoc done (i ∷ []) is)) longer next_is (front ++ own) back (split_here ∙ sym (append_assoc front own (rest ++ back))) front_is (omega arith) in (
          all_append Good next (next + length own) own rest refl good_here on.0,
          λ j x from at_j. go j x at_j at is_id first on.1 (here_or_on k j from),
        )
      where
        go :
            (j : ℕ) (x : Item) → slice_get (items_in source m) j ≡ Some x → slice_get (items_in source m) k ≡ Some i → next ≡ p + slot m k → slice_get all next ≡ Some (Inner above p m k i)
            → ((j : ℕ) (i : Item) → k + 1 ≤ j → slice_get (items_in source m) j ≡ Some i → slice_get all (p + slot m j) ≡ Some (Inner above p m j i))
            → (k ≡ j) ⊎ (k + 1 ≤ j) → slice_get all (p + slot m j) ≡ Some (Inner above p m j x)
        go j x at_j at is_id first on (inl same) =
            let item_same : i ≡ x = cc in
            subst (λ (n : ℕ). slice_get all (p + slot m n) ≡ Some (Inner above p m n x)) same
            (subst (λ (y : Item). slice_get all (p + slot m k) ≡ Some (Inner above p m k y)) item_same (subst (λ (n : ℕ). slice_get all n ≡ Some (Inner above p m k i)) is_id first))
        go j x at_j at is_id first on (inr further) = on j x further at_j

    -- the entries below a module's object
    below_good :
        (d : ℕ) → ItemGood d → d ≤ suc further_limit → (above : List Step) (p : ℕ) (m : Module) (e : Entry)
        → slice_get all p ≡ Some e → module_at source envelopes e ≡ Some m → path_at source envelopes e ≡ above
        → (front back : List Entry) → all ≡ front ++ (entries_below source envelopes (suc d) above p m ++ back) → length front ≡ p + 1
        → size source d m ≤ OBJECT_LIMIT
        → AllFrom Good (p + 1) (entries_below source envelopes (suc d) above p m) × HasChildren p above m
    below_good d item less above p m e there own_module own_path front back split long few =
        let on = walk d item less above p m e there own_module own_path [] (items_in source m) 0 (p + 1) refl refl (omega arith) front back split long few in
        (on.0, λ k i at. on.1 k i (omega arith) at)

    item_by :
        (d : ℕ) → ItemGood d → d ≤ suc further_limit → (above : List Step) (p : ℕ) (m : Module) (k next : ℕ) (i : Item) (o : Option Module) → definition_of source i ≡ o
        → (front back : List Entry) → 1 + option_map_or (size source d) o 0 ≤ OBJECT_LIMIT
        → all ≡ front ++ ((Inner above p m k i ∷ option_map_or (entries_below source envelopes (suc d) (above ++ item_step source envelopes m i ∷ []) next) o []) ++ back) → length front ≡ next
        → HasRole next (Inner above p m k i)
        → AllFrom Good next (Inner above p m k i ∷ option_map_or (entries_below source envelopes (suc d) (above ++ item_step source envelopes m i ∷ []) next) o [])
    item_by d item less above p m k next i None is front back few split long role =
        (record { role = role; children = λ n n_is. absurd cc }, tt)
    item_by d item less above p m k next i (Some n) is front back few split long role =
        let path : List Step = above ++ item_step source envelopes m i ∷ [] in
        let own : Entry = Inner above p m k i in
        let below : List Entry = entries_below source envelopes (suc d) path next n in
        let there : slice_get all next ≡ Some own = at_after next all front own (below ++ back) split long in
        let longer : length (front ++ own ∷ []) ≡ next + 1 = length-append front (own ∷ []) ∙ omega arith in
        let on = below_good d item less path next n own there is refl (front ++ own ∷ []) back (split ∙ sym (append_assoc front (own ∷ []) (below ++ back))) longer (omega arith) in
        (record { role = role; children = λ x x_is. let same : n ≡ x = cc in subst (HasChildren next path) same on.1 }, on.0)

    item_good : (d : ℕ) → ItemGood d
    item_good zero above p m k next i front back few less split long role = absurd (omega arith)
    item_good (suc d) above p m k next i front back few less split long role =
        item_by d (item_good d) (omega arith) above p m k next i (definition_of source i) refl front back few split long role

    -- the entries of the top modules among those that are left
    abbrev pub Tops : ℕ → Type 0
    Tops k = (j : ℕ) (m : Module) → k ≤ j → slice_get source.modules j ≡ Some m → is_top source m ≡ true → slice_get all (root_slot j) ≡ Some (Top j m)

    within_by :
        (before : List Module) (m : Module) (ms : List Module) (k next : ℕ) (b : Bool) → is_top source m ≡ b
        → ((next : ℕ) → next ≡ total (λ m. 1 + whole_size source m) (filter (is_top source) (before ++ m ∷ [])) → (front back : List Entry) → all ≡ front ++ (entries_within source envelopes (suc further_limit) (k + 1) next ms ++ back) → length front ≡ next → total (λ m. 1 + whole_size source m) (filter (is_top source) ms) ≤ OBJECT_LIMIT → AllFrom Good next (entries_within source envelopes (suc further_limit) (k + 1) next ms) × Tops (k + 1))
        → source.modules ≡ before ++ m ∷ ms → length before ≡ k → next ≡ total (λ m. 1 + whole_size source m) (filter (is_top source) before)
        → (front back : List Entry)
        → all ≡ front ++ (cond b (top_entries source envelopes (suc further_limit) k next m ++ entries_within source envelopes (suc further_limit) (k + 1) (next + length (top_entries source envelopes (suc further_limit) k next m)) ms) (entries_within source envelopes (suc further_limit) (k + 1) next ms) ++ back)
        → length front ≡ next → total (λ m. 1 + whole_size source m) (cond b (m ∷ filter (is_top source) ms) (filter (is_top source) ms)) ≤ OBJECT_LIMIT
        → AllFrom Good next (cond b (top_entries source envelopes (suc further_limit) k next m ++ entries_within source envelopes (suc further_limit) (k + 1) (next + length (top_entries source envelopes (suc further_limit) k next m)) ms) (entries_within source envelopes (suc further_limit) (k + 1) next ms))
        × Tops k
    within_by before m ms k next true top on split long is_next front back split_all long_front few =
        let sizes : Module → ℕ = λ m. 1 + whole_size source m in
        let path : List Step = root_step source envelopes m ∷ [] in
        let own : Entry = Top k m in
        let below : List Entry = entries_below source envelopes (suc further_limit) path next m in
        let rest : List Entry = entries_within source envelopes (suc further_limit) (k + 1) (next + length (own ∷ below)) ms in
        let few_here : size source further_limit m ≤ OBJECT_LIMIT = omega arith in
        let split_here : all ≡ front ++ ((own ∷ below) ++ (rest ++ back)) = split_all ∙ ap (λ (xs : List Entry). front ++ xs) (append_assoc (own ∷ below) rest back) in
        let there : slice_get all next ≡ Some own = at_after next all front own (below ++ (rest ++ back)) split_here long_front in
        let longer : length (front ++ own ∷ []) ≡ next + 1 = length-append front (own ∷ []) ∙ omega arith in
        let under = below_good further_limit (item_good further_limit) (omega arith) path next m own there refl refl (front ++ own ∷ []) (rest ++ back) (split_here ∙ sym (append_assoc front (own ∷ []) (below ++ (rest ++ back)))) longer few_here in
        let long_below_is : length below ≡ whole_size source m = long_below source envelopes further_limit path next m few_here in
        let filtered : filter (is_top source) (before ++ m ∷ []) ≡ filter (is_top source) before ++ m ∷ [] =
        filter-append (is_top source) before (m ∷ []) ∙ ap (λ (b : Bool). filter (is_top source) before ++ cond b (m ∷ []) []) top in
        let sum : total sizes (filter (is_top source) (before ++ m ∷ [])) ≡ total sizes (filter (is_top source) before) + sizes m =
        ap (total sizes) filtered ∙ total-append sizes (filter (is_top source) before) (m ∷ []) ∙ omega arith in
        let next_is : next + length (own ∷ below) ≡ total sizes (filter (is_top source) (before ++ m ∷ [])) = omega arith in
        let front_is : length (front ++ (own ∷ below)) ≡ next + length (own ∷ below) = length-append front (own ∷ below) ∙ omega arith in
        let further = on (next + length (own ∷ below)) next_is (front ++ (own ∷ below)) back (split_here ∙ sym (append_assoc front (own ∷ below) (rest ++ back))) front_is (omega arith) in
        let at : slice_get source.modules k ≡ Some m = at_after k source.modules before m ms split long in
        let number : next ≡ root_slot k = is_next ∙ ap (λ (xs : List Module). total sizes (filter (is_top source) xs)) (sym (ap (take k) split ∙ take_front k before (m ∷ ms) long)) in
        let good : Good next own = record { role = (at, top, number); children = λ x x_is. let same : m ≡ x = cc in subst (HasChildren next path) same under.1 } in
        let whole : AllFrom Good next (own ∷ below) = (good, under.0) in (
          all_append Good next (next + length (own ∷ below)) (own ∷ below) rest refl whole further.0,
          λ j x from at_j top_j. go j x at_j at number there further.1 (here_or_on k j from) top_j,
        )
      where
        go :
            (j : ℕ) (x : Module) → slice_get source.modules j ≡ Some x → slice_get source.modules k ≡ Some m → next ≡ root_slot k → slice_get all next ≡ Some (Top k m)
            → Tops (k + 1) → (k ≡ j) ⊎ (k + 1 ≤ j) → is_top source x ≡ true → slice_get all (root_slot j) ≡ Some (Top j x)
        go j x at_j at number there on (inl same) top_j =
            let same_module : m ≡ x = cc in
            subst (λ (n : ℕ). slice_get all (root_slot n) ≡ Some (Top n x)) same
            (subst (λ (y : Module). slice_get all (root_slot k) ≡ Some (Top k y)) same_module (subst (λ (n : ℕ). slice_get all n ≡ Some (Top k m)) number there))
        go j x at_j at number there on (inr further) top_j = on j x further at_j top_j
    within_by before m ms k next false top on split long is_next front back split_all long_front few =
        let sizes : Module → ℕ = λ m. 1 + whole_size source m in
        let filtered : filter (is_top source) (before ++ m ∷ []) ≡ filter (is_top source) before =
        filter-append (is_top source) before (m ∷ []) ∙ ap (λ (b : Bool). filter (is_top source) before ++ cond b (m ∷ []) []) top ∙ append-nil (filter (is_top source) before) in
        let further = on next (is_next ∙ ap (total sizes) (sym filtered)) front back split_all long_front few in
        let at : slice_get source.modules k ≡ Some m = at_after k source.modules before m ms split long in
        (further.0, λ j x from at_j top_j. go j x at_j at further.1 (here_or_on k j from) top_j)
      where
        go :
            (j : ℕ) (x : Module) → slice_get source.modules j ≡ Some x → slice_get source.modules k ≡ Some m
            → Tops (k + 1) → (k ≡ j) ⊎ (k + 1 ≤ j) → is_top source x ≡ true → slice_get all (root_slot j) ≡ Some (Top j x)
        go j x at_j at on (inl same) top_j =
            let same_module : m ≡ x = cc in
            let other : is_top source x ≡ false = subst (λ (y : Module). is_top source y ≡ false) same_module top in
            absurd cc
        go j x at_j at on (inr further) top_j = on j x further at_j top_j

    -- all entries are placed so
    pub within_good :
        (before ms : List Module) (k next : ℕ) → source.modules ≡ before ++ ms → length before ≡ k → next ≡ total (λ m. 1 + whole_size source m) (filter (is_top source) before)
        → (front back : List Entry) → all ≡ front ++ (entries_within source envelopes (suc further_limit) k next ms ++ back) → length front ≡ next
        → total (λ m. 1 + whole_size source m) (filter (is_top source) ms) ≤ OBJECT_LIMIT
        → AllFrom Good next (entries_within source envelopes (suc further_limit) k next ms) × Tops k
    within_good before [] k next split long is_next front back split_all long_front few = (
      tt,
      λ j m from at top.
          let within = slice_get_within source.modules j m at in
          let many = length-append before [] in
          let lengths = ap length split in
          absurd (omega arith),
    )
    within_good before (m ∷ ms) k next split long is_next front back split_all long_front few =
        within_by before m ms k next (is_top source m) refl
        (λ next is_next front back split_all long_front few.
        within_good (before ++ m ∷ []) ms (k + 1) next (split ∙ sym (append_assoc before (m ∷ []) ms)) (length-append before (m ∷ []) ∙ omega arith) is_next front back split_all long_front few)
        split long is_next front back split_all long_front few
