-- Sums of sizes, as far as there may be so many.
use Rattle.std.proofs.Common.{◌≡◌, ℕ, zero, suc, ◌+◌, ◌<◌, ◌≤◌, Bool, true, false, cond, List, [], ◌∷◌, ◌++◌, length, map, filter, drop, get_or, Option, Some, None, refl, sym, ap, ◌∙◌, arith}
use Rattle.std.specs.Option.{option_and_then, option_map_or}
use Rattle.std.proofs.Math.Seq.{drop-cons}
use Rattle.std.proofs.lemmas.List.{append_assoc}
use Rattle.vp_source.specs.declared.source.Source.{Source}
use Rattle.vp_source.specs.declared.source.Module.{Module}
use Rattle.vp_source.specs.declared.source.Item.{Item}
use Rattle.vp_modules.specs.Definitions.{definitions_in}
use Rattle.vp_modules.specs.Items.{definition_number, definition_of, is_top, items_in}
use Rattle.std.specs.Prelude.{slice_get}
use Rattle.vp_pragma.specs.Rights.{RightSet}
use Rattle.vp_elab.specs.Objects.{Declared}
use Rattle.vp_elab.specs.declared.object.TheConstants.{OBJECT_LIMIT}
use Rattle.vp_elab.specs.Elaboration.{further_limit}
use Rattle.vp_elab.specs.Sizes.{capped, item_size, many, size, size_by, sizes_in, slots_by, slots_from, slots_in, total, whole_size}
use Rattle.vp_elab.proofs.Parts.{definition_at, definitions_are, nowhere}

-- of no items, and of some
pub no_items : (items : List Item) → length items ≡ 0 → 0 ≡ capped (total (λ (i : Item). many) items)
no_items [] h = refl
no_items (i ∷ is) h = absurd (omega arith)

pub some_items : (items : List Item) → 1 ≤ length items → many ≡ capped (total (λ (i : Item). many) items)
some_items [] h = absurd (omega arith)
some_items (i ∷ is) h = omega arith

-- ---- tables

-- what a table has at a number
pub table_or : {X Y : Type 0} (f : X → Y) (xs : List X) (k : ℕ) (d : X) (e : Y) → k < length xs → get_or (map f xs) k e ≡ f (get_or xs k d)
table_or f [] k d e l = absurd (omega arith)
table_or f (x ∷ xs) zero d e l = refl
table_or f (x ∷ xs) (suc k) d e l = table_or f xs k d e (omega arith)

-- what a table has at the number of a module, or 0
found_by : (f : Module → ℕ) (ms : List Module) (k : ℕ) → get_or (map f ms) k 0 ≡ option_map_or f (slice_get ms k) 0
found_by f [] k = refl
found_by f (m ∷ ms) zero = refl
found_by f (m ∷ ms) (suc k) = found_by f ms k

size_at : (f : Module → ℕ) (ms : List Module) (o : Option ℕ) → option_map_or (λ k. get_or (map f ms) k 0) o 0 ≡ option_map_or f (option_and_then (slice_get ms) o) 0
size_at f ms None = refl
size_at f ms (Some k) = found_by f ms k

capped_by : (f : Module → ℕ) (o : Option Module) → capped (1 + option_map_or (λ m. capped (f m)) o 0) ≡ capped (1 + option_map_or f o 0)
capped_by f None = refl
capped_by f (Some m) = omega arith

module _ (source : Source) where
  -- the size of an item, by the table of sizes
  pub size_is : (d : ℕ) (i : Item) → size_by (sizes_in source d) (definition_number source i) ≡ capped (item_size source (suc d) i)
  size_is d i =
      ap (λ n. capped (1 + n)) (size_at (λ m. capped (size source d m)) source.modules (definition_number source i) ∙ ap (λ (o : Option Module). option_map_or (λ m. capped (size source d m)) o 0) (definition_at source i))
      ∙ capped_by (size source d) (definition_of source i)

  totals : (d : ℕ) (is : List Item) → capped (total (size_by (sizes_in source d)) (map (definition_number source) is)) ≡ capped (total (item_size source (suc d)) is)
  totals d [] = refl
  totals d (i ∷ is) =
      let here = size_is d i in
      let rest = totals d is in
      omega arith

  -- the table of sizes with one step more
  pub next_is : (d : ℕ) (definitions : List (Option ℕ)) → definitions ≡ map (definition_number source) source.items → map (λ m. capped (total (size_by (sizes_in source d)) (definitions_in definitions m))) source.modules ≡ sizes_in source (suc d)
  next_is d definitions table = all source.modules
    where
      all : (ms : List Module) → map (λ m. capped (total (size_by (sizes_in source d)) (definitions_in definitions m))) ms ≡ map (λ m. capped (size source (suc d) m)) ms
      all [] = refl
      all (m ∷ ms) =
          ap (λ n. n ∷ map (λ m. capped (total (size_by (sizes_in source d)) (definitions_in definitions m))) ms)
          (ap (λ (ds : List (Option ℕ)). capped (total (size_by (sizes_in source d)) ds)) (definitions_are source definitions m table) ∙ totals d (items_in source m))
          ∙ ap (λ ns. capped (size source (suc d) m) ∷ ns) (all ms)

  -- ---- slots

  slots_same : (n m : ℕ) → capped n ≡ capped m → (is : List Item) → slots_by (sizes_in source further_limit) n (map (definition_number source) is) ≡ slots_from source m is
  slots_same n m same [] = refl
  slots_same n m same (i ∷ is) =
      let here = size_is further_limit i in
      let next : capped (capped (n + size_by (sizes_in source further_limit) (definition_number source i))) ≡ capped (m + item_size source (suc further_limit) i) = omega arith in
      ap (λ k. k ∷ slots_by (sizes_in source further_limit) (capped (n + size_by (sizes_in source further_limit) (definition_number source i))) (map (definition_number source) is)) same
      ∙ ap (λ ks. capped m ∷ ks) (slots_same (capped (n + size_by (sizes_in source further_limit) (definition_number source i))) (m + item_size source (suc further_limit) i) next is)

  -- where the items of a module stand, by the table of sizes
  pub slots_are : (definitions : List (Option ℕ)) (m : Module) → definitions ≡ map (definition_number source) source.items → slots_by (sizes_in source further_limit) 1 (definitions_in definitions m) ≡ slots_in source m
  slots_are definitions m table =
      ap (slots_by (sizes_in source further_limit) 1) (definitions_are source definitions m table) ∙ slots_same 1 1 refl (items_in source m)

  -- ---- top modules

  rest_by : (m : Module) (ms : List Module) (b : Bool) → total (λ m. 1 + whole_size source m) (cond b (m ∷ filter (is_top source) ms) (filter (is_top source) ms)) ≡ cond b (1 + whole_size source m) 0 + total (λ m. 1 + whole_size source m) (filter (is_top source) ms)
  rest_by m ms true = refl
  rest_by m ms false = omega arith

  cap_by : (b : Bool) (n : ℕ) → cond b (capped (1 + capped n)) 0 ≡ capped (cond b (1 + n) 0)
  cap_by true n = omega arith
  cap_by false n = refl

  -- the top module of a number
  pub top_is : (tops : List Bool) (sizes : List ℕ) (k : ℕ) → tops ≡ map (is_top source) source.modules → sizes ≡ sizes_in source further_limit → k < length source.modules → cond (get_or tops k false) (capped (1 + get_or sizes k 0)) 0 ≡ capped (cond (is_top source (get_or source.modules k nowhere)) (1 + whole_size source (get_or source.modules k nowhere)) 0)
  top_is tops sizes k tops_are sizes_are within =
      let top : get_or tops k false ≡ is_top source (get_or source.modules k nowhere) = ap (λ bs. get_or bs k false) tops_are ∙ table_or (is_top source) source.modules k nowhere false within in
      let long : get_or sizes k 0 ≡ capped (whole_size source (get_or source.modules k nowhere)) = ap (λ ns. get_or ns k 0) sizes_are ∙ table_or (λ m. capped (whole_size source m)) source.modules k nowhere 0 within in
      ap (λ b. cond b (capped (1 + get_or sizes k 0)) 0) top ∙ ap (λ n. cond (is_top source (get_or source.modules k nowhere)) (capped (1 + n)) 0) long
      ∙ cap_by (is_top source (get_or source.modules k nowhere)) (whole_size source (get_or source.modules k nowhere))

  -- those that are left, from one on
  pub rest_is : (k : ℕ) → k < length source.modules → total (λ m. 1 + whole_size source m) (filter (is_top source) (drop k source.modules)) ≡ cond (is_top source (get_or source.modules k nowhere)) (1 + whole_size source (get_or source.modules k nowhere)) 0 + total (λ m. 1 + whole_size source m) (filter (is_top source) (drop (k + 1) source.modules))
  rest_is k within =
      let m : Module = get_or source.modules k nowhere in
      let next : suc k ≡ k + 1 = omega arith in
      ap (λ (ms : List Module). total (λ m. 1 + whole_size source m) (filter (is_top source) ms)) (drop-cons source.modules k nowhere within)
      ∙ rest_by m (drop (suc k) source.modules) (is_top source m)
      ∙ ap (λ (n : ℕ). cond (is_top source m) (1 + whole_size source m) 0 + total (λ m. 1 + whole_size source m) (filter (is_top source) (drop n source.modules))) next

  -- the room that is left after a module that is a top module, and after one that is not
  pub top_room : (k n : ℕ) → k < length source.modules → is_top source (get_or source.modules k nowhere) ≡ true → n + total (λ m. 1 + whole_size source m) (filter (is_top source) (drop k source.modules)) ≤ OBJECT_LIMIT → (n + (1 + whole_size source (get_or source.modules k nowhere))) + total (λ m. 1 + whole_size source m) (filter (is_top source) (drop (k + 1) source.modules)) ≤ OBJECT_LIMIT
  top_room k n within top room =
      let rest = rest_is k within in
      let here = ap (λ b. cond b (1 + whole_size source (get_or source.modules k nowhere)) 0) top in
      omega arith

  pub none_room : (k n : ℕ) → k < length source.modules → is_top source (get_or source.modules k nowhere) ≡ false → n + total (λ m. 1 + whole_size source m) (filter (is_top source) (drop k source.modules)) ≤ OBJECT_LIMIT → n + total (λ m. 1 + whole_size source m) (filter (is_top source) (drop (k + 1) source.modules)) ≤ OBJECT_LIMIT
  none_room k n within top room =
      let rest = rest_is k within in
      let here = ap (λ b. cond b (1 + whole_size source (get_or source.modules k nowhere)) 0) top in
      omega arith

  -- whether a module is a top module, by the table
  pub top_known : (tops : List Bool) (k : ℕ) (b : Bool) → tops ≡ map (is_top source) source.modules → k < length source.modules → get_or tops k false ≡ b → is_top source (get_or source.modules k nowhere) ≡ b
  top_known tops k b tops_are within is = sym (table_or (is_top source) source.modules k nowhere false within) ∙ ap (λ (bs : List Bool). get_or bs k false) (sym tops_are) ∙ is

  filter_next : (k : ℕ) (b : Bool) → k < length source.modules → is_top source (get_or source.modules k nowhere) ≡ b → filter (is_top source) (drop k source.modules) ≡ cond b (get_or source.modules k nowhere ∷ filter (is_top source) (drop (k + 1) source.modules)) (filter (is_top source) (drop (k + 1) source.modules))
  filter_next k b within top =
      let m : Module = get_or source.modules k nowhere in
      let next : suc k ≡ k + 1 = omega arith in
      ap (filter (is_top source)) (drop-cons source.modules k nowhere within ∙ ap (λ (n : ℕ). m ∷ drop n source.modules) next)
      ∙ ap (λ (t : Bool). cond t (m ∷ filter (is_top source) (drop (k + 1) source.modules)) (filter (is_top source) (drop (k + 1) source.modules))) top

  -- the top modules so far, and those that are left
  pub tops_more : (old new : List Module) (k : ℕ) → k < length source.modules → is_top source (get_or source.modules k nowhere) ≡ true → new ≡ old ++ get_or source.modules k nowhere ∷ [] → new ++ filter (is_top source) (drop (k + 1) source.modules) ≡ old ++ filter (is_top source) (drop k source.modules)
  tops_more old new k within top is_new =
      let m : Module = get_or source.modules k nowhere in
      ap (λ (ms : List Module). ms ++ filter (is_top source) (drop (k + 1) source.modules)) is_new
      ∙ append_assoc old (m ∷ []) (filter (is_top source) (drop (k + 1) source.modules))
      ∙ ap (λ (ms : List Module). old ++ ms) (sym (filter_next k true within top))

  pub tops_same : (old : List Module) (k : ℕ) → k < length source.modules → is_top source (get_or source.modules k nowhere) ≡ false → old ++ filter (is_top source) (drop (k + 1) source.modules) ≡ old ++ filter (is_top source) (drop k source.modules)
  tops_same old k within top = ap (λ (ms : List Module). old ++ ms) (sym (filter_next k false within top))

-- what a module declares, of its parts
abbrev pub declared_of : List ℕ → List ℕ → List (RightSet × Option ℕ) → Declared
declared_of envelopes slots all_step_rights = record { envelopes = envelopes; slots = slots; all_step_rights = all_step_rights }

pub declared_same : (a b c d : List ℕ) (e f : List (RightSet × Option ℕ)) → a ≡ b → c ≡ d → e ≡ f → declared_of a c e ≡ declared_of b d f
declared_same a b c d e f p q r = ap (λ (x : List ℕ). declared_of x c e) p ∙ ap (λ (x : List ℕ). declared_of b x e) q ∙ ap (declared_of b d) r
