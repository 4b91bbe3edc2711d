-- Modules by their numbers, where each name is that of one module.
use Rattle.std.proofs.Common.{◌≡◌, ◌<◌, ◌≤◌, ◌⊎◌, inl, inr, ℕ, zero, suc, Bool, true, false, ◌||◌, List, [], ◌∷◌, ◌++◌, length, map, get_or, position, Option, Some, None, refl, sym, ap, ◌∙◌, arith}
use Rattle.std.proofs.lemmas.Bool.Decides.{nat_tests, same_from_decides}
use Rattle.std.proofs.lemmas.List.{ext_get_or, get_or-map, length-map}
use Rattle.std.proofs.lemmas.List.Folds.{list_any-append}
use Rattle.std.proofs.lemmas.List.Quantifiers.{position-Some}
use Rattle.std.proofs.lemmas.List.Sums.{fails_before_first}
use Rattle.std.proofs.lemmas.Slice.Eq.{bytes_eq-Decides}
use Rattle.std.specs.Prelude.{nat_eq, not, if◌then◌else◌}
use Rattle.std.specs.List.{list_any, position_or_len}
use Rattle.std.specs.Option.{option_and_then, option_map_or}
use Rattle.std.specs.Str.{bytes_eq}
use Rattle.vp_text.specs.laws.Searches.{list_any-map}
use Rattle.vp_source.specs.Places.{word_at}
use Rattle.vp_source.specs.declared.source.Source.{Source}
use Rattle.vp_source.specs.declared.source.Module.{Module}
use Rattle.vp_source.specs.declared.source.Item.{Item}
use Rattle.vp_modules.specs.declared.error.ElabError.{ElabError}
use Rattle.vp_modules.specs.Definitions.{is_number}
use Rattle.vp_modules.specs.Items.{definition_number, instantiated, instantiates, is_among, is_top, module_number}
use Rattle.vp_modules.specs.Refusals.{first_of_two, twice_in}
use Rattle.vp_modules.proofs.Looked.{nowhere}

-- tests that agree find the same
pub list_any_same : {X : Type 0} (p q : X → Bool) (xs : List X) → ((x : X) → p x ≡ q x) → list_any p xs ≡ list_any q xs
list_any_same p q [] same = refl
list_any_same p q (x ∷ xs) same = ap (λ b. b || list_any p xs) (same x) ∙ ap (λ b. q x || b) (list_any_same p q xs same)

pub or_is_false : (a b : Bool) → (a || b) ≡ false → (a ≡ false) × (b ≡ false)
or_is_false true b h = absurd cc
or_is_false false b h = (refl, h)

none_by : {X : Type 0} (b : Bool) (e : X) (o : Option X) → (if b then Some e else o) ≡ None → (b ≡ false) × (o ≡ None)
none_by true e o h = absurd cc
none_by false e o h = (refl, h)

second_none : (a b : Option ElabError) → first_of_two a b ≡ None → b ≡ None
second_none None b h = h
second_none (Some e) b h = absurd cc

bytes_sym : (a b : List ℕ) → bytes_eq a b ≡ bytes_eq b a
bytes_sym a b =
    same_from_decides (bytes_eq a b) (bytes_eq b a) (bytes_eq-Decides a b)
    (λ t. sym ((bytes_eq-Decides b a).0 t), λ e. (bytes_eq-Decides b a).1 (sym e))

-- ---- names that stand once

-- where no name is declared twice, no module has one of the names before
new_names :
    (source : Source) (names : List (List ℕ)) (ms : List Module) → twice_in source names ms ≡ None → (k : ℕ) (d : Module) → k < length ms
    → is_among names (word_at source (get_or ms k d).name) ≡ false
new_names source names [] once k d l = absurd (omega arith)
new_names source names (m ∷ ms) once zero d l = (none_by _ _ _ once).0
new_names source names (m ∷ ms) once (suc k) d l =
    let word : List ℕ = word_at source (get_or ms k d).name in
    let rest : is_among (names ++ word_at source m.name ∷ []) word ≡ false =
    new_names source (names ++ word_at source m.name ∷ []) ms (second_none _ _ (none_by _ _ _ once).1) k d (omega arith) in
    (or_is_false _ _ (sym (list_any-append (bytes_eq word) names (word_at source m.name ∷ [])) ∙ rest)).0

-- and no module has the name of one before it
apart :
    (source : Source) (names : List (List ℕ)) (ms : List Module) → twice_in source names ms ≡ None → (j k : ℕ) (d : Module) → j < k → k < length ms
    → bytes_eq (word_at source (get_or ms k d).name) (word_at source (get_or ms j d).name) ≡ false
apart source names [] once j k d before l = absurd (omega arith)
apart source names (m ∷ ms) once j zero d before l = absurd (omega arith)
apart source names (m ∷ ms) once zero (suc k) d before l =
    let word : List ℕ = word_at source (get_or ms k d).name in
    let rest : is_among (names ++ word_at source m.name ∷ []) word ≡ false =
    new_names source (names ++ word_at source m.name ∷ []) ms (second_none _ _ (none_by _ _ _ once).1) k d (omega arith) in
    (or_is_false _ _ (or_is_false _ _ (sym (list_any-append (bytes_eq word) names (word_at source m.name ∷ [])) ∙ rest)).1).0
apart source names (m ∷ ms) once (suc j) (suc k) d before l =
    apart source (names ++ word_at source m.name ∷ []) ms (second_none _ _ (none_by _ _ _ once).1) j k d (omega arith) (omega arith)

same_or_apart :
    (source : Source) → twice_in source [] source.modules ≡ None → (j k : ℕ) (d : Module) → j < length source.modules → k < length source.modules
    → (k < j) ⊎ ((k ≡ j) ⊎ (j < k))
    → bytes_eq (word_at source (get_or source.modules k d).name) (word_at source (get_or source.modules j d).name) ≡ nat_eq k j
same_or_apart source once j k d lj lk (inl less) =
    let word = λ (n : ℕ). word_at source (get_or source.modules n d).name in
    bytes_sym (word k) (word j) ∙ apart source [] source.modules once k j d less lj ∙ grind (arith, nat_tests)
same_or_apart source once j k d lj lk (inr (inl same)) =
    let word = λ (n : ℕ). word_at source (get_or source.modules n d).name in
    (bytes_eq-Decides (word k) (word j)).1 (ap word same) ∙ grind (arith, nat_tests)
same_or_apart source once j k d lj lk (inr (inr more)) =
    apart source [] source.modules once j k d more lk ∙ grind (arith, nat_tests)

compared : (k j : ℕ) → (k < j) ⊎ ((k ≡ j) ⊎ (j < k))
compared k j = grind arith

none_found : {X : Type 0} (p : X → Bool) (xs : List X) → position p xs ≡ None → (k : ℕ) (d : X) → k < length xs → p (get_or xs k d) ≡ false
none_found p xs none k d l =
    let far : length xs ≤ position_or_len p xs = grind (arith, nat_tests) in
    fails_before_first p xs k d (omega arith)

numbered_by :
    (source : Source) → twice_in source [] source.modules ≡ None → (k : ℕ) (d : Module) (name : List ℕ) → k < length source.modules
    → (number : Option ℕ) → module_number source name ≡ number
    → bytes_eq (word_at source (get_or source.modules k d).name) name ≡ is_number k number
numbered_by source once k d name l None none =
    bytes_sym (word_at source (get_or source.modules k d).name) name ∙ none_found (λ (m : Module). bytes_eq name (word_at source m.name)) source.modules none k d l
numbered_by source once k d name l (Some j) at =
    let there = position-Some (λ (m : Module). bytes_eq name (word_at source m.name)) source.modules j d at in
    ap (bytes_eq (word_at source (get_or source.modules k d).name)) ((bytes_eq-Decides name (word_at source (get_or source.modules j d).name)).0 there.1)
    ∙ same_or_apart source once j k d there.0 l (compared k j)

-- a name is that of a module if its number is the module's
pub numbered :
    (source : Source) → twice_in source [] source.modules ≡ None → (k : ℕ) (d : Module) (name : List ℕ) → k < length source.modules
    → bytes_eq (word_at source (get_or source.modules k d).name) name ≡ is_number k (module_number source name)
numbered source once k d name l = numbered_by source once k d name l (module_number source name) refl

-- ---- what items instantiate

in_range_by : (source : Source) (name : Option (List ℕ)) (k : ℕ) → option_and_then (module_number source) name ≡ Some k → k < length source.modules
in_range_by source None k at = absurd cc
in_range_by source (Some name) k at =
    (position-Some (λ (m : Module). bytes_eq name (word_at source m.name)) source.modules k nowhere at).0

-- the number of a module is one of the text's
pub in_range : (source : Source) (i : Item) (k : ℕ) → definition_number source i ≡ Some k → k < length source.modules
in_range source i k at = in_range_by source (instantiated source i) k at

instantiates_by :
    (source : Source) → twice_in source [] source.modules ≡ None → (k : ℕ) (d : Module) → k < length source.modules → (name : Option (List ℕ))
    → option_map_or (bytes_eq (word_at source (get_or source.modules k d).name)) name false ≡ is_number k (option_and_then (module_number source) name)
instantiates_by source once k d l None = refl
instantiates_by source once k d l (Some name) = numbered source once k d name l

-- an item instantiates a module if the number of what it instantiates is the module's
pub instantiates_number :
    (source : Source) → twice_in source [] source.modules ≡ None → (k : ℕ) (d : Module) → k < length source.modules → (i : Item)
    → instantiates source (word_at source (get_or source.modules k d).name) i ≡ is_number k (definition_number source i)
instantiates_number source once k d l i = instantiates_by source once k d l (instantiated source i)

-- marks of the modules that no number names are those of the top modules
pub tops_are :
    (source : Source) → twice_in source [] source.modules ≡ None → (d : Module) (tops : List Bool) (definitions : List (Option ℕ))
    → definitions ≡ map (definition_number source) source.items → length tops ≡ length source.modules
    → ((k : ℕ) → k < length source.modules → get_or tops k false ≡ not (list_any (is_number k) definitions))
    → tops ≡ map (is_top source) source.modules
tops_are source once d tops definitions table marks marked =
    ext_get_or false tops (map (is_top source) source.modules) (marks ∙ sym (length-map source.modules (is_top source))) (λ k l.
    let in_list : k < length source.modules = omega arith in
    marked k in_list
    ∙ ap (λ ds. not (list_any (is_number k) ds)) table
    ∙ ap not (list_any-map (is_number k) (definition_number source) source.items
    ∙ list_any_same _ _ source.items (λ i. sym (instantiates_number source once k d in_list i)))
    ∙ sym (get_or-map (is_top source) source.modules k d false in_list))
