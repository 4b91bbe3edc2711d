-- The modules of a text and what they instantiate, as a graph of their numbers.
use Rattle.std.proofs.Common.{◌≡◌, ◌<◌, ◌+◌, ◌-◌, ◌||◌, ◌&&◌, ℕ, zero, suc, Bool, true, false, cond, List, [], ◌∷◌, length, map, take, drop, get_or, Option, Some, None, refl, sym, ap, subst, ◌∙◌, arith}
use Rattle.std.proofs.lemmas.List.{drop-map, take-map, length-map, get_or-map}
use Rattle.std.proofs.lemmas.List.Quantifiers.{position-Some}
use Rattle.std.proofs.lemmas.Option.{slice_get-get_or}
use Rattle.std.specs.Prelude.{nat_le, slice_get, slice_range, if◌then◌else◌}
use Rattle.std.specs.List.{list_any}
use Rattle.std.specs.Option.{option_and_then, option_map_or}
use Rattle.std.specs.Str.{bytes_eq}
use Rattle.vp_text.specs.Lists.{range_of}
use Rattle.vp_text.specs.laws.Searches.{list_any-map}
use Rattle.vp_source.specs.Places.{word_at}
use Rattle.vp_source.specs.declared.source.Source.{Source}
use Rattle.vp_source.specs.declared.source.Module.{Module}
use Rattle.vp_source.specs.declared.source.Item.{Item}
use Rattle.vp_modules.specs.Definitions.{definitions_in, is_marked, is_number}
use Rattle.vp_modules.specs.Items.{definition_number, instantiated, items_in, module_named, module_number}
use Rattle.vp_modules.specs.Refusals.{twice_in}
use Rattle.vp_modules.specs.ModuleRefusals.{leads, leads_by, recursive}
use Rattle.vp_modules.proofs.Numbers.{in_range, list_any_same, numbered}
use Rattle.vp_modules.proofs.Graph.{Graph, chain, goes, reaches, steps_on, unchained}

part_by : {X Y : Type 0} (there : Bool) (f : X → Y) (xs : List X) (a b : ℕ) → cond there (slice_range (map f xs) a b) [] ≡ map f (cond there (slice_range xs a b) [])
part_by true f xs a b = ap (take (b - a)) (drop-map f a xs) ∙ take-map f (b - a) (drop a xs)
part_by false f xs a b = refl

-- a part of what f gives is what f gives of the part
pub range_of-map : {X Y : Type 0} (f : X → Y) (xs : List X) (a b : ℕ) → range_of (map f xs) a b ≡ map f (range_of xs a b)
range_of-map f xs a b =
    ap (λ (n : ℕ). cond (nat_le a b && nat_le b n) (slice_range (map f xs) a b) []) (length-map xs f)
    ∙ part_by (nat_le a b && nat_le b (length xs)) f xs a b

-- for each number of a module those of the modules that its items instantiate
abbrev pub graph_of : Source → Module → Graph
graph_of source d k = map (definition_number source) (items_in source (get_or source.modules k d))

-- what a module instantiates, of what the text does
pub graph_is :
    (source : Source) (d : Module) (definitions : List (Option ℕ)) (k : ℕ) → definitions ≡ map (definition_number source) source.items
    → definitions_in definitions (get_or source.modules k d) ≡ graph_of source d k
graph_is source d definitions k table =
    let m : Module = get_or source.modules k d in
    ap (λ ds. definitions_in ds m) table ∙ range_of-map (definition_number source) source.items m.items.first m.items.end

-- the same, as it is read
pub nexts_are :
    (source : Source) (d : Module) (definitions nexts : List (Option ℕ)) (ms : List Module) (k j : ℕ) → definitions ≡ map (definition_number source) source.items
    → nexts ≡ definitions_in definitions (get_or ms k d) → ms ≡ source.modules → k ≡ j → nexts ≡ graph_of source d j
nexts_are source d definitions nexts ms k j table read whole same =
    read ∙ ap (λ xs. definitions_in definitions (get_or xs k d)) whole
    ∙ ap (λ i. definitions_in definitions (get_or source.modules i d)) same
    ∙ graph_is source d definitions j table

-- its numbers are those of modules
pub graph_in_range : (source : Source) (items : List Item) (i k : ℕ) → get_or (map (definition_number source) items) i None ≡ Some k → k < length source.modules
graph_in_range source [] i k at = absurd cc
graph_in_range source (x ∷ items) zero k at = in_range source x k at
graph_in_range source (x ∷ items) (suc i) k at = graph_in_range source items i k at

further_by :
    (source : Source) (d : Module) (further : Module → Bool) (f : ℕ → Bool) → ((k : ℕ) → further (get_or source.modules k d) ≡ f k)
    → (name : List ℕ) (number : Option ℕ) → module_number source name ≡ number
    → option_map_or further (option_and_then (slice_get source.modules) number) false ≡ option_map_or f number false
further_by source d further f same name None at = refl
further_by source d further f same name (Some k) at =
    let there = position-Some (λ (m : Module). bytes_eq name (word_at source m.name)) source.modules k d at in
    ap (λ (m : Option Module). option_map_or further m false) (slice_get-get_or source.modules k d there.0) ∙ same k

leads_by_number :
    (source : Source) (d : Module) → twice_in source [] source.modules ≡ None → (s : ℕ) → s < length source.modules
    → (further : Module → Bool) (f : ℕ → Bool) → ((k : ℕ) → further (get_or source.modules k d) ≡ f k) → (name : Option (List ℕ))
    → option_map_or (λ (definition : List ℕ). bytes_eq (word_at source (get_or source.modules s d).name) definition || option_map_or further (module_named source definition) false) name false
    ≡ goes s f (option_and_then (module_number source) name)
leads_by_number source d once s l further f same None = refl
leads_by_number source d once s l further f same (Some name) =
    ap (λ (b : Bool). b || option_map_or further (module_named source name) false) (numbered source once s d name l)
    ∙ ap (λ (b : Bool). is_number s (module_number source name) || b) (further_by source d further f same name (module_number source name) refl)

-- a module leads to another as their numbers do
pub leads_is :
    (source : Source) (d : Module) → twice_in source [] source.modules ≡ None → (s : ℕ) → s < length source.modules → (n k : ℕ)
    → leads source (word_at source (get_or source.modules s d).name) n (get_or source.modules k d) ≡ reaches (graph_of source d) s n k
leads_is source d once s l zero k = refl
leads_is source d once s l (suc n) k =
    let name : List ℕ = word_at source (get_or source.modules s d).name in
    let items : List Item = items_in source (get_or source.modules k d) in
    list_any_same (leads_by source name (leads source name n)) (λ i. goes s (reaches (graph_of source d) s n) (definition_number source i)) items
    (λ i. leads_by_number source d once s l (leads source name n) (reaches (graph_of source d) s n) (λ j. leads_is source d once s l n j) (instantiated source i))
    ∙ sym (list_any-map (goes s (reaches (graph_of source d) s n)) (definition_number source) items)

-- ---- modules at which chains begin

marked_by :
    (source : Source) (marks : List Bool) (f : ℕ → Bool) → ((k : ℕ) → k < length source.modules → get_or marks k false ≡ f k)
    → (i : Item) (o : Option ℕ) → definition_number source i ≡ o → is_marked marks o ≡ steps_on f o
marked_by source marks f same i None at = refl
marked_by source marks f same i (Some k) at = same k (in_range source i k at)

-- marks of modules at which chains begin, and of those that instantiate them
pub chains_more :
    (source : Source) (d : Module) (definitions : List (Option ℕ)) (marks : List Bool) (n : ℕ) → definitions ≡ map (definition_number source) source.items
    → ((k : ℕ) → k < length source.modules → get_or marks k false ≡ chain (graph_of source d) n k)
    → (k : ℕ) → k < length source.modules
    → get_or (map (λ m. list_any (is_marked marks) (definitions_in definitions m)) source.modules) k false ≡ chain (graph_of source d) (n + 1) k
chains_more source d definitions marks n table same k l =
    let items : List Item = items_in source (get_or source.modules k d) in
    let next : suc n ≡ n + 1 = omega arith in
    get_or-map (λ m. list_any (is_marked marks) (definitions_in definitions m)) source.modules k d false l
    ∙ ap (λ ds. list_any (is_marked marks) ds) (graph_is source d definitions k table)
    ∙ list_any-map (is_marked marks) (definition_number source) items
    ∙ list_any_same (λ i. is_marked marks (definition_number source i)) (λ i. steps_on (chain (graph_of source d) n) (definition_number source i)) items
    (λ i. marked_by source marks (chain (graph_of source d) n) same i (definition_number source i) refl)
    ∙ sym (list_any-map (steps_on (chain (graph_of source d) n)) (definition_number source) items)
    ∙ ap (λ j. chain (graph_of source d) j k) next

found_at : {X : Type 0} (xs : List X) (k : ℕ) (d x : X) → slice_get xs k ≡ Some x → (k < length xs) × (get_or xs k d ≡ x)
found_at [] k d x h = absurd cc
found_at (y ∷ ys) zero d x h = (omega arith, cc)
found_at (y ∷ ys) (suc k) d x h = let rest = found_at ys k d x h in (omega (arith, rest.0), rest.1)

-- a module is recursive if its number leads to itself
pub leads_back_is :
    (source : Source) (d m : Module) → twice_in source [] source.modules ≡ None → (k n : ℕ) → slice_get source.modules k ≡ Some m
    → leads source (word_at source m.name) n m ≡ reaches (graph_of source d) k n k
leads_back_is source d m once k n there =
    let at = found_at source.modules k d m there in
    subst (λ (x : Module). leads source (word_at source x.name) n x ≡ reaches (graph_of source d) k n k) at.1 (leads_is source d once k at.0 n k)

-- a module at which a chain of some length does not begin is not recursive
pub not_recursive :
    (source : Source) (d : Module) → twice_in source [] source.modules ≡ None → (marks : List Bool) (n : ℕ)
    → ((k : ℕ) → k < length source.modules → get_or marks k false ≡ chain (graph_of source d) n k)
    → (k : ℕ) (m : Module) → slice_get source.modules k ≡ Some m → get_or marks k false ≡ false → recursive source m ≡ None
not_recursive source d once marks n same k m there none =
    let at = found_at source.modules k d m there in
    let back : leads source (word_at source m.name) (length source.modules) m ≡ false =
    leads_back_is source d m once k (length source.modules) there
    ∙ unchained (graph_of source d) k n (length source.modules) (sym (same k at.0) ∙ none) in
    ap (λ (b : Bool). if b then Some m.name else None) back
