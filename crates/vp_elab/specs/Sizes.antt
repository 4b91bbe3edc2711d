-- How many objects stand below those of modules, and where.
use Rattle.std.specs.Prelude.{ℕ, zero, suc, ◌+◌, min, List, [], ◌∷◌, map, Option, slice_index_or}
use Rattle.std.specs.Option.{option_map_or}
use Rattle.vp_source.specs.declared.source.Source.{Source}
use Rattle.vp_source.specs.declared.source.Item.{Item}
use Rattle.vp_source.specs.declared.source.Module as declared
use Rattle.vp_modules.specs.Items.{definition_of, items_in}
use Rattle.vp_elab.specs.declared.object.TheConstants.{OBJECT_LIMIT}
use Rattle.vp_elab.specs.Elaboration.{tops, further_limit}

-- the sum of what f gives
abbrev pub total : {X : Type 0} → (X → ℕ) → List X → ℕ
total f [] = 0
total f (x ∷ xs) = f x + total f xs

-- more objects than there may be (profile)
abbrev pub many : ℕ
many = OBJECT_LIMIT + 1

-- a number of objects, as far as there may be so many
abbrev pub capped : ℕ → ℕ
capped n = min n many

-- the size of an item, where paths may have so many steps from it on: one, and of an instance how many objects stand below it;
-- where no step is left for it, more than there may be (profile)
abbrev pub item_size : Source → ℕ → Item → ℕ
item_size source zero i = many
item_size source (suc d) i = 1 + option_map_or (λ m. total (item_size source d) (items_in source m)) (definition_of source i) 0

-- how many objects stand below one of a module, after which paths may have so many steps
abbrev pub size : Source → ℕ → declared.Module → ℕ
size source d m = total (item_size source d) (items_in source m)

-- the same below a top module, where paths may be as long as anywhere
abbrev pub whole_size : Source → declared.Module → ℕ
whole_size source m = size source further_limit m

-- how many objects a source has
abbrev pub object_count : Source → ℕ
object_count source = total (λ m. 1 + whole_size source m) (tops source)

-- where items stand after the object of their module: the first so far after, and each further after what stands before it
abbrev pub slots_from : Source → ℕ → List Item → List ℕ
slots_from source next [] = []
slots_from source next (i ∷ is) =
    capped next ∷ slots_from source (next + (1 + option_map_or (whole_size source) (definition_of source i) 0)) is

-- where the items of a module stand after its object
abbrev pub slots_in : Source → declared.Module → List ℕ
slots_in source m = slots_from source 1 (items_in source m)

-- ---- by tables of sizes

-- the size of an item that instantiates the module of this number, or none, by the sizes of modules, as far as there may be so many
abbrev pub size_by : List ℕ → Option ℕ → ℕ
size_by sizes definition = capped (1 + option_map_or (λ k. slice_index_or sizes k 0) definition 0)

-- where items that instantiate these stand, the first so far after
abbrev pub slots_by : List ℕ → ℕ → List (Option ℕ) → List ℕ
slots_by sizes next [] = []
slots_by sizes next (d ∷ ds) = capped next ∷ slots_by sizes (capped (next + size_by sizes d)) ds

-- the sizes of the modules of a text, as far as there may be so many
abbrev pub sizes_in : Source → ℕ → List ℕ
sizes_in source d = map (λ m. capped (size source d m)) source.modules
