-- The numbers of the modules that items instantiate, and marks and sets of modules.
use Rattle.std.specs.Prelude.{◌≡◌, ℕ, nat_eq, nat_le, Bool, false, if◌then◌else◌, List, [], ◌∷◌, ◌++◌, slice_get, slice_index_or, Option, Some, None}
use Rattle.std.specs.List.{list_any}
use Rattle.std.specs.Option.{option_map_or}
use Rattle.vp_text.specs.Lists.{range_of}
use Rattle.vp_source.specs.declared.source.Source.{Source}
use Rattle.vp_source.specs.declared.source.Module as declared
use Rattle.vp_modules.specs.ModuleRefusals.{recursive}

-- what the items of a module instantiate, of what those of the text do
abbrev pub definitions_in : List (Option ℕ) → declared.Module → List (Option ℕ)
definitions_in definitions m = range_of definitions m.items.first m.items.end

-- an item instantiates the module of this number
abbrev pub is_number : ℕ → Option ℕ → Bool
is_number k definition = option_map_or (nat_eq k) definition false

-- an item instantiates a module that is marked
abbrev pub is_marked : List Bool → Option ℕ → Bool
is_marked marks definition = option_map_or (λ k. slice_index_or marks k false) definition false

-- a number is among these
abbrev pub is_member : ℕ → List ℕ → Bool
is_member k numbers = list_any (nat_eq k) numbers

-- these numbers, and that of what an item instantiates where it is new
abbrev pub with_number : List ℕ → Option ℕ → List ℕ
with_number numbers None = numbers
with_number numbers (Some k) = if is_member k numbers then numbers else numbers ++ k ∷ []

-- these numbers, and those of what items instantiate, each once
abbrev pub with_numbers : List ℕ → List (Option ℕ) → List ℕ
with_numbers numbers [] = numbers
with_numbers numbers (d ∷ ds) = with_numbers (with_number numbers d) ds

-- each module of a text that instantiates itself, at any depth, is marked
abbrev pub AreSuspects : Source → List Bool → Type 0
AreSuspects source marks =
    (k : ℕ) (m : declared.Module) → slice_get source.modules k ≡ Some m → slice_index_or marks k false ≡ false → recursive source m ≡ None

-- a place comes before this one, or is it
abbrev pub is_up_to : ℕ → Option ℕ → Bool
is_up_to place first = option_map_or (λ f. nat_le f place) first false
