-- Parts of lists, and lists of lists.
use Rattle.std.specs.Prelude.{ℕ, ◌&&◌, nat_le, Bool, if◌then◌else◌, List, [], length, slice_range}
use Rattle.std.specs.List.{flat_map}

-- a list has the items from one place up to another
abbrev pub has_range : {X : Type 0} → List X → ℕ → ℕ → Bool
has_range xs from to = nat_le from to && nat_le to (length xs)

-- the items of a list from one place up to another; none where it does not have them
abbrev pub range_of : {X : Type 0} → List X → ℕ → ℕ → List X
range_of xs from to = if has_range xs from to then slice_range xs from to else []

-- lists as one
abbrev pub joined : {X : Type 0} → List (List X) → List X
joined lists = flat_map (λ list. list) lists
