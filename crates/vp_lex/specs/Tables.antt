-- Tables of byte strings, each with what stands beside it.
use Rattle.std.specs.Prelude.{ℕ, List, [], ◌∷◌, Option, bytes_eq, Some, if◌then◌else◌}

-- what stands beside the byte string in a table, or else what is given
abbrev pub looked_up : {X : Type 0} → List (List ℕ × X) → List ℕ → Option X → Option X
looked_up [] bytes other = other
looked_up ((entry, value) ∷ entries) bytes other = if bytes_eq bytes entry then Some value else looked_up entries bytes other
