-- Lists in chunks.
use Rattle.std.specs.Prelude.{ℕ, ◌+◌, ◌<◌, ◌≤◌, ◌≡◌, List, [], ◌∷◌, length}
use Rattle.std.specs.List.{splice}

-- each chunk but the last has the size, and the last has an item and at most the size
abbrev pub AreChunks : {X : Type 0} → ℕ → List (List X) → Type 0
AreChunks size [] = Unit {0}
AreChunks size (c ∷ []) = (0 < length c) × (length c ≤ size)
AreChunks size (c ∷ d ∷ cs) = (length c ≡ size) × AreChunks size (d ∷ cs)

-- a list with others in place of as many of its items, from a place on
abbrev pub with_items : {X : Type 0} → List X → (place : ℕ) → List X → List X
with_items xs place ys = splice xs place (place + length ys) ys
