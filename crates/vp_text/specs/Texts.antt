-- Texts cut at a byte.
use Rattle.std.specs.Prelude.{ℕ, ◌==◌, if◌then◌else◌, List, [], ◌∷◌, Option, Some, None}

-- a byte in front of the first part
abbrev pub begun : ℕ → List (List ℕ) → List (List ℕ)
begun byte [] = (byte ∷ []) ∷ []
begun byte (part ∷ parts) = (byte ∷ part) ∷ parts

-- the parts of a text round a byte that separates them: one more than there are such bytes
abbrev pub parts : ℕ → List ℕ → List (List ℕ)
parts separator [] = [] ∷ []
parts separator (byte ∷ bytes) =
    if byte == separator then [] ∷ parts separator bytes else begun byte (parts separator bytes)

-- a part in front of those of what follows its separating byte, if one does
abbrev pub part_and_rest : ℕ → List ℕ → Option (List ℕ) → List (List ℕ)
part_and_rest separator part None = part ∷ []
part_and_rest separator part (Some rest) = part ∷ parts separator rest
