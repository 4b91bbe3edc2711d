-- Laws of texts cut at a byte.
use Rattle.std.proofs.Common.{arith}
use Rattle.std.specs.Prelude.{ℕ, ◌≤◌, ◌==◌, Bool, true, false, if◌then◌else◌, List, [], ◌∷◌, length}
use Rattle.vp_text.specs.Texts.{begun, parts}

begun_some : (byte : ℕ) (parts : List (List ℕ)) → 1 ≤ length (begun byte parts)
begun_some byte [] = omega arith
begun_some byte (part ∷ rest) = omega arith

some_by : (separator byte : ℕ) (bytes : List ℕ) (is_separator : Bool)
    → 1 ≤ length (if is_separator then [] ∷ parts separator bytes else begun byte (parts separator bytes))
some_by separator byte bytes true = omega arith
some_by separator byte bytes false = begun_some byte (parts separator bytes)

-- a text has a part, also an empty one
pub parts_some : (separator : ℕ) (bytes : List ℕ) → 1 ≤ length (parts separator bytes)
parts_some separator [] = omega arith
parts_some separator (byte ∷ bytes) = some_by separator byte bytes (byte == separator)
