-- What a user knows of the objects of a design: those that were ever listed to him.
use Rattle.std.specs.Prelude.{ℕ, zero, suc, ◌||◌, Bool, true, false, List, [], ◌∷◌}
use Rattle.vp_elab.specs.Tree.{Node, Tree}
use Rattle.vp_policy.specs.Filter.{is_listed}
use Rattle.vp_policy.specs.Users.{Member}

-- of these objects, which were known before or are listed to a user now
abbrev pub known_also : Tree → Member → (known : List Bool) → List Node → List Bool
known_also tree u [] nodes = []
known_also tree u (k ∷ known) [] = []
known_also tree u (k ∷ known) (node ∷ nodes) = (k || is_listed tree u node) ∷ known_also tree u known nodes

-- the index of the marked of a number; after the last of them it goes on past all indexes
abbrev pub known_index : (marks : List Bool) → ℕ → ℕ
known_index [] k = k
known_index (true ∷ marks) zero = zero
known_index (true ∷ marks) (suc k) = suc (known_index marks k)
known_index (false ∷ marks) k = suc (known_index marks k)
