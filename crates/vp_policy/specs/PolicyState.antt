-- What a contract sees of a policy.
use Rattle.std.specs.Prelude.{◌≡◌, ℕ, List, Option}
use Rattle.vp_elab.specs.Tree.{Tree}
use Rattle.vp_policy.specs.Users.{Member}

-- a policy: the tree of the design for which it was read, its users in the order of the file, and the operator's token, if it has
-- one (profile)
pub record PolicyState : Type 0 where
  pub tree : Tree
  pub members : List Member
  pub operator : Option (List ℕ)

-- a policy fits a design: it was read for the design's tree
abbrev pub Fits : PolicyState → Tree → Type 0
Fits policy tree = policy.tree ≡ tree
