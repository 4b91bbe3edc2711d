-- What is declared in a scope, as a test of each object.
use Rattle.std.proofs.Common.{◌≡◌, ℕ, List, [], ◌∷◌, filter, length, slice_get, Option, Some, None, false, refl}
use Rattle.std.specs.Option.{option_map_or}
use Rattle.vp_elab.specs.Tree.{Node, below, children_named, children_of, is_declared_in, is_in, scope_names}

-- where nothing passes, nothing is in the list
pub filter_none : {A : Type 0} (xs : List A) → filter (λ x. false) xs ≡ []
filter_none [] = refl
filter_none (x ∷ xs) = filter_none xs

children_by :
    (nodes : List Node) (names : Option (List (List ℕ)))
    → filter (λ id. option_map_or (λ names. option_map_or (is_in names) (slice_get nodes id) false) names false) (below (length nodes)) ≡ option_map_or (children_named nodes) names []
children_by nodes None = filter_none (below (length nodes))
children_by nodes (Some names) = refl

-- the objects that are declared in a scope
pub children_filtered : (nodes : List Node) (scope : Option ℕ) → filter (is_declared_in nodes scope) (below (length nodes)) ≡ children_of nodes scope
children_filtered nodes scope = children_by nodes (scope_names nodes scope)
