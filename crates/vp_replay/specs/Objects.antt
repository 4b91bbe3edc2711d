-- The objects of a view, by their numbers.
use Rattle.std.specs.Prelude.{ℕ, zero, suc, ◌+◌, nat_lt, Bool, if◌then◌else◌, List, [], ◌∷◌, map, not, slice_get, Option, Some, None}
use Rattle.std.specs.Option.{option_map_or}
use Rattle.vp_bits.specs.declared.bit.Bit.{Bit}
use Rattle.vp_bits.specs.declared.bit.Bit.TheVariants.{Unknown}
use Rattle.vp_pragma.specs.declared.rights.Right.TheVariants as right
use Rattle.vp_pragma.specs.declared.rights.Rights.{Rights}
use Rattle.vp_pragma.specs.Rights.{has, set_of}
use Rattle.vp_policy.specs.declared.grant.GrantedBy.{GrantedBy}
use Rattle.vp_policy.specs.SeenObjects.{path_to}
use Rattle.vp_policy.specs.View.{SeenNode, View}

-- a number, if one is given and it is below another; else none
abbrev pub before : ℕ → Option ℕ → Option ℕ
before n None = None
before n (Some p) = if nat_lt p n then Some p else None

-- at most so many steps lead to a scope: each has a smaller number than the one after it
abbrev pub most_steps : (scope : Option ℕ) → ℕ
most_steps None = 0
most_steps (Some o) = o + 1

-- the names to a scope; none where no object is
abbrev pub names_to : List SeenNode → (scope : Option ℕ) → List (List ℕ)
names_to nodes scope = map (λ s. s.name) (path_to nodes scope)

-- the author of the envelope of a number, and by what the user has a grant entry for it; none of the open text
abbrev pub envelope_at : View → (number : ℕ) → Option (List ℕ × GrantedBy)
envelope_at v zero = None
envelope_at v (suc n) = slice_get v.envelopes n

-- the value of the object of a number, by the values that are known; one bit that is x where it is not known
abbrev pub known_value : List (Option (List Bit)) → ℕ → List Bit
known_value values o = option_map_or (λ x. option_map_or (λ bits. bits) x (Unknown ∷ [])) (slice_get values o) (Unknown ∷ [])

-- rights lack the right to watch
abbrev pub is_unwatchable : Rights → Bool
is_unwatchable his = not (has right.Watch (set_of his))
