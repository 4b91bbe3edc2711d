-- Grants that change, and the operator who changes them.
use Rattle.std.specs.Prelude.{ℕ, zero, suc, ◌==◌, not, Bool, false, List, [], ◌∷◌, ◌++◌, filter, slice_set}
use Rattle.std.specs.Option.{option_map_or}
use Rattle.std.specs.Str.{bytes_eq}
use Rattle.vp_pragma.specs.Rights.{RightSet}
use Rattle.vp_policy.specs.PolicyState.{PolicyState}
use Rattle.vp_policy.specs.Users.{GrantEntry, Member, member_at}

-- a token is the operator's; none is where the file has no operator (profile)
abbrev pub is_operator : PolicyState → (token : List ℕ) → Bool
is_operator policy token = option_map_or (bytes_eq token) policy.operator false

-- a grant entry by the envelope's number
abbrev pub by_number : (envelope : ℕ) → RightSet → GrantEntry
by_number envelope access = record { envelope = envelope; access = access; names_author = false }

-- these grants, but for an envelope exactly this one, be it empty
abbrev pub with_grant : List GrantEntry → (envelope : ℕ) → RightSet → List GrantEntry
with_grant grants envelope access = filter (λ g. not (g.envelope == envelope)) grants ++ by_number envelope access ∷ []

-- a user whose grant for an envelope is exactly this; for the open text that is his open set (profile)
abbrev pub regranted_user : (envelope : ℕ) → RightSet → Member → Member
regranted_user zero access u = record u { open_set = access }
regranted_user (suc e) access u = record u { grants = with_grant u.grants (suc e) access }

-- the policy in which the grant of one user for an envelope is exactly this, and all else as it was (profile)
abbrev pub regranted : PolicyState → (user envelope : ℕ) → RightSet → PolicyState
regranted policy user envelope access = record policy {
  members = slice_set policy.members user (regranted_user envelope access (member_at policy.members user));
}
