-- The users of a policy, and what is granted to them.
use Rattle.std.specs.Prelude.{ℕ, zero, suc, ◌==◌, ◌||◌, not, Bool, true, false, if◌then◌else◌, List, [], ◌∷◌, slice_get, slice_index_or, Option, Some, None, option_and_then}
use Rattle.std.specs.List.{list_all, list_any, position}
use Rattle.std.specs.Option.{option_map_or}
use Rattle.std.specs.Str.{bytes_eq}
use Rattle.vp_pragma.specs.Rights.{RightSet, nothing, either}
use Rattle.vp_policy.specs.declared.grant.GrantedBy.{GrantedBy}
use Rattle.vp_policy.specs.declared.grant.GrantedBy.TheVariants as by

-- a grant entry: the number of the envelope, what is granted there, and whether the grant names the envelope's author (profile)
pub record GrantEntry : Type 0 where
  pub envelope : ℕ
  pub access : RightSet
  pub names_author : Bool

-- a user: his name and token, his rights in the open text, his grants by envelope, whether he may run the design, and how many sessions he may
-- have open at once (profile)
pub record Member : Type 0 where
  pub name : List ℕ
  pub token : List ℕ
  pub open_set : RightSet
  pub grants : List GrantEntry
  pub run : Bool
  pub sessions : ℕ

-- what these grants give in an envelope; several for one envelope are joined
abbrev pub granted_by : List GrantEntry → ℕ → RightSet
granted_by [] envelope = nothing
granted_by (g ∷ gs) envelope = if g.envelope == envelope then either g.access (granted_by gs envelope) else granted_by gs envelope

-- what is granted to a user in an envelope: in the open text his open set, elsewhere his grants (profile)
abbrev pub granted : Member → ℕ → RightSet
granted u zero = u.open_set
granted u (suc e) = granted_by u.grants (suc e)

-- one of these grants is for an envelope, be it empty
abbrev pub has_grant : List GrantEntry → ℕ → Bool
has_grant grants envelope = list_any (λ g. g.envelope == envelope) grants

-- a user has a grant entry for an envelope, be it empty
abbrev pub has_entry : Member → ℕ → Bool
has_entry u envelope = has_grant u.grants envelope

-- each of these grants for an envelope names its author
abbrev pub all_name_author : List GrantEntry → ℕ → Bool
all_name_author grants envelope = list_all (λ g. not (g.envelope == envelope) || g.names_author) grants

-- by what these grants are for an envelope: by its author where each of them for it names the author, else by its number (profile)
abbrev pub entry_among : List GrantEntry → ℕ → GrantedBy
entry_among grants envelope =
    if has_grant grants envelope then (if all_name_author grants envelope then by.Author else by.Number) else by.Nothing

-- he has an entry, by its number or its author
abbrev pub is_entry : GrantedBy → Bool
is_entry by.Nothing = false
is_entry by.Number = true
is_entry by.Author = true

-- by what a user has a grant entry for an envelope, if he has one
abbrev pub entry_of : Member → ℕ → GrantedBy
entry_of u envelope = entry_among u.grants envelope

-- what stands for a user who is not there
abbrev pub nobody : Member
nobody = record { name = []; token = []; open_set = nothing; grants = []; run = false; sessions = 0 }

-- the user of a number
abbrev pub member_at : List Member → ℕ → Member
member_at users n = slice_index_or users n nobody

-- the number of the user of a name
abbrev pub user_of : List Member → List ℕ → Option ℕ
user_of users name = position (λ u. bytes_eq name u.name) users

-- a token is that of the user of a number
abbrev pub has_token : List Member → List ℕ → ℕ → Bool
has_token users token user = option_map_or (λ u. bytes_eq token u.token) (slice_get users user) false

-- the number of the user of a name, if this token is his (profile)
abbrev pub login_of : List Member → List ℕ → List ℕ → Option ℕ
login_of users name token =
    option_and_then (λ user. if has_token users token user then Some user else None) (user_of users name)
