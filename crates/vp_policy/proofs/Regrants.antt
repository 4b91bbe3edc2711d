-- A user who is exchanged for one with another grant.
use Rattle.std.proofs.Common.{◌≡◌, ℕ, zero, suc, List, [], ◌∷◌, map, set, slice_get, Some, sym, ap, ◌∙◌}
use Rattle.std.specs.Prelude.{String}
use Rattle.std.specs.declared.alloc.Global.{Global}
use Rattle.std.specs.Map.{values_of}
use Rattle.indexmap.specs.IndexMap.{set_value_at}
use Rattle.vp_pragma.specs.Rights.{RightSet}
use Rattle.vp_policy.specs.declared.policy.User.{User}
use Rattle.vp_policy.specs.Members.{member_of}
use Rattle.vp_policy.specs.Regrants.{regranted_user}
use Rattle.vp_policy.specs.Users.{Member, member_at}

-- the member of a number is that of the user of the number, under a name
pub user_at : (es : List (String Global × User)) (n : ℕ) (user : User) → slice_get (values_of es) n ≡ Some user → (name : String Global) × (member_at (map member_of es) n ≡ member_of (name, user))
user_at [] n user h = absurd cc
user_at (e ∷ es) zero user h = (e.0, (let same : e.1 ≡ user = cc in ap (λ (u : User). member_of (e.0, u)) same))
user_at (e ∷ es) (suc n) user h = user_at es n user h

-- the members are as they were, but for the one who is exchanged
pub members_set :
    (es : List (String Global × User)) (n : ℕ) (old new : User) (envelope : ℕ) (access : RightSet)
    → slice_get (values_of es) n ≡ Some old
    → ((name : String Global) → member_of (name, new) ≡ regranted_user envelope access (member_of (name, old)))
    → map member_of (set_value_at es n new) ≡ set (map member_of es) n (regranted_user envelope access (member_at (map member_of es) n))
members_set [] n old new envelope access h is = absurd cc
members_set (e ∷ es) zero old new envelope access h is =
    let same : e.1 ≡ old = cc in
    ap (λ (m : Member). m ∷ map member_of es) (is e.0 ∙ ap (λ (u : User). regranted_user envelope access (member_of (e.0, u))) (sym same))
members_set (e ∷ es) (suc n) old new envelope access h is = ap (λ (ms : List Member). member_of e ∷ ms) (members_set es n old new envelope access h is)
