-- The members of a policy are those of its users.
use Rattle.std.proofs.Common.{◌≡◌, ℕ, zero, suc, Bool, false, List, [], ◌∷◌, map, position, slice_get, Option, Some, None, refl, sym, ap, ◌∙◌}
use Rattle.std.specs.Prelude.{String, if◌then◌else◌, option_and_then, option_map, string_bytes}
use Rattle.std.specs.Map.{keys_of}
use Rattle.std.specs.Option.{option_map_or}
use Rattle.std.specs.Str.{bytes_eq}
use Rattle.vp_text.specs.laws.Searches.{position-map}
use Rattle.std.specs.declared.alloc.Global.{Global}
use Rattle.vp_policy.specs.declared.policy.User.{User}
use Rattle.vp_policy.specs.Members.{member_of}
use Rattle.vp_policy.specs.Users.{Member, has_token, login_of, member_at, user_of}

member_of_user : (es : List (String Global × User)) (n : ℕ) (e : String Global × User) → slice_get es n ≡ Some e → member_at (map member_of es) n ≡ member_of e
member_of_user [] n e h = absurd cc
member_of_user (x ∷ xs) zero e h = let same : x ≡ e = cc in ap member_of same
member_of_user (x ∷ xs) (suc n) e h = member_of_user xs n e h

-- the member of a number is that of the user of that number
pub member_there : (members : List Member) (es : List (String Global × User)) → map member_of es ≡ members → (n : ℕ) (e : String Global × User) → slice_get es n ≡ Some e → member_at members n ≡ member_of e
member_there members es view n e h = ap (λ (ms : List Member). member_at ms n) (sym view) ∙ member_of_user es n e h

keys_are : (es : List (String Global × User)) → keys_of es ≡ map (λ e. e.0) es
keys_are [] = refl
keys_are (e ∷ es) = ap (λ (ks : List (String Global)). e.0 ∷ ks) (keys_are es)

-- the number of the user of a name is the index of the name
pub user_found : (members : List Member) (es : List (String Global × User)) → map member_of es ≡ members → (name : List ℕ) → position (λ k. bytes_eq name (string_bytes k)) (keys_of es) ≡ user_of members name
user_found members es view name =
    ap (position (λ (k : String Global). bytes_eq name (string_bytes k))) (keys_are es)
    ∙ position-map (λ (k : String Global). bytes_eq name (string_bytes k)) (λ (e : String Global × User). e.0) es
    ∙ sym (position-map (λ (u : Member). bytes_eq name u.name) member_of es)
    ∙ ap (λ (ms : List Member). user_of ms name) view

token_by : (members : List Member) (token : List ℕ) (n : ℕ) (b : Bool) → has_token members token n ≡ b → option_and_then (λ user. if has_token members token user then Some user else None) (Some n) ≡ (if b then Some n else None)
token_by members token n b h = ap (λ (x : Bool). if x then Some n else None) h

slice_get_map : (es : List (String Global × User)) (n : ℕ) → slice_get (map member_of es) n ≡ option_map member_of (slice_get es n)
slice_get_map [] n = refl
slice_get_map (e ∷ es) zero = refl
slice_get_map (e ∷ es) (suc n) = slice_get_map es n

-- a user who is found, with this token or another
pub login_found : (members : List Member) (es : List (String Global × User)) → map member_of es ≡ members → (name token : List ℕ) (n : ℕ) (e : String Global × User) (b : Bool) → Some n ≡ position (λ k. bytes_eq name (string_bytes k)) (keys_of es) → slice_get es n ≡ Some e → bytes_eq token e.1.token ≡ b → (if b then Some n else None) ≡ login_of members name token
login_found members es view name token n e b found at is =
    let there : has_token members token n ≡ b =
    ap (λ (ms : List Member). has_token ms token n) (sym view)
    ∙ ap (λ (o : Option Member). option_map_or (λ (u : Member). bytes_eq token u.token) o false) (slice_get_map es n ∙ ap (option_map member_of) at) ∙ is in
    sym (token_by members token n b there)
    ∙ ap (option_and_then (λ user. if has_token members token user then Some user else None)) (found ∙ user_found members es view name)

-- no user of the name
pub login_none : (members : List Member) (es : List (String Global × User)) → map member_of es ≡ members → (name token : List ℕ) → None ≡ position (λ k. bytes_eq name (string_bytes k)) (keys_of es) → None ≡ login_of members name token
login_none members es view name token none =
    ap (option_and_then (λ user. if has_token members token user then Some user else None)) (none ∙ user_found members es view name)
