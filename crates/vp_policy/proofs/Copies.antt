-- Users that are copied one by one, under names of which each stands there once.
use Rattle.std.proofs.Common.{◌≡◌, false, ◌||◌, Bool, List, [], ◌∷◌, ◌++◌, map, None, refl, sym, ap, subst, ◌∙◌}
use Rattle.std.specs.Prelude.{String, string_bytes}
use Rattle.std.specs.declared.alloc.Global.{Global}
use Rattle.std.specs.List.{AllByRecursion, IsDistinct}
use Rattle.std.specs.Map.{keys_of, lookup}
use Rattle.std.specs.Str.{bytes_eq}
use Rattle.std.specs.String.{string_eq, string_eq_equiv}
use Rattle.std.proofs.lemmas.List.{append_assoc, map-append}
use Rattle.std.proofs.lemmas.Map.Keys.{IsDistinct-head, IsDistinct-tail}
use Rattle.vp_policy.specs.declared.policy.User.{User}
use Rattle.vp_policy.specs.File.{has_user}
use Rattle.vp_policy.specs.Members.{member_of}
use Rattle.vp_policy.specs.Users.{Member}
use Rattle.vp_policy.proofs.Tables.{none_of, user_there}

name_apart : (k : String Global) (es rest : List (String Global × User)) (e : String Global × User) → AllByRecursion (λ y. string_eq k y ≡ false) (keys_of (es ++ e ∷ rest)) → string_eq k e.0 ≡ false
name_apart k [] rest e h = h.0
name_apart k (d ∷ es) rest e h = name_apart k es rest e h.1

-- a name is that of none of the users before it
fresh : (es rest : List (String Global × User)) (e : String Global × User) → IsDistinct string_eq (keys_of (es ++ e ∷ rest)) → has_user (map member_of es) (string_bytes e.0) ≡ false
fresh [] rest e h = refl
fresh (d ∷ es) rest e h =
    let apart : string_eq e.0 d.0 ≡ false = string_eq_equiv.symm e.0 d.0 ∙ name_apart d.0 es rest e (IsDistinct-head string_eq d.0 (keys_of (es ++ e ∷ rest)) h) in
    ap (λ (b : Bool). b || has_user (map member_of es) (string_bytes e.0)) apart
    ∙ fresh es rest e (IsDistinct-tail string_eq d.0 (keys_of (es ++ e ∷ rest)) h)

-- so it is new among the copies of these
pub name_is_new :
    (all done es left rest : List (String Global × User)) (e copy : String Global × User)
    → IsDistinct string_eq (keys_of all) → done ++ left ≡ all → left ≡ e ∷ rest → map member_of es ≡ map member_of done → member_of copy ≡ member_of e
    → lookup (λ k. bytes_eq (string_bytes copy.0) (string_bytes k)) es ≡ None
name_is_new all done es left rest e copy apart split next copied same =
    let whole : done ++ e ∷ rest ≡ all = ap (λ (xs : List (String Global × User)). done ++ xs) (sym next) ∙ split in
    none_of (lookup (λ k. bytes_eq (string_bytes copy.0) (string_bytes k)) es)
    (sym (user_there (string_bytes copy.0) es)
    ∙ ap (λ (m : Member). has_user (map member_of es) m.name) same
    ∙ ap (λ (ms : List Member). has_user ms (string_bytes e.0)) copied
    ∙ fresh done rest e (subst (λ (xs : List (String Global × User)). IsDistinct string_eq (keys_of xs)) (sym whole) apart))

-- one user more is copied
pub copied_more :
    (all done es fs left rest : List (String Global × User)) (e copy : String Global × User)
    → done ++ left ≡ all → left ≡ e ∷ rest → map member_of es ≡ map member_of done → member_of copy ≡ member_of e → fs ≡ es ++ copy ∷ []
    → (more : List (String Global × User)) × (more ++ rest ≡ all) × (map member_of fs ≡ map member_of more)
copied_more all done es fs left rest e copy split next copied same is = (
  done ++ e ∷ [],
  append_assoc done (e ∷ []) rest ∙ ap (λ (xs : List (String Global × User)). done ++ xs) (sym next) ∙ split,
  ap (map member_of) is ∙ map-append member_of es (copy ∷ []) ∙ ap (λ (ms : List Member). ms ++ member_of copy ∷ []) copied
      ∙ ap (λ (m : Member). map member_of done ++ m ∷ []) same ∙ sym (map-append member_of done (e ∷ [])),
)
