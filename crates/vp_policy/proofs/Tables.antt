-- The users that are read, and the table in which they stand by their names.
use Rattle.std.proofs.Common.{◌≡◌, ℕ, Bool, true, false, ◌||◌, List, [], ◌∷◌, ◌++◌, map, Option, Some, None, refl, sym, ap, ◌∙◌, cond}
use Rattle.std.specs.Prelude.{String, is_some, not, string_bytes}
use Rattle.std.specs.Map.{lookup}
use Rattle.std.specs.Str.{bytes_eq}
use Rattle.std.specs.declared.alloc.Global.{Global}
use Rattle.std.proofs.lemmas.List.{append_assoc, append-nil, map-append}
use Rattle.std.proofs.Math.Bool.{or-false}
use Rattle.vp_policy.specs.declared.policy.User.{User}
use Rattle.vp_policy.specs.File.{has_user, is_named_twice}
use Rattle.vp_policy.specs.Members.{member_of}
use Rattle.vp_policy.specs.Users.{Member}

-- of users that are read, whether each name stands there once, and the entries of the table, where each does
pub record AreRead (done : List Member) (once : Bool) (entries : List (String Global × User)) : Type 0 where
  pub twice : is_named_twice [] done ≡ not once
  pub shown : once ≡ true → map member_of entries ≡ done

or_assoc : (a b c : Bool) → (a || (b || c)) ≡ ((a || b) || c)
or_assoc true b c = refl
or_assoc false b c = refl

-- one user more has a name that stands there, or two before him have one
twice_last : (before us : List Member) (u : Member) → is_named_twice before (us ++ u ∷ []) ≡ (is_named_twice before us || has_user (before ++ us) u.name)
twice_last before [] u = or-false (has_user before u.name) ∙ ap (λ (vs : List Member). has_user vs u.name) (sym (append-nil before))
twice_last before (v ∷ us) u =
    ap (λ (b : Bool). has_user before v.name || b)
    (twice_last (before ++ v ∷ []) us u ∙ ap (λ (vs : List Member). is_named_twice (before ++ v ∷ []) us || has_user vs u.name) (append_assoc before (v ∷ []) us))
    ∙ or_assoc (has_user before v.name) (is_named_twice (before ++ v ∷ []) us) (has_user (before ++ v ∷ us) u.name)

found_by : (b : Bool) (x : User) (rest : Option User) → (b || is_some rest) ≡ is_some (cond b (Some x) rest)
found_by true x rest = refl
found_by false x rest = refl

-- a name is that of a user of the table where it is among its keys
pub user_there : (name : List ℕ) (es : List (String Global × User)) → has_user (map member_of es) name ≡ is_some (lookup (λ k. bytes_eq name (string_bytes k)) es)
user_there name [] = refl
user_there name (e ∷ es) =
    ap (λ (b : Bool). bytes_eq name (string_bytes e.0) || b) (user_there name es)
    ∙ found_by (bytes_eq name (string_bytes e.0)) e.1 (lookup (λ k. bytes_eq name (string_bytes k)) es)

-- one user more, whose name stands there
pub read_twice :
    (done : List Member) (once : Bool) (es fs : List (String Global × User)) (name : String Global) (user : User)
    → AreRead done once es → is_some (lookup (λ k. bytes_eq (string_bytes name) (string_bytes k)) es) ≡ true
    → AreRead (done ++ member_of (name, user) ∷ []) false fs
read_twice done true es fs name user so_far there = record {
  twice =
      twice_last [] done (member_of (name, user)) ∙ ap (λ (b : Bool). b || has_user done (string_bytes name)) so_far.twice
      ∙ ap (λ (us : List Member). has_user us (string_bytes name)) (sym (so_far.shown refl)) ∙ user_there (string_bytes name) es ∙ there;
  shown = λ h. absurd cc;
}
read_twice done false es fs name user so_far there = record {
  twice = twice_last [] done (member_of (name, user)) ∙ ap (λ (b : Bool). b || has_user done (string_bytes name)) so_far.twice;
  shown = λ h. absurd cc;
}

-- an option that is not some is none
pub none_of : (o : Option User) → is_some o ≡ false → o ≡ None
none_of None h = refl
none_of (Some u) h = absurd cc

-- one user more, whose name is new
pub read_once :
    (done : List Member) (once : Bool) (es fs : List (String Global × User)) (name : String Global) (user : User)
    → AreRead done once es → is_some (lookup (λ k. bytes_eq (string_bytes name) (string_bytes k)) es) ≡ false
    → fs ≡ es ++ (name, user) ∷ []
    → AreRead (done ++ member_of (name, user) ∷ []) once fs
read_once done true es fs name user so_far new more = record {
  twice =
      twice_last [] done (member_of (name, user)) ∙ ap (λ (b : Bool). b || has_user done (string_bytes name)) so_far.twice
      ∙ ap (λ (us : List Member). has_user us (string_bytes name)) (sym (so_far.shown refl)) ∙ user_there (string_bytes name) es ∙ new;
  shown =
      λ h. ap (map member_of) more ∙ map-append member_of es ((name, user) ∷ [])
      ∙ ap (λ (us : List Member). us ++ member_of (name, user) ∷ []) (so_far.shown refl);
}
read_once done false es fs name user so_far new more = record {
  twice = twice_last [] done (member_of (name, user)) ∙ ap (λ (b : Bool). b || has_user done (string_bytes name)) so_far.twice;
  shown = λ h. absurd cc;
}
