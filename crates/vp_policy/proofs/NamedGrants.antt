-- The envelopes that a grant of a file names, one after the other, and the grants of a user.
use Rattle.std.proofs.Common.{◌≡◌, ℕ, suc, ◌+◌, ◌<◌, Bool, true, false, ◌||◌, List, [], ◌∷◌, ◌++◌, length, map, filter, take, get_or, Option, Some, None, refl, sym, ap, ◌∙◌, arith, cond}
use Rattle.std.specs.Prelude.{is_some, option_map}
use Rattle.std.specs.List.{enumerate_from, flat_map, list_any}
use Rattle.std.proofs.Math.Bool.{or-false}
use Rattle.std.proofs.lemmas.List.{append-nil, length-take, map-append, take_more}
use Rattle.std.proofs.lemmas.List.Concat.{flat_map-append}
use Rattle.std.proofs.lemmas.List.Elements.{filter-append}
use Rattle.std.proofs.lemmas.List.Folds.{list_any-append}
use Rattle.vp_elab.specs.Tree.{author_in}
use Rattle.vp_policy.specs.declared.grant.Grant.{Grant}
use Rattle.vp_policy.specs.File.{FileGrant, entries_for, entry_for, is_named}
use Rattle.vp_policy.specs.Members.{grant_shown}
use Rattle.vp_policy.specs.Users.{GrantEntry}

-- an option that is mapped is there where it was
pub mapped_there : {X Y : Type 0} (f : X → Y) (o : Option X) → is_some o ≡ is_some (option_map f o)
mapped_there f None = refl
mapped_there f (Some x) = refl

-- one of a list with one more is so
pub any_more : {X : Type 0} (p : X → Bool) (xs : List X) (x : X) → list_any p (xs ++ x ∷ []) ≡ (list_any p xs || p x)
any_more p xs x = list_any-append p xs (x ∷ []) ∙ ap (λ (b : Bool). list_any p xs || b) (or-false (p x))

numbered_last : {X : Type 0} (n k : ℕ) (xs : List X) (x : X) → k ≡ n + length xs → enumerate_from n (xs ++ x ∷ []) ≡ enumerate_from n xs ++ (k, x) ∷ []
numbered_last {X} n k [] x e = let same : n ≡ k = omega arith in ap (λ (i : ℕ). (let p : ℕ × X = (i, x) in p ∷ [])) same
numbered_last n k (y ∷ xs) x e = ap (λ ps. (n, y) ∷ ps) (numbered_last (n + 1) k xs x (omega arith))

-- one envelope more, with its author
pub numbered_more :
    (authors : List (List ℕ)) (n : ℕ) (author : List ℕ) → n < length authors → author ≡ author_in authors (n + 1)
    → enumerate_from 1 (take (n + 1) authors) ≡ enumerate_from 1 (take n authors) ++ (n + 1, author) ∷ []
numbered_more authors n author l is =
    let next : n + 1 ≡ suc n = omega arith in
    let here : author ≡ get_or authors n [] = is ∙ ap (author_in authors) next in
    let count : n + 1 ≡ 1 + length (take n authors) = let long = length-take n authors in omega arith in
    ap (enumerate_from 1) (take_more authors n [] l) ∙ numbered_last 1 (n + 1) (take n authors) (get_or authors n []) count
    ∙ ap (λ (a : List ℕ). (let e : ℕ × List ℕ = (n + 1, a) in enumerate_from 1 (take n authors) ++ e ∷ [])) (sym here)

-- the entries of a grant with one envelope more, of which it is known whether the grant names it
pub entries_more :
    (authors : List (List ℕ)) (g : FileGrant) (n : ℕ) (author : List ℕ) (b : Bool) → n < length authors → author ≡ author_in authors (n + 1)
    → b ≡ is_named g (n + 1, author)
    → entries_for (take (n + 1) authors) g ≡ entries_for (take n authors) g ++ cond b (entry_for g (n + 1, author) ∷ []) []
entries_more authors g n author b l is named =
    let before : List (ℕ × List ℕ) = enumerate_from 1 (take n authors) in
    let e : ℕ × List ℕ = (n + 1, author) in
    ap (λ es. map (entry_for g) (filter (is_named g) es)) (numbered_more authors n author l is)
    ∙ ap (map (entry_for g)) (filter-append (is_named g) before (e ∷ []))
    ∙ ap (λ (c : Bool). map (entry_for g) (filter (is_named g) before ++ cond c (e ∷ []) [])) (sym named)
    ∙ map-append (entry_for g) (filter (is_named g) before) (cond b (e ∷ []) []) ∙ mapped b where
      mapped : (c : Bool) → (map (entry_for g) (filter (is_named g) (enumerate_from 1 (take n authors))) ++ map (entry_for g) (cond c ((n + 1, author) ∷ []) [])) ≡ entries_for (take n authors) g ++ cond c (entry_for g (n + 1, author) ∷ []) []
      mapped true = refl
      mapped false = refl

-- whether the grant names one of the envelopes, with one more
pub named_more :
    (authors : List (List ℕ)) (g : FileGrant) (n : ℕ) (author : List ℕ) → n < length authors → author ≡ author_in authors (n + 1)
    → list_any (is_named g) (enumerate_from 1 (take (n + 1) authors)) ≡ (list_any (is_named g) (enumerate_from 1 (take n authors)) || is_named g (n + 1, author))
named_more authors g n author l is =
    ap (list_any (is_named g)) (numbered_more authors n author l is) ∙ any_more (is_named g) (enumerate_from 1 (take n authors)) (n + 1, author)

-- one grant more of a user
pub grants_more :
    (authors : List (List ℕ)) (all : List FileGrant) (g : FileGrant) (before after : List Grant)
    → map grant_shown before ≡ flat_map (entries_for authors) all → map grant_shown after ≡ map grant_shown before ++ entries_for authors g
    → map grant_shown after ≡ flat_map (entries_for authors) (all ++ g ∷ [])
grants_more authors all g before after are more =
    more ∙ ap (λ (es : List GrantEntry). es ++ entries_for authors g) are
    ∙ sym (flat_map-append (entries_for authors) all (g ∷ []) ∙ ap (λ (es : List GrantEntry). flat_map (entries_for authors) all ++ es) (append-nil (entries_for authors g)))
