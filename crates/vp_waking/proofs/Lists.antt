-- Lists of listeners that change below their model.
use Rattle.std.proofs.Common.{◌≡◌, ◌∙◌, ℕ, zero, suc, ◌==◌, ◌<◌, Bool, true, false, List, [], ◌∷◌, ◌++◌, ap, sym, subst, length, map, set, get_or, refl}
use Rattle.std.proofs.lemmas.Bool.{eqb-true, eqb-false}
use Rattle.std.proofs.lemmas.List.{get_or-map, get_or-set_same, get_or-set_other, length-map, map-set, map_push}

push_nothing : (xs : List (List ℕ)) (k : ℕ) → get_or (xs ++ [] ∷ []) k [] ≡ get_or xs k []
push_nothing [] zero = refl
push_nothing [] (suc k) = refl
push_nothing (x ∷ xs) zero = refl
push_nothing (x ∷ xs) (suc k) = push_nothing xs k

-- one more list that is empty
pub grown : {V : Type 0} (f : V → List ℕ) (lists : List V) (v : V) (k : ℕ) → f v ≡ [] → get_or (map f (lists ++ v ∷ [])) k [] ≡ get_or (map f lists) k []
grown f lists v k e =
    ap (λ (xs : List (List ℕ)). get_or xs k []) (map_push f lists v)
    ∙ ap (λ (l : List ℕ). get_or (map f lists ++ l ∷ []) k []) e
    ∙ push_nothing (map f lists) k

-- a list that is shown in another way
pub shown : {V : Type 0} (f : V → List ℕ) (lists : List V) (n : ℕ) (v : V) → n < length lists → v ≡ get_or lists n v → f v ≡ get_or (map f lists) n []
shown f lists n v within at = ap f at ∙ sym (get_or-map f lists n v [] within)

changed_at : (lists : List (List ℕ)) (n k : ℕ) (l : List ℕ) (g : Bool → List ℕ → List ℕ) (b : Bool) → n < length lists → (n == k) ≡ b → l ≡ g true (get_or lists n []) → ((xs : List ℕ) → g false xs ≡ xs) → get_or (set lists n l) k [] ≡ g b (get_or lists k [])
changed_at lists n k l g true within t is other =
    let same : n ≡ k = eqb-true n k t in
    ap (λ i. get_or (set lists n l) i []) (sym same) ∙ get_or-set_same lists n l [] within ∙ is ∙ ap (λ i. g true (get_or lists i [])) same
changed_at lists n k l g false within t is other =
    get_or-set_other lists n k l [] (λ e. eqb-false n k t (sym e)) ∙ sym (other (get_or lists k []))

-- one of the lists is exchanged
pub exchanged :
    {V : Type 0} (f : V → List ℕ) (lists : List V) (n k : ℕ) (v w : V) (g : Bool → List ℕ → List ℕ) (before : List ℕ)
    → n < length lists → v ≡ get_or lists n v → f w ≡ g true (f v) → ((xs : List ℕ) → g false xs ≡ xs) → get_or (map f lists) k [] ≡ before
    → get_or (map f (set lists n w)) k [] ≡ g (n == k) before
exchanged f lists n k v w g before within at is other was =
    ap (λ (xs : List (List ℕ)). get_or xs k []) (map-set f lists n w)
    ∙ changed_at (map f lists) n k (f w) g (n == k) (subst (λ m. n < m) (sym (length-map lists f)) within) refl
    (is ∙ ap (g true) (shown f lists n v within at)) other
    ∙ ap (g (n == k)) was
