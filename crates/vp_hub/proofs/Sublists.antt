-- Lists that have the items of another but for some.
use Rattle.std.proofs.Common.{◌≡◌, ◌≤◌, ℕ, List, [], ◌∷◌, ◌++◌, length, inl, inr, refl, ⊎_elim, arith}
use Rattle.vp_hub.specs.Calls.{IsSublist}

-- more items behind
pub sub_append : (xs ys zs : List ℕ) → IsSublist xs ys → IsSublist xs (ys ++ zs)
sub_append [] ys zs s = tt
sub_append (x ∷ xs) [] zs s = absurd s
sub_append (x ∷ xs) (y ∷ ys) zs s =
    ⊎_elim
    (λ (h : (x ≡ y) × IsSublist xs ys). inl (h.0, sub_append xs ys zs h.1))
    (λ (t : IsSublist (x ∷ xs) ys). inr (sub_append (x ∷ xs) ys zs t))
    s

-- the same item behind both
pub sub_push : (xs ys : List ℕ) (z : ℕ) → IsSublist xs ys → IsSublist (xs ++ z ∷ []) (ys ++ z ∷ [])
sub_push [] [] z s = inl (refl, tt)
sub_push [] (y ∷ ys) z s = inr (sub_push [] ys z tt)
sub_push (x ∷ xs) [] z s = absurd s
sub_push (x ∷ xs) (y ∷ ys) z s =
    ⊎_elim
    (λ (h : (x ≡ y) × IsSublist xs ys). inl (h.0, sub_push xs ys z h.1))
    (λ (t : IsSublist (x ∷ xs) ys). inr (sub_push (x ∷ xs) ys z t))
    s

-- it is no longer
pub sub_within : (xs ys : List ℕ) → IsSublist xs ys → length xs ≤ length ys
sub_within [] ys s = omega arith
sub_within (x ∷ xs) [] s = absurd s
sub_within (x ∷ xs) (y ∷ ys) s =
    ⊎_elim
    (λ (h : (x ≡ y) × IsSublist xs ys). let rest = sub_within xs ys h.1 in omega arith)
    (λ (t : IsSublist (x ∷ xs) ys). let rest = sub_within (x ∷ xs) ys t in omega arith)
    s

-- and of the same length only if it is the same
pub sub_whole : (xs ys : List ℕ) → IsSublist xs ys → length xs ≡ length ys → xs ≡ ys
sub_whole [] [] s e = refl
sub_whole [] (y ∷ ys) s e = absurd (omega arith)
sub_whole (x ∷ xs) [] s e = absurd s
sub_whole (x ∷ xs) (y ∷ ys) s e =
    ⊎_elim
    (λ (h : (x ≡ y) × IsSublist xs ys). let rest = sub_whole xs ys h.1 (omega arith) in λ i. h.0 i ∷ rest i)
    (λ (t : IsSublist (x ∷ xs) ys). let shorter = sub_within (x ∷ xs) ys t in absurd (omega arith))
    s
