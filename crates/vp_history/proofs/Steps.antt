-- The ghost side of each step. Assumes `Logic`.
use Rattle.std.proofs.Common.{ℕ, List, [], ◌∷◌, ◌++◌, map, subst}
use mathlib.Core.List.{IsPrefix}
use seplogic.Ra.Ura.{Ura}
use base.Fraction.{full_share}
use base.Stored.{Coded}
use base.Logic.{SProp, ent, sep, ex, guard, emp, via}
use base.Fml.{Fml}
use base.Shift.{Keyless}
use base.Growing.{latest, at_least}
use types.Logic.{Logic, sem}
use types.Owned.{basic}
use types.Growing.{latest_new, latest_grows, latest_shows, latest_bounds, at_least_dup}
use types.Kit.{‵, ◌⊛◌, given, ◌$◌, ◌∵◌, !, qed, learn, check, done, use2}
use Rattle.logbook.specs.Kept.{logs}
use Rattle.logbook.proofs.Roster.{prefix_out, prefix_in}
use Rattle.vp_history.specs.Kept.{lengthens, reached}

module _ {M : Type 1} {𝓤 : Ura M} (𝓛 : Logic 𝓤) {E : Type 0} (cv : Coded E) where
  open 𝓛 use {H}

  abbrev ◌⊢◌ : SProp 𝓤 → SProp 𝓤 → Type 1
  P ⊢ Q = ent 𝓤 P Q

  abbrev ◌∗◌ : SProp 𝓤 → SProp 𝓤 → SProp 𝓤
  P ∗ Q = sep 𝓤 P Q

  abbrev ⟦◌⟧ : Fml → SProp 𝓤
  ⟦ P ⟧ = sem 𝓛 P

  infix 26 ◌⊢◌
  infixr 35 ◌∗◌
  pub begins : emp 𝓤 ⊢ H.⇛ (ex 𝓤 (λ (γ : ℕ). ⟦ lengthens cv.code γ [] ⟧))
  begins = via 𝓤 _ (latest_new logs 𝓛 []) (basic 𝓛 _)

  pub grows : (γ : ℕ) (l : List E) (e : E) → ⟦ lengthens cv.code γ l ⟧ ⊢ H.⇛ ⟦ lengthens cv.code γ (l ++ e ∷ []) ⟧
  grows γ l e = via 𝓤 _ (latest_grows logs 𝓛 γ (map cv.code l) (map cv.code (l ++ e ∷ [])) (prefix_in cv l (e ∷ []))) (basic 𝓛 _)

  pub advances : (γ : ℕ) (l m : List E) → IsPrefix l m → ⟦ lengthens cv.code γ l ⟧ ⊢ H.⇛ ⟦ lengthens cv.code γ m ⟧
  advances γ l m p = via 𝓤 _ (latest_grows logs 𝓛 γ (map cv.code l) (map cv.code m) (subst (λ (n : List E). IsPrefix (map cv.code l) (map cv.code n)) p.1 (prefix_in cv l p.0))) (basic 𝓛 _)

  pub shows : (γ : ℕ) (l : List E) → ⟦ lengthens cv.code γ l ⟧ ⊢ ⟦ lengthens cv.code γ l ⟧ ∗ ⟦ reached cv.code γ l ⟧
  shows γ l = latest_shows logs 𝓛 full_share γ (map cv.code l) (map cv.code l) (logs.same (map cv.code l))

  pub bounds : (γ : ℕ) (l f : List E) → ⟦ lengthens cv.code γ l ⟧ ∗ ⟦ reached cv.code γ f ⟧ ⊢ guard 𝓤 (IsPrefix f l) (⟦ lengthens cv.code γ l ⟧ ∗ ⟦ reached cv.code γ f ⟧)
  bounds γ l f = qed 𝓛 (‵ (lengthens cv.code γ l) ∷ ‵ (reached cv.code γ f) ∷ []) ∵
      use2 𝓛 (given (IsPrefix (map cv.code f) (map cv.code l)) (‵ (lengthens cv.code γ l) ⊛ ‵ (reached cv.code γ f))) (latest_bounds logs 𝓛 full_share γ (map cv.code l) (map cv.code f)) $
      learn ! (λ p. check ! (prefix_out cv f l p) $ done !)

  pub twice : (γ : ℕ) (f : List E) → ⟦ reached cv.code γ f ⟧ ⊢ ⟦ reached cv.code γ f ⟧ ∗ ⟦ reached cv.code γ f ⟧
  twice γ f = at_least_dup logs 𝓛 γ (map cv.code f)

pub lengthens_keyless : {E : Type 0} (cv : Coded E) (γ : ℕ) (l : List E) → Keyless (lengthens cv.code γ l)
unfolding latest
lengthens_keyless cv γ l = tt

pub reached_keyless : {E : Type 0} (cv : Coded E) (γ : ℕ) (l : List E) → Keyless (reached cv.code γ l)
unfolding at_least
reached_keyless cv γ l = tt
