-- What goes on being known after a change of grants, to the end of the shorter list.
use Rattle.std.proofs.Common.{◌≡◌, ◌⊎◌, ℕ, List, [], ◌∷◌, length, Option, refl, arith, inl, inr}
use Rattle.vp_bits.specs.declared.bit.Bit.{Bit}
use Rattle.vp_replay.specs.Explained.{numbers_kept}
use Rattle.vp_replay.specs.Parts.{granted_values}

-- values, where one of the two lists has ended
pub values_end : (moved : List ℕ) (known came : List (Option (List Bit))) → (length moved ≡ 0) ⊎ (length known ≡ 0) → granted_values moved known came ≡ came
values_end [] known came either = refl
values_end (n ∷ moved) [] came either = refl
values_end (n ∷ moved) (v ∷ known) came either = absurd (elim either [ inl e ↦ omega (arith, e) | inr e ↦ omega (arith, e) ])

-- numbers, where one of the two lists has ended
pub numbers_end : (moved : List ℕ) (came : List (Option (List Bit))) (brought numbers : List ℕ) → (length moved ≡ 0) ⊎ (length brought ≡ 0) → numbers_kept moved came brought numbers ≡ numbers
numbers_end [] came brought numbers either = refl
numbers_end (n ∷ moved) came [] numbers either = refl
numbers_end (n ∷ moved) came (b ∷ brought) numbers either = absurd (elim either [ inl e ↦ omega (arith, e) | inr e ↦ omega (arith, e) ])
