-- Of each object something, one after the other.
use Rattle.std.proofs.Common.{◌≡◌, ◌∙◌, ℕ, zero, suc, ◌+◌, ◌==◌, ◌≤◌, nat_lt, Bool, true, false, ◌&&◌, List, [], ◌∷◌, ◌++◌, length, Option, Some, None, refl, ap, sym, arith, inl, inr}
use Rattle.std.specs.Prelude.{if◌then◌else◌, is_some, slice_get}
use Rattle.std.specs.Option.{option_map_or}
use Rattle.std.proofs.lemmas.Bool.{cases_eq, cases_lt}
use Rattle.vp_pragma.specs.declared.rights.Right.TheVariants as right
use Rattle.vp_policy.specs.View.{SeenNode, View}
use Rattle.vp_replay.specs.Seen.{denial_seen, denied_seen}

-- what stands after the others, and what stands before it
last_there : {X : Type 0} (xs : List X) (x : X) → slice_get (xs ++ x ∷ []) (length xs) ≡ Some x
last_there [] x = refl
last_there (y ∷ xs) x = last_there xs x

others_there : {X : Type 0} (xs : List X) (x : X) (o : ℕ) → (o ≡ length xs → ⊥) → slice_get (xs ++ x ∷ []) o ≡ slice_get xs o
others_there [] x zero n = absurd (n refl)
others_there [] x (suc o) n = refl
others_there (y ∷ xs) x zero n = refl
others_there (y ∷ xs) x (suc o) n = others_there xs x o (λ e. n (ap suc e))

-- one more
pub each_more : {X : Type 0} (f : X → Bool) (g : ℕ → Bool) (xs : List X) (n : ℕ) (x : X) → length xs ≡ n → f x ≡ g n
    → ((o : ℕ) → option_map_or f (slice_get xs o) false ≡ (nat_lt o n && g o))
    → (o : ℕ) → option_map_or f (slice_get (xs ++ x ∷ []) o) false ≡ (nat_lt o (n + 1) && g o)
each_more f g xs n x long here each o =
    elim (cases_eq o n) [
      | inl same ↦
          let at : o ≡ length xs = omega (arith, same, long) in
          let less : nat_lt o (n + 1) ≡ true = grind (arith, same) in
          ap (λ k. option_map_or f (slice_get (xs ++ x ∷ []) k) false) at
          ∙ ap (λ y. option_map_or f y false) (last_there xs x)
          ∙ here ∙ ap g (sym same) ∙ ap (λ b. b && g o) (sym less)
      | inr other ↦
          let not_last : o ≡ length xs → ⊥ = λ e. other (omega (arith, e, long)) in
          let tests : nat_lt o n ≡ nat_lt o (n + 1) = grind (arith, other) in
          ap (λ y. option_map_or f y false) (others_there xs x o not_last) ∙ each o ∙ ap (λ b. b && g o) tests
    ]

-- none is denied where no object is
none_there : (nodes : List SeenNode) (o : ℕ) → length nodes ≤ o → slice_get nodes o ≡ None
none_there [] o l = refl
none_there (x ∷ nodes) zero l = absurd (omega arith)
none_there (x ∷ nodes) (suc o) l = none_there nodes o (omega arith)

-- so all objects have theirs
pub each_whole : (v : View) (n o : ℕ) → length v.nodes ≡ n → (nat_lt o n && is_some (denied_seen v right.Watch o)) ≡ is_some (denied_seen v right.Watch o)
each_whole v n o long =
    elim (cases_lt o n) [
      | inl less ↦ let is : nat_lt o n ≡ true = grind (arith, less) in ap (λ b. b && is_some (denied_seen v right.Watch o)) is
      | inr more ↦
          let not_less : nat_lt o n ≡ false = grind (arith, more) in
          let none : is_some (denied_seen v right.Watch o) ≡ false = by_none (none_there v.nodes o (omega (arith, more, long))) in
          ap (λ b. b && is_some (denied_seen v right.Watch o)) not_less ∙ sym none
    ]
  where
    by_none : slice_get v.nodes o ≡ None → is_some (denied_seen v right.Watch o) ≡ false
    by_none h = ap (λ y. is_some (denial_seen v right.Watch (option_map_or (λ (node : SeenNode). node.path) y []))) h
