-- The numbers that objects get by a change of a grant: they rise, and are among those of the new view.
use Rattle.std.proofs.Common.{inl, inr, ◌≡◌, ◌∙◌, ℕ, zero, suc, ◌+◌, ◌<◌, ◌≤◌, Bool, true, false, List, [], ◌∷◌, ◌++◌, length, map, Some, refl, ap, sym, arith}
use Rattle.std.specs.Prelude.{nat_le, nat_lt, slice_get}
use Rattle.std.specs.List.{list_all}
use Rattle.std.specs.Option.{option_map_or}
use Rattle.std.proofs.lemmas.Bool.{cases_lt}
use Rattle.std.proofs.lemmas.List.{length-map, map-append}
use Rattle.vp_elab.specs.Tree.{Node, Tree, below}
use Rattle.vp_policy.specs.Users.{Member}
use Rattle.vp_policy.specs.View.{marked}
use Rattle.vp_notify.specs.Renumbered.{rises, rises_from}
use Rattle.vp_replay.specs.Known.{known_also, known_index}
use Rattle.vp_audit.specs.Projections.{moved_numbers, number_in}
use Rattle.vp_audit.specs.laws.After.{number_index}
use Rattle.vp_audit.specs.laws.Grants.{below_length, marked_number, now_more, index_marked, index_past}
use Rattle.vp_replay.specs.laws.Known.{index_in_order}
use Rattle.vp_answer.specs.laws.Tests.{all_join, both, both_first, both_second}

-- one number more, which is higher than all of them
rises_more : (least : ℕ) (xs : List ℕ) (y : ℕ) → least ≤ y → rises_from least xs ≡ true → list_all (λ x. nat_lt x y) xs ≡ true → rises_from least (xs ++ y ∷ []) ≡ true
rises_more least [] y l h all = both (nat_le least y) true (grind (arith, l)) refl
rises_more least (x ∷ xs) y l h all =
    let first = both_first (nat_lt x y) (list_all (λ z. nat_lt z y) xs) all in
    both (nat_le least x) (rises_from (x + 1) (xs ++ y ∷ [])) (both_first (nat_le least x) (rises_from (x + 1) xs) h)
    (rises_more (x + 1) xs y (grind (arith, first)) (both_second (nat_le least x) (rises_from (x + 1) xs) h) (both_second (nat_lt x y) (list_all (λ z. nat_lt z y) xs) all))

-- what holds of each number below one
all_below : (p : ℕ → Bool) (f : ℕ → ℕ) (n : ℕ) → ((k : ℕ) → k < n → p (f k) ≡ true) → list_all p (map f (below n)) ≡ true
all_below p f zero h = refl
all_below p f (suc n) h =
    ap (list_all p) (map-append f (below n) (n ∷ []))
    ∙ all_join p (map f (below n)) (f n ∷ []) (all_below p f n (λ k l. h k (omega (arith, l)))) (both (p (f n)) true (h n (omega arith)) refl)

-- numbers by a form that keeps their order
rises_by : (f : ℕ → ℕ) (n : ℕ) → ((j k : ℕ) → j < k → k < n → f j < f k) → rises (map f (below n)) ≡ true
rises_by f zero h = refl
rises_by f (suc n) h =
    ap rises (map-append f (below n) (n ∷ []))
    ∙ rises_more 0 (map f (below n)) (f n) (omega arith) (rises_by f n (λ j k l m. h j k l (omega (arith, m))))
    (all_below (λ x. nat_lt x (f n)) f n (λ k l. let less = h k n l (omega arith) in grind (arith, less)))

module _ (tree : Tree) (m : Member) (known : List Bool) (nodes : List Node) (long : length known ≡ length nodes) where
  -- what is known now
  abbrev now : List Bool
  now = known_also tree m known nodes

  -- how many were known before
  abbrev count : ℕ
  count = length (marked known known)

  -- the number now of a number before
  abbrev form : ℕ → ℕ
  form k = option_map_or (λ n. n) (number_in now (known_index known k)) 0

  -- each has one
  has_number : (k : ℕ) → k < count → (j : ℕ) × (number_in now (known_index known k) ≡ Some j)
  has_number k l = marked_number now (known_index known k) (now_more tree m known nodes long (known_index known k) (index_marked known k l))

  -- of its index
  form_index : (k : ℕ) → k < count → known_index now (form k) ≡ known_index known k
  form_index k l =
      let (j, number) = has_number k l in
      ap (λ n. known_index now (option_map_or (λ (i : ℕ). i) n 0)) number ∙ number_index now (known_index known k) j number

  -- in their order
  form_rises : (j k : ℕ) → j < k → k < count → form j < form k
  form_rises j k l within =
      let first = form_index j (omega (arith, l, within)) in
      let second = form_index k within in
      let before = index_in_order known k j in
      let after = index_in_order now (form k) (form j) in
      let same : nat_le (form k) (form j) ≡ nat_le k j = sym after ∙ ap (λ (a : ℕ). nat_le a (known_index now (form j))) second ∙ ap (nat_le (known_index known k)) first ∙ before in
      let not_le : nat_le k j ≡ false = grind (arith, l) in
      let none : nat_le (form k) (form j) ≡ false = same ∙ not_le in
      grind (arith, none)

  -- each is among those that are known now
  form_within : (k : ℕ) → k < count → form k < length (marked now now)
  form_within k l =
      elim (cases_lt (form k) (length (marked now now))) [
        | inl less ↦ less
        | inr more ↦
            let past = index_past now (form k) more in
            let there = form_index k l in
            let inside = set_within now (known_index known k) (now_more tree m known nodes long (known_index known k) (index_marked known k l)) in
            absurd (omega (arith, past, there, inside))
      ]
    where
      set_within : (marks : List Bool) (o : ℕ) → slice_get marks o ≡ Some true → o < length marks
      set_within [] o at = absurd (cc)
      set_within (b ∷ marks) zero at = omega arith
      set_within (b ∷ marks) (suc o) at = let rest = set_within marks o at in omega (arith, rest)

  -- as many as were known before
  pub moved_length : length (moved_numbers known now) ≡ count
  moved_length = length-map (below count) form ∙ below_length count

  -- they rise
  pub moved_rise : rises (moved_numbers known now) ≡ true
  moved_rise = rises_by form count form_rises

  -- and are among so many
  pub moved_within : list_all (λ n. nat_lt n (length (marked now now))) (moved_numbers known now) ≡ true
  moved_within = all_below (λ n. nat_lt n (length (marked now now))) form count (λ k l. let less = form_within k l in grind (arith, less))
