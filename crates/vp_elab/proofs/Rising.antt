-- Rising lists of numbers, and where those that have sizes start.
use Rattle.std.proofs.Common.{◌≡◌, ℕ, zero, suc, ◌+◌, ◌<◌, ◌≤◌, Bool, true, false, cond, List, [], ◌∷◌, ◌++◌, map, filter, take, slice_get, Option, Some, refl, sym, ap, subst, ◌∙◌, ◌⊎◌, inl, inr, arith}
use Rattle.vp_elab.specs.Tree.{below}
use Rattle.vp_elab.specs.Sizes.{total}

-- the numbers rise, from this one on
abbrev pub Rising : ℕ → List ℕ → Type 0
Rising n [] = Unit {0}
Rising n (x ∷ xs) = (n ≤ x) × Rising (x + 1) xs

same_or_on : (n m : ℕ) → n ≤ m → (n ≡ m) ⊎ (n + 1 ≤ m)
same_or_on n m l = grind arith

rising_at : (n : ℕ) (xs : List ℕ) (j x : ℕ) → Rising n xs → slice_get xs j ≡ Some x → n ≤ x
rising_at n [] j x up at = absurd cc
rising_at n (y ∷ xs) zero x up at = let same : y ≡ x = cc in omega (arith, up.0)
rising_at n (y ∷ xs) (suc j) x up at = let following = rising_at (y + 1) xs j x up.1 at in omega (arith, up.0)

-- so many numbers from one on
abbrev numbers_from : ℕ → ℕ → List ℕ
numbers_from n zero = []
numbers_from n (suc k) = n ∷ numbers_from (n + 1) k

one_more : (n k : ℕ) → numbers_from n (suc k) ≡ numbers_from n k ++ (n + k) ∷ []
one_more n zero = let same : n ≡ n + 0 = omega arith in ap (λ (x : ℕ). x ∷ []) same
one_more n (suc k) =
    let same : (n + 1) + k ≡ n + suc k = omega arith in
    ap (λ (xs : List ℕ). n ∷ xs) (one_more (n + 1) k) ∙ ap (λ (x : ℕ). numbers_from n (suc k) ++ x ∷ []) same

below_is : (n : ℕ) → below n ≡ numbers_from 0 n
below_is zero = refl
below_is (suc n) =
    let same : n ≡ 0 + n = omega arith in
    ap (λ (xs : List ℕ). xs ++ n ∷ []) (below_is n) ∙ ap (λ (x : ℕ). numbers_from 0 n ++ x ∷ []) same ∙ sym (one_more 0 n)

-- where a number stands in a list
abbrev pub In : List ℕ → ℕ → Type 0
In xs e = (j : ℕ) × (slice_get xs j ≡ Some e)

in_rest : (n x : ℕ) (xs : List ℕ) (e : ℕ) → n ≡ x → n + 1 ≤ e → In (x ∷ xs) e → In xs e
in_rest n x xs e first following it = by it.0 it.1
  where
    by : (j : ℕ) → slice_get (x ∷ xs) j ≡ Some e → In xs e
    by zero at = let same : x ≡ e = cc in absurd (omega arith)
    by (suc j) at = (j, at)

first_is : (n x : ℕ) (xs : List ℕ) → Rising n (x ∷ xs) → In (x ∷ xs) n → n ≡ x
first_is n x xs up it = by it.0 it.1
  where
    by : (j : ℕ) → slice_get (x ∷ xs) j ≡ Some n → n ≡ x
    by zero at = let same : x ≡ n = cc in sym same
    by (suc j) at = let following = rising_at (x + 1) xs j n up.1 at in absurd (omega (arith, up.0))

module _ (p : ℕ → Bool) where
  -- each number that passes, of so many from one on, is in the list
  abbrev AreIn : ℕ → ℕ → List ℕ → Type 0
  AreIn n k xs = (e : ℕ) → n ≤ e → e < n + k → p e ≡ true → In xs e

  -- each number of the list passes, and is one of so many from one on
  abbrev Pass : ℕ → ℕ → List ℕ → Type 0
  Pass n k xs = (j e : ℕ) → slice_get xs j ≡ Some e → (p e ≡ true) × (e < n + k)

  filtered_by :
      (n k : ℕ) (xs : List ℕ) (b : Bool) → p n ≡ b → ((ys : List ℕ) → Rising (n + 1) ys → AreIn (n + 1) k ys → Pass (n + 1) k ys → filter p (numbers_from (n + 1) k) ≡ ys)
      → Rising n xs → AreIn n (suc k) xs → Pass n (suc k) xs → cond b (n ∷ filter p (numbers_from (n + 1) k)) (filter p (numbers_from (n + 1) k)) ≡ xs
  filtered_by n k [] true test rest up are pass = let it = are n (omega arith) (omega arith) test in absurd cc
  filtered_by n k (x ∷ xs) true test rest up are pass =
      let first : n ≡ x = first_is n x xs up (are n (omega arith) (omega arith) test) in
      ap (λ (ys : List ℕ). n ∷ ys)
      (rest xs (subst (λ (y : ℕ). Rising (y + 1) xs) (sym first) up.1)
      (λ e l less is. in_rest n x xs e first l (are e (omega arith) (omega arith) is))
      (λ j e at. let it = pass (suc j) e at in (it.0, omega (arith, it.1))))
      ∙ ap (λ (y : ℕ). y ∷ xs) first
  filtered_by n k [] false test rest up are pass = rest [] tt (λ e l less is. are e (omega arith) (omega arith) is) (λ j e at. absurd cc)
  filtered_by n k (x ∷ xs) false test rest up are pass =
      rest (x ∷ xs) (further (same_or_on n x up.0), up.1) (λ e l less is. are e (omega arith) (omega arith) is) (λ j e at. let it = pass j e at in (it.0, omega (arith, it.1)))
    where
      further : (n ≡ x) ⊎ (n + 1 ≤ x) → n + 1 ≤ x
      further (inl same) =
          let passes : p n ≡ true = ap p same ∙ (pass 0 x refl).0 in
          absurd cc
      further (inr l) = l

  filtered_from : (n k : ℕ) (xs : List ℕ) → Rising n xs → AreIn n k xs → Pass n k xs → filter p (numbers_from n k) ≡ xs
  filtered_from n zero [] up are pass = refl
  filtered_from n zero (x ∷ xs) up are pass = let it = pass 0 x refl in absurd (omega (arith, it.1, up.0))
  filtered_from n (suc k) xs up are pass = filtered_by n k xs (p n) refl (filtered_from (n + 1) k) up are pass

  -- the numbers below one that pass are a rising list, where it has the same
  pub filtered_is :
      (k : ℕ) (xs : List ℕ) → Rising 0 xs → ((e : ℕ) → p e ≡ true → In xs e) → ((j e : ℕ) → slice_get xs j ≡ Some e → (p e ≡ true) × (e < k))
      → filter p (below k) ≡ xs
  filtered_is k xs up are pass =
      ap (filter p) (below_is k)
      ∙ filtered_from 0 k xs up (λ e l less is. are e is) (λ j e at. let it = pass j e at in (it.0, omega (arith, it.1)))

-- ---- sizes

module _ {X : Type 0} (size : X → ℕ) where
  -- where each starts, the first at this number, and each after those before it
  abbrev pub starts : ℕ → List X → List ℕ
  starts n [] = []
  starts n (x ∷ xs) = n ∷ starts (n + size x) xs

  pub starts_rise : ((x : X) → 1 ≤ size x) → (m n : ℕ) → m ≤ n → (xs : List X) → Rising m (starts n xs)
  starts_rise some m n l [] = tt
  starts_rise some m n l (x ∷ xs) = (l, starts_rise some (n + 1) (n + size x) (omega (arith, some x)) xs)

  pub starts_at : (n k : ℕ) (xs : List X) (x : X) → slice_get xs k ≡ Some x → slice_get (starts n xs) k ≡ Some (n + total size (take k xs))
  starts_at n k [] x at = absurd cc
  starts_at n zero (y ∷ xs) x at = let same : n ≡ n + 0 = omega arith in ap {B = Option ℕ} Some same
  starts_at n (suc k) (y ∷ xs) x at =
      let same : (n + size y) + total size (take k xs) ≡ n + (size y + total size (take k xs)) = omega arith in
      starts_at (n + size y) k xs x at ∙ ap {B = Option ℕ} Some same

  pub starts_read : (n k : ℕ) (xs : List X) (e : ℕ) → slice_get (starts n xs) k ≡ Some e → (x : X) × (slice_get xs k ≡ Some x) × (e ≡ n + total size (take k xs))
  starts_read n k [] e at = absurd cc
  starts_read n zero (y ∷ xs) e at = let same : n ≡ e = cc in (y, refl, omega arith)
  starts_read n (suc k) (y ∷ xs) e at = let it = starts_read (n + size y) k xs e at in (it.0, it.1, omega (arith, it.2))

  -- so far after a number
  pub starts_after : (m n k : ℕ) → k ≡ m + n → (xs : List X) → map (λ s. m + s) (starts n xs) ≡ starts k xs
  starts_after m n k is [] = refl
  starts_after m n k is (x ∷ xs) = ap (λ (e : ℕ). e ∷ map (λ s. m + s) (starts (n + size x) xs)) (sym is) ∙ ap (λ (es : List ℕ). k ∷ es) (starts_after m (n + size x) (k + size x) (omega arith) xs)

-- ---- parts of a list that pass

module _ {X : Type 0} (p : X → Bool) where
  head_there : (x y : X) (xs ys : List X) (b : Bool) → b ≡ true → y ≡ x → (j : ℕ) × (slice_get (cond b (y ∷ xs) ys) j ≡ Some x) × (take j (cond b (y ∷ xs) ys) ≡ [])
  head_there x y xs ys true is same = (0, ap {B = Option X} Some same, refl)
  head_there x y xs ys false is same = absurd cc

  rest_there :
      (k : ℕ) (x y : X) (xs : List X) (b : Bool) → (j : ℕ) × (slice_get (filter p xs) j ≡ Some x) × (take j (filter p xs) ≡ filter p (take k xs))
      → (j : ℕ) × (slice_get (cond b (y ∷ filter p xs) (filter p xs)) j ≡ Some x) × (take j (cond b (y ∷ filter p xs) (filter p xs)) ≡ cond b (y ∷ filter p (take k xs)) (filter p (take k xs)))
  rest_there k x y xs true it = (suc it.0, it.1, ap (λ (zs : List X). y ∷ zs) it.2)
  rest_there k x y xs false it = it

  -- where one that passes stands among those that do
  pub passing_at : (k : ℕ) (xs : List X) (x : X) → slice_get xs k ≡ Some x → p x ≡ true → (j : ℕ) × (slice_get (filter p xs) j ≡ Some x) × (take j (filter p xs) ≡ filter p (take k xs))
  passing_at k [] x at is = absurd cc
  passing_at zero (y ∷ xs) x at is = let same : y ≡ x = cc in head_there x y (filter p xs) (filter p xs) (p y) (ap p same ∙ is) same
  passing_at (suc k) (y ∷ xs) x at is = rest_there k x y xs (p y) (passing_at k xs x at is)

  -- and where one of those stands among all
  abbrev Stands : ℕ → List X → X → List X → Type 0
  Stands j xs x passing = (k : ℕ) × (slice_get xs k ≡ Some x) × (p x ≡ true) × (take j passing ≡ filter p (take k xs))

  read_by :
      (j : ℕ) (x y : X) (xs : List X) (b : Bool) → p y ≡ b → ((j : ℕ) → slice_get (filter p xs) j ≡ Some x → Stands j xs x (filter p xs))
      → slice_get (cond b (y ∷ filter p xs) (filter p xs)) j ≡ Some x → Stands j (y ∷ xs) x (cond b (y ∷ filter p xs) (filter p xs))
  read_by zero x y xs true is rest at = let same : y ≡ x = cc in (0, ap {B = Option X} Some same, ap p (sym same) ∙ is, refl)
  read_by (suc j) x y xs true is rest at =
      let it = rest j at in
      (suc it.0, it.1, it.2, ap (λ (zs : List X). y ∷ zs) it.3 ∙ ap (λ (b : Bool). cond b (y ∷ filter p (take it.0 xs)) (filter p (take it.0 xs))) (sym is))
  read_by j x y xs false is rest at =
      let it = rest j at in
      (suc it.0, it.1, it.2, it.3 ∙ ap (λ (b : Bool). cond b (y ∷ filter p (take it.0 xs)) (filter p (take it.0 xs))) (sym is))

  pub passing_read : (j : ℕ) (xs : List X) (x : X) → slice_get (filter p xs) j ≡ Some x → Stands j xs x (filter p xs)
  passing_read j [] x at = absurd cc
  passing_read j (y ∷ xs) x at = read_by j x y xs (p y) refl (λ i at_i. passing_read i xs x at_i) at
