-- Sums and counts over lists of which no two items are alike.
use Rattle.std.proofs.Common.{◌≡◌, ◌≢◌, ◌≤◌, ℕ, zero, suc, ◌+◌, All, AllPairs, Bool, true, false, cond, List, [], ◌∷◌, get_or, count_by, sum_by, refl, ap, arith}
use Rattle.std.proofs.lemmas.List.Elements.{All-cons, All-head, All-nil, All-tail}
use Rattle.std.proofs.lemmas.List.Sums.{sum_by-cons, sum_by-le}

-- no more, item by item
pub sum_within : {X : Type 0} (f g : X → ℕ) (xs : List X) → All (λ x. f x ≤ g x) xs → sum_by f xs ≤ sum_by g xs
sum_within f g [] within = omega arith
sum_within f g (x ∷ xs) within =
    omega (arith, All-head (λ y. f y ≤ g y) x xs within, sum_within f g xs (All-tail (λ y. f y ≤ g y) x xs within), sum_by-cons f x xs, sum_by-cons g x xs)

-- and no less in all: the same, item by item
pub sum_meets : {X : Type 0} (f g : X → ℕ) (xs : List X) → All (λ x. f x ≤ g x) xs → sum_by g xs ≤ sum_by f xs → All (λ x. f x ≡ g x) xs
sum_meets f g [] within least = All-nil (λ x. f x ≡ g x)
sum_meets f g (x ∷ xs) within least =
    let one = All-head (λ y. f y ≤ g y) x xs within in
    let others = All-tail (λ y. f y ≤ g y) x xs within in
    let rest = sum_within f g xs others in
    let whole = sum_by-cons f x xs in
    let limit = sum_by-cons g x xs in
    All-cons (λ y. f y ≡ g y) x xs (omega arith) (sum_meets f g xs others (omega arith))

-- the sum of two
sum_both : {X : Type 0} (f g : X → ℕ) (xs : List X) → sum_by (λ x. f x + g x) xs ≡ sum_by f xs + sum_by g xs
sum_both f g [] = omega arith
sum_both f g (x ∷ xs) =
    omega (arith, sum_by-cons (λ y. f y + g y) x xs, sum_both f g xs, sum_by-cons f x xs, sum_by-cons g x xs)

-- items of names, no two of which are alike; entries, each of at most one name, and counted if it is of one
module _ {X S E : Type 0} (name : X → S) (is_own : S → E → Bool) (counts : E → Bool)
    (one : (a b : S) (e : E) → is_own a e ≡ true → is_own b e ≡ true → a ≡ b) (counted : (a : S) (e : E) → is_own a e ≡ true → counts e ≡ true) where
  abbrev pub IsApart : X → X → Type 0
  IsApart x y = name x ≢ name y

  -- an entry that is of none
  none : (e : E) (xs : List X) → All (λ x. is_own (name x) e ≡ false) xs → sum_by (λ x. cond (is_own (name x) e) 1 0) xs ≡ 0
  none e [] others = refl
  none e (x ∷ xs) others =
      let first = ap {B = ℕ} (λ b. cond b 1 0) (All-head (λ y. is_own (name y) e ≡ false) x xs others) in
      omega (arith, first, none e xs (All-tail (λ y. is_own (name y) e ≡ false) x xs others), sum_by-cons (λ y. cond (is_own (name y) e) 1 0) x xs)

  -- an entry is of one at most
  at_most : (e : E) (xs : List X) → AllPairs IsApart xs → sum_by (λ x. cond (is_own (name x) e) 1 0) xs ≤ cond (counts e) 1 0
  at_most e [] apart = omega arith
  at_most e (x ∷ xs) apart = by (is_own (name x) e) refl (at_most e xs (λ i j d less within. apart (suc i) (suc j) d (omega arith) (omega arith))) where
    other : is_own (name x) e ≡ true → (y : X) → IsApart x y → (b : Bool) → is_own (name y) e ≡ b → is_own (name y) e ≡ false
    other mine y differs true is = absurd (differs (one (name x) (name y) e mine is))
    other mine y differs false is = is

    by : (b : Bool) → is_own (name x) e ≡ b → sum_by (λ y. cond (is_own (name y) e) 1 0) xs ≤ cond (counts e) 1 0 → sum_by (λ y. cond (is_own (name y) e) 1 0) (x ∷ xs) ≤ cond (counts e) 1 0
    by true mine rest =
        let others = none e xs (λ k d within. other mine (get_or xs k d) (apart zero (suc k) d (omega arith) (omega arith)) (is_own (name (get_or xs k d)) e) refl) in
        omega (arith, sum_by-cons (λ y. cond (is_own (name y) e) 1 0) x xs, others, ap {B = ℕ} (λ b. cond b 1 0) mine, ap {B = ℕ} (λ b. cond b 1 0) (counted (name x) e mine))
    by false another rest = omega (arith, sum_by-cons (λ y. cond (is_own (name y) e) 1 0) x xs, rest, ap {B = ℕ} (λ b. cond b 1 0) another)

  -- the entries of all of them are no more than are counted
  pub counts_within : (xs : List X) → AllPairs IsApart xs → (log : List E) → sum_by (λ x. count_by (is_own (name x)) log) xs ≤ count_by counts log
  counts_within xs apart [] = omega (arith, sum_by-le (λ x. 0) 0 xs (λ k d within. omega arith))
  counts_within xs apart (e ∷ log) =
      let each : sum_by (λ x. count_by (is_own (name x)) (e ∷ log)) xs ≡ sum_by (λ x. cond (is_own (name x) e) 1 0 + count_by (is_own (name x)) log) xs =
      λ i. sum_by (λ x. sum_by-cons (λ y. cond (is_own (name x) y) 1 0) e log i) xs in
      omega (arith, each, sum_both (λ x. cond (is_own (name x) e) 1 0) (λ x. count_by (is_own (name x)) log) xs, at_most e xs apart, counts_within xs apart log, sum_by-cons (λ y. cond (counts y) 1 0) e log)
