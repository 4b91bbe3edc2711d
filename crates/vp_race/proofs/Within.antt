-- Closed segments of which the last are kept that have not too many choices.
use Rattle.std.proofs.Common.{All, subst, ◌≡◌, ◌∙◌, ◌≤◌, ◌<◌, ◌+◌, ◌-◌, ◌++◌, ℕ, suc, Bool, true, false, List, [], ◌∷◌, Some, None, drop, length, refl, sym, ap, arith}
use Rattle.std.specs.Prelude.{if◌then◌else◌, nat_le, nat_lt, slice_get}
use Rattle.std.proofs.lemmas.Bool.{lt-leb, ltb-false}
use Rattle.std.proofs.lemmas.List.{drop-append-le, length-append}
use Rattle.std.proofs.lemmas.List.Elements.{All-drop}
use Rattle.std.proofs.lemmas.List.Sums.{sum_by-cons, sum_by_push}
use Rattle.circular_buffer.specs.Buffer.{keep_last}
use Rattle.vp_race.specs.Recording.{choices_limit, choices_of, kept_limit, last_kept, last_within}
use Rattle.vp_race.specs.Segments.{Run}

-- the first of some segments, and the others
first_of : (xs : List Run) (x : Run) → Some x ≡ slice_get xs 0 → xs ≡ x ∷ drop 1 xs
first_of [] x h = absurd (cc)
first_of (y ∷ ys) x h = let e : y ≡ x = cc in ap (λ z. z ∷ ys) e

-- their choices
pub choices_first : (xs : List Run) (x : Run) → Some x ≡ slice_get xs 0 → choices_of xs ≡ length x.order + choices_of (drop 1 xs)
choices_first xs x h = ap choices_of (first_of xs x h) ∙ sum_by-cons (λ (run : Run). length run.order) x (drop 1 xs)

-- one more, where the oldest has to go
pub choices_full : (capacity : ℕ) (xs : List Run) (x oldest : Run) → length xs ≤ capacity → Some oldest ≡ (if nat_lt (length xs) capacity then None else slice_get (xs ++ x ∷ []) 0)
    → choices_of xs + length x.order ≡ length oldest.order + choices_of (keep_last capacity (xs ++ x ∷ []))
choices_full capacity xs x oldest within h = by_room (nat_lt (length xs) capacity) refl h where
  by_room : (b : Bool) → nat_lt (length xs) capacity ≡ b → Some oldest ≡ (if b then None else slice_get (xs ++ x ∷ []) 0)
      → choices_of xs + length x.order ≡ length oldest.order + choices_of (keep_last capacity (xs ++ x ∷ []))
  by_room true is e = absurd (cc)
  by_room false is e =
      let full = ltb-false (length xs) capacity is in
      let one : length (xs ++ x ∷ []) - capacity ≡ 1 = omega (arith, full, within, length-append xs (x ∷ [])) in
      sym (sum_by_push (λ (run : Run). length run.order) xs x) ∙ choices_first (xs ++ x ∷ []) oldest e
      ∙ ap (λ n. length oldest.order + choices_of (drop n (xs ++ x ∷ []))) (sym one)

chosen : {X : Type 0} (b : Bool) (x y : X) → b ≡ false → (if b then x else y) ≡ y
chosen true x y h = absurd (cc)
chosen false x y h = refl

-- the first goes where they have too many
pub within_fewer : (most : ℕ) (xs : List Run) (x : Run) → Some x ≡ slice_get xs 0 → nat_le (choices_of xs) most ≡ false → last_within most xs ≡ last_within most (drop 1 xs)
within_fewer most [] x h many = absurd (cc)
within_fewer most (y ∷ ys) x h many = chosen (nat_le (choices_of (y ∷ ys)) most) (y ∷ ys) (last_within most ys) many

kept_if : {X : Type 0} (b : Bool) (x y : X) → b ≡ true → (if b then x else y) ≡ x
kept_if true x y h = refl
kept_if false x y h = absurd (cc)

-- all stay where they have not
pub within_all : (most : ℕ) (xs : List Run) → nat_le (choices_of xs) most ≡ true → last_within most xs ≡ xs
within_all most [] few = refl
within_all most (y ∷ ys) few = kept_if (nat_le (choices_of (y ∷ ys)) most) (y ∷ ys) (last_within most ys) few

-- none stays where the last alone has too many
pub none_within : (most : ℕ) (xs : List Run) (x : Run) → most < length x.order → last_within most (xs ++ x ∷ []) ≡ []
none_within most [] x many =
    let one : choices_of (x ∷ []) ≡ choices_of [] + length x.order = sum_by_push (λ (run : Run). length run.order) [] x in
    chosen (nat_le (choices_of (x ∷ [])) most) (x ∷ []) [] (lt-leb (choices_of (x ∷ [])) most (omega (arith, one, many)))
none_within most (y ∷ ys) x many =
    let last : choices_of ((y ∷ ys) ++ x ∷ []) ≡ choices_of (y ∷ ys) + length x.order = sum_by_push (λ (run : Run). length run.order) (y ∷ ys) x in
    chosen (nat_le (choices_of (y ∷ ys ++ x ∷ [])) most) (y ∷ ys ++ x ∷ []) (last_within most (ys ++ x ∷ [])) (lt-leb (choices_of (y ∷ ys ++ x ∷ [])) most (omega (arith, last, many)))
    ∙ none_within most ys x many

-- the same of as many as are kept
pub none_kept : (most : ℕ) (xs : List Run) (x : Run) → most < length x.order → last_within most (keep_last 256 (xs ++ x ∷ [])) ≡ []
none_kept most xs x many =
    let few : length (xs ++ x ∷ []) - 256 ≤ length xs = omega (arith, length-append xs (x ∷ [])) in
    ap (last_within most) (drop-append-le (length (xs ++ x ∷ []) - 256) xs (x ∷ []) few)
    ∙ none_within most (drop (length (xs ++ x ∷ []) - 256) xs) x many

-- those that stay are the last
pub last_ones : (most : ℕ) (xs : List Run) → (n : ℕ) × (n ≤ length xs) × (last_within most xs ≡ drop n xs)
last_ones most [] = (0, omega arith, refl)
last_ones most (x ∷ xs) = by (nat_le (choices_of (x ∷ xs)) most) refl (last_ones most xs) where
  by : (b : Bool) → nat_le (choices_of (x ∷ xs)) most ≡ b → (m : ℕ) × (m ≤ length xs) × (last_within most xs ≡ drop m xs) → (n : ℕ) × (n ≤ length (x ∷ xs)) × (last_within most (x ∷ xs) ≡ drop n (x ∷ xs))
  by true is rest = (0, omega arith, kept_if (nat_le (choices_of (x ∷ xs)) most) (x ∷ xs) (last_within most xs) is)
  by false is rest =
      (suc rest.0, omega (arith, rest.1), chosen (nat_le (choices_of (x ∷ xs)) most) (x ∷ xs) (last_within most xs) is ∙ rest.2)

-- what is true of all is true of those that are kept
pub all_kept : (P : Run → Type 0) (runs : List Run) → All P runs → All P (last_kept runs)
all_kept P runs all =
    let last = last_ones choices_limit (keep_last kept_limit runs) in
    subst (All P) (sym last.2) (All-drop P last.0 (keep_last kept_limit runs) (All-drop P (length runs - kept_limit) runs all))
