-- A list in two parts, one of which has one more item.
use Rattle.std.proofs.Common.{◌≡◌, ◌∙◌, ℕ, ◌+◌, ◌-◌, ◌<◌, ◌≤◌, List, ◌++◌, ap, sym, arith, length, take, drop, insert}
use Rattle.std.proofs.lemmas.List.{drop-drop, length-drop, length-take-le, take-append-drop, take_rest}
use Rattle.std.proofs.lemmas.List.Edits.{insert-append_left, insert-append_right}

-- the first so many of those from a place on
front : {X : Type 0} (xs : List X) (from half : ℕ) → take (from + half - from) (drop from xs) ≡ take half (drop from xs)
front xs from half = ap (λ (n : ℕ). take n (drop from xs)) (omega arith)

-- and the others
back : {X : Type 0} (xs : List X) (from half : ℕ) → take (length xs - (from + half)) (drop (from + half) xs) ≡ drop half (drop from xs)
back xs from half = take_rest xs (from + half) ∙ sym (drop-drop half from xs)

-- how many are the first
pub front_length : {X : Type 0} (xs : List X) (from half : ℕ) → from + half ≤ length xs → length (take (from + half - from) (drop from xs)) ≡ half
front_length xs from half within =
    ap length (front xs from half) ∙ length-take-le half (drop from xs) (omega (arith, length-drop from xs))

-- one more among the first
pub more_in_front : {X : Type 0} (xs : List X) (from half place : ℕ) (y : X) → from + half ≤ length xs → place ≤ half
    → insert (take (from + half - from) (drop from xs)) place y ++ take (length xs - (from + half)) (drop (from + half) xs) ≡ insert (drop from xs) place y
more_in_front xs from half place y within few =
    sym (insert-append_left (take (from + half - from) (drop from xs)) (take (length xs - (from + half)) (drop (from + half) xs)) place y (omega (arith, front_length xs from half within, few)))
    ∙ ap (λ (ys : List _). insert (ys ++ take (length xs - (from + half)) (drop (from + half) xs)) place y) (front xs from half)
    ∙ ap (λ (ys : List _). insert (take half (drop from xs) ++ ys) place y) (back xs from half)
    ∙ ap (λ (ys : List _). insert ys place y) (take-append-drop half (drop from xs))

-- and among the others
pub more_in_back : {X : Type 0} (xs : List X) (from half place : ℕ) (y : X) → from + half ≤ length xs → half < place
    → take (from + half - from) (drop from xs) ++ insert (take (length xs - (from + half)) (drop (from + half) xs)) (place - half) y ≡ insert (drop from xs) place y
more_in_back xs from half place y within many =
    sym (insert-append_right (take (from + half - from) (drop from xs)) (take (length xs - (from + half)) (drop (from + half) xs)) half place y (front_length xs from half within) (omega (arith, many)))
    ∙ ap (λ (ys : List _). insert (ys ++ take (length xs - (from + half)) (drop (from + half) xs)) place y) (front xs from half)
    ∙ ap (λ (ys : List _). insert (take half (drop from xs) ++ ys) place y) (back xs from half)
    ∙ ap (λ (ys : List _). insert ys place y) (take-append-drop half (drop from xs))
