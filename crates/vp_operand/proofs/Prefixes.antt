-- Lists in which each item is made of those before it.
use Rattle.std.proofs.Common.{◌≡◌, ◌∙◌, ℕ, zero, suc, ◌+◌, ◌<◌, ◌≤◌, length-take, Some, None, List, [], ◌∷◌, ◌++◌, length, take, drop, get_or, refl, sym, ap, arith}
use Rattle.std.proofs.lemmas.List.{get_or-take, get_or_append_left, get_or_past, get_or_push, length_push, take-append-drop, take-append-le, take_all}
use Rattle.std.proofs.lemmas.List.Sums.{fold-append, fold_more}
use Rattle.std.proofs.lemmas.Option.{get_or_from_slice_get, slice_get_within}
use Rattle.std.specs.Prelude.{slice_get}
use Rattle.std.specs.List.{fold}

-- no item past the end
pub past_end : {X : Type 0} (xs : List X) (k : ℕ) → None ≡ slice_get xs k → length xs ≤ k
past_end [] k h = omega arith
past_end (x ∷ xs) zero h = absurd cc
past_end (x ∷ xs) (suc k) h = let e = past_end xs k h in omega arith

-- one more item, made of those before it
abbrev pub grown : {A B : Type 0} → (List B → A → B) → List B → A → List B
grown make made x = made ++ make made x ∷ []

module _ {A B : Type 0} (make : List B → A → B) where
  -- what is made of items
  abbrev pub made_of : List A → List B
  made_of xs = fold (grown make) [] xs

  -- what is made of all items, from what is made of the first on
  pub made_split : (xs : List A) (k : ℕ) → made_of xs ≡ fold (grown make) (made_of (take k xs)) (drop k xs)
  made_split xs k =
      ap (fold (grown make) []) (sym (take-append-drop k xs)) ∙ fold-append (grown make) [] (take k xs) (drop k xs)

  pub length-made : (made : List B) (xs : List A) → length (fold (grown make) made xs) ≡ length made + length xs
  length-made made [] = omega arith
  length-made made (x ∷ xs) = omega (arith, length-made (grown make made x) xs, length_push made (make made x))

  grows : (made : List B) (xs : List A) (n : ℕ) → n ≤ length made → take n (fold (grown make) made xs) ≡ take n made
  grows made [] n h = refl
  grows made (x ∷ xs) n h =
      grows (grown make made x) xs n (omega (arith, length_push made (make made x))) ∙ take-append-le n made (make made x ∷ []) h

  pub grows_at : (made : List B) (xs : List A) (n : ℕ) (d : B) → n < length made → get_or (fold (grown make) made xs) n d ≡ get_or made n d
  grows_at made [] n d h = refl
  grows_at made (x ∷ xs) n d h =
      grows_at (grown make made x) xs n d (omega (arith, length_push made (make made x))) ∙ get_or_append_left made (make made x ∷ []) d n h

  -- what is made of the first items
  pub take_made : (xs : List A) (k : ℕ) → k ≤ length xs → take k (made_of xs) ≡ made_of (take k xs)
  take_made xs k h =
      let n : length (made_of (take k xs)) ≡ k = length-made [] (take k xs) ∙ omega (arith, length-take k xs) in
      ap (take k) (made_split xs k) ∙ grows (made_of (take k xs)) (drop k xs) k (omega arith) ∙ take_all k (made_of (take k xs)) (omega arith)

  -- what is made of an item is made of those before it
  pub made_there : (xs : List A) (k : ℕ) (x : A) (d : B) → k < length xs → x ≡ get_or xs k x → get_or (made_of xs) k d ≡ make (take k (made_of xs)) x
  made_there xs k x d h at =
      let n : length (made_of (take k xs)) ≡ k = length-made [] (take k xs) ∙ omega (arith, length-take k xs) in
      let m : length (made_of (take (k + 1) xs)) ≡ k + 1 = length-made [] (take (k + 1) xs) ∙ omega (arith, length-take (k + 1) xs) in
      ap (λ (ys : List B). get_or ys k d) (made_split xs (k + 1))
      ∙ grows_at (made_of (take (k + 1) xs)) (drop (k + 1) xs) k d (omega arith)
      ∙ ap (λ (ys : List B). get_or ys k d) (fold_more (grown make) [] xs k x h ∙ ap (grown make (made_of (take k xs))) (sym at))
      ∙ get_or_push (made_of (take k xs)) (make (made_of (take k xs)) x) d k n
      ∙ ap (λ (ys : List B). make ys x) (sym (take_made xs k (omega arith)))

  -- nothing is made past the end
  pub made_missing : (xs : List A) (end place : ℕ) (d : B) → length xs ≤ place → get_or (take end (made_of xs)) place d ≡ d
  made_missing xs end place d h =
      get_or_past (take end (made_of xs)) place d (omega (arith, length-take end (made_of xs), length-made [] xs))

  -- what is made of the item at a place before an end
  pub made_below : (xs : List A) (end place : ℕ) (x : A) (d : B) → place < end → slice_get xs place ≡ Some x → get_or (take end (made_of xs)) place d ≡ make (take place (made_of xs)) x
  made_below xs end place x d h at =
      get_or-take end (made_of xs) place d h
      ∙ made_there xs place x d (slice_get_within xs place x at) (sym (get_or_from_slice_get xs place x x at))

  -- below the end of all items stand all of them
  pub made_whole : (xs : List A) (place : ℕ) (d : B) → get_or (take (length xs) (made_of xs)) place d ≡ get_or (made_of xs) place d
  made_whole xs place d =
      ap (λ (ys : List B). get_or ys place d) (take_all (length xs) (made_of xs) (omega (arith, length-made [] xs)))
