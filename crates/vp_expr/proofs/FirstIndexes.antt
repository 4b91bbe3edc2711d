-- Words that are kept once, each with the index at which it stood first.
use Rattle.std.proofs.Common.{◌≡◌, ℕ, zero, suc, ◌+◌, ◌<◌, Bool, true, false, cond, ◌||◌, List, [], ◌∷◌, ◌++◌, length, take, get_or, position, slice_get, Option, Some, None, refl, sym, ap, subst, ◌∙◌, arith}
use Rattle.std.specs.List.{list_any, position_from}
use Rattle.std.specs.Option.{option_and_then}
use Rattle.std.specs.Str.{bytes_eq}
use Rattle.std.proofs.lemmas.List.{take_more}
use Rattle.std.proofs.lemmas.List.Quantifiers.{position-Some}
use Rattle.std.proofs.lemmas.Option.{slice_get-get_or}
use Rattle.std.proofs.lemmas.Slice.Eq.{bytes_eq-Decides}
use Rattle.vp_modules.specs.Items.{is_among}
use Rattle.vp_expr.specs.Origins.{by_first, first_index}
use Rattle.vp_elab.specs.laws.Positions.{or_else, position_from-append, position_is, slice_get_after}

last_by : (o : Option ℕ) (b : Bool) (n : ℕ) → or_else o (cond b (Some n) None) ≡ by_first o b n
last_by None true n = refl
last_by None false n = refl
last_by (Some k) b n = refl

-- the first of a list with one more
pub position_more : {X : Type 0} (p : X → Bool) (xs : List X) (x : X) → position p (xs ++ x ∷ []) ≡ by_first (position p xs) (p x) (length xs)
position_more {X} p xs x =
    position_is p (xs ++ x ∷ [])
    ∙ position_from-append p 0 (length xs) xs (x ∷ []) (omega arith)
    ∙ ap (λ (o : Option ℕ). or_else o (cond (p x) (Some (length xs)) None)) (sym (position_is p xs))
    ∙ last_by (position p xs) (p x) (length xs)

-- the same of the first so many of a list
pub position_next : {X : Type 0} (p : X → Bool) (xs : List X) (i : ℕ) (d : X) → i < length xs → length (take i xs) ≡ i → position p (take (i + 1) xs) ≡ by_first (position p (take i xs)) (p (get_or xs i d)) i
position_next p xs i d l long =
    ap (position p) (take_more xs i d l) ∙ position_more p (take i xs) (get_or xs i d)
    ∙ ap (by_first (position p (take i xs)) (p (get_or xs i d))) long

-- a word that is not to be added
pub by_first-false : (o : Option ℕ) (n : ℕ) → o ≡ by_first o false n
by_first-false None n = refl
by_first-false (Some k) n = refl

-- what comes before what is added
slice_get_front : (xs ys : List ℕ) (i : ℕ) → i < length xs → slice_get (xs ++ ys) i ≡ slice_get xs i
slice_get_front [] ys i l = absurd (omega arith)
slice_get_front (x ∷ xs) ys zero l = refl
slice_get_front (x ∷ xs) ys (suc i) l = slice_get_front xs ys i (omega arith)

new_by : (indexes : List ℕ) (n i : ℕ) (o : Option ℕ) (b : Bool) → n ≡ length indexes → ((k : ℕ) → o ≡ Some k → k < length indexes) → option_and_then (slice_get (indexes ++ i ∷ [])) (by_first o b n) ≡ by_first (option_and_then (slice_get indexes) o) b i
new_by indexes n i None true e l = ap (slice_get (indexes ++ i ∷ [])) e ∙ slice_get_after indexes i []
new_by indexes n i None false e l = refl
new_by indexes n i (Some k) b e l =
    let at : slice_get indexes k ≡ Some (get_or indexes k 0) = slice_get-get_or indexes k 0 (l k refl) in
    slice_get_front indexes (i ∷ []) k (l k refl) ∙ at ∙ sym (ap (λ (o : Option ℕ). by_first o b i) at)

-- a new word is added
pub added_new :
    (words : List (List ℕ)) (indexes word : List ℕ) (i : ℕ) (w : List ℕ) → length words ≡ length indexes
    → first_index (words ++ word ∷ []) (indexes ++ i ∷ []) w ≡ by_first (first_index words indexes w) (bytes_eq w word) i
added_new words indexes word i w e =
    ap (option_and_then (slice_get (indexes ++ i ∷ []))) (position_more (bytes_eq w) words word)
    ∙ new_by indexes (length words) i (position (bytes_eq w) words) (bytes_eq w word) e
    (λ k at. subst (λ (n : ℕ). k < n) e (position-Some (bytes_eq w) words k [] at).0)

none_by : (b c : Bool) (n : ℕ) (o : Option ℕ) → cond b (Some n) o ≡ None → (o ≡ None → c ≡ false) → (b || c) ≡ false
none_by true c n o h rest = absurd cc
none_by false c n o h rest = rest h

nowhere_from : (p : List ℕ → Bool) (n : ℕ) (xs : List (List ℕ)) → position_from p n xs ≡ None → list_any p xs ≡ false
nowhere_from p n [] h = refl
nowhere_from p n (x ∷ xs) h = none_by (p x) (list_any p xs) n (position_from p (n + 1) xs) h (nowhere_from p (n + 1) xs)

old_by :
    (words : List (List ℕ)) (indexes word : List ℕ) (i : ℕ) (w : List ℕ) (o : Option ℕ) (b : Bool) → position (bytes_eq w) words ≡ o → bytes_eq w word ≡ b
    → is_among words word ≡ true → ((k : ℕ) → o ≡ Some k → k < length indexes) → option_and_then (slice_get indexes) o ≡ by_first (option_and_then (slice_get indexes) o) b i
old_by words indexes word i w None true at e there l =
    let same : w ≡ word = (bytes_eq-Decides w word).0 e in
    let none : list_any (bytes_eq w) words ≡ false = nowhere_from (bytes_eq w) 0 words (sym (position_is (bytes_eq w) words) ∙ at) in
    let some : list_any (bytes_eq w) words ≡ true = subst (λ (x : List ℕ). list_any (bytes_eq x) words ≡ true) (sym same) there in
    absurd cc
old_by words indexes word i w None false at e there l = refl
old_by words indexes word i w (Some k) b at e there l =
    let here : slice_get indexes k ≡ Some (get_or indexes k 0) = slice_get-get_or indexes k 0 (l k refl) in
    here ∙ sym (ap (λ (o : Option ℕ). by_first o b i) here)

-- a word that is there is not added
pub added_old :
    (words : List (List ℕ)) (indexes word : List ℕ) (i : ℕ) (w : List ℕ) → length words ≡ length indexes → is_among words word ≡ true
    → first_index words indexes w ≡ by_first (first_index words indexes w) (bytes_eq w word) i
added_old words indexes word i w e there =
    old_by words indexes word i w (position (bytes_eq w) words) (bytes_eq w word) refl refl there
    (λ k at. subst (λ (n : ℕ). k < n) e (position-Some (bytes_eq w) words k [] at).0)
