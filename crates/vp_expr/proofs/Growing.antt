-- Lists that grow by an item a turn, as a loop goes over others.
use Rattle.std.proofs.Common.{◌≡◌, ◌∙◌, ℕ, ◌+◌, ◌<◌, Option, Some, List, [], ◌∷◌, ◌++◌, length, map, take, drop, get_or, sym, ap, append_assoc, add-one, drop-cons}
use Rattle.std.proofs.lemmas.List.{map-append, take_more}
use Rattle.std.proofs.lemmas.List.Sums.{fold-append}
use Rattle.std.specs.List.{cons_option, filter_map, flat_map, fold}

-- what is left begins with the next item
next_left : {A : Type 0} (items : List A) (i : ℕ) (d : A) → i < length items → drop i items ≡ get_or items i d ∷ drop (i + 1) items
next_left items i d h = drop-cons items i d h ∙ ap (λ n. get_or items i d ∷ drop n items) (sym (add-one i))

-- one more item of those that are made, before what is left to make
pub map_left : {A B : Type 0} (f : A → B) (made : List B) (items : List A) (i : ℕ) (d : A) (x : B) (whole : List B) → i < length items → made ++ map f (drop i items) ≡ whole → x ≡ f (get_or items i d) → (made ++ x ∷ []) ++ map f (drop (i + 1) items) ≡ whole
map_left f made items i d x whole h so_far is =
    append_assoc made (x ∷ []) (map f (drop (i + 1) items))
    ∙ ap (λ y. made ++ (y ∷ map f (drop (i + 1) items))) is
    ∙ ap (λ l. made ++ map f l) (sym (next_left items i d h))
    ∙ so_far

-- one more item of those that are made of the first ones
pub map_taken : {A B : Type 0} (f : A → B) (made : List B) (items : List A) (i : ℕ) (d : A) (x : B) → i < length items → made ≡ map f (take i items) → x ≡ f (get_or items i d) → made ++ x ∷ [] ≡ map f (take (i + 1) items)
map_taken f made items i d x h so_far is =
    ap (λ y. made ++ y ∷ []) is
    ∙ ap (λ l. l ++ f (get_or items i d) ∷ []) so_far
    ∙ sym (ap (map f) (take_more items i d h) ∙ map-append f (take i items) (get_or items i d ∷ []))

-- one more item of a fold, before those that are left
pub fold_left : {A B : Type 0} (f : B → A → B) (so_far : B) (items : List A) (i : ℕ) (d : A) (next whole : B) → i < length items → fold f so_far (drop i items) ≡ whole → next ≡ f so_far (get_or items i d) → fold f next (drop (i + 1) items) ≡ whole
fold_left f so_far items i d next whole h same is =
    ap (λ b. fold f b (drop (i + 1) items)) is
    ∙ ap (fold f so_far) (sym (next_left items i d h))
    ∙ same

-- what is made of the next item, if something is, before what is left to make
pub option_left : {A B : Type 0} (f : A → Option B) (made : List B) (items : List A) (i : ℕ) (d : A) (x : Option B) (whole : List B) → i < length items → made ++ filter_map f (drop i items) ≡ whole → x ≡ f (get_or items i d) → made ++ cons_option x (filter_map f (drop (i + 1) items)) ≡ whole
option_left f made items i d x whole h so_far is =
    ap (λ o. made ++ cons_option o (filter_map f (drop (i + 1) items))) is
    ∙ ap (λ l. made ++ filter_map f l) (sym (next_left items i d h))
    ∙ so_far

-- the same where something is made of the next item
pub option_pushed : {A B : Type 0} (f : A → Option B) (made : List B) (items : List A) (i : ℕ) (d : A) (x : B) (whole : List B) → i < length items → made ++ filter_map f (drop i items) ≡ whole → Some x ≡ f (get_or items i d) → (made ++ x ∷ []) ++ filter_map f (drop (i + 1) items) ≡ whole
option_pushed f made items i d x whole h so_far is =
    append_assoc made (x ∷ []) (filter_map f (drop (i + 1) items)) ∙ option_left f made items i d (Some x) whole h so_far is

-- one more list of a fold over lists, before those that are left
pub folds_left : {A B C : Type 0} (g : C → B → C) (f : A → List B) (so_far : C) (items : List A) (i : ℕ) (d : A) (next whole : C) → i < length items → fold g so_far (flat_map f (drop i items)) ≡ whole → next ≡ fold g so_far (f (get_or items i d)) → fold g next (flat_map f (drop (i + 1) items)) ≡ whole
folds_left g f so_far items i d next whole h same is =
    ap (λ c. fold g c (flat_map f (drop (i + 1) items))) is
    ∙ sym (fold-append g so_far (f (get_or items i d)) (flat_map f (drop (i + 1) items)))
    ∙ ap (λ l. fold g so_far (flat_map f l)) (sym (next_left items i d h))
    ∙ same
