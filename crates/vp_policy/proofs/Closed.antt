-- Closed lists, of a user and each list of declared envelopes.
use Rattle.std.proofs.Common.{◌≡◌, ℕ, ◌+◌, ◌<◌, Bool, List, [], ◌∷◌, ◌++◌, length, filter, take, get_or, slice_get, Option, Some, inl, inr, sym, ap, ◌∙◌}
use Rattle.std.specs.Prelude.{if◌then◌else◌, option_map}
use Rattle.std.proofs.lemmas.List.{map-append, take_more}
use Rattle.std.proofs.lemmas.List.Elements.{filter-append}
use Rattle.std.proofs.lemmas.Option.{slice_get-map}
use Rattle.vp_policy.specs.Filter.{is_closed}
use Rattle.vp_policy.specs.RightsTables.{closed_among}
use Rattle.vp_policy.specs.Users.{Member}
use Rattle.vp_policy.proofs.Entries.{last_cases}

-- ---- the numbers of lists

-- one number more
pub numbers_more :
    (want : ℕ → List ℕ) (lists more : List (List ℕ)) (numbers : List ℕ) (n k : ℕ)
    → length numbers ≡ n → ((j : ℕ) (known : List ℕ) → slice_get lists j ≡ Some known → slice_get more j ≡ Some known) → slice_get more k ≡ Some (want n)
    → ((o j : ℕ) → slice_get numbers o ≡ Some j → slice_get lists j ≡ Some (want o))
    → (o j : ℕ) → slice_get (numbers ++ k ∷ []) o ≡ Some j → slice_get more j ≡ Some (want o)
numbers_more want lists more numbers n k long kept own before o j there =
    elim (last_cases numbers k o j there) [
      | inl h ↦ kept j (want o) (before o j h)
      | inr h ↦ ap (slice_get more) (sym h.1) ∙ own ∙ ap (λ (i : ℕ). (let w : Option (List ℕ) = Some (want i) in w)) (sym long ∙ h.0)
    ]

-- ---- closed lists

-- of one envelope more
pub closed_more : (u : Member) (list numbers after : List ℕ) (n : ℕ) (b : Bool) → n < length list → numbers ≡ filter (is_closed u) (take n list) → b ≡ is_closed u (get_or list n 0) → after ≡ numbers ++ (if b then get_or list n 0 ∷ [] else []) → after ≡ filter (is_closed u) (take (n + 1) list)
closed_more u list numbers after n b within are tested is =
    let e : ℕ = get_or list n 0 in
    is ∙ ap (λ (xs : List ℕ). xs ++ (if b then e ∷ [] else [])) are
    ∙ ap (λ (t : Bool). filter (is_closed u) (take n list) ++ (if t then e ∷ [] else [])) tested
    ∙ sym (filter-append (is_closed u) (take n list) (e ∷ []))
    ∙ sym (ap (filter (is_closed u)) (take_more list n 0 within))

-- of one list more
pub among_more : (u : Member) (lists closed after : List (List ℕ)) (n : ℕ) (own d : List ℕ) → n < length lists → closed ≡ closed_among u (take n lists) → own ≡ filter (is_closed u) (get_or lists n d) → after ≡ closed ++ own ∷ [] → after ≡ closed_among u (take (n + 1) lists)
among_more u lists closed after n own d within are own_is is =
    is ∙ ap (λ (xs : List (List ℕ)). xs ++ own ∷ []) are
    ∙ ap (λ (x : List ℕ). closed_among u (take n lists) ++ x ∷ []) own_is
    ∙ sym (map-append (filter (is_closed u)) (take n lists) (get_or lists n d ∷ []))
    ∙ sym (ap (closed_among u) (take_more lists n d within))

-- what is closed of the list of a number
pub closed_found :
    (u : Member) (lists closed : List (List ℕ)) (number : ℕ) (list : List ℕ)
    → closed ≡ closed_among u lists → slice_get lists number ≡ Some list → slice_get closed number ≡ Some (filter (is_closed u) list)
closed_found u lists closed number list are there =
    ap (λ (xs : List (List ℕ)). slice_get xs number) are ∙ slice_get-map (filter (is_closed u)) lists number ∙ ap (option_map (filter (is_closed u))) there
