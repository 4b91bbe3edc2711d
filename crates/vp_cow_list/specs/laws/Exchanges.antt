-- Laws of lists in which some chunks of 64 items have others in place of their own.
use Rattle.std.proofs.Common.{◌≡◌, ℕ, zero, suc, ◌+◌, ◌-◌, ◌*◌, ◌/◌, ◌%◌, ◌<◌, ◌≤◌, Bool, true, false, List, [], ◌∷◌, length, min, take, drop, Option, Some, None, refl, ap, sym, subst, inl, inr, ◌∙◌, arith}
use Rattle.std.specs.Prelude.{◌==◌, if◌then◌else◌, slice_get, slice_set, option_map}
use Rattle.std.proofs.Math.Nat.{mod-lt}
use Rattle.std.proofs.lemmas.Bool.{cases_eq, cases_lt, eq-eqb, ne_eqb}
use Rattle.std.proofs.lemmas.Nat.{div-add-mod'}
use Rattle.std.proofs.lemmas.List.{length-take}
use Rattle.std.proofs.lemmas.Option.{slice_get_past}
use Rattle.vp_cow_list.specs.Chunks.{with_items}
use Rattle.vp_cow_list.specs.Exchanges.{AreExchanges, Fits, covered, exchanged_from, exchanged_in, exchanged_item, taken_in}
use Rattle.vp_cow_list.specs.laws.Chunks.{length_with}
use Rattle.vp_cow_list.specs.laws.Tracked.{get_before, get_after, get_drop, get_other, get_same, get_take, get_with, same_items}

-- a list with exchanges is as long as without them
length_from : {X : Type 0} (es : List (Option (ℕ × List X))) (p : ℕ) (xs : List X) → length (exchanged_from es p xs) ≡ length xs
length_from es p [] = refl
length_from es p (x ∷ xs) = omega (arith, length_from es (suc p) xs)

pub length_exchanged : {X : Type 0} (xs : List X) (es : List (Option (ℕ × List X))) → length (exchanged_in xs es) ≡ length xs
length_exchanged xs es = length_from es 0 xs

-- an item of it is that of the exchange that stands for its chunk, if there is one
get_from : {X : Type 0} (es : List (Option (ℕ × List X))) (p k : ℕ) (xs : List X)
    → slice_get (exchanged_from es p xs) k ≡ option_map (covered (exchanged_item (slice_get es ((p + k) / 64 % 4)) (p + k))) (slice_get xs k)
get_from es p k [] = refl
get_from es p zero (x ∷ xs) =
    let e : p ≡ p + 0 = omega arith in
    ap (λ (n : ℕ). Some (covered (exchanged_item (slice_get es (n / 64 % 4)) n) x)) e
get_from es p (suc k) (x ∷ xs) =
    let e : suc p + k ≡ p + suc k = omega arith in
    get_from es (suc p) k xs ∙ ap (λ (n : ℕ). option_map (covered (exchanged_item (slice_get es (n / 64 % 4)) n)) (slice_get xs k)) e

get_exchanged : {X : Type 0} (xs : List X) (es : List (Option (ℕ × List X))) (k : ℕ)
    → slice_get (exchanged_in xs es) k ≡ option_map (covered (exchanged_item (slice_get es (k / 64 % 4)) k)) (slice_get xs k)
get_exchanged xs es k =
    let e : 0 + k ≡ k = omega arith in
    get_from es 0 k xs ∙ ap (λ (n : ℕ). option_map (covered (exchanged_item (slice_get es (n / 64 % 4)) n)) (slice_get xs k)) e

-- the item of an exchange at a place of its chunk
item_own : {X : Type 0} (n : ℕ) (ys : List X) (k : ℕ) → n ≡ k / 64 → exchanged_item (Some (Some (n, ys))) k ≡ slice_get ys (k % 64)
item_own n ys k e = ap (λ (b : Bool). if b then slice_get ys (k % 64) else None) (eq-eqb n (k / 64) e)

-- there is none at another place
pub item_other : {X : Type 0} (n : ℕ) (ys : List X) (k : ℕ) → (n ≡ k / 64 → ⊥) → ◌≡◌ {A = Option X} (exchanged_item (Some (Some (n, ys))) k) None
item_other n ys k e = ap (λ (b : Bool). if b then slice_get ys (k % 64) else None) (ne_eqb n (k / 64) e)

-- where no item stands in its place, the list's own is seen
own_seen : {X : Type 0} (o a : Option X) → a ≡ None → option_map (covered a) o ≡ o
own_seen None a e = refl
own_seen (Some x) None e = refl
own_seen (Some x) (Some y) e = absurd (cc)

-- and where one does, it
other_seen : {X : Type 0} (o a : Option X) → (o ≡ None → ⊥) → (a ≡ None → ⊥) → option_map (covered a) o ≡ a
other_seen None a h g = absurd (h refl)
other_seen (Some x) None h g = absurd (g refl)
other_seen (Some x) (Some y) h g = refl

-- there is an item before the end
some_within : {X : Type 0} (xs : List X) (k : ℕ) → k < length xs → slice_get xs k ≡ None → ⊥
some_within [] k h e = omega arith
some_within (x ∷ xs) zero h e = cc
some_within (x ∷ xs) (suc k) h e = some_within xs k (omega arith) e

-- a whole chunk is put in: an item of it
put_own : {X : Type 0} (xs ys : List X) (n k : ℕ) → length ys ≡ min (length xs - 64 * n) 64 → k / 64 ≡ n → k < length xs
    → slice_get (with_items xs (64 * n) ys) k ≡ slice_get ys (k % 64)
put_own xs ys n k long own h =
    let rest = div-add-mod' k 64 in
    let less = mod-lt k {m = 64} (omega arith) in
    get_with xs ys (64 * n) (k % 64) k (omega (arith, rest, less)) (omega (arith, rest, less)) (omega (arith, rest, less))

-- and of another
put_other : {X : Type 0} (xs ys : List X) (n k : ℕ) → 64 * n < length xs → length ys ≡ min (length xs - 64 * n) 64 → (k / 64 ≡ n → ⊥)
    → slice_get (with_items xs (64 * n) ys) k ≡ slice_get xs k
put_other xs ys n k there long other =
    let rest = div-add-mod' k 64 in
    let less = mod-lt k {m = 64} (omega arith) in
    elim (cases_lt k (64 * n)) [
      | inl h ↦ get_before xs ys (64 * n) k (omega arith) h
      | inr h ↦ elim (cases_lt k (64 * n + 64)) [
        | inl near ↦ absurd (other (omega (arith, rest, less, h, near)))
        | inr far ↦
            elim (cases_lt k (length xs)) [
              | inl within ↦ get_after xs ys (64 * n) k (omega arith) (omega (arith, far))
              | inr past ↦
                  slice_get_past (with_items xs (64 * n) ys) k (omega (arith, length_with xs ys (64 * n) (omega arith), past)) ∙ sym (slice_get_past xs k past)
            ]
      ]
    ]

-- an exchange's items are the chunk of its number
pub chunk_exchanged : {X : Type 0} (xs : List X) (es : List (Option (ℕ × List X))) (ys : List X) (n : ℕ) → slice_get es (n % 4) ≡ Some (Some (n, ys))
    → length ys ≡ min (length xs - 64 * n) 64 → 64 * n < length xs → ys ≡ take 64 (drop (64 * n) (exchanged_in xs es))
chunk_exchanged xs es ys n slot long there =
    let seen = exchanged_in xs es in
    let all = length_exchanged xs es in
    let rest = drop (64 * n) seen in
    same_items ys (take 64 rest) (λ k. elim (cases_lt k 64) [
      | inl h ↦
          let at = div-add-mod' (64 * n + k) 64 in
          let less = mod-lt (64 * n + k) {m = 64} (omega arith) in
          let quotient : n ≡ (64 * n + k) / 64 = omega (arith, at, less) in
          let remainder : (64 * n + k) % 64 ≡ k = omega (arith, at, less) in
          let item = exchanged_item (slice_get es ((64 * n + k) / 64 % 4)) (64 * n + k) in
          let is : item ≡ slice_get ys k =
          ap (λ (m : ℕ). exchanged_item (slice_get es (m % 4)) (64 * n + k)) (sym quotient)
          ∙ ap (λ s. exchanged_item s (64 * n + k)) slot
          ∙ item_own n ys (64 * n + k) quotient
          ∙ ap (slice_get ys) remainder in
          sym (get_take 64 rest k h ∙ get_drop (64 * n) seen k ∙ elim (cases_lt (64 * n + k) (length xs)) [
            | inl within ↦
                get_exchanged xs es (64 * n + k)
                ∙ other_seen (slice_get xs (64 * n + k)) item (some_within xs (64 * n + k) within) (λ none. some_within ys k (omega (arith, within)) (sym is ∙ none))
                ∙ is
            | inr past ↦ slice_get_past seen (64 * n + k) (omega (arith, all, past)) ∙ sym (slice_get_past ys k (omega (arith, past)))
          ])
      | inr h ↦ slice_get_past ys k (omega (arith, h)) ∙ sym (slice_get_past (take 64 rest) k (omega (arith, length-take 64 rest, h)))
    ])

-- where no exchange of its number stands at its place, a chunk is that of the list
pub chunk_kept : {X : Type 0} (xs : List X) (es : List (Option (ℕ × List X))) (n : ℕ)
    → ((k : ℕ) → n ≡ k / 64 → exchanged_item (slice_get es (n % 4)) k ≡ None) → take 64 (drop (64 * n) xs) ≡ take 64 (drop (64 * n) (exchanged_in xs es))
chunk_kept xs es n none =
    let seen = exchanged_in xs es in
    let own = drop (64 * n) xs in
    let rest = drop (64 * n) seen in
    same_items (take 64 own) (take 64 rest) (λ k. elim (cases_lt k 64) [
      | inl h ↦
          let at = div-add-mod' (64 * n + k) 64 in
          let less = mod-lt (64 * n + k) {m = 64} (omega arith) in
          let quotient : n ≡ (64 * n + k) / 64 = omega (arith, at, less) in
          let item = exchanged_item (slice_get es ((64 * n + k) / 64 % 4)) (64 * n + k) in
          let is : item ≡ None = ap (λ (m : ℕ). exchanged_item (slice_get es (m % 4)) (64 * n + k)) (sym quotient) ∙ none (64 * n + k) quotient in
          get_take 64 own k h ∙ get_drop (64 * n) xs k
          ∙ sym (get_take 64 rest k h ∙ get_drop (64 * n) seen k ∙ get_exchanged xs es (64 * n + k) ∙ own_seen (slice_get xs (64 * n + k)) item is)
      | inr h ↦
          slice_get_past (take 64 own) k (omega (arith, length-take 64 own, h)) ∙ sym (slice_get_past (take 64 rest) k (omega (arith, length-take 64 rest, h)))
    ])

-- a list that has taken in an exchange is as long as before
length_by : {X : Type 0} (xs ys : List X) (p : ℕ) (b : Bool) → p + length ys ≤ length xs → length (if b then xs else with_items xs p ys) ≡ length xs
length_by xs ys p true l = refl
length_by xs ys p false l = length_with xs ys p l

pub length_taken : {X : Type 0} (xs : List X) (o : Option (ℕ × List X)) (n place : ℕ) → Fits (length xs) place (Some o) → length (taken_in xs o n) ≡ length xs
length_taken xs None n place fits = refl
length_taken xs (Some e) n place fits = length_by xs e.1 (64 * e.0) (e.0 == n) (omega (arith, fits.1, fits.2))

-- what is taken in was seen before, but where the chunk is that of the number
taken_at : {X : Type 0} (xs : List X) (o : Option (ℕ × List X)) (n k place : ℕ) → Fits (length xs) place (Some o) → (k / 64 ≡ n → ⊥)
    → slice_get (taken_in xs o n) k ≡ option_map (covered (exchanged_item (Some o) k)) (slice_get xs k)
taken_at xs None n k place fits other = sym (own_seen (slice_get xs k) None refl)
taken_at xs (Some e) n k place fits other =
    let item = exchanged_item (Some (Some e)) k in
    let taken = with_items xs (64 * e.0) e.1 in
    let none : (e.0 ≡ k / 64 → ⊥) → slice_get xs k ≡ option_map (covered item) (slice_get xs k) =
    λ apart. sym (own_seen (slice_get xs k) item (item_other e.0 e.1 k apart)) in
    elim (cases_eq e.0 n) [
      | inl same ↦
          ap (λ (b : Bool). slice_get (if b then xs else taken) k) (eq-eqb e.0 n same) ∙ none (λ at. other (sym at ∙ same))
      | inr differ ↦
          ap (λ (b : Bool). slice_get (if b then xs else taken) k) (ne_eqb e.0 n differ) ∙ elim (cases_eq e.0 (k / 64)) [
            | inl here ↦ elim (cases_lt k (length xs)) [
              | inl within ↦
                  let rest = div-add-mod' k 64 in
                  let less = mod-lt k {m = 64} (omega arith) in
                  let is = item_own e.0 e.1 k here in
                  put_own xs e.1 e.0 k fits.2 (sym here) within
                  ∙ sym is
                  ∙ sym (other_seen (slice_get xs k) item (some_within xs k within) (λ no. some_within e.1 (k % 64) (omega (arith, fits.2, rest, less, within, here)) (sym is ∙ no)))
              | inr past ↦
                  slice_get_past taken k (omega (arith, length_with xs e.1 (64 * e.0) (omega (arith, fits.1, fits.2)), past))
                  ∙ sym (ap (option_map (covered item)) (slice_get_past xs k past))
            ]
            | inr apart ↦ put_other xs e.1 e.0 k fits.1 fits.2 (λ at. apart (sym at)) ∙ none apart
          ]
    ]

-- an exchange has no item of a chunk whose number has another rest
item_apart : {X : Type 0} (o : Option (ℕ × List X)) (count place k : ℕ) → Fits count place (Some o) → (k / 64 % 4 ≡ place → ⊥)
    → ◌≡◌ {A = Option X} (exchanged_item (Some o) k) None
item_apart None count place k fits apart = refl
item_apart (Some e) count place k fits apart = item_other e.0 e.1 k (λ at. apart (sym (ap (λ (m : ℕ). m % 4) at) ∙ fits.0))

-- an item of the list in which a chunk is exchanged, in that chunk
own_put : {X : Type 0} (xs taken : List X) (es : List (Option (ℕ × List X))) (ys : List X) (n k : ℕ) → length es ≡ 4 → length taken ≡ length xs
    → 64 * n < length xs → length ys ≡ min (length xs - 64 * n) 64 → k / 64 ≡ n
    → slice_get (exchanged_in taken (slice_set es (n % 4) (Some (n, ys)))) k ≡ slice_get (with_items (exchanged_in xs es) (64 * n) ys) k
own_put xs taken es ys n k four same there long own =
    let new = slice_set es (n % 4) (Some (n, ys)) in
    let seen = exchanged_in xs es in
    let all = length_exchanged xs es in
    let now = length_exchanged taken new in
    let rest = div-add-mod' k 64 in
    let less = mod-lt k {m = 64} (omega arith) in
    elim (cases_lt k (length xs)) [
      | inl within ↦
          let item = exchanged_item (slice_get new (k / 64 % 4)) k in
          let is : item ≡ slice_get ys (k % 64) =
          ap (λ (m : ℕ). exchanged_item (slice_get new (m % 4)) k) own
          ∙ ap (λ s. exchanged_item s k) (get_same es (n % 4) (Some (n, ys)) (omega (arith, four, mod-lt n {m = 4} (omega arith))))
          ∙ item_own n ys k (sym own) in
          get_exchanged taken new k
          ∙ other_seen (slice_get taken k) item (some_within taken k (omega (arith, same, within))) (λ none. some_within ys (k % 64) (omega (arith, rest, less, within)) (sym is ∙ none))
          ∙ is
          ∙ sym (put_own seen ys n k (omega (arith, all, long)) own (omega (arith, all, within)))
      | inr past ↦
          slice_get_past (exchanged_in taken new) k (omega (arith, now, same, past))
          ∙ sym (slice_get_past (with_items seen (64 * n) ys) k (omega (arith, length_with seen ys (64 * n) (omega (arith, all)), all, past)))
    ]

-- a chunk is exchanged, for which another at its place is taken in: it is put in the list that was seen
pub put_exchange : {X : Type 0} (xs : List X) (es : List (Option (ℕ × List X))) (o : Option (ℕ × List X)) (ys : List X) (n : ℕ) → length es ≡ 4
    → AreExchanges (length xs) es → slice_get es (n % 4) ≡ Some o → 64 * n < length xs → length ys ≡ min (length xs - 64 * n) 64
    → exchanged_in (taken_in xs o n) (slice_set es (n % 4) (Some (n, ys))) ≡ with_items (exchanged_in xs es) (64 * n) ys
put_exchange xs es o ys n four all slot there long =
    let new = slice_set es (n % 4) (Some (n, ys)) in
    let seen = exchanged_in xs es in
    let taken = taken_in xs o n in
    let fits = subst (Fits (length xs) (n % 4)) slot (all (n % 4)) in
    let whole : length ys ≡ min (length seen - 64 * n) 64 = omega (arith, length_exchanged xs es, long) in
    let within : 64 * n < length seen = omega (arith, length_exchanged xs es, there) in
    same_items (exchanged_in taken new) (with_items seen (64 * n) ys) (λ k. elim (cases_eq (k / 64) n) [
      | inl own ↦ own_put xs taken es ys n k four (length_taken xs o n (n % 4) fits) there long own
      | inr other ↦
          get_exchanged taken new k
          ∙ elim (cases_eq (k / 64 % 4) (n % 4)) [
            | inl same ↦
                own_seen (slice_get taken k) (exchanged_item (slice_get new (k / 64 % 4)) k)
                (ap (λ (m : ℕ). exchanged_item (slice_get new m) k) same
                ∙ ap (λ s. exchanged_item s k) (get_same es (n % 4) (Some (n, ys)) (omega (arith, four, mod-lt n {m = 4} (omega arith))))
                ∙ item_other n ys k (λ at. other (sym at)))
                ∙ taken_at xs o n k (n % 4) fits other
                ∙ ap (λ s. option_map (covered (exchanged_item s k)) (slice_get xs k)) (sym (ap (slice_get es) same ∙ slot))
            | inr apart ↦
                ap (λ s. option_map (covered (exchanged_item s k)) (slice_get taken k)) (get_other es (n % 4) (k / 64 % 4) (Some (n, ys)) apart)
                ∙ ap (option_map (covered (exchanged_item (slice_get es (k / 64 % 4)) k)))
                (taken_at xs o n k (n % 4) fits other ∙ own_seen (slice_get xs k) (exchanged_item (Some o) k) (item_apart o (length xs) (n % 4) k fits apart))
          ]
          ∙ sym (get_exchanged xs es k)
          ∙ sym (put_other seen ys n k within whole other)
    ])

-- and the exchanges stay such
pub still_exchanges : {X : Type 0} (es : List (Option (ℕ × List X))) (ys : List X) (count n : ℕ) → length es ≡ 4 → AreExchanges count es
    → 64 * n < count → length ys ≡ min (count - 64 * n) 64 → AreExchanges count (slice_set es (n % 4) (Some (n, ys)))
still_exchanges es ys count n four all there long = λ place.
    elim (cases_eq place (n % 4)) [
      | inl e ↦
          let set = get_same es (n % 4) (Some (n, ys)) (omega (arith, four, mod-lt n {m = 4} (omega arith))) in
          subst (λ (p : ℕ). Fits count p (slice_get (slice_set es (n % 4) (Some (n, ys))) p)) (sym e)
          (subst (Fits count (n % 4)) (sym set) (refl, there, long))
      | inr other ↦ subst (Fits count place) (sym (get_other es (n % 4) place (Some (n, ys)) other)) (all place)
    ]

-- where there are none, no item stands in place of another
no_item : {X : Type 0} (place k : ℕ) → ◌≡◌ {A = Option X} (exchanged_item (slice_get (None ∷ None ∷ None ∷ None ∷ []) place) k) None
no_item zero k = refl
no_item (suc zero) k = refl
no_item (suc (suc zero)) k = refl
no_item (suc (suc (suc zero))) k = refl
no_item (suc (suc (suc (suc place)))) k = refl

-- and the list is seen as it is
pub none_exchanged : {X : Type 0} (xs : List X) → exchanged_in xs (None ∷ None ∷ None ∷ None ∷ []) ≡ xs
none_exchanged {X = X} xs =
    let none : List (Option (ℕ × List X)) = None ∷ None ∷ None ∷ None ∷ [] in
    same_items (exchanged_in xs none) xs (λ k.
    get_exchanged xs none k ∙ own_seen (slice_get xs k) (exchanged_item (slice_get none (k / 64 % 4)) k) (no_item (k / 64 % 4) k))

-- an item of a list is that of its chunk
pub get_in_chunk : {X : Type 0} (xs : List X) (k : ℕ) → slice_get (take 64 (drop (64 * (k / 64)) xs)) (k % 64) ≡ slice_get xs k
get_in_chunk xs k =
    let rest = div-add-mod' k 64 in
    let e : 64 * (k / 64) + k % 64 ≡ k = omega (arith, rest) in
    get_take 64 (drop (64 * (k / 64)) xs) (k % 64) (mod-lt k {m = 64} (omega arith)) ∙ get_drop (64 * (k / 64)) xs (k % 64) ∙ ap (slice_get xs) e
