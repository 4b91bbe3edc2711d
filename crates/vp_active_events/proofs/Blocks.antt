-- Slots that are counted in blocks.
use Rattle.std.proofs.Common.{◌≡◌, ◌∙◌, ℕ, ◌+◌, ◌-◌, ◌*◌, ◌/◌, ◌<◌, ◌≤◌, Bool, true, false, cond, eqb, List, [], ◌∷◌, ◌++◌, inl, inr, ap, refl, sym, arith, subst, length, length-append, take, drop, get_or, set, get_or-set_other, get_or-set_same, eq-eqb, ne_eqb}
use Rattle.std.specs.List.{count_by, sum_by}
use Rattle.std.proofs.Math.Seq.{take-set-lt}
use Rattle.std.proofs.lemmas.Bool.{cases_eq, cases_lt}
use Rattle.std.proofs.lemmas.List.{drop-append-le, drop-set-add, drop-set-lt, drop_all, get_or-drop, get_or-take, length-drop, length-set, length-take, take-append-le, take-set-le, take_all, take_more}
use Rattle.std.proofs.lemmas.List.Sums.{count_by-le-length, get_or-le-sum_by, sum_by-set, sum_by_push}
use Rattle.vp_active_events.specs.declared.slot.Slot.{Slot}
use Rattle.vp_active_events.specs.Blocks.{block_of}
use Rattle.vp_active_events.specs.Slots.{AreBlocksCounted, counted_in_blocks, counted_more, is_ready}

abbrev number : Bool → ℕ
number b = cond b 1 0

abbrev weight : Slot → ℕ
weight s = cond (is_ready s) 1 0

-- a block after all slots is empty
pub block_past : (n : ℕ) (ss : List Slot) → length ss ≤ 16 * n → block_of n ss ≡ []
block_past n ss past = ap (take 16) (drop_all (16 * n) ss past)

-- no more slots are counted than a block has
pub block_few : (n : ℕ) (ss : List Slot) → count_by is_ready (block_of n ss) ≤ 16
block_few n ss = omega (arith, count_by-le-length is_ready (block_of n ss), length-take 16 (drop (16 * n) ss))

in_blocks_few : (empty : ℕ) (ss : List Slot) (b : Bool) (cs : List ℕ) (n : ℕ) → AreBlocksCounted (cond b [] ss) cs → get_or cs n 0 ≤ 16
in_blocks_few empty ss true cs n h = let at = h n in omega (arith, at, block_few n [])
in_blocks_few empty ss false cs n h = let at = h n in omega (arith, at, block_few n ss)

pub counted_few : (empty : ℕ) (ss : List Slot) (cs : List ℕ) (n : ℕ) → AreBlocksCounted (counted_in_blocks empty ss) cs → get_or cs n 0 ≤ 16
counted_few empty ss cs n h = in_blocks_few empty ss (eqb empty 0) cs n h

-- ---- one more slot

block_push : (ss : List Slot) (s : Slot) (n : ℕ) → count_by is_ready (block_of n (ss ++ s ∷ [])) ≡ count_by is_ready (block_of n ss) + cond (eqb (length ss / 16) n) (weight s) 0
block_push ss s n = elim (cases_eq (length ss / 16) n) [
  | inl same ↦
      (let within : 16 * n ≤ length ss = omega (arith, same) in
      let more : block_of n (ss ++ s ∷ []) ≡ drop (16 * n) ss ++ s ∷ [] =
      ap (take 16) (drop-append-le (16 * n) ss (s ∷ []) within) ∙ take_all 16 (drop (16 * n) ss ++ s ∷ []) (omega (arith, same, length-drop (16 * n) ss, length-append (drop (16 * n) ss) (s ∷ []))) in
      let before : block_of n ss ≡ drop (16 * n) ss = take_all 16 (drop (16 * n) ss) (omega (arith, same, length-drop (16 * n) ss)) in
      ap (count_by is_ready) more
      ∙ sum_by_push weight (drop (16 * n) ss) s
      ∙ ap (λ (bs : List Slot). count_by is_ready bs + weight s) (sym before)
      ∙ ap (λ (b : Bool). count_by is_ready (block_of n ss) + cond b (weight s) 0) (sym (eq-eqb (length ss / 16) n same)))
  | inr other ↦
      (let here : block_of n (ss ++ s ∷ []) ≡ block_of n ss = elim (cases_lt (length ss) (16 * n)) [
        | inl past ↦ block_past n (ss ++ s ∷ []) (omega (arith, past, length-append ss (s ∷ []))) ∙ sym (block_past n ss (omega arith))
        | inr within ↦
            ap (take 16) (drop-append-le (16 * n) ss (s ∷ []) within)
            ∙ take-append-le 16 (drop (16 * n) ss) (s ∷ []) (omega (arith, within, other, length-drop (16 * n) ss))
      ] in
      ap (count_by is_ready) here
      ∙ omega arith
      ∙ ap (λ (b : Bool). count_by is_ready (block_of n ss) + cond b (weight s) 0) (sym (ne_eqb (length ss / 16) n other)))
]

set_more : (cs : List ℕ) (m n w : ℕ) → m < length cs → get_or (set cs m (get_or cs m 0 + w)) n 0 ≡ get_or cs n 0 + cond (eqb m n) w 0
set_more cs m n w within = elim (cases_eq m n) [
  | inl same ↦
      ap (λ (i : ℕ). get_or (set cs m (get_or cs m 0 + w)) i 0) (sym same)
      ∙ get_or-set_same cs m (get_or cs m 0 + w) 0 within
      ∙ ap (λ (i : ℕ). get_or cs i 0 + w) same
      ∙ ap (λ (b : Bool). get_or cs n 0 + cond b w 0) (sym (eq-eqb m n same))
  | inr other ↦
      get_or-set_other cs m n (get_or cs m 0 + w) 0 (λ h. other (sym h))
      ∙ omega arith
      ∙ ap (λ (b : Bool). get_or cs n 0 + cond b w 0) (sym (ne_eqb m n other))
]

-- one more slot is counted in its block
pub blocks_push : (ss : List Slot) (s : Slot) (cs : List ℕ) → AreBlocksCounted ss cs → length ss < 16 * length cs → AreBlocksCounted (ss ++ s ∷ []) (set cs (length ss / 16) (get_or cs (length ss / 16) 0 + weight s))
blocks_push ss s cs h within n =
    set_more cs (length ss / 16) n (weight s) (omega (arith, within))
    ∙ ap (λ (c : ℕ). c + cond (eqb (length ss / 16) n) (weight s) 0) (h n)
    ∙ sym (block_push ss s n)

pub blocks_more : (ss : List Slot) (p : ℕ) (s : Slot) (cs ds : List ℕ) → AreBlocksCounted (take p ss) cs → p < length ss → s ≡ get_or ss p s → length ss ≤ 16 * length cs → ds ≡ set cs (p / 16) (get_or cs (p / 16) 0 + weight s) → AreBlocksCounted (take (p + 1) ss) ds
blocks_more ss p s cs ds h within is fits by =
    let long : length (take p ss) ≡ p = length-take p ss ∙ omega arith in
    let next : take p ss ++ s ∷ [] ≡ take (p + 1) ss = ap (λ (x : Slot). take p ss ++ x ∷ []) is ∙ sym (take_more ss p s within) in
    let P : ℕ → Type 0 = λ n. AreBlocksCounted (take p ss ++ s ∷ []) (set cs (n / 16) (get_or cs (n / 16) 0 + weight s)) in
    let more = subst P long (blocks_push (take p ss) s cs h (omega (arith, long, within, fits))) in
    subst (λ (es : List ℕ). AreBlocksCounted (take (p + 1) ss) es) (sym by) (subst (λ (xs : List Slot). AreBlocksCounted xs (set cs (p / 16) (get_or cs (p / 16) 0 + weight s))) next more)

-- ---- a slot that becomes another

-- the sum of a block, where an item becomes another
pub sums_set : {X : Type 0} (f : X → ℕ) (xs : List X) (p : ℕ) (s t : X) (n : ℕ) → p < length xs → s ≡ get_or xs p s → sum_by f (block_of n (set xs p t)) + cond (eqb (p / 16) n) (f s) 0 ≡ sum_by f (block_of n xs) + cond (eqb (p / 16) n) (f t) 0
sums_set {X} f xs p s t n within is = elim (cases_eq (p / 16) n) [
  | inl same ↦
      (let i = p - 16 * n in
      let at : 16 * n + i ≡ p = omega (arith, same) in
      let small : i < 16 = omega (arith, same) in
      let bs : List X = block_of n xs in
      let set_is : block_of n (set xs p t) ≡ set bs i t =
      ap (λ (q : ℕ). block_of n (set xs q t)) (sym at) ∙ ap (take 16) (drop-set-add (16 * n) xs i t) ∙ take-set-lt 16 (drop (16 * n) xs) i t small in
      let here : get_or bs i s ≡ s = get_or-take 16 (drop (16 * n) xs) i s small ∙ get_or-drop (16 * n) xs i s ∙ ap (λ (q : ℕ). get_or xs q s) at ∙ sym is in
      let inside : i < length bs = omega (arith, small, at, within, length-take 16 (drop (16 * n) xs), length-drop (16 * n) xs) in
      let all = sum_by-set f bs i t s inside in
      let eq = eq-eqb (p / 16) n same in
      ap (λ (b : Bool). sum_by f (block_of n (set xs p t)) + cond b (f s) 0) eq
      ∙ ap (λ (ys : List X). sum_by f ys + f s) set_is
      ∙ ap (λ (x : X). sum_by f (set bs i t) + f x) (sym here)
      ∙ all
      ∙ ap (λ (b : Bool). sum_by f bs + cond b (f t) 0) (sym eq))
  | inr other ↦
      (let here : block_of n (set xs p t) ≡ block_of n xs = elim (cases_lt p (16 * n)) [
        | inl before ↦ ap (take 16) (drop-set-lt (16 * n) xs p t before)
        | inr following ↦
            (let i = p - 16 * n in
            let at : 16 * n + i ≡ p = omega (arith, following) in
            ap (λ (q : ℕ). block_of n (set xs q t)) (sym at) ∙ ap (take 16) (drop-set-add (16 * n) xs i t) ∙ take-set-le 16 (drop (16 * n) xs) i t (omega (arith, following, other)))
      ] in
      let ne = ne_eqb (p / 16) n other in
      ap (λ (b : Bool). sum_by f (block_of n (set xs p t)) + cond b (f s) 0) ne
      ∙ ap (λ (ys : List X). sum_by f ys + 0) here
      ∙ ap (λ (b : Bool). sum_by f (block_of n xs) + cond b (f t) 0) (sym ne))
]

-- an item counts in its block
pub item_few : {X : Type 0} (f : X → ℕ) (xs : List X) (p : ℕ) (s : X) → p < length xs → s ≡ get_or xs p s → f s ≤ sum_by f (block_of (p / 16) xs)
item_few {X} f xs p s within is =
    let n = p / 16 in
    let i = p - 16 * n in
    let at : 16 * n + i ≡ p = omega arith in
    let small : i < 16 = omega arith in
    let bs : List X = block_of n xs in
    let here : get_or bs i s ≡ s = get_or-take 16 (drop (16 * n) xs) i s small ∙ get_or-drop (16 * n) xs i s ∙ ap (λ (q : ℕ). get_or xs q s) at ∙ sym is in
    let inside : i < length bs = omega (arith, small, at, within, length-take 16 (drop (16 * n) xs), length-drop (16 * n) xs) in
    let few = get_or-le-sum_by f bs i s inside in
    let one = ap f here in
    omega (arith, few, one)

block_set : (ss : List Slot) (p : ℕ) (s t : Slot) (n : ℕ) → p < length ss → s ≡ get_or ss p s → count_by is_ready (block_of n (set ss p t)) + cond (eqb (p / 16) n) (weight s) 0 ≡ count_by is_ready (block_of n ss) + cond (eqb (p / 16) n) (weight t) 0
block_set ss p s t n within is = sums_set weight ss p s t n within is

-- a slot at a place becomes another
pub blocks_set : (ss : List Slot) (p c : ℕ) (s t : Slot) (cs : List ℕ) → AreBlocksCounted ss cs → p < length ss → length ss ≤ 16 * length cs → s ≡ get_or ss p s → c + weight s ≡ get_or cs (p / 16) 0 + weight t → AreBlocksCounted (set ss p t) (set cs (p / 16) c)
blocks_set ss p c s t cs h within fits is counts n =
    let all = block_set ss p s t n within is in
    let at = h n in
    elim (cases_eq (p / 16) n) [
      | inl same ↦
          (let eq = eq-eqb (p / 16) n same in
          let both : count_by is_ready (block_of n (set ss p t)) + weight s ≡ count_by is_ready (block_of n ss) + weight t =
          ap (λ (b : Bool). count_by is_ready (block_of n (set ss p t)) + cond b (weight s) 0) (sym eq) ∙ all ∙ ap (λ (b : Bool). count_by is_ready (block_of n ss) + cond b (weight t) 0) eq in
          let here : get_or (set cs (p / 16) c) n 0 ≡ c =
          ap (λ (i : ℕ). get_or (set cs (p / 16) c) i 0) (sym same) ∙ get_or-set_same cs (p / 16) c 0 (omega (arith, within, fits)) in
          let there = ap (λ (i : ℕ). get_or cs i 0) same in
          omega (arith, both, here, at, counts, there))
      | inr other ↦
          (let ne = ne_eqb (p / 16) n other in
          let both : count_by is_ready (block_of n (set ss p t)) + 0 ≡ count_by is_ready (block_of n ss) + 0 =
          ap (λ (b : Bool). count_by is_ready (block_of n (set ss p t)) + cond b (weight s) 0) (sym ne) ∙ all ∙ ap (λ (b : Bool). count_by is_ready (block_of n ss) + cond b (weight t) 0) ne in
          let here = get_or-set_other cs (p / 16) n c 0 (λ e. other (sym e)) in
          omega (arith, both, here, at))
    ]

-- a slot that is ready is counted
pub some_counted : (ss : List Slot) (p : ℕ) (s : Slot) (cs : List ℕ) → AreBlocksCounted ss cs → p < length ss → s ≡ get_or ss p s → is_ready s ≡ true → 1 ≤ get_or cs (p / 16) 0
some_counted ss p s cs h within is ready =
    let few = item_few weight ss p s within is in
    let one = ap number ready in
    let counted = h (p / 16) in
    omega (arith, few, one, counted)

-- ---- where slots are counted in blocks only while one is empty

in_blocks_push : (b : Bool) (ss : List Slot) (s : Slot) (cs : List ℕ) → AreBlocksCounted (cond b [] ss) cs → length ss < 16 * length cs → AreBlocksCounted (cond b [] (ss ++ s ∷ [])) (cond b cs (set cs (length ss / 16) (get_or cs (length ss / 16) 0 + weight s)))
in_blocks_push true ss s cs h within = h
in_blocks_push false ss s cs h within = blocks_push ss s cs h within

pub more_in_blocks : (empty : ℕ) (ss : List Slot) (s : Slot) (cs : List ℕ) → AreBlocksCounted (counted_in_blocks empty ss) cs → length ss < 16 * length cs → AreBlocksCounted (counted_in_blocks empty (ss ++ s ∷ [])) (counted_more empty (length ss) (is_ready s) cs)
more_in_blocks empty ss s cs h within = in_blocks_push (eqb empty 0) ss s cs h within

in_blocks_set : (b : Bool) (ss : List Slot) (p : ℕ) (s t : Slot) (cs : List ℕ) → AreBlocksCounted (cond b [] ss) cs → p < length ss → length ss ≤ 16 * length cs → s ≡ get_or ss p s → is_ready s ≡ false
    → AreBlocksCounted (cond b [] (set ss p t)) (cond b cs (set cs (p / 16) (get_or cs (p / 16) 0 + weight t)))
in_blocks_set true ss p s t cs h within fits is other = h
in_blocks_set false ss p s t cs h within fits is other =
    let none = ap number other in
    blocks_set ss p (get_or cs (p / 16) 0 + weight t) s t cs h within fits is (omega (arith, none))

-- a slot that was not counted becomes another
pub set_in_blocks : (empty : ℕ) (ss : List Slot) (p : ℕ) (s t : Slot) (cs : List ℕ) → AreBlocksCounted (counted_in_blocks empty ss) cs → p < length ss → length ss ≤ 16 * length cs → s ≡ get_or ss p s → is_ready s ≡ false
    → AreBlocksCounted (counted_in_blocks empty (set ss p t)) (counted_more empty p (is_ready t) cs)
set_in_blocks empty ss p s t cs h within fits is other = in_blocks_set (eqb empty 0) ss p s t cs h within fits is other

more_length : (b : Bool) (cs : List ℕ) (m c : ℕ) → length (cond b cs (set cs m c)) ≡ length cs
more_length true cs m c = refl
more_length false cs m c = length-set cs m c

pub length-counted_more : (empty p : ℕ) (ready : Bool) (cs : List ℕ) → length (counted_more empty p ready cs) ≡ length cs
length-counted_more empty p ready cs = more_length (eqb empty 0) cs (p / 16) (get_or cs (p / 16) 0 + cond ready 1 0)

-- after the blocks of all slots no slot is counted
past_blocks : (b : Bool) (ss : List Slot) (cs : List ℕ) (n : ℕ) → AreBlocksCounted (cond b [] ss) cs → length ss ≤ 16 * n → get_or cs n 0 ≡ 0
past_blocks true ss cs n h past = h n ∙ ap (count_by is_ready) (block_past n [] (omega arith))
past_blocks false ss cs n h past = h n ∙ ap (count_by is_ready) (block_past n ss past)

pub none_past : (empty : ℕ) (ss : List Slot) (cs : List ℕ) (n : ℕ) → AreBlocksCounted (counted_in_blocks empty ss) cs → length ss ≤ 16 * n → get_or cs n 0 ≡ 0
none_past empty ss cs n h past = past_blocks (eqb empty 0) ss cs n h past

-- where no count is greater than 0, no slot is counted
pub none_counted : (cs : List ℕ) → ((n : ℕ) → get_or cs n 0 ≡ 0) → AreBlocksCounted [] cs
none_counted cs h n = h n ∙ sym (ap (count_by is_ready) (block_past n [] (omega arith)))
