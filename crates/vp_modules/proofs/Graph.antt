-- Graphs of numbers: chains of steps, and a search for the way from a number back to it.
use Rattle.std.proofs.Common.{◌≡◌, ◌<◌, ◌≤◌, ◌+◌, ◌-◌, ◌⊎◌, inl, inr, ℕ, zero, suc, Bool, true, false, ◌||◌, List, [], ◌∷◌, ◌++◌, length, take, get_or, Option, Some, None, refl, sym, ap, subst, ◌∙◌, arith}
use Rattle.std.proofs.Math.Bool.{or-false}
use Rattle.std.proofs.lemmas.Bool.{eqb-true, false≢true}
use Rattle.std.proofs.lemmas.Bool.Decides.{nat_tests}
use Rattle.std.proofs.lemmas.List.{length-append, take-append-le, get_or_append_left, get_or_past, take_all}
use Rattle.std.proofs.lemmas.List.Folds.{list_any-append, list_any_at, list_any_more}
use Rattle.std.specs.Prelude.{nat_eq, if◌then◌else◌}
use Rattle.std.specs.List.{list_any}
use Rattle.std.specs.Option.{option_map_or}
use Rattle.vp_modules.specs.Definitions.{is_member, is_number, with_number, with_numbers}
use Rattle.vp_modules.proofs.Numbers.{or_is_false}

-- for each number what there is after it
abbrev pub Graph : Type 0
Graph = ℕ → List (Option ℕ)

-- a step goes to s, or to what passes a test
abbrev pub goes : ℕ → (ℕ → Bool) → Option ℕ → Bool
goes s further o = is_number s o || option_map_or further o false

-- at most so many steps lead to s from a number
abbrev pub reaches : Graph → ℕ → ℕ → ℕ → Bool
reaches graph s zero k = false
reaches graph s (suc n) k = list_any (goes s (reaches graph s n)) (graph k)

-- a step goes to what passes a test
abbrev pub steps_on : (ℕ → Bool) → Option ℕ → Bool
steps_on further o = option_map_or further o false

-- a chain of so many steps begins at a number
abbrev pub chain : Graph → ℕ → ℕ → Bool
chain graph zero k = true
chain graph (suc n) k = list_any (steps_on (chain graph n)) (graph k)

-- ---- tests

or_cases : (a b : Bool) → (a || b) ≡ true → (a ≡ true) ⊎ (b ≡ true)
or_cases true b h = inl refl
or_cases false b h = inr h

or_left : (a b : Bool) → a ≡ true → (a || b) ≡ true
or_left true b h = refl
or_left false b h = absurd cc

or_right : (a b : Bool) → b ≡ true → (a || b) ≡ true
or_right true b h = refl
or_right false b h = h

or_none : (a b : Bool) → a ≡ false → b ≡ false → (a || b) ≡ false
or_none true b h k = absurd cc
or_none false b h k = k

same_number : (n : ℕ) → nat_eq n n ≡ true
same_number n = grind (arith, nat_tests)

-- ---- what steps lead to

case_more : (a b c : Bool) → (b ≡ true → c ≡ true) → (a || b) ≡ true → (a || c) ≡ true
case_more true b c more h = refl
case_more false b c more h = more h

both_more : (a b c d : Bool) → (a ≡ true → c ≡ true) → (b ≡ true → d ≡ true) → (a || b) ≡ true → (c || d) ≡ true
both_more true b c d here there h = or_left c d (here refl)
both_more false b c d here there h = or_right c d (there h)

-- where one test implies another, so does that some pass it
some_more : {X : Type 0} (p q : X → Bool) (xs : List X) → ((x : X) → p x ≡ true → q x ≡ true) → list_any p xs ≡ true → list_any q xs ≡ true
some_more p q [] more h = h
some_more p q (x ∷ xs) more h = both_more (p x) (list_any p xs) (q x) (list_any q xs) (more x) (some_more p q xs more) h

goes_more : (s : ℕ) (f g : ℕ → Bool) → ((z : ℕ) → f z ≡ true → g z ≡ true) → (o : Option ℕ) → goes s f o ≡ true → goes s g o ≡ true
goes_more s f g more None h = h
goes_more s f g more (Some z) h = case_more (nat_eq s z) (f z) (g z) (more z) h

-- a step to s itself
to_itself : (s : ℕ) (f : ℕ → Bool) (ds : List (Option ℕ)) → list_any (is_number s) ds ≡ true → list_any (goes s f) ds ≡ true
to_itself s f ds = some_more (is_number s) (goes s f) ds (λ o h. or_left (is_number s o) (option_map_or f o false) h)

passes : (s z : ℕ) (f : ℕ → Bool) → f z ≡ true → (o : Option ℕ) → is_number z o ≡ true → goes s f o ≡ true
passes s z f there None h = h
passes s z f there (Some y) h = or_right (nat_eq s y) (f y) (ap f (sym (eqb-true z y h)) ∙ there)

-- a step to a number that passes
through : (s z : ℕ) (f : ℕ → Bool) (ds : List (Option ℕ)) → f z ≡ true → list_any (is_number z) ds ≡ true → list_any (goes s f) ds ≡ true
through s z f ds there = some_more (is_number z) (goes s f) ds (passes s z f there)

fails : (s : ℕ) (f : ℕ → Bool) (o : Option ℕ) → is_number s o ≡ false → ((z : ℕ) → is_number z o ≡ true → f z ≡ false) → goes s f o ≡ false
fails s f None h none = refl
fails s f (Some z) h none = or_none (nat_eq s z) (f z) h (none z (same_number z))

-- no step to s, and none to a number that passes
nowhere :
    (s : ℕ) (f : ℕ → Bool) (ds : List (Option ℕ)) → list_any (is_number s) ds ≡ false → ((z : ℕ) → list_any (is_number z) ds ≡ true → f z ≡ false)
    → list_any (goes s f) ds ≡ false
nowhere s f [] h none = refl
nowhere s f (o ∷ ds) h none =
    or_none (goes s f o) (list_any (goes s f) ds)
    (fails s f o (or_is_false (is_number s o) (list_any (is_number s) ds) h).0 (λ z t. none z (or_left (is_number z o) (list_any (is_number z) ds) t)))
    (nowhere s f ds (or_is_false (is_number s o) (list_any (is_number s) ds) h).1 (λ z t. none z (or_right (is_number z o) (list_any (is_number z) ds) t)))

reaches_suc : (graph : Graph) (s n k : ℕ) → reaches graph s n k ≡ true → reaches graph s (suc n) k ≡ true
reaches_suc graph s zero k h = absurd cc
reaches_suc graph s (suc n) k h =
    some_more (goes s (reaches graph s n)) (goes s (reaches graph s (suc n))) (graph k)
    (goes_more s (reaches graph s n) (reaches graph s (suc n)) (λ z t. reaches_suc graph s n z t)) h

reaches_by : (graph : Graph) (s k j n m : ℕ) → n + j ≡ m → reaches graph s n k ≡ true → reaches graph s m k ≡ true
reaches_by graph s k zero n m e h = let same : n ≡ m = omega arith in subst (λ (i : ℕ). reaches graph s i k ≡ true) same h
reaches_by graph s k (suc j) n m e h = reaches_by graph s k j (suc n) m (omega arith) (reaches_suc graph s n k h)

-- what leads there by few steps does so by more
pub reaches_more : (graph : Graph) (s k n m : ℕ) → n ≤ m → reaches graph s n k ≡ true → reaches graph s m k ≡ true
reaches_more graph s k n m few h = reaches_by graph s k (m - n) n m (omega arith) h

-- ---- chains

link_by : (s z : ℕ) (f g : ℕ → Bool) → g s ≡ true → (f z ≡ true → g z ≡ true) → (nat_eq s z ≡ true) ⊎ (f z ≡ true) → g z ≡ true
link_by s z f g here more (inl same) = ap g (sym (eqb-true s z same)) ∙ here
link_by s z f g here more (inr there) = more there

link : (s : ℕ) (f g : ℕ → Bool) → g s ≡ true → ((z : ℕ) → f z ≡ true → g z ≡ true) → (o : Option ℕ) → goes s f o ≡ true → steps_on g o ≡ true
link s f g here more None h = h
link s f g here more (Some z) h = link_by s z f g here (more z) (or_cases (nat_eq s z) (f z) h)

-- chains of every length begin at what leads to a number that leads to itself
chains_on :
    (graph : Graph) (s turn : ℕ) → reaches graph s turn s ≡ true → (d n k : ℕ) → reaches graph s n k ≡ true → chain graph d k ≡ true
chains_on graph s turn back zero n k h = refl
chains_on graph s turn back (suc d) zero k h = absurd cc
chains_on graph s turn back (suc d) (suc n) k h =
    some_more (goes s (reaches graph s n)) (steps_on (chain graph d)) (graph k)
    (link s (reaches graph s n) (chain graph d) (chains_on graph s turn back d turn s back) (λ z t. chains_on graph s turn back d n z t)) h

is_false_by : (a b : Bool) → (a ≡ true → b ≡ true) → b ≡ false → a ≡ false
is_false_by true b h none = absurd (false≢true (sym none ∙ h refl))
is_false_by false b h none = refl

-- where no chain of some length begins at a number, it does not lead to itself
pub unchained : (graph : Graph) (s d n : ℕ) → chain graph d s ≡ false → reaches graph s n s ≡ false
unchained graph s d n none = is_false_by (reaches graph s n s) (chain graph d s) (λ back. chains_on graph s n back d n s back) none

-- ---- numbers, each once

pub member_last : (k : ℕ) (os : List ℕ) (z : ℕ) → is_member k (os ++ z ∷ []) ≡ (is_member k os || nat_eq k z)
member_last k os z = list_any-append (nat_eq k) os (z ∷ []) ∙ ap (λ b. is_member k os || b) (or-false (nat_eq k z))

known_by : (seen : List Bool) (k : ℕ) → get_or seen k false ≡ true → (k < length seen) ⊎ (length seen ≤ k) → k < length seen
known_by seen k there (inl less) = less
known_by seen k there (inr far) = absurd (false≢true (sym (get_or_past seen k false far) ∙ there))

within : (k n : ℕ) → (k < n) ⊎ (n ≤ k)
within k n = grind arith

-- each of the numbers has a mark
pub member_known :
    (seen : List Bool) (order : List ℕ) (place : ℕ) → ((k : ℕ) → get_or seen k false ≡ is_member k order) → place < length order
    → get_or order place 0 < length seen
member_known seen order place marked l =
    let k : ℕ = get_or order place 0 in
    known_by seen k (marked k ∙ list_any_at (nat_eq k) order place 0 l (same_number k)) (within k (length seen))

or_rest : (a b : Bool) → a ≡ false → (a || b) ≡ true → b ≡ true
or_rest true b out h = absurd (false≢true (sym out))
or_rest false b out h = h

-- the numbers before stay in front
record Grown (os : List ℕ) (d : Option ℕ) (ps : List ℕ) : Type 0 where
  kept : (k : ℕ) → is_member k os ≡ true → is_member k ps ≡ true
  got : (k : ℕ) → is_number k d ≡ true → is_member k ps ≡ true
  new : (k : ℕ) → is_member k os ≡ false → is_member k ps ≡ true → (is_number k d ≡ true) × (length os < length ps)
  grows : length os ≤ length ps
  front : (n : ℕ) → n ≤ length os → take n ps ≡ take n os
  reads : (j : ℕ) → j < length os → get_or ps j 0 ≡ get_or os j 0

grown_same : (os : List ℕ) (z : ℕ) → is_member z os ≡ true → Grown os (Some z) os
grown_same os z there = record {
  kept = λ k h. h;
  got = λ k h. ap (λ n. is_member n os) (eqb-true k z h) ∙ there;
  new = λ k out h. absurd (false≢true (sym out ∙ h));
  grows = omega arith;
  front = λ n l. refl;
  reads = λ j l. refl;
}

grown_last : (os : List ℕ) (z : ℕ) → Grown os (Some z) (os ++ z ∷ [])
grown_last os z = record {
  kept = λ k h. member_last k os z ∙ or_left (is_member k os) (nat_eq k z) h;
  got = λ k h. member_last k os z ∙ or_right (is_member k os) (nat_eq k z) h;
  new = λ k out h. (or_rest (is_member k os) (nat_eq k z) out (sym (member_last k os z) ∙ h), omega (arith, length-append os (z ∷ [])));
  grows = omega (arith, length-append os (z ∷ []));
  front = λ n l. take-append-le n os (z ∷ []) l;
  reads = λ j l. get_or_append_left os (z ∷ []) 0 j l;
}

grown_by : (os : List ℕ) (z : ℕ) (there : Bool) → is_member z os ≡ there → Grown os (Some z) (if there then os else os ++ z ∷ [])
grown_by os z true h = grown_same os z h
grown_by os z false h = grown_last os z

grown : (os : List ℕ) (d : Option ℕ) → Grown os d (with_number os d)
grown os None = record {
  kept = λ k h. h;
  got = λ k h. absurd (false≢true h);
  new = λ k out h. absurd (false≢true (sym out ∙ h));
  grows = omega arith;
  front = λ n l. refl;
  reads = λ j l. refl;
}
grown os (Some z) = grown_by os z (is_member z os) refl

-- the same of more
pub record GrownBy (os : List ℕ) (ds : List (Option ℕ)) (ps : List ℕ) : Type 0 where
  pub kept : (k : ℕ) → is_member k os ≡ true → is_member k ps ≡ true
  pub got : (k : ℕ) → list_any (is_number k) ds ≡ true → is_member k ps ≡ true
  pub new : (k : ℕ) → is_member k os ≡ false → is_member k ps ≡ true → (list_any (is_number k) ds ≡ true) × (length os < length ps)
  pub grows : length os ≤ length ps
  pub front : (n : ℕ) → n ≤ length os → take n ps ≡ take n os
  pub reads : (j : ℕ) → j < length os → get_or ps j 0 ≡ get_or os j 0

got_by : (k : ℕ) (o : Option ℕ) (ds : List (Option ℕ)) (ps : List ℕ) → (is_number k o ≡ true → is_member k ps ≡ true) → (list_any (is_number k) ds ≡ true → is_member k ps ≡ true)
    → (a b : Bool) → is_number k o ≡ a → list_any (is_number k) ds ≡ b → (a || b) ≡ true → is_member k ps ≡ true
got_by k o ds ps here there true b ha hb h = here ha
got_by k o ds ps here there false b ha hb h = there (hb ∙ h)

new_by : (k : ℕ) (os qs ps : List ℕ) (d : Option ℕ) (ds : List (Option ℕ)) → Grown os d qs → GrownBy qs ds ps → (b : Bool) → is_member k qs ≡ b → is_member k os ≡ false → is_member k ps ≡ true
    → (list_any (is_number k) (d ∷ ds) ≡ true) × (length os < length ps)
new_by k os qs ps d ds one rest true h out there =
    let first = one.new k out h in
    (or_left (is_number k d) (list_any (is_number k) ds) first.0, omega (arith, first.1, rest.grows))
new_by k os qs ps d ds one rest false h out there =
    let later = rest.new k h there in
    (or_right (is_number k d) (list_any (is_number k) ds) later.0, omega (arith, later.1, one.grows))

grown_more : (os : List ℕ) (d : Option ℕ) (ds : List (Option ℕ)) (qs ps : List ℕ) → Grown os d qs → GrownBy qs ds ps → GrownBy os (d ∷ ds) ps
grown_more os d ds qs ps one rest = record {
  kept = λ k h. rest.kept k (one.kept k h);
  got = λ k h. got_by k d ds ps (λ here. rest.kept k (one.got k here)) (rest.got k) (is_number k d) (list_any (is_number k) ds) refl refl h;
  new = λ k out h. new_by k os qs ps d ds one rest (is_member k qs) refl out h;
  grows = omega (arith, one.grows, rest.grows);
  front = λ n l. rest.front n (omega (arith, one.grows)) ∙ one.front n l;
  reads = λ j l. rest.reads j (omega (arith, one.grows)) ∙ one.reads j l;
}

pub all_grown : (os : List ℕ) (ds : List (Option ℕ)) → GrownBy os ds (with_numbers os ds)
all_grown os [] = record {
  kept = λ k h. h;
  got = λ k h. absurd (false≢true h);
  new = λ k out h. absurd (false≢true (sym out ∙ h));
  grows = omega arith;
  front = λ n l. refl;
  reads = λ j l. refl;
}
all_grown os (d ∷ ds) = grown_more os d ds (with_number os d) (with_numbers (with_number os d) ds) (grown os d) (all_grown (with_number os d) ds)

-- ---- the search

-- numbers to which s leads, of which the first p were looked at: none of those goes to s, and what they go to is among the numbers
pub record Searched (graph : Graph) (s : ℕ) (os : List ℕ) (p : ℕ) : Type 0 where
  pub starts : is_member s os ≡ true
  pub back : (x n c : ℕ) → is_member x os ≡ true → length os ≡ suc c → reaches graph s n x ≡ true → reaches graph s (n + c) s ≡ true
  pub closed : (x : ℕ) → list_any (nat_eq x) (take p os) ≡ true → list_any (is_number s) (graph x) ≡ false
  pub going : (x z : ℕ) → list_any (nat_eq x) (take p os) ≡ true → list_any (is_number z) (graph x) ≡ true → is_member z os ≡ true

-- before the first is looked at
pub searched_start : (graph : Graph) (s : ℕ) → Searched graph s (s ∷ []) 0
searched_start graph s = record {
  starts = or_left (nat_eq s s) false (same_number s);
  back = λ x n c there long h.
      let here : x ≡ s = eqb-true x s (sym (or-false (nat_eq x s)) ∙ there) in
      let none : n ≡ n + c = omega arith in
      subst (λ (i : ℕ). reaches graph s i s ≡ true) none (subst (λ (y : ℕ). reaches graph s n y ≡ true) here h);
  closed = λ x h. absurd (false≢true h);
  going = λ x z h. absurd (false≢true h);
}

back_by :
    (graph : Graph) (s : ℕ) (os ps : List ℕ) (p : ℕ) → Searched graph s os p → p < length os → GrownBy os (graph (get_or os p 0)) ps
    → (x n c : ℕ) → is_member x ps ≡ true → length ps ≡ suc c → reaches graph s n x ≡ true → (b : Bool) → is_member x os ≡ b → reaches graph s (n + c) s ≡ true
back_by graph s os ps p so l more x n c there long h true before =
    let few : length os ≡ suc (length os - 1) = omega arith in
    reaches_more graph s s (n + (length os - 1)) (n + c) (omega (arith, more.grows)) (so.back x n (length os - 1) before few h)
back_by graph s os ps p so l more x n c there long h false before =
    let few : length os ≡ suc (length os - 1) = omega arith in
    let new = more.new x before there in
    let here : is_member (get_or os p 0) os ≡ true = list_any_at (nat_eq (get_or os p 0)) os p 0 l (same_number (get_or os p 0)) in
    let on : reaches graph s (suc n) (get_or os p 0) ≡ true = through s x (reaches graph s n) (graph (get_or os p 0)) h new.0 in
    reaches_more graph s s (suc n + (length os - 1)) (n + c) (omega (arith, new.1)) (so.back (get_or os p 0) (suc n) (length os - 1) here few on)

looked_by : (x y : ℕ) (b : Bool) → (b ≡ true) ⊎ (nat_eq x y ≡ true) → (b ≡ true) ⊎ (x ≡ y)
looked_by x y b (inl h) = inl h
looked_by x y b (inr h) = inr (eqb-true x y h)

looked : (x p : ℕ) (os ps : List ℕ) → p < length os → take p ps ≡ take p os → get_or ps p 0 ≡ get_or os p 0 → p < length ps
    → list_any (nat_eq x) (take (p + 1) ps) ≡ true → (list_any (nat_eq x) (take p os) ≡ true) ⊎ (x ≡ get_or os p 0)
looked x p os ps l front read m h =
    let parts : (list_any (nat_eq x) (take p os) || nat_eq x (get_or os p 0)) ≡ true =
    ap (λ (qs : List ℕ). list_any (nat_eq x) qs || nat_eq x (get_or os p 0)) (sym front)
    ∙ ap (λ (y : ℕ). list_any (nat_eq x) (take p ps) || nat_eq x y) (sym read) ∙ sym (list_any_more (nat_eq x) ps p 0 m) ∙ h in
    looked_by x (get_or os p 0) (list_any (nat_eq x) (take p os)) (or_cases (list_any (nat_eq x) (take p os)) (nat_eq x (get_or os p 0)) parts)

closed_by :
    (graph : Graph) (s : ℕ) (os : List ℕ) (p : ℕ) → Searched graph s os p → list_any (is_number s) (graph (get_or os p 0)) ≡ false
    → (x : ℕ) → (list_any (nat_eq x) (take p os) ≡ true) ⊎ (x ≡ get_or os p 0) → list_any (is_number s) (graph x) ≡ false
closed_by graph s os p so none x (inl before) = so.closed x before
closed_by graph s os p so none x (inr here) = ap (λ (y : ℕ). list_any (is_number s) (graph y)) here ∙ none

going_by :
    (graph : Graph) (s : ℕ) (os : List ℕ) (p : ℕ) {ps : List ℕ} → Searched graph s os p → GrownBy os (graph (get_or os p 0)) ps
    → (x z : ℕ) → list_any (is_number z) (graph x) ≡ true → (list_any (nat_eq x) (take p os) ≡ true) ⊎ (x ≡ get_or os p 0) → is_member z ps ≡ true
going_by graph s os p so more x z t (inl before) = more.kept z (so.going x z before t)
going_by graph s os p so more x z t (inr here) = more.got z (ap (λ (y : ℕ). list_any (is_number z) (graph y)) (sym here) ∙ t)

-- one more is looked at, and does not go to s
pub searched_more :
    (graph : Graph) (s : ℕ) (os : List ℕ) (p : ℕ) → Searched graph s os p → p < length os → list_any (is_number s) (graph (get_or os p 0)) ≡ false
    → Searched graph s (with_numbers os (graph (get_or os p 0))) (p + 1)
searched_more graph s os p so l none =
    let more = all_grown os (graph (get_or os p 0)) in
    let ps : List ℕ = with_numbers os (graph (get_or os p 0)) in
    let looked_at : (x : ℕ) → list_any (nat_eq x) (take (p + 1) ps) ≡ true → (list_any (nat_eq x) (take p os) ≡ true) ⊎ (x ≡ get_or os p 0) =
    λ x h. looked x p os ps l (more.front p (omega arith)) (more.reads p l) (omega (arith, more.grows)) h in
    record {
      starts = more.kept s so.starts;
      back = λ x n c there long h. back_by graph s os ps p so l more x n c there long h (is_member x os) refl;
      closed = λ x h. closed_by graph s os p so none x (looked_at x h);
      going = λ x z h t. going_by graph s os p so more x z t (looked_at x h);
    }

-- one goes to s: s leads to itself
pub searched_found :
    (graph : Graph) (s : ℕ) (os : List ℕ) (p m : ℕ) → Searched graph s os p → p < length os → length os ≤ m → list_any (is_number s) (graph (get_or os p 0)) ≡ true
    → reaches graph s m s ≡ true
searched_found graph s os p m so l few h =
    let here : is_member (get_or os p 0) os ≡ true = list_any_at (nat_eq (get_or os p 0)) os p 0 l (same_number (get_or os p 0)) in
    let one : length os ≡ suc (length os - 1) = omega arith in
    reaches_more graph s s (1 + (length os - 1)) m (omega arith)
    (so.back (get_or os p 0) 1 (length os - 1) here one (to_itself s (reaches graph s 0) (graph (get_or os p 0)) h))

never :
    (graph : Graph) (s : ℕ) (os : List ℕ) → ((x : ℕ) → is_member x os ≡ true → list_any (is_number s) (graph x) ≡ false)
    → ((x z : ℕ) → is_member x os ≡ true → list_any (is_number z) (graph x) ≡ true → is_member z os ≡ true)
    → (n x : ℕ) → is_member x os ≡ true → reaches graph s n x ≡ false
never graph s os closed going zero x there = refl
never graph s os closed going (suc n) x there =
    nowhere s (reaches graph s n) (graph x) (closed x there) (λ z t. never graph s os closed going n z (going x z there t))

-- all were looked at: s does not lead to itself
pub searched_all : (graph : Graph) (s : ℕ) (os : List ℕ) (p n : ℕ) → Searched graph s os p → length os ≤ p → reaches graph s n s ≡ false
searched_all graph s os p n so all =
    let whole : take p os ≡ os = take_all p os all in
    never graph s os
    (λ x h. so.closed x (ap (λ (qs : List ℕ). list_any (nat_eq x) qs) whole ∙ h))
    (λ x z h. so.going x z (ap (λ (qs : List ℕ). list_any (nat_eq x) qs) whole ∙ h)) n s so.starts
