-- Numbers that rise, and one more among them.
use Rattle.std.proofs.Common.{◌≡◌, ◌∙◌, ℕ, zero, suc, ◌==◌, ◌<◌, ◌≤◌, ◌||◌, Bool, true, false, List, [], ◌∷◌, All, ap, sym, subst, arith, length, get_or, refl, inl, inr}
use Rattle.std.specs.Prelude.{nat_lt, if◌then◌else◌}
use Rattle.std.specs.List.{AllPairs, insert}
use Rattle.std.proofs.Math.Bool.{or-true}
use Rattle.std.proofs.lemmas.Bool.{cases_eq, eqb-false, eq-eqb, ne_eqb}
use Rattle.std.proofs.lemmas.Bool.Decides.{nat_tests}
use Rattle.std.proofs.lemmas.List.Elements.{All-cons, All-head, All-tail, All-weaker}
use Rattle.std.proofs.lemmas.List.Kept.{AllPairs-cons}
use Rattle.vp_waking.specs.Listening.{has, with_number}

-- the numbers after the first rise, and are above it
pub rise_tail : (n : ℕ) (ns : List ℕ) → AllPairs (λ x y. x < y) (n ∷ ns) → AllPairs (λ x y. x < y) ns
rise_tail n ns h i j d l w = h (suc i) (suc j) d (omega arith) (omega arith)

pub rise_head : (n : ℕ) (ns : List ℕ) → AllPairs (λ x y. x < y) (n ∷ ns) → All (λ x. n < x) ns
rise_head n ns h k d w = h 0 (suc k) d (omega arith) (omega arith)

-- one more number, by the tests of the first one
abbrev with_by : (a b : Bool) → (n : ℕ) → (ns : List ℕ) → (number : ℕ) → List ℕ
with_by a b n ns number = if a then number ∷ n ∷ ns else if b then n ∷ ns else n ∷ with_number ns number

before : (n number : ℕ) → number < n → nat_lt number n ≡ true
before n number h = grind (arith, nat_tests)

following : (n number : ℕ) → n ≤ number → nat_lt number n ≡ false
following n number h = grind (arith, nat_tests)

is_before : (n number : ℕ) → nat_lt number n ≡ true → number < n
is_before n number h = grind (arith, nat_tests)

is_after : (n number : ℕ) → nat_lt number n ≡ false → n ≤ number
is_after n number h = grind (arith, nat_tests)

-- where a number is to stand, by the numbers before it and those from there on
pub placed : (ns : List ℕ) (i number : ℕ) → i ≤ length ns → ((k : ℕ) → k < i → get_or ns k 0 < number) → ((k : ℕ) → i ≤ k → k < length ns → number < get_or ns k 0) → insert ns i number ≡ with_number ns number
placed [] zero number w less more = refl
placed [] (suc i) number w less more = absurd (omega arith)
placed (n ∷ ns) zero number w less more =
    sym (ap (λ a. with_by a (n == number) n ns number) (before n number (more 0 (omega arith) (omega arith))))
placed (n ∷ ns) (suc i) number w less more =
    let first : n < number = less 0 (omega arith) in
    let rest = placed ns i number (omega arith) (λ k h. less (suc k) (omega arith)) (λ k h l. more (suc k) (omega arith) (omega arith)) in
    ap (λ (l : List ℕ). n ∷ l) rest
    ∙ sym (ap (λ a. with_by a (n == number) n ns number) (following n number (omega arith)) ∙ ap (λ b. with_by false b n ns number) (ne_eqb n number (λ e. omega arith)))

-- a number that stands there already
pub found : (ns : List ℕ) (i number : ℕ) → AllPairs (λ x y. x < y) ns → i < length ns → get_or ns i 0 ≡ number → ns ≡ with_number ns number
found [] i number rise w at = absurd (omega arith)
found (n ∷ ns) zero number rise w at =
    let same : n ≡ number = at in
    sym (ap (λ a. with_by a (n == number) n ns number) (following n number (omega arith)) ∙ ap (λ b. with_by false b n ns number) (eq-eqb n number same))
found (n ∷ ns) (suc i) number rise w at =
    let first : n < number = subst (λ x. n < x) at (rise_head n ns rise i 0 (omega arith)) in
    let rest = found ns i number (rise_tail n ns rise) (omega arith) at in
    ap (λ (l : List ℕ). n ∷ l) rest
    ∙ sym (ap (λ a. with_by a (n == number) n ns number) (following n number (omega arith)) ∙ ap (λ b. with_by false b n ns number) (ne_eqb n number (λ e. omega arith)))

or_more : (a b c : Bool) → (b ≡ true → c ≡ true) → (a || b) ≡ true → (a || c) ≡ true
or_more true b c h e = refl
or_more false b c h e = h e

has_self_by : (a b : Bool) (n : ℕ) (ns : List ℕ) (number : ℕ) → (n == number) ≡ b → has (with_number ns number) number ≡ true → has (with_by a b n ns number) number ≡ true
has_self_by true b n ns number t rest = ap (λ b. b || has (n ∷ ns) number) (eq-eqb number number refl)
has_self_by false true n ns number t rest = ap (λ b. b || has ns number) t
has_self_by false false n ns number t rest = ap (λ b. b || has (with_number ns number) number) t ∙ rest

-- it stands there then
pub has_self : (ns : List ℕ) (number : ℕ) → has (with_number ns number) number ≡ true
has_self [] number = ap (λ b. b || false) (eq-eqb number number refl)
has_self (n ∷ ns) number = has_self_by (nat_lt number n) (n == number) n ns number refl (has_self ns number)

has_more_by : (a b : Bool) (n : ℕ) (ns : List ℕ) (number other : ℕ) → (has ns other ≡ true → has (with_number ns number) other ≡ true) → has (n ∷ ns) other ≡ true → has (with_by a b n ns number) other ≡ true
has_more_by true b n ns number other rest h = ap (λ b. (number == other) || b) h ∙ or-true (number == other)
has_more_by false true n ns number other rest h = h
has_more_by false false n ns number other rest h = or_more (n == other) (has ns other) (has (with_number ns number) other) rest h

-- and so do the others
pub has_more : (ns : List ℕ) (number other : ℕ) → has ns other ≡ true → has (with_number ns number) other ≡ true
has_more [] number other h = cc
has_more (n ∷ ns) number other h = has_more_by (nat_lt number n) (n == number) n ns number other (has_more ns number other) h

all_by : (P : ℕ → Type 0) (a b : Bool) (n : ℕ) (ns : List ℕ) (number : ℕ) → (All P ns → All P (with_number ns number)) → P number → All P (n ∷ ns) → All P (with_by a b n ns number)
all_by P true b n ns number rest p h = All-cons P number (n ∷ ns) p h
all_by P false true n ns number rest p h = h
all_by P false false n ns number rest p h =
    All-cons P n (with_number ns number) (All-head P n ns h) (rest (All-tail P n ns h))

-- what holds of all of them
pub all_with : (P : ℕ → Type 0) (ns : List ℕ) (number : ℕ) → P number → All P ns → All P (with_number ns number)
all_with P [] number p h = All-cons P number [] p h
all_with P (n ∷ ns) number p h = all_by P (nat_lt number n) (n == number) n ns number (all_with P ns number p) p h

rise_by : (a b : Bool) (n : ℕ) (ns : List ℕ) (number : ℕ) → nat_lt number n ≡ a → (n == number) ≡ b → (AllPairs (λ x y. x < y) ns → AllPairs (λ x y. x < y) (with_number ns number)) → AllPairs (λ x y. x < y) (n ∷ ns) → AllPairs (λ x y. x < y) (with_by a b n ns number)
rise_by true b n ns number ta tb rest h =
    let first : number < n = is_before n number ta in
    AllPairs-cons (λ x y. x < y) number (n ∷ ns) (All-cons (λ x. number < x) n ns first (All-weaker (λ x. n < x) (λ x. number < x) (λ x l. omega arith) ns (rise_head n ns h))) h
rise_by false true n ns number ta tb rest h = h
rise_by false false n ns number ta tb rest h =
    let below : n ≤ number = is_after n number ta in
    let other = eqb-false n number tb in
    let first : n < number = omega (arith, other) in
    AllPairs-cons (λ x y. x < y) n (with_number ns number) (all_with (λ x. n < x) ns number first (rise_head n ns h)) (rest (rise_tail n ns h))

-- they rise
pub rise_with : (ns : List ℕ) (number : ℕ) → AllPairs (λ x y. x < y) ns → AllPairs (λ x y. x < y) (with_number ns number)
rise_with [] number h = λ i j d l w. absurd (omega arith)
rise_with (n ∷ ns) number h = rise_by (nat_lt number n) (n == number) n ns number refl refl (rise_with ns number) h

-- numbers that rise do not fall
pub weakly : (ns : List ℕ) → AllPairs (λ x y. x < y) ns → (i j : ℕ) → i ≤ j → j < length ns → get_or ns i 0 ≤ get_or ns j 0
weakly ns h i j l w = elim (cases_eq i j) [
  | inl same ↦ (let e : get_or ns i 0 ≡ get_or ns j 0 = ap (λ k. get_or ns k 0) same in omega arith)
  | inr other ↦ (let less : get_or ns i 0 < get_or ns j 0 = h i j 0 (omega (arith, other)) w in omega arith)
]
