-- Marks of numbers, and the numbers that are marked.
use Rattle.std.proofs.Common.{◌≡◌, ℕ, zero, suc, ◌+◌, ◌<◌, ◌==◌, Bool, true, false, cond, ◌||◌, List, [], ◌∷◌, ◌++◌, length, take, map, filter, get_or, set, refl, sym, ap, subst, ◌∙◌, arith}
use Rattle.std.specs.List.{list_any}
use Rattle.std.proofs.lemmas.Bool.{eqb-true, eqb-false}
use Rattle.std.proofs.lemmas.List.{take_more, get_or-set_same, get_or-set_other}
use Rattle.std.proofs.lemmas.List.Elements.{filter-append}
use Rattle.std.proofs.lemmas.List.{map-append}
use Rattle.std.proofs.Math.Bool.{or-false, or-true}
use Rattle.vp_pragma.specs.declared.envelope.Envelope.{Envelope}
use Rattle.vp_pragma.specs.Envelopes.{envelope_at}
use Rattle.vp_elab.specs.Tree.{below}

or_assoc : (a b c : Bool) → (a || (b || c)) ≡ ((a || b) || c)
or_assoc true b c = refl
or_assoc false b c = refl

any_more : {X : Type 0} (p : X → Bool) (xs : List X) (x : X) → list_any p (xs ++ x ∷ []) ≡ (list_any p xs || p x)
any_more p [] x = or-false (p x)
any_more p (y ∷ ys) x = ap (λ b. p y || b) (any_more p ys x) ∙ or_assoc (p y) (list_any p ys) (p x)

step_by : (marks : List Bool) (k e : ℕ) (before here : Bool) → k < length marks → get_or marks e false ≡ before → (k == e) ≡ here → get_or (set marks k true) e false ≡ (before || here)
step_by marks k e before true l h t = let same : k ≡ e = eqb-true k e t in rw (sym same) (get_or-set_same marks k true false l ∙ sym (or-true before))
step_by marks k e before false l h t = get_or-set_other marks k e true false (λ q. eqb-false k e t (sym q)) ∙ h ∙ sym (or-false before)

-- one more number is marked
pub mark_more : {X : Type 0} (number : X → ℕ) (marks : List Bool) (e : ℕ) (xs : List X) (x : X) → number x < length marks → get_or marks e false ≡ list_any (λ y. number y == e) xs → get_or (set marks (number x) true) e false ≡ list_any (λ y. number y == e) (xs ++ x ∷ [])
mark_more number marks e xs x l h = step_by marks (number x) e (list_any (λ y. number y == e) xs) (number x == e) l h refl ∙ sym (any_more (λ y. number y == e) xs x)

-- one more number below, with a test
pub filter_below_more : (p : ℕ → Bool) (n : ℕ) → filter p (below (suc n)) ≡ filter p (below n) ++ cond (p n) (n ∷ []) []
filter_below_more p n = filter-append p (below n) (n ∷ [])

-- tests that agree below a number leave the same
pub filter_below_same : (p q : ℕ → Bool) (n : ℕ) → ((e : ℕ) → e < n → p e ≡ q e) → filter p (below n) ≡ filter q (below n)
filter_below_same p q zero same = refl
filter_below_same p q (suc n) same =
    filter_below_more p n ∙ ap (λ (xs : List ℕ). xs ++ cond (p n) (n ∷ []) []) (filter_below_same p q n (λ e l. same e (omega arith)))
    ∙ ap (λ (b : Bool). filter q (below n) ++ cond b (n ∷ []) []) (same n (omega arith)) ∙ sym (filter_below_more q n)

-- the envelope of one more place is marked
pub mark_next :
    {X : Type 0} (envelopes : List Envelope) (place : X → ℕ) (marks : List Bool) (xs : List X) (i : ℕ) (d : X) (n e : ℕ)
    → i < length xs → n < length marks → n ≡ envelope_at envelopes (place (get_or xs i d))
    → get_or marks e false ≡ list_any (λ p. envelope_at envelopes p == e) (map place (take i xs))
    → get_or (set marks n true) e false ≡ list_any (λ p. envelope_at envelopes p == e) (map place (take (i + 1) xs))
mark_next {X} envelopes place marks xs i d n e in_list in_marks is h =
    let here : X = get_or xs i d in
    let more : map place (take (i + 1) xs) ≡ map place (take i xs) ++ place here ∷ [] =
    ap (map place) (take_more xs i d in_list) ∙ map-append place (take i xs) (here ∷ []) in
    let marked : get_or (set marks n true) e false ≡ list_any (λ p. envelope_at envelopes p == e) (map place (take i xs) ++ place here ∷ []) =
    ap (λ k. get_or (set marks k true) e false) is
    ∙ mark_more (envelope_at envelopes) marks e (map place (take i xs)) (place here) (subst (λ k. k < length marks) is in_marks) h in
    marked ∙ ap (list_any (λ p. envelope_at envelopes p == e)) (sym more)
