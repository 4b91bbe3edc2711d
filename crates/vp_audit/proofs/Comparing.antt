-- Replies that are compared place by place.
use Rattle.std.proofs.Common.{◌≡◌, ◌∙◌, ℕ, zero, suc, ◌+◌, ◌≤◌, ◌<◌, false, true, List, [], ◌∷◌, ◌++◌, Option, Some, None, drop, length, take, refl, ap, arith, sym}
use Rattle.std.specs.Prelude.{slice_get, is_some, option_map}
use Rattle.std.specs.List.{cons_option}
use Rattle.vp_answer.specs.declared.reply.Reply.{Reply}
use Rattle.vp_world.specs.Entries.{Entry}
use Rattle.vp_audit.specs.Audits.{IsFirstOther}
use Rattle.vp_audit.specs.Projections.{is_own, own_of, replies_of}
use Rattle.vp_audit.proofs.LogReading.{entry_first}

-- the first of a list, and others after them
take_joined : {X : Type 0} (xs ys : List X) (n : ℕ) → n ≤ length xs → take n (take n xs ++ ys) ≡ take n xs
take_joined xs ys zero h = refl
take_joined [] ys (suc n) h = absurd (let no : suc n ≤ 0 = h in omega (arith, no))
take_joined {X = X} (x ∷ xs) ys (suc n) h =
    let within : n ≤ length xs = (let more : suc n ≤ suc (length xs) = h in omega (arith, more)) in
    ap (λ (zs : List X). x ∷ zs) (take_joined xs ys n within)

get_joined : {X : Type 0} (xs ys : List X) (n : ℕ) → n ≤ length xs → slice_get (take n xs ++ ys) n ≡ slice_get ys 0
get_joined xs ys zero h = refl
get_joined [] ys (suc n) h = absurd (let no : suc n ≤ 0 = h in omega (arith, no))
get_joined (x ∷ xs) ys (suc n) h = get_joined xs ys n (let more : suc n ≤ suc (length xs) = h in omega (arith, more))

-- a list has something at an index within it
pub one_there : {X : Type 0} (xs : List X) (n : ℕ) → n < length xs → slice_get xs n ≡ None → ⊥
one_there [] n h none = absurd (let no : n < 0 = h in omega (arith, no))
one_there (x ∷ xs) zero h none = absurd (cc)
one_there (x ∷ xs) (suc n) h none = one_there xs n (let more : suc n < suc (length xs) = h in omega (arith, more)) none

-- the replies from an entry of a user's own on
given : {A B : Type 0} (b : B) (o : Option A) → is_some o ≡ true → option_map (λ (a : A). b) o ≡ Some b
given b None h = absurd (cc)
given b (Some a) h = refl

pub replies_own : (u : ℕ) (log : List Entry) (n : ℕ) (e : Entry) → slice_get log n ≡ Some e → is_own u e ≡ true → replies_of u (drop n log) ≡ e.reply ∷ replies_of u (drop (n + 1) log)
replies_own u log n e there own_event =
    ap (replies_of u) (entry_first log n e there)
    ∙ ap (λ (r : Option Reply). cons_option r (replies_of u (drop (n + 1) log))) (given e.reply (own_of u e.event e.reply) own_event)

-- an entry that is not his own adds no reply
none_given : {A B : Type 0} (b : B) (o : Option A) → is_some o ≡ false → option_map (λ (a : A). b) o ≡ None
none_given b None h = refl
none_given b (Some a) h = absurd (cc)

pub replies_others : (u : ℕ) (log : List Entry) (n : ℕ) (e : Entry) → slice_get log n ≡ Some e → is_own u e ≡ false → replies_of u (drop n log) ≡ replies_of u (drop (n + 1) log)
replies_others u log n e there other =
    ap (replies_of u) (entry_first log n e there)
    ∙ ap (λ (r : Option Reply). cons_option r (replies_of u (drop (n + 1) log))) (none_given e.reply (own_of u e.event e.reply) other)

-- one more of a list is taken
pub taken_more : {X : Type 0} (xs ys : List X) (n : ℕ) (x : X) → slice_get xs n ≡ Some x → take n xs ++ x ∷ ys ≡ take (suc n) xs ++ ys
taken_more [] ys zero x h = absurd (cc)
taken_more [] ys (suc n) x h = absurd (cc)
taken_more (z ∷ xs) ys zero x h = (let same : x ≡ z = cc in ap (λ y. y ∷ ys) same)
taken_more (z ∷ xs) ys (suc n) x h = ap (λ zs. z ∷ zs) (taken_more xs ys n x h)

-- the first other reply, after so many that are the same
pub first_other : (told replayed rest : List Reply) (n : ℕ) → n ≤ length replayed → told ≡ take n replayed ++ rest → (slice_get rest 0 ≡ slice_get replayed n → ⊥) → IsFirstOther told replayed (n + 1)
first_other told replayed rest n within are other =
    let next : n + 1 ≡ suc n = omega arith in
    let there : slice_get told n ≡ slice_get rest 0 = ap (λ (rs : List Reply). slice_get rs n) are ∙ get_joined replayed rest n within in
    (n, next, ap (take n) are ∙ take_joined replayed rest n within, λ (same : slice_get told n ≡ slice_get replayed n). other (sym there ∙ same))
