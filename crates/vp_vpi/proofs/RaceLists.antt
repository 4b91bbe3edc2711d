-- Races in a list, one after another.
use Rattle.std.proofs.Common.{◌≡◌, ◌∙◌, ◌≤◌, ◌<◌, ◌-◌, ◌++◌, ℕ, zero, suc, Bool, true, false, if◌then◌else◌, List, [], ◌∷◌, drop, length, map, refl, sym, ap, arith, ◌⊎◌, inl, inr}
use Rattle.std.specs.Prelude.{max, nat_le, option_map, take}
use Rattle.std.proofs.lemmas.Bool.{leb-true, leb-false}
use Rattle.std.proofs.Math.ListN.{drop_of_length-le}
use Rattle.std.proofs.lemmas.List.{append-nil, take-append-le, take_all}
use Rattle.vp_vpi.specs.declared.races.RaceLine.{RaceLine}
use Rattle.vp_vpi.specs.Calls.{line_of, lines_from, shown_at}
use Rattle.vp_vpi.specs.declared.races.ShownRace.{ShownRace}

-- the races that are reported from a number on, of those after so many
abbrev pub told_from : (from number : ℕ) → List ShownRace → List RaceLine
told_from from number [] = []
told_from from number (s ∷ ss) = (if nat_le from (suc number) then line_of (suc number) s ∷ [] else []) ++ told_from from (suc number) ss

drop_nil : (n : ℕ) (ss : List ShownRace) → ss ≡ [] → drop n ss ≡ []
drop_nil n [] h = drop_of_length-le [] (omega arith)
drop_nil n (s ∷ ss) h = cc

reply_with :
    (b : Bool) (from number : ℕ) (s : ShownRace) (ss : List ShownRace) → nat_le from (suc number) ≡ b
    → told_from from (suc number) ss ≡ lines_from (max (suc (suc number)) from) (drop (from - suc (suc number)) ss)
    → (if b then line_of (suc number) s ∷ [] else []) ++ told_from from (suc number) ss ≡ lines_from (max (suc number) from) (drop (from - suc number) (s ∷ ss))
reply_with true from number s ss is h =
    let small : from ≤ suc number = leb-true from (suc number) is in
    let next : max (suc (suc number)) from ≡ suc (suc number) = omega (arith, small) in
    let here : max (suc number) from ≡ suc number = omega (arith, small) in
    let none : from - suc (suc number) ≡ 0 = omega (arith, small) in
    let no : from - suc number ≡ 0 = omega (arith, small) in
    ap (λ ls. line_of (suc number) s ∷ ls) (h ∙ ap (λ n. lines_from n (drop (from - suc (suc number)) ss)) next ∙ ap (λ n. lines_from (suc (suc number)) (drop n ss)) none)
    ∙ sym (ap (λ n. lines_from n (drop (from - suc number) (s ∷ ss))) here ∙ ap (λ n. lines_from (suc number) (drop n (s ∷ ss))) no)
reply_with false from number s ss is h =
    let large : suc number < from = leb-false from (suc number) is in
    let next : max (suc (suc number)) from ≡ max (suc number) from = omega (arith, large) in
    let more : from - suc number ≡ suc (from - suc (suc number)) = omega (arith, large) in
    h ∙ ap (λ n. lines_from n (drop (from - suc (suc number)) ss)) next
    ∙ sym (ap (λ n. lines_from (max (suc number) from) (drop n (s ∷ ss))) more)

-- reported one by one they are those from a number on
pub told_all : (from number : ℕ) (races : List ShownRace) → told_from from number races ≡ lines_from (max (suc number) from) (drop (from - suc number) races)
told_all from number [] = sym (ap (lines_from (max (suc number) from)) (drop_nil (from - suc number) [] refl))
told_all from number (s ∷ ss) = reply_with (nat_le from (suc number)) from number s ss refl (told_all from (suc number) ss)

-- the race of a number, as it is shown
pub shown_map : {A B : Type 0} (f : A → B) (xs : List A) (number : ℕ) → shown_at (map f xs) number ≡ option_map f (shown_at xs number)
shown_map f xs zero = refl
shown_map f [] (suc n) = refl
shown_map f (x ∷ xs) (suc zero) = refl
shown_map f (x ∷ xs) (suc (suc n)) = shown_map f xs (suc n)

-- so many lines at most are all, where nothing is left or as many are reported
pub whole : (n : ℕ) (all lines rest : List RaceLine) → all ≡ lines ++ rest → length lines ≤ n → (rest ≡ []) ⊎ (n ≤ length lines) → take n all ≡ lines
whole n all lines rest h few (inl none) = ap (take n) (h ∙ ap (λ r. lines ++ r) none ∙ append-nil lines) ∙ take_all n lines few
whole n all lines rest h few (inr many) = ap (take n) h ∙ take-append-le n lines rest many ∙ take_all n lines few
