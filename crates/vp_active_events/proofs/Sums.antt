-- Counts of blocks, and their sums.
use Rattle.std.proofs.Common.{◌≡◌, ◌∙◌, ℕ, zero, suc, ◌+◌, ◌-◌, ◌*◌, ◌/◌, ◌^◌, ◌<◌, ◌≤◌, Bool, cond, List, [], ◌∷◌, ◌++◌, inl, inr, ap, refl, sym, arith, length, length-append, take, drop, get_or, replicate, set, get_or-set_other, get_or-set_same, eq-eqb, ne_eqb}
use Rattle.std.specs.List.{sum}
use Rattle.std.proofs.lemmas.Bool.{cases_eq}
use Rattle.std.proofs.lemmas.List.{drop-drop, drop-replicate, get_or-drop, get_or_default, length-set, take_more}
use Rattle.std.proofs.lemmas.List.Sums.{sum_by-append, sum_by-cons, sum_by-take-drop}
use Rattle.vp_active_events.specs.Blocks.{AreCountsSummed, AreSummed, block_of}
use Rattle.vp_active_events.proofs.Blocks.{item_few, sums_set}

-- few counts that are small have a small sum
take_few : (m : ℕ) (cs : List ℕ) → ((n : ℕ) → get_or cs n 0 ≤ 32) → sum (take m cs) ≤ 32 * m
take_few zero cs small = omega arith
take_few (suc m) [] small = omega arith
take_few (suc m) (c ∷ cs) small =
    let all = sum_by-cons (λ (x : ℕ). x) c (take m cs) in
    let rest = take_few m cs (λ n. small (suc n)) in
    let here = small 0 in
    omega (arith, all, rest, here)

pub sum_few : (cs ss : List ℕ) (n : ℕ) → AreCountsSummed cs ss → get_or ss n 0 ≤ 512
sum_few cs ss n h =
    let at = h.summed n in
    let few = take_few 16 (drop (16 * n) cs) (λ i. let here = get_or-drop (16 * n) cs i 0 in let small = h.small (16 * n + i) in omega (arith, here, small)) in
    omega (arith, at, few)

-- a count is no greater than the sum that it is part of
pub count_in_sum : (cs ss : List ℕ) (b : ℕ) → AreCountsSummed cs ss → b < length cs → get_or cs b 0 ≤ get_or ss (b / 16) 0
count_in_sum cs ss b h within =
    let few = item_few (λ (x : ℕ). x) cs b (get_or cs b 0) within (get_or_default cs b 0 (get_or cs b 0) within) in
    let at = h.summed (b / 16) in
    omega (arith, few, at)

-- a count becomes another
pub summed_set : (cs ss : List ℕ) (b c v : ℕ) → AreCountsSummed cs ss → b < length cs → c ≤ 32 → v + get_or cs b 0 ≡ get_or ss (b / 16) 0 + c → AreCountsSummed (set cs b c) (set ss (b / 16) v)
summed_set cs ss b c v h within fits total =
    let d = get_or cs b 0 in
    let long = length-set cs b c in
    let longer = length-set ss (b / 16) v in
    let enough = h.within in
    let few = h.few in
    record {
      summed = λ n.
          let all = sums_set (λ (x : ℕ). x) cs b d c n within (get_or_default cs b 0 d within) in
          let at = h.summed n in
          elim (cases_eq (b / 16) n) [
            | inl same ↦
                (let eq = eq-eqb (b / 16) n same in
                let both : sum (block_of n (set cs b c)) + d ≡ sum (block_of n cs) + c =
                ap (λ (t : Bool). sum (block_of n (set cs b c)) + cond t d 0) (sym eq) ∙ all ∙ ap (λ (t : Bool). sum (block_of n cs) + cond t c 0) eq in
                let here : get_or (set ss (b / 16) v) n 0 ≡ v =
                ap (λ (i : ℕ). get_or (set ss (b / 16) v) i 0) (sym same) ∙ get_or-set_same ss (b / 16) v 0 (omega (arith, within, enough)) in
                let there = ap (λ (i : ℕ). get_or ss i 0) same in
                omega (arith, both, here, there, total, at))
            | inr other ↦
                (let ne = ne_eqb (b / 16) n other in
                let both : sum (block_of n (set cs b c)) + 0 ≡ sum (block_of n cs) + 0 =
                ap (λ (t : Bool). sum (block_of n (set cs b c)) + cond t d 0) (sym ne) ∙ all ∙ ap (λ (t : Bool). sum (block_of n cs) + cond t c 0) ne in
                let here = get_or-set_other ss (b / 16) n v 0 (λ e. other (sym e)) in
                omega (arith, both, here, at))
          ];
      small = λ n. elim (cases_eq b n) [
        | inl same ↦ (let here = ap (λ (i : ℕ). get_or (set cs b c) i 0) (sym same) ∙ get_or-set_same cs b c 0 within in omega (arith, here, fits))
        | inr other ↦ (let here = get_or-set_other cs b n c 0 (λ e. other (sym e)) in let before = h.small n in omega (arith, here, before))
      ];
      within = omega (arith, long, longer, enough);
      few = omega (arith, longer, few);
    }

-- ---- more blocks

zeros_sum : (m k : ℕ) → sum (take m (replicate k 0)) ≡ 0
zeros_sum zero k = refl
zeros_sum (suc m) zero = refl
zeros_sum (suc m) (suc k) = let all = sum_by-cons (λ (x : ℕ). x) 0 (take m (replicate k 0)) in let rest = zeros_sum m k in omega (arith, all, rest)

zeros_after : (m k : ℕ) (cs : List ℕ) → sum (take m (cs ++ replicate k 0)) ≡ sum (take m cs)
zeros_after zero k cs = refl
zeros_after (suc m) k [] = zeros_sum (suc m) k
zeros_after (suc m) k (c ∷ cs) =
    let one = sum_by-cons (λ (x : ℕ). x) c (take m (cs ++ replicate k 0)) in
    let two = sum_by-cons (λ (x : ℕ). x) c (take m cs) in
    let rest = zeros_after m k cs in
    omega (arith, one, two, rest)

drop_zeros : (m n k : ℕ) (cs : List ℕ) → sum (take m (drop n (cs ++ replicate k 0))) ≡ sum (take m (drop n cs))
drop_zeros m zero k cs = zeros_after m k cs
drop_zeros m (suc n) k [] = ap (λ (xs : List ℕ). sum (take m xs)) (drop-replicate (suc n) k 0) ∙ zeros_sum m (k - suc n) ∙ sym (zeros_sum m 0)
drop_zeros m (suc n) k (c ∷ cs) = drop_zeros m n k cs

none_at : (k n : ℕ) → ◌≡◌ {A = ℕ} (get_or (replicate k 0) n 0) 0
none_at zero n = refl
none_at (suc k) zero = refl
none_at (suc k) (suc n) = none_at k n

pub zeros_at : (k n : ℕ) (cs : List ℕ) → get_or (cs ++ replicate k 0) n 0 ≡ get_or cs n 0
zeros_at k n [] = none_at k n
zeros_at k zero (c ∷ cs) = refl
zeros_at k (suc n) (c ∷ cs) = zeros_at k n cs

pub block_zeros : (n k : ℕ) (cs : List ℕ) → sum (block_of n (cs ++ replicate k 0)) ≡ sum (block_of n cs)
block_zeros n k cs = drop_zeros 16 (16 * n) k cs

-- more sums of no counts
pub more_sums : (cs ss ts : List ℕ) (k : ℕ) → AreCountsSummed cs ss → ts ≡ ss ++ replicate k 0 → length ts ≤ 2 ^ 40 → AreCountsSummed cs ts
more_sums cs ss ts k h is few =
    let long = ap length is ∙ length-append ss (replicate k 0) in
    let within = h.within in
    record {
      summed = λ n. ap (λ (xs : List ℕ). get_or xs n 0) is ∙ zeros_at k n ss ∙ h.summed n;
      small = h.small;
      within = omega (arith, long, within);
      few = few;
    }

-- more counts of 0
pub more_counts : (cs ds ss : List ℕ) (k : ℕ) → AreCountsSummed cs ss → ds ≡ cs ++ replicate k 0 → length ds ≤ 16 * length ss → AreCountsSummed ds ss
more_counts cs ds ss k h is within = record {
  summed = λ n. h.summed n ∙ sym (ap (λ (xs : List ℕ). sum (block_of n xs)) is ∙ block_zeros n k cs);
  small = λ n. let at = ap (λ (xs : List ℕ). get_or xs n 0) is in let same = zeros_at k n cs in let before = h.small n in omega (arith, at, same, before);
  within = within;
  few = h.few;
}

-- ---- the counts of so many groups

pub groups_sum : (cs ss : List ℕ) (g : ℕ) → AreSummed cs ss → g ≤ length ss → sum (take g ss) ≡ sum (take (16 * g) cs)
groups_sum cs ss zero h within = refl
groups_sum cs ss (suc g) h within =
    let next : g + 1 ≡ suc g = omega arith in
    let same = ap (λ (m : ℕ). sum (take m ss)) next in
    let more = ap sum (take_more ss g 0 (omega (arith, within))) in
    let split = sum_by-append (λ (x : ℕ). x) (take g ss) (get_or ss g 0 ∷ []) in
    let rest = groups_sum cs ss g h (omega (arith, within)) in
    let here = h g in
    let from = drop (16 * g) cs in
    let one = sum_by-take-drop (λ (x : ℕ). x) from 16 in
    let two = sum_by-take-drop (λ (x : ℕ). x) cs (16 * g) in
    let three = sum_by-take-drop (λ (x : ℕ). x) cs (16 * suc g) in
    let at : 16 * g + 16 ≡ 16 * suc g = omega arith in
    let following = ap sum (drop-drop 16 (16 * g) cs ∙ ap (λ (m : ℕ). drop m cs) at) in
    omega (arith, same, more, split, rest, here, one, two, three, following)
