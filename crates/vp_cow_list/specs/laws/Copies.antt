-- Laws of two lists that are compared in chunks of 64 items.
use Rattle.std.proofs.Common.{◌≡◌, ◌∙◌, ℕ, ◌+◌, ◌*◌, ◌<◌, ◌≤◌, List, ◌++◌, length, take, drop, ap, sym, arith}
use Rattle.std.proofs.Math.Seq.{take-add}
use Rattle.std.proofs.lemmas.Grind.{div_ceil_times}
use Rattle.std.proofs.lemmas.List.{take_all}
use Rattle.std.specs.Int.{div_ceil}

-- a chunk begins before the end
pub chunk_within : (count number : ℕ) → number < div_ceil count 64 → 64 * number < count
chunk_within count number h = omega (arith, div_ceil_times count 64 (omega arith))

-- the items as far as the next chunk are the same
pub next_same : {X : Type 0} (xs ys : List X) (n : ℕ) → take (64 * n) xs ≡ take (64 * n) ys → take 64 (drop (64 * n) xs) ≡ take 64 (drop (64 * n) ys) → take (64 * (n + 1)) xs ≡ take (64 * (n + 1)) ys
next_same xs ys n before here =
    let next : 64 * (n + 1) ≡ 64 * n + 64 = omega arith in
    ap (λ k. take k xs) next ∙ take-add (64 * n) 64 xs
    ∙ ap (λ zs. zs ++ take 64 (drop (64 * n) xs)) before
    ∙ ap (λ zs. take (64 * n) ys ++ zs) here
    ∙ sym (take-add (64 * n) 64 ys)
    ∙ ap (λ k. take k ys) (sym next)

-- after the last chunk all are
pub all_same : {X : Type 0} (xs ys : List X) (n : ℕ) → length xs ≡ length ys → div_ceil (length xs) 64 ≤ n → take (64 * n) xs ≡ take (64 * n) ys → xs ≡ ys
all_same xs ys n long all same =
    let times = div_ceil_times (length xs) 64 (omega arith) in
    let within : length xs ≤ 64 * n = omega (arith, times) in
    sym (take_all (64 * n) xs within) ∙ same ∙ take_all (64 * n) ys (omega arith)

-- one chunk more is taken
pub chunk_more : {X : Type 0} (xs ys zs : List X) (n : ℕ) → ys ≡ take (64 * n) xs → zs ≡ ys ++ take 64 (drop (64 * n) xs) → zs ≡ take (64 * (n + 1)) xs
chunk_more xs ys zs n e more =
    let next : 64 * (n + 1) ≡ 64 * n + 64 = omega arith in
    more ∙ ap (λ front. front ++ take 64 (drop (64 * n) xs)) e ∙ sym (take-add (64 * n) 64 xs) ∙ ap (λ k. take k xs) (sym next)
