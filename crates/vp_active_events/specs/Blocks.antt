-- Items that are counted in blocks of 16.
use Rattle.std.specs.Prelude.{◌≡◌, ℕ, ◌*◌, ◌^◌, ◌≤◌, List, drop, length, take, slice_index_or}
use Rattle.std.specs.List.{sum}

-- the items of a block, which is given by its number
abbrev pub block_of : {X : Type 0} → (number : ℕ) → List X → List X
block_of number items = take 16 (drop (16 * number) items)

-- of each block of counts there is the sum
abbrev pub AreSummed : (counts sums : List ℕ) → Type 0
AreSummed counts sums = (number : ℕ) → slice_index_or sums number 0 ≡ sum (block_of number counts)

-- counts of blocks, none of which is great, and their sums
pub record AreCountsSummed (counts sums : List ℕ) : Type 0 where
  pub summed : AreSummed counts sums
  pub small : (number : ℕ) → slice_index_or counts number 0 ≤ 32
  pub within : length counts ≤ 16 * length sums
  pub few : length sums ≤ 2 ^ 40
