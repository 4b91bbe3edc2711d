-- Lists that are written in place, and of which copies are kept.
use Rattle.std.specs.Int.{bit_at}
use Rattle.std.specs.Prelude.{◌≡◌, ◌⊎◌, ◌/◌, ◌%◌, ◌<◌, ℕ, List, length, slice_get, slice_index_or}
use Rattle.std.specs.List.{Contains}

-- a place was written since: it has its bit among those of its chunk of 64
abbrev pub IsWritten : (written : List ℕ) → (place : ℕ) → Type 0
IsWritten written place = bit_at (slice_index_or written (place / 64) 0) (place % 64) ≡ 1

-- a copy has the items of a list but at places that were written since
abbrev pub AreCopied : {X : Type 0} → (copy items : List X) → (written : List ℕ) → Type 0
AreCopied copy items written = (k : ℕ) → (slice_get copy k ≡ slice_get items k) ⊎ IsWritten written k

-- a chunk has the items of another at the places of these bits
abbrev pub HasWritten : {X : Type 0} → (chunk items : List X) → (bits : ℕ) → Type 0
HasWritten chunk items bits = (k : ℕ) → k < length items → bit_at bits k ≡ 1 → slice_get chunk k ≡ slice_get items k

-- a copy that had a chunk's items but at the places of these bits has all of them
abbrev pub IsRenewed : {X : Type 0} → (copy taken items : List X) → (number bits : ℕ) → Type 0
IsRenewed copy taken items number bits =
    (k : ℕ) → k / 64 ≡ number → (slice_get copy k ≡ slice_get items k) ⊎ (bit_at bits (k % 64) ≡ 1) → slice_get taken k ≡ slice_get items k

-- each chunk in which a place was written is one of these
abbrev pub AreMarked : (changed written : List ℕ) → Type 0
AreMarked changed written = (n : ℕ) → 0 < slice_index_or written n 0 → Contains changed n

-- a copy is behind a list by what was written in these chunks at most
pub record Lags {X : Type 0} (copy items : List X) (changed written : List ℕ) : Type 0 where
  pub length : length copy ≡ length items
  pub others : AreCopied copy items written
  pub marked : AreMarked changed written
