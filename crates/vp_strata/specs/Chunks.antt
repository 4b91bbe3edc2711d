-- Future events in chunks.
use Rattle.std.specs.Prelude.{◌≡◌, ℕ, zero, suc, ◌+◌, ◌-◌, ◌<◌, Bool, true, List, [], ◌∷◌, length, drop, take, option_map, slice_get, unwrap_or}
use Rattle.std.specs.List.{All}
use Rattle.vp_text.specs.Lists.{joined}
use Rattle.vp_strata.specs.declared.event.Timed.{Timed}
use Rattle.vp_strata.specs.Queues.{is_by}

-- the chunks without the first events of the first, so many
abbrev pub remaining : ℕ → List (List Timed) → List (List Timed)
remaining count [] = []
remaining count (c ∷ cs) = drop count c ∷ cs

-- the place of the first event that remains in a chunk, which is given by its number
abbrev pub first_place : (count number : ℕ) → ℕ
first_place count zero = count
first_place count (suc number) = 0

-- no chunk is empty, and of the first, so many events are not all
abbrev pub AreUnfinished : ℕ → List (List Timed) → Type 0
AreUnfinished count [] = count ≡ 0
AreUnfinished count (c ∷ cs) = (count < length c) × All (λ d. 0 < length d) cs

-- how many events stand before a place of a chunk, which is given by its number
abbrev pub position : List (List Timed) → (number place : ℕ) → ℕ
position chunks number place = length (joined (take number chunks)) + place

-- the last of these events comes no later than a time, if there is one
abbrev pub ends_by : ℕ → List Timed → Bool
ends_by time events = unwrap_or (option_map (is_by time) (slice_get events (length events - 1))) true
