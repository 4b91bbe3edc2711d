-- Lists in which some chunks of 64 items have others in place of their own. An exchange is a chunk's number and its items there.
use Rattle.std.specs.Prelude.{ℕ, suc, ◌-◌, ◌*◌, ◌/◌, ◌%◌, ◌<◌, ◌≡◌, ◌==◌, if◌then◌else◌, List, [], ◌∷◌, length, min, Option, Some, None, slice_get}
use Rattle.vp_cow_list.specs.Chunks.{with_items}

-- the item that an exchange, if there is one, has at a place of the list
abbrev pub exchanged_item : {X : Type 0} → (exchange : Option (Option (ℕ × List X))) → (place : ℕ) → Option X
exchanged_item None place = None
exchanged_item (Some None) place = None
exchanged_item (Some (Some e)) place = if e.0 == place / 64 then slice_get e.1 (place % 64) else None

-- an item, or the one that stands in its place
abbrev pub covered : {X : Type 0} → Option X → X → X
covered None x = x
covered (Some y) x = y

-- the items from a place of the list on, with those of the exchanges; that of a chunk stands at the rest of its number by 4
abbrev pub exchanged_from : {X : Type 0} → (exchanges : List (Option (ℕ × List X))) → (place : ℕ) → (items : List X) → List X
exchanged_from exchanges place [] = []
exchanged_from exchanges place (x ∷ xs) =
    covered (exchanged_item (slice_get exchanges (place / 64 % 4)) place) x ∷ exchanged_from exchanges (suc place) xs

-- a list with the items of the exchanges
abbrev pub exchanged_in : {X : Type 0} → (items : List X) → (exchanges : List (Option (ℕ × List X))) → List X
exchanged_in items exchanges = exchanged_from exchanges 0 items

-- an exchange, if there is one, stands at its place, and has as many items as the chunk of its number in a list of this length
abbrev pub Fits : {X : Type 0} → (count place : ℕ) → (exchange : Option (Option (ℕ × List X))) → Type 0
Fits count place None = Unit {0}
Fits count place (Some None) = Unit {0}
Fits count place (Some (Some e)) = (e.0 % 4 ≡ place) × (64 * e.0 < count) × (length e.1 ≡ min (count - 64 * e.0) 64)

-- all do
abbrev pub AreExchanges : {X : Type 0} → (count : ℕ) → (exchanges : List (Option (ℕ × List X))) → Type 0
AreExchanges count exchanges = (place : ℕ) → Fits count place (slice_get exchanges place)

-- a list that has taken in an exchange, if there is one, of another chunk than that of a number
abbrev pub taken_in : {X : Type 0} → (items : List X) → (exchange : Option (ℕ × List X)) → (number : ℕ) → List X
taken_in items None number = items
taken_in items (Some e) number = if e.0 == number then items else with_items items (64 * e.0) e.1
