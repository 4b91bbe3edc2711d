-- The handles that are not freed, by rising index, as the list of all that were made.
use Rattle.std.specs.Prelude.{◌≡◌, ℕ, suc, ◌<◌, ◌==◌, nat_lt, Bool, if◌then◌else◌, List, [], ◌∷◌, length, map, slice_index_or, Option, Some, None}
use Rattle.std.specs.List.{range_with_len}
use Rattle.vp_elab.specs.declared.object.ObjectId.{ObjectId}
use Rattle.vp_vpi.specs.declared.session.handle_table.OpenHandle.{OpenHandle}

-- the object of the first of these handles that has an index
abbrev pub object_in : List OpenHandle → (index : ℕ) → Option ObjectId
object_in [] index = None
object_in (h ∷ hs) index = if h.index == index then Some h.object else object_in hs index

-- of each of so many handles that were made, its object; none of one that is not among these
abbrev pub handles_of : (made : ℕ) → List OpenHandle → List (Option ObjectId)
handles_of made hs = map (object_in hs) (range_with_len 0 made)

-- those of a list of handles that are not freed, by rising index from that of the first of the list on
abbrev pub opened_from : (index : ℕ) → List (Option ObjectId) → List OpenHandle
opened_from index [] = []
opened_from index (None ∷ handles) = opened_from (suc index) handles
opened_from index (Some object ∷ handles) = record { index = index; object = object } ∷ opened_from (suc index) handles

-- the handle at a place has an index
pub record IsPlaceOf (hs : List OpenHandle) (index place : ℕ) : Type 0 where
  pub in_range : place < length hs
  pub has_index : (d : OpenHandle) → (slice_index_or hs place d).index ≡ index

-- a handle whose object has another number
abbrev pub moved_open : (ℕ → ℕ) → OpenHandle → OpenHandle
moved_open f h = record { index = h.index; object = record { 0 = f h.object.0 } }

-- the object of a handle is one of so many
abbrev pub is_open_within : (count : ℕ) → OpenHandle → Bool
is_open_within count h = nat_lt h.object.0 count
