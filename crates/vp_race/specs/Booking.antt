-- The book of races that were found (profile).
use Rattle.std.specs.Prelude.{◌≡◌, ℕ, ◌+◌, ◌==◌, ◌&&◌, ◌||◌, nat_le, nat_lt, Bool, if◌then◌else◌, List, ◌∷◌, [], ◌++◌, length, Option, Some, None}
use Rattle.std.specs.List.{list_any, sum_by}
use Rattle.vp_bits.specs.declared.bit.Bit.{Bit}
use Rattle.vp_elab.specs.declared.object.ObjectId.{ObjectId}
use Rattle.vp_race.specs.declared.book_limits.BookLimits.{BookLimits}
use Rattle.vp_race.specs.declared.error.RaceError.{RaceError}
use Rattle.vp_race.specs.declared.error.RaceError.TheVariants.{SegmentGone, Booked, BookFull}
use Rattle.vp_race.specs.Same.{same_run}
use Rattle.vp_race.specs.Orders.{sources_of}
use Rattle.vp_race.specs.Segments.{FindingState, Run, ShownOrders, orders_of, value_after}

-- a book: its races, in the order in which they were booked, and how many it may have, of how many steps
pub record BookState : Type 0 where
  pub races : List FindingState
  pub limits : BookLimits

-- what the book keeps of a finding: the number and the time of its segment, its object, the object's values after both orders, and what
-- is shown of these
pub record BookedDetails : Type 0 where
  pub number : ℕ
  pub time : ℕ
  pub object : ObjectId
  pub values : List Bit × List Bit
  pub orders : ShownOrders

-- the same
abbrev pub details_of : FindingState → BookedDetails
details_of f = record {
  number = f.segment.number;
  time = f.segment.start.time;
  object = f.object;
  values = (value_after f.segment.start f.segment.order f.object.0, value_after f.segment.start f.second f.object.0);
  orders = orders_of f.segment f.second;
}

-- how many steps the orders of a finding have
abbrev pub steps_of : FindingState → ℕ
steps_of f = length (sources_of f.segment.start f.segment.order) + length (sources_of f.segment.start f.second)

-- how many steps there are in the orders of some races
abbrev pub steps_in : List FindingState → ℕ
steps_in races = sum_by steps_of races

-- a book has as many races as it may, or their orders would have more steps with this one than they may
abbrev pub is_full_for : BookState → FindingState → Bool
is_full_for book f = nat_le book.limits.races (length book.races) || nat_lt book.limits.steps (steps_in book.races + steps_of f)

-- what a race is named by: the number of its segment and that of its object
abbrev pub name_of : FindingState → ℕ × ℕ
name_of f = (f.segment.number, f.object.0)

-- a name is that of these numbers
abbrev pub is_name : (number object : ℕ) → ℕ × ℕ → Bool
is_name number object name = (number == name.0) && (object == name.1)

-- two findings are of one object in segments of one number
abbrev pub same_race : FindingState → FindingState → Bool
same_race a b = (a.segment.number == b.segment.number) && (a.object.0 == b.object.0)

-- a race of the same object and segment is in the book
abbrev pub is_booked : List FindingState → FindingState → Bool
is_booked races f = list_any (same_race f) races

-- why a finding of a segment that is kept is refused, if it is: the object is booked, then the book is full
abbrev pub refusal_of_race : BookState → FindingState → Option RaceError
refusal_of_race book f =
    if is_booked book.races f then Some Booked else if is_full_for book f then Some BookFull else None

-- why a finding is refused beside the kept segment of its number, if that is kept: it is of another segment, or of none that is kept
abbrev pub refusal_of_finding : BookState → Option Run → FindingState → Option RaceError
refusal_of_finding book None f = Some SegmentGone
refusal_of_finding book (Some run) f = if same_run run f.segment then refusal_of_race book f else Some SegmentGone

-- a book with one race more
abbrev pub with_race : BookState → FindingState → BookState
with_race book f = record book { races = book.races ++ f ∷ [] }
