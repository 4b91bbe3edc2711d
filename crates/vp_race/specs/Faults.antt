-- The numbers of the refusals of the race search.
use Rattle.std.specs.Prelude.{ℕ}
use Rattle.vp_race.specs.declared.error.RaceError.{RaceError}
use Rattle.vp_race.specs.declared.error.RaceError.TheVariants.{NotAnOrder, NotComplete, SameValue, SegmentGone, Booked, BookFull, NoMemory}

-- the number of a refusal (profile)
abbrev pub code_of : RaceError → ℕ
code_of NotAnOrder = 1201
code_of NotComplete = 1202
code_of SameValue = 1203
code_of SegmentGone = 1204
code_of Booked = 1205
code_of BookFull = 1206
code_of NoMemory = 1207
