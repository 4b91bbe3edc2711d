-- The names of the races in a book.
use Rattle.std.proofs.Common.{◌≡◌, ◌∙◌, ◌==◌, ◌&&◌, ◌||◌, ◌++◌, ℕ, Bool, false, cond, if◌then◌else◌, List, [], ◌∷◌, map, refl, sym, ap}
use Rattle.std.specs.List.{list_any}
use Rattle.std.proofs.lemmas.List.{map-append}
use Rattle.vp_race.specs.Booking.{is_booked, is_name, name_of, same_race}
use Rattle.vp_race.specs.Segments.{FindingState}

-- a race is in the book where its name is among those of the book
pub any_named : (f : FindingState) (races : List FindingState) → list_any (is_name f.segment.number f.object.0) (map name_of races) ≡ is_booked races f
any_named f [] = refl
any_named f (g ∷ races) = ap (λ b. same_race f g || b) (any_named f races)
