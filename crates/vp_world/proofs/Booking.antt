-- An error of the book explains its refusal.
use Rattle.std.proofs.Common.{◌≡◌, ◌≢◌, ◌∙◌, Bool, true, false, Option, Some, None, sym, ap, refl}
use Rattle.std.specs.Prelude.{if◌then◌else◌, option_map}
use Rattle.vp_world.specs.declared.error.WorldError.TheVariants as world_error
use Rattle.vp_text.specs.Refusals.{Explains}
use Rattle.vp_race.specs.declared.error.RaceError.{RaceError}
use Rattle.vp_race.specs.declared.error.RaceError.TheVariants.{NotAnOrder, NotComplete, SameValue, SegmentGone, Booked, BookFull, NoMemory}
use Rattle.vp_race.specs.Booking.{BookState, is_booked, is_full_for, refusal_of_finding, refusal_of_race}
use Rattle.vp_race.specs.Same.{same_run}
use Rattle.vp_race.specs.Segments.{Run, FindingState}
use Rattle.vp_world.specs.declared.error.WorldError.TheVariants.{Race}
use Rattle.vp_world.specs.Faults.{error_of_race}

-- no out of memory
abbrev IsOwn : Option RaceError → Type 0
IsOwn None = Unit {0}
IsOwn (Some e) = e ≢ NoMemory

either : (b : Bool) (x y : Option RaceError) → IsOwn x → IsOwn y → IsOwn (if b then x else y)
either true x y h k = h
either false x y h k = k

race_own : (b : BookState) (f : FindingState) → IsOwn (refusal_of_race b f)
race_own b f = either (is_booked b.races f) _ _ (λ e. cc) (either (is_full_for b f) _ _ (λ e. cc) tt)

-- the book refuses a finding for a reason of its own
finding_own : (b : BookState) (kept : Option Run) (f : FindingState) → IsOwn (refusal_of_finding b kept f)
finding_own b None f = λ e. cc
finding_own b (Some run) f = either (same_run run f.segment) _ _ (race_own b f) (λ e. cc)

told : (e : RaceError) → e ≢ NoMemory → Race e ≡ error_of_race e
told NotAnOrder h = refl
told NotComplete h = refl
told SameValue h = refl
told SegmentGone h = refl
told Booked h = refl
told BookFull h = refl
told NoMemory h = absurd (h refl)

explained_by : (o : Option RaceError) (e : RaceError) → IsOwn o → Explains NoMemory o e → Explains world_error.NoMemory (option_map Race o) (error_of_race e)
explained_by None e own h = ap error_of_race h
explained_by (Some r) e own h = ap error_of_race h ∙ sym (told r own)

-- an error of the book explains its refusal
pub booking_explained : (b : BookState) (kept : Option Run) (f : FindingState) (e : RaceError) → Explains NoMemory (refusal_of_finding b kept f) e → Explains world_error.NoMemory (option_map Race (refusal_of_finding b kept f)) (error_of_race e)
booking_explained b kept f e h = explained_by (refusal_of_finding b kept f) e (finding_own b kept f) h
