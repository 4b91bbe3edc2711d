-- Which closed segments are kept, on worked rows. Each row is an equation that holds by computation.
use Rattle.std.proofs.Common.{◌≡◌, ℕ, List, [], ◌∷◌, refl}
use Rattle.std.specs.Prelude.{replicate}
use Rattle.vp_sim.specs.States.{State}
use Rattle.vp_race.specs.Recording.{choices_of, last_within}
use Rattle.vp_race.specs.Segments.{Run}

-- a segment of a number, with so many choices
abbrev segment : State → (number choices : ℕ) → Run
segment s number choices = record { number = number; start = s; order = replicate choices 0 }

-- three of 2, 3 and 1 choices
abbrev three : State → List Run
three s = segment s 1 2 ∷ segment s 2 3 ∷ segment s 3 1 ∷ []

six_choices : (s : State) → choices_of (three s) ≡ 6
six_choices s = refl

six_keep_all : (s : State) → last_within 6 (three s) ≡ three s
six_keep_all s = refl

five_keep_two : (s : State) → last_within 5 (three s) ≡ segment s 2 3 ∷ segment s 3 1 ∷ []
five_keep_two s = refl

three_keep_one : (s : State) → last_within 3 (three s) ≡ segment s 3 1 ∷ []
three_keep_one s = refl

none_keeps_none : (s : State) → last_within 0 (three s) ≡ []
none_keeps_none s = refl
