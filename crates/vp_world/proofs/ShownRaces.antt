-- A race of a book, by its number among those that are shown.
use Rattle.std.proofs.Common.{◌≡◌, ◌∙◌, ℕ, List, Some, ap, filter}
use Rattle.std.specs.Prelude.{option_map}
use Rattle.vp_elab.specs.Tree.{Tree}
use Rattle.vp_policy.specs.Users.{Member}
use Rattle.vp_race.specs.Segments.{FindingState}
use Rattle.vp_vpi.specs.Calls.{race_details, shown_at}
use Rattle.vp_vpi.proofs.RaceLists.{shown_map}
use Rattle.vp_world.specs.Races.{is_shown, race_seen, races_seen}

-- the race of a number, which is shown
pub race_at :
    (tree : Tree) (u : Member) (book : List FindingState) (number : ℕ) (f : FindingState)
    → shown_at (filter (is_shown tree u) book) number ≡ Some f
    → option_map (race_details number) (shown_at (races_seen tree u book) number) ≡ Some (race_details number (race_seen tree u f))
race_at tree u book number f h =
    ap (option_map (race_details number))
    (shown_map (race_seen tree u) (filter (is_shown tree u) book) number ∙ ap (option_map (race_seen tree u)) h)
