-- Events.
use Rattle.std.specs.Prelude.{◌≡◌}
use Rattle.vp_elab.specs.Built.{Elaborated}
use Rattle.vp_race.specs.Segments.{IsRaceOf}
use Rattle.vp_world.specs.declared.event.Event.{Event}
use Rattle.vp_world.specs.declared.event.Event.TheVariants as event

-- an event of a world of a design: its finding, if it has one, is a race of a segment of that design
abbrev pub IsWellFormed : Elaborated → Event → Type 0
IsWellFormed design (event.Book finding) = (finding.segment.start.design ≡ design) × IsRaceOf finding
IsWellFormed design e = Unit {0}
