-- The log of a server.
use Rattle.std.specs.Prelude.{◌≡◌, ◌⊎◌, All, List}
use Rattle.vp_elab.specs.Built.{Elaborated}
use Rattle.vp_world.specs.Entries.{Entry}
use Rattle.vp_world.specs.Events.{IsWellFormed}
use Rattle.vp_world.specs.declared.event.Event.{Event}
use Rattle.vp_world.specs.declared.event.Event.TheVariants as event

-- each event of a log may happen to a world of a design
abbrev pub AreWellFormed : Elaborated → List Entry → Type 0
AreWellFormed design log = All (λ e. IsWellFormed design e.event) log

-- an event books a race of the same object as the event of a log, by the same order
abbrev pub IsFoundAgain : (logged again : Event) → Type 0
IsFoundAgain (event.Book logged) (event.Book again) = (again.object ≡ logged.object) × (again.second ≡ logged.second)
IsFoundAgain logged again = ⊥

-- an event repeats one of a log: it is the same, or books the race found again
abbrev pub Repeats : (logged again : Event) → Type 0
Repeats logged again = (again ≡ logged) ⊎ IsFoundAgain logged again
