-- What is found under a name, as a session is given it.
use Rattle.std.specs.Prelude.{Bool, true, false}
use Rattle.vp_vpi.specs.declared.observer.Found.{Found}
use Rattle.vp_vpi.specs.declared.observer.Found.TheVariants as found
use Rattle.vp_vpi.specs.Observers.{Lookup}
use Rattle.vp_vpi.specs.Observers as lookup

-- what is found: an object by its number, a denial in words, or nothing
abbrev pub found_shown : Found → Lookup
found_shown (found.Object o) = lookup.Found o.0
found_shown (found.Denied words) = lookup.Denied words
found_shown found.Absent = lookup.Absent

-- what is found is a denial
abbrev pub is_denial : Lookup → Bool
is_denial (lookup.Denied words) = true
is_denial found = false
