-- What a `History` and a `Front` own: that a list of ghost values has grown to this one.
use Rattle.std.specs.Prelude.{ℕ, List, map}
use base.Fraction.{full_share}
use base.Stored.{Gv}
use base.Growing.{latest, at_least}
use base.Fml.{Fml}
use Rattle.logbook.specs.Kept.{logs}

module _ {E : Type 0} (c : E → Gv) where
  -- whoever owns this alone may lengthen the list of the name
  abbrev pub lengthens : ℕ → List E → Fml
  lengthens γ entries = latest logs full_share γ (map c entries)

  -- the list of the name once was this one, and begins with it for good
  abbrev pub reached : ℕ → List E → Fml
  reached γ entries = at_least logs γ (map c entries)
