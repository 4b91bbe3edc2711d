-- Why the text of a design opens nothing.
use Rattle.std.specs.Prelude.{List, ℕ}
use Rattle.vp_design.specs.Designs as design
use Rattle.vp_script.specs.declared.error.ServeFault.{ServeFault}
use Rattle.vp_script.specs.declared.error.ServeFault.TheVariants as fault

-- a text is refused by a fault: it has no design, for its first fault; or memory is lacking
abbrev pub IsRefusedBy : List ℕ → ServeFault → Type 0
IsRefusedBy text (fault.Design e) = design.IsRefusedBy text e
IsRefusedBy text fault.NoMemory = Unit {0}
IsRefusedBy text f = ⊥
