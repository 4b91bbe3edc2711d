-- The numbers and the lines of the faults that end a run.
use Rattle.std.specs.Prelude.{ℕ}
use Rattle.vp_design.specs.Faults as design
use Rattle.vp_policy.specs.Faults as policy
use Rattle.vp_world.specs.Faults as world
use Rattle.vp_wire.specs.Faults as wire
use Rattle.vp_script.specs.declared.error.ServeFault.{ServeFault}
use Rattle.vp_script.specs.declared.error.ServeFault.TheVariants.{Design, Policy, World, Lines, BadBundle, ReadFailed, TooLong, NoSuchUser, NoMemory}

-- the number of a fault (profile)
abbrev pub code_of : ServeFault → ℕ
code_of (Design e) = design.code_of e
code_of (Policy e) = policy.code_of e
code_of (World e) = world.code_of e
code_of (Lines e) = wire.code_of e
code_of BadBundle = 1601
code_of ReadFailed = 1602
code_of TooLong = 1603
code_of NoSuchUser = 1604
code_of NoMemory = 1607

-- its line in the design, 0 where none is known (profile)
abbrev pub line_of : ServeFault → ℕ
line_of (Design e) = design.line_of e
line_of (Policy e) = 0
line_of (World e) = 0
line_of (Lines e) = 0
line_of BadBundle = 0
line_of ReadFailed = 0
line_of TooLong = 0
line_of NoSuchUser = 0
line_of NoMemory = 0
