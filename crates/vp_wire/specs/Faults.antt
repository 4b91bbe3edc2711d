-- The numbers of the faults of lines.
use Rattle.std.specs.Prelude.{ℕ}
use Rattle.vp_wire.specs.declared.error.WireError.{WireError}
use Rattle.vp_wire.specs.declared.error.WireError.TheVariants.{BadJson, BadRequest, LineTooLong, ReadFault, WriteFault, TurnLimit, NoMemory}

-- the number of a fault (profile)
abbrev pub code_of : WireError → ℕ
code_of BadJson = 1501
code_of BadRequest = 1502
code_of LineTooLong = 1503
code_of ReadFault = 1504
code_of WriteFault = 1505
code_of TurnLimit = 1506
code_of NoMemory = 1507
