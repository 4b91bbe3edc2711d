-- The numbers of the refusals of a simulation.
use Rattle.std.specs.Prelude.{ℕ}
use Rattle.vp_sim.specs.declared.error.SimError.{SimError}
use Rattle.vp_sim.specs.declared.error.SimError.TheVariants.{Finished, Idle, SlotNotDone, NoSuchChoice, TimeLimit, NoMemory}

-- the number of a refusal (profile)
abbrev pub code_of : SimError → ℕ
code_of Finished = 804
code_of Idle = 801
code_of SlotNotDone = 803
code_of NoSuchChoice = 802
code_of TimeLimit = 805
code_of NoMemory = 806
