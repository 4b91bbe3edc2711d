-- The numbers of the refusals of an event.
use Rattle.std.specs.Prelude.{ℕ}
use Rattle.vp_race.specs.declared.error.RaceError.{RaceError}
use Rattle.vp_race.specs.declared.error.RaceError.TheVariants as race
use Rattle.vp_sim.specs.declared.error.SimError.{SimError}
use Rattle.vp_sim.specs.declared.error.SimError.TheVariants as sim
use Rattle.vp_world.specs.declared.error.WorldError.{WorldError}
use Rattle.vp_world.specs.declared.error.WorldError.TheVariants.{BadToken, SessionsFull, NotOpen, BadOperator, NoSuchUser, NoSuchEnvelope, LogFull, BeyondGoal, NoJob, Sim, Race, NoMemory}

-- the number of a refusal (profile)
abbrev pub code_of : WorldError → ℕ
code_of BadToken = 1302
code_of SessionsFull = 1301
code_of NotOpen = 1303
code_of BadOperator = 1310
code_of NoSuchUser = 1311
code_of NoSuchEnvelope = 1312
code_of LogFull = 1304
code_of BeyondGoal = 1305
code_of NoJob = 1306
code_of (Sim e) = 1308
code_of (Race e) = 1309
code_of NoMemory = 1307

-- the refusal by an error of the simulation; its out of memory is the world's
abbrev pub error_of : SimError → WorldError
error_of sim.NoMemory = NoMemory
error_of e = Sim e

-- the refusal by an error of the book; its out of memory is the world's
abbrev pub error_of_race : RaceError → WorldError
error_of_race race.NoMemory = NoMemory
error_of_race e = Race e
