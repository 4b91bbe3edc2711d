-- What a line is answered where the world refuses its event.
use Rattle.vp_answer.specs.declared.reply.Refusal.{Refusal}
use Rattle.vp_answer.specs.declared.reply.Refusal.TheVariants.{BadToken, SessionsFull, NotOpen, BadOperator, NoSuchUser, NoSuchEnvelope, LogFull, BeyondGoal, NoJob, Simulation, Race, NoMemory}
use Rattle.vp_world.specs.declared.error.WorldError.{WorldError}
use Rattle.vp_world.specs.declared.error.WorldError.TheVariants as error

-- what a line is answered where the world refuses its event (profile)
abbrev pub refusal_of_error : WorldError → Refusal
refusal_of_error error.BadToken = BadToken
refusal_of_error error.SessionsFull = SessionsFull
refusal_of_error error.NotOpen = NotOpen
refusal_of_error error.BadOperator = BadOperator
refusal_of_error error.NoSuchUser = NoSuchUser
refusal_of_error error.NoSuchEnvelope = NoSuchEnvelope
refusal_of_error error.LogFull = LogFull
refusal_of_error error.BeyondGoal = BeyondGoal
refusal_of_error error.NoJob = NoJob
refusal_of_error (error.Sim e) = Simulation
refusal_of_error (error.Race e) = Race
refusal_of_error error.NoMemory = NoMemory
