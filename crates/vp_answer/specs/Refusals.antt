-- What a line is answered where it is refused.
use Rattle.std.specs.Prelude.{ℕ, List, codes}
use Rattle.vp_answer.specs.declared.reply.Refusal.{Refusal}
use Rattle.vp_answer.specs.declared.reply.Refusal.TheVariants.{BadHandle, WrongKind, BadValue, Finished, TooManyHandles, NoSuchName, TooManyCallbacks, NoSuchCallback, NoSuchRace, SessionsFull, BadToken, NotOpen, BadOperator, NoSuchUser, NoSuchEnvelope, LogFull, BadReceipt, BeyondGoal, NoJob, BadRequest, Simulation, Race, NoMemory}

-- the text that a line gives for a refusal (profile)
abbrev pub text_of : Refusal → List ℕ
text_of BadHandle = codes "bad handle"
text_of WrongKind = codes "wrong kind"
text_of BadValue = codes "bad value"
text_of Finished = codes "finished"
text_of TooManyHandles = codes "too many handles"
text_of NoSuchName = codes "no such name"
text_of TooManyCallbacks = codes "too many callbacks"
text_of NoSuchCallback = codes "no such callback"
text_of NoSuchRace = codes "no such race"
text_of SessionsFull = codes "sessions full"
text_of BadToken = codes "bad token"
text_of NotOpen = codes "not open"
text_of BadOperator = codes "bad operator"
text_of NoSuchUser = codes "no such user"
text_of NoSuchEnvelope = codes "no such envelope"
text_of LogFull = codes "log full"
text_of BadReceipt = codes "bad receipt"
text_of BeyondGoal = codes "beyond the goal"
text_of NoJob = codes "no job"
text_of BadRequest = codes "bad request"
text_of Simulation = codes "simulation"
text_of Race = codes "race"
text_of NoMemory = codes "no memory"
