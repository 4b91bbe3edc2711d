-- A job that is handed out.
use Rattle.std.proofs.Common.{◌≡◌, ℕ, Option, Some, None, ap}
use Rattle.std.specs.Prelude.{option_map}
use Rattle.std.specs.Option.{option_map_or}
use Rattle.vp_race.specs.Segments.{Run}
use Rattle.vp_answer.specs.declared.reply.Refusal.TheVariants as refusal
use Rattle.vp_answer.specs.declared.reply.Reply.TheVariants as reply

-- the number of a job
abbrev pub number_of : Option Run → Option ℕ
number_of job = option_map (λ (run : Run). run.number) job

-- the reply by the number of the job is that of the job
pub job_told : (job : Option Run) (number : ℕ) → Some number ≡ number_of job → reply.Job number ≡ option_map_or (λ (run : Run). reply.Job run.number) job (reply.Error refusal.NoJob)
job_told None number is = absurd cc
job_told (Some run) number is = let same : number ≡ run.number = cc in ap reply.Job same
