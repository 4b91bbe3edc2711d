-- What a world that runs keeps of the races that are still to be booked.
use Rattle.std.specs.Prelude.{◌≡◌, ℕ, All, Bool, true, false, List, [], Option, Some, None}
use Rattle.vp_elab.specs.Built.{Elaborated}
use Rattle.vp_race.specs.Search.{found}
use Rattle.vp_race.specs.Segments.{FindingState, Run}
use Rattle.vp_answer.specs.declared.reply.Refusal.TheVariants as refusal
use Rattle.vp_answer.specs.declared.reply.Reply.{Reply}
use Rattle.vp_answer.specs.declared.reply.Reply.TheVariants as reply
use Rattle.vp_world.specs.Worlds.{WorldLog}
use Rattle.vp_script.specs.Scripts.{Happen, Running, step_limit}

-- a reply is that there is no memory
abbrev pub is_no_memory : Reply → Bool
is_no_memory (reply.Error refusal.NoMemory) = true
is_no_memory answer = false

-- the races that are still to be booked: those of a segment that is still to be searched, or else those that were found
abbrev pub pending : (seeds : ℕ) → Option Run → List FindingState → List FindingState
pending seeds None findings = findings
pending seeds (Some segment) findings = found segment step_limit seeds

-- a world that runs, with the races that are still to be booked
abbrev pub running_of : (seeds : ℕ) → WorldLog → Option Run → List FindingState → Running
running_of seeds world segment findings = record { world = world; found = pending seeds segment findings; seeds = seeds }

-- they are of a design; and while a segment is still to be searched nothing else is to be booked
abbrev pub ArePending : Elaborated → Option Run → List FindingState → Type 0
ArePending design None findings = All (λ f. f.segment.start.design ≡ design) findings
ArePending design (Some segment) findings = (segment.start.design ≡ design) × (findings ≡ [])

-- one thing after another happens in a world
abbrev pub HappensTo : Running → Running → Type 0
HappensTo r q = (n : ℕ) × Happen n r q
