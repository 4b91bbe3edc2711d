-- A script: the lines of one session with a world, in which the simulation runs after each request (profile).
use Rattle.std.specs.Prelude.{◌≡◌, ◌⊎◌, ◌<◌, ◌≤◌, IsUtf8, length, ℕ, zero, suc, Bool, true, false, if◌then◌else◌, List, [], ◌∷◌, Option, Some, None, is_none, Result, Ok, Err}
use Rattle.std.specs.Option.{option_map_or}
use Rattle.std.specs.Result.{result_err}
use Rattle.vp_text.specs.Refusals.{MayExplain}
use Rattle.vp_elab.specs.Built.{Elaborated}
use Rattle.vp_policy.specs.declared.error.PolicyError.TheVariants as policy_error
use Rattle.vp_policy.specs.File.{PolicyFile, file_of, policy_for}
use Rattle.vp_policy.specs.PolicyState.{PolicyState}
use Rattle.vp_race.specs.Recording.{next_job}
use Rattle.vp_race.specs.Search.{found}
use Rattle.vp_race.specs.Segments.{FindingState}
use Rattle.vp_sim.specs.declared.error.SimError.TheVariants.{Idle}
use Rattle.vp_world.specs.declared.event.Event.{Event}
use Rattle.vp_world.specs.declared.event.Event.TheVariants as event
use Rattle.vp_answer.specs.declared.request.Call.TheVariants as call
use Rattle.vp_answer.specs.declared.request.Request.{Request}
use Rattle.vp_answer.specs.declared.request.Request.TheVariants as request
use Rattle.vp_answer.specs.declared.request.SessionId.{SessionId}
use Rattle.vp_world.specs.declared.error.WorldError.{WorldError}
use Rattle.vp_world.specs.declared.error.WorldError.TheVariants as error
use Rattle.vp_world.specs.declared.limits.Limits.{Limits}
use Rattle.vp_answer.specs.declared.reply.Refusal.{Refusal}
use Rattle.vp_answer.specs.declared.reply.Refusal.TheVariants as refusal
use Rattle.vp_answer.specs.declared.reply.Reply.{Reply}
use Rattle.vp_answer.specs.declared.reply.Reply.TheVariants as reply
use Rattle.vp_world.specs.History.{answered_by, refused_by, state_after, with_entry}
use Rattle.vp_world.specs.Refusals.{refusal_of_error}
use Rattle.vp_world.specs.Worlds.{WorldLog, Opening}
use Rattle.vp_wire.specs.declared.error.WireError.{WireError}
use Rattle.vp_wire.specs.Dialogue.{Closes, IsWhole, Point, Stops}
use Rattle.vp_script.specs.Bundles.{cut_of}
use Rattle.vp_script.specs.declared.error.ServeFault.{ServeFault}
use Rattle.vp_script.specs.declared.error.ServeFault.TheVariants as fault
use Rattle.vp_design.specs.Designs.{IsDesignOf, text_limit}
use Rattle.vp_script.specs.Designs.{IsRefusedBy}

-- ---- one event

-- what a world does with an event, by its refusal: it answers and logs it, or reports the refusal; or memory was missing, and
-- nothing happens
abbrev pub AppliedBy : (out_of_memory : Bool) → Option WorldError → WorldLog → Event → Reply → WorldLog → Type 0
AppliedBy out_of_memory (Some e) w happens answer v = (answer ≡ reply.Error (refusal_of_error e)) × (v ≡ w)
AppliedBy out_of_memory None w happens answer v =
    ((answer ≡ answered_by w happens) × (v ≡ with_entry w happens))
    ⊎ ((out_of_memory ≡ true) × (answer ≡ reply.Error refusal.NoMemory) × (v ≡ w))

-- what a world does with an event, where a request is one; a request that is none is refused, and nothing happens
abbrev pub Applied : (out_of_memory : Bool) → Result Event Refusal → WorldLog → Reply → WorldLog → Type 0
Applied out_of_memory (Err e) w answer v = (answer ≡ reply.Error e) × (v ≡ w)
Applied out_of_memory (Ok e) w answer v = AppliedBy out_of_memory (refused_by w e) w e answer v

-- ---- the simulation runs

-- the next event of the simulation: the first that a step can take; where a step finds nothing to do at the current time, an advance
abbrev pub next_event_by : Option WorldError → Event
next_event_by (Some (error.Sim Idle)) = event.Advance
next_event_by stepped = event.Step 0

-- the next event of the simulation in a world
abbrev pub next_event : WorldLog → Event
next_event w = next_event_by (refused_by w (event.Step 0))

-- a search tries so many seeds, where nothing else is said, by orders of at most so many steps (profile)
abbrev pub seed_count : ℕ
seed_count = 16

abbrev pub step_limit : ℕ
step_limit = 10000

-- a world, the races that were found and are still to be booked, and how many seeds a search tries
pub record Running : Type 0 where
  pub world : WorldLog
  pub found : List FindingState
  pub seeds : ℕ

-- a world with an event, if it does not refuse it
abbrev pub with_event_if : WorldLog → Event → WorldLog
with_event_if w e = if is_none (refused_by w e) then with_entry w e else w

-- what is found in the segment that is the next job of a world, if there is one
abbrev pub searched : (seeds : ℕ) → WorldLog → List FindingState
searched seeds w =
    option_map_or (λ run. found run step_limit seeds) (next_job (state_after w.opening w.log).segments) []

-- what happens next: a race that was found is booked, unless the world refuses it; else, if there is a job, it is taken and its segment is
-- searched; else the next event of the simulation happens; nothing, where the world refuses that
abbrev pub turned_by : (seeds : ℕ) → WorldLog → (found : List FindingState) → Option Running
turned_by seeds w (f ∷ fs) = Some (record { world = with_event_if w (event.Book f); found = fs; seeds = seeds })
turned_by seeds w [] =
    if is_none (refused_by w event.TakeJob)
    then Some (record { world = with_entry w event.TakeJob; found = searched seeds w; seeds = seeds })
    else
    if is_none (refused_by w (next_event w))
    then Some (record { world = with_entry w (next_event w); found = []; seeds = seeds })
    else None

-- the same of a world that runs
abbrev pub turned : Running → Option Running
turned r = turned_by r.seeds r.world r.found

-- so much happens, each the next
abbrev pub Happen : ℕ → Running → Running → Type 0
Happen zero r q = q ≡ r
Happen (suc n) r q = (p : Running) × Happen n r p × (turned p ≡ Some q)

-- the simulation runs, and what it does is searched for races, until nothing happens next; or, where memory may have been lacking, up to what
-- there was none for
abbrev pub Runs : (out_of_memory : Bool) → Running → Running → Type 0
Runs out_of_memory r q = (n : ℕ) × Happen n r q × ((out_of_memory ≡ true) ⊎ (turned q ≡ None))

-- ---- a script

-- a world with the races that are still to be booked, and the session that the script has opened, if it has
pub record Script : Type 0 where
  pub running : Running
  pub session : Option SessionId

-- the event of a request; or why it is none: a session's where none was opened, and a server's, since a script has none (profile)
abbrev pub event_of : Option SessionId → Request → Result Event Refusal
event_of session (request.Open user token) = Ok (event.Open user token)
event_of session (request.Grant change) = Ok (event.Grant change)
event_of session (request.End order) = Ok (event.End order)
event_of session (request.Halt order) = Ok (event.Halt order)
event_of session (request.Status token) = Err refusal.BadRequest
event_of session (request.Shutdown token) = Err refusal.BadRequest
event_of None (request.Call c) = Err refusal.NotOpen
event_of (Some id) (request.Call (call.Query query)) = Ok (event.Ask id query)
event_of (Some id) (request.Call call.Close) = Ok (event.Close id)

-- the session of a script after a reply
abbrev pub session_after : Option SessionId → Reply → Option SessionId
session_after session (reply.Opened id) = Some id
session_after session answer = session

-- the same with another world
abbrev pub with_world : Running → WorldLog → Running
with_world r w = record { world = w; found = r.found; seeds = r.seeds }

-- a script's request is answered by the world, and then the simulation runs; where memory was not missing, neither lacked any
pub record ServesNow (out_of_memory : Bool) (before : Script) (r : Request) (answer : Reply) (after : Script) : Type 0 where
  pub asked : WorldLog
  pub applied : Applied out_of_memory (event_of before.session r) before.running.world answer asked
  pub session : after.session ≡ session_after before.session answer
  pub runs : Runs out_of_memory (with_world before.running asked) after.running

-- where memory was lacking, the simulation may go on before the next request, until nothing happens next
abbrev pub Resumes : (out_of_memory : Bool) → Running → Running → Type 0
Resumes out_of_memory r q = (q ≡ r) ⊎ ((out_of_memory ≡ true) × Runs false r q)

-- while memory is lacking there, a request is answered so, and not asked
abbrev pub LacksMemory : (out_of_memory : Bool) → Script → Reply → Script → Type 0
LacksMemory out_of_memory before answer after =
    (out_of_memory ≡ true) × (answer ≡ reply.Error refusal.NoMemory) × (after.session ≡ before.session) × Runs true before.running after.running

-- a request of a script is served: first the simulation goes on where memory was lacking for it
abbrev pub Serves : (out_of_memory : Bool) → Script → Request → Reply → Script → Type 0
Serves out_of_memory before r answer after =
    ((ready : Running) × Resumes out_of_memory before.running ready × ServesNow out_of_memory (record before { running = ready }) r answer after)
    ⊎ LacksMemory out_of_memory before answer after

-- a world that began so, in which nothing has happened
abbrev pub new_world : Opening → WorldLog
new_world opening = record { opening = opening; log = []; handed_out = 0 }

-- the script of a world that has opened no session
abbrev pub begun : (seeds : ℕ) → WorldLog → Script
begun seeds world = record { running = record { world = world; found = []; seeds = seeds }; session = None }

-- a script in which nothing has happened
abbrev pub opened : (seeds : ℕ) → Opening → Script
opened seeds opening = begun seeds (new_world opening)

-- ---- a script over a reader and a writer

-- the greatest limits of a world (profile)
abbrev pub greatest : Limits
greatest = record { log = 4194304; for_users = 0; for_operator = 0; for_closes = 0; bytes = None; book = record { races = 65536; steps = 16777216 }; sessions = 64 }

-- a world opens with a design and a policy, and with the greatest limits
abbrev pub opening_of : Elaborated → PolicyState → Opening
opening_of design policy = record { design = design; policy = policy; limits = greatest }

-- a world is that of a text and a policy file, and nothing has happened in it
pub record IsOpened (text policy : List ℕ) (world : WorldLog) : Type 0 where
  pub design : Elaborated
  pub is_design : IsDesignOf text design
  pub fits : length policy ≤ text_limit
  pub file : PolicyFile
  pub is_file : file_of design.tree.authors policy ≡ Ok file
  pub fresh : world ≡ new_world (opening_of design (policy_for design.tree file))

-- a script over an input has read it to the end, so many lines, and each was answered what the script answers it; and it is this script
-- after that. Where memory was not missing, each line was asked and reported, and after each the simulation ran until nothing happened
-- next
pub record IsAnswered (out_of_memory : Bool) (script following : Script) (unread still_unread held holds : Option (List ℕ)) (lines : ℕ) : Type 0 where
  pub end : Point Script
  pub whole : IsWhole out_of_memory (Serves out_of_memory) unread still_unread held holds script end lines
  pub closes : Closes (Serves out_of_memory) end.stage end.caller following

-- the script of a text and a policy file over an input, whose searches try so many seeds
pub record IsScript (seeds : ℕ) (out_of_memory : Bool) (text policy : List ℕ) (unread still_unread held holds : Option (List ℕ)) (lines : ℕ) : Type 0 where
  pub world : WorldLog
  pub opened : IsOpened text policy world
  pub following : Script
  pub answered : IsAnswered out_of_memory (begun seeds world) following unread still_unread held holds lines

-- ---- faults

-- a script over an input has stopped by a fault of the reader or the writer, and each line that was answered till then was answered what
-- the script answers it
pub record IsStopped (e : WireError) (script : Script) (unread still_unread held holds : Option (List ℕ)) : Type 0 where
  pub out_of_memory : Bool
  pub end : Point Script
  pub stops : Stops e (Serves out_of_memory) unread still_unread held holds script end
  pub following : Script
  pub closes : Closes (Serves out_of_memory) end.stage end.caller following

-- a policy file is refused by a fault, after a text that has this design: it is too long, or it is none; or memory is lacking
abbrev pub IsPolicyRefusedBy : Elaborated → List ℕ → ServeFault → Type 0
IsPolicyRefusedBy design policy fault.TooLong = text_limit < length policy
IsPolicyRefusedBy design policy (fault.Policy e) =
    (length policy ≤ text_limit) × MayExplain policy_error.NoMemory (result_err (file_of design.tree.authors policy)) e
IsPolicyRefusedBy design policy (fault.World e) = e ≡ error.NoMemory
IsPolicyRefusedBy design policy fault.NoMemory = Unit {0}
IsPolicyRefusedBy design policy f = ⊥

-- no script is opened for a text and a policy file, by a fault of the text, or, where it has none, of the file; or memory is lacking
abbrev pub IsUnopened : List ℕ → List ℕ → ServeFault → Type 0
IsUnopened text policy f =
    IsRefusedBy text f ⊎ ((design : Elaborated) × IsDesignOf text design × IsPolicyRefusedBy design policy f)

-- a fault before the script: nothing was read and nothing was written
pub record EndsUnopened (text policy : List ℕ) (unread still_unread held holds : Option (List ℕ)) (f : ServeFault) : Type 0 where
  pub unopened : IsUnopened text policy f
  pub unread_still : still_unread ≡ unread
  pub unwritten : holds ≡ held

-- the fault that ended a script over an input: of the text, then of the policy file, then of the reader or the writer; or memory is
-- lacking to open it
abbrev pub EndsBy : (seeds : ℕ) → List ℕ → List ℕ → (unread still_unread held holds : Option (List ℕ)) → ServeFault → Type 0
EndsBy seeds text policy unread still_unread held holds (fault.Lines e) =
    (world : WorldLog) × IsOpened text policy world × IsStopped e (begun seeds world) unread still_unread held holds
EndsBy seeds text policy unread still_unread held holds f = EndsUnopened text policy unread still_unread held holds f

-- ---- bundles

-- the greatest length of a bundle, in bytes (profile)
abbrev pub bundle_limit : ℕ
bundle_limit = 16777216

-- the parts of a bundle
pub record Parts : Type 0 where
  pub text : List ℕ
  pub policy : List ℕ
  pub input : List ℕ

-- a bundle is cut into these parts: what stands before its first line `%%`, between this and the next, and after that
pub record IsCutInto (bundle : List ℕ) (parts : Parts) : Type 0 where
  pub rest : List ℕ
  pub first_cut : cut_of bundle ≡ Some (parts.text, rest)
  pub second_cut : cut_of rest ≡ Some (parts.policy, parts.input)

-- a bundle is not too long, and has these parts
pub record HasParts (bundle : List ℕ) (parts : Parts) : Type 0 where
  pub fits : length bundle ≤ bundle_limit
  pub cut : IsCutInto bundle parts

-- it has no two lines `%%`
abbrev pub HasNoParts : List ℕ → Type 0
HasNoParts bundle =
    (cut_of bundle ≡ None) ⊎ ((text : List ℕ) × (rest : List ℕ) × (cut_of bundle ≡ Some (text, rest)) × (cut_of rest ≡ None))

-- the script of a bundle: that of its parts, whose first is a text
pub record IsBundle (out_of_memory : Bool) (bundle : List ℕ) (held holds : Option (List ℕ)) (lines : ℕ) : Type 0 where
  pub parts : Parts
  pub has : HasParts bundle parts
  pub text : IsUtf8 parts.text
  pub script : IsScript seed_count out_of_memory parts.text parts.policy (Some parts.input) (Some []) held holds lines

-- the fault of a bundle before its script: it is too long; it has no two lines `%%`; its design is too long; it is no text. Each where
-- those before it are not
abbrev pub IsBadBundle : List ℕ → ServeFault → Type 0
IsBadBundle bundle fault.TooLong =
    (bundle_limit < length bundle) ⊎ ((parts : Parts) × HasParts bundle parts × (text_limit < length parts.text))
IsBadBundle bundle fault.BadBundle =
    ((length bundle ≤ bundle_limit) × HasNoParts bundle)
    ⊎ ((parts : Parts) × HasParts bundle parts × (length parts.text ≤ text_limit) × (IsUtf8 parts.text → ⊥))
IsBadBundle bundle f = ⊥

-- the fault that ended the script of a bundle
pub record EndsPartsBy (bundle : List ℕ) (held holds : Option (List ℕ)) (f : ServeFault) : Type 0 where
  pub parts : Parts
  pub has : HasParts bundle parts
  pub text : IsUtf8 parts.text
  pub still_unread : Option (List ℕ)
  pub ends : EndsBy seed_count parts.text parts.policy (Some parts.input) still_unread held holds f

-- the fault that ended a bundle: its own, before which nothing was written, or that of its script
abbrev pub EndsBundleBy : List ℕ → (held holds : Option (List ℕ)) → ServeFault → Type 0
EndsBundleBy bundle held holds f = (IsBadBundle bundle f × (holds ≡ held)) ⊎ EndsPartsBy bundle held holds f
