-- The events of the active region, and which of them are eligible (clauses 11.2 and 11.3).
use Rattle.std.specs.Prelude.{◌≡◌, ℕ, ◌==◌, ◌<◌, Bool, true, false, not, if◌then◌else◌, List, [], ◌∷◌, ◌++◌, length, slice_index_or}
use Rattle.std.specs.List.{count_by, list_any}
use Rattle.vp_active_events.specs.declared.event.Event.{Event}
use Rattle.vp_active_events.specs.declared.event.Event.TheVariants.{Evaluation, NetUpdate, Nonblocking}

-- the process whose event it is: that which is evaluated, or that which made the update
abbrev pub process_of : Event → ℕ
process_of (Evaluation process) = process
process_of (NetUpdate process value) = process
process_of (Nonblocking update) = update.process

-- an event is an update of the net that a process drives; a net has one driver, so these are the updates of that net
abbrev pub drives : (process : ℕ) → Event → Bool
drives process (Evaluation other) = false
drives process (NetUpdate other value) = other == process
drives process (Nonblocking update) = false

-- an event is an update of a nonblocking assignment
abbrev pub is_nonblocking : Event → Bool
is_nonblocking (Evaluation process) = false
is_nonblocking (NetUpdate process value) = false
is_nonblocking (Nonblocking update) = true

-- an event after older ones is eligible: an evaluation always, an update of a net where no older one is of that net, and an update of a
-- nonblocking assignment if it is the oldest (profile)
abbrev pub is_eligible : (older : List Event) → Event → Bool
is_eligible older (Evaluation process) = true
is_eligible older (NetUpdate process value) = not (list_any (drives process) older)
is_eligible older (Nonblocking update) = not (list_any is_nonblocking older)

-- the places of the eligible events among these, which stand after older ones
abbrev pub eligible_after : (older : List Event) → List Event → List ℕ
eligible_after older [] = []
eligible_after older (e ∷ es) =
    (if is_eligible older e then length older ∷ [] else []) ++ eligible_after (older ++ e ∷ []) es

-- the places of the eligible events, the oldest first
abbrev pub eligible_places : List Event → List ℕ
eligible_places events = eligible_after [] events

-- how often the net of each process is updated by these events
abbrev pub AreCounted : List Event → (updates : List ℕ) → Type 0
AreCounted events updates = (process : ℕ) → slice_index_or updates process 0 ≡ count_by (drives process) events

-- the active region as it is kept: its events, the oldest first, how many more it has room for, and how many processes there are
pub record Region : Type 0 where
  pub events : List Event
  pub room : ℕ
  pub processes : ℕ
