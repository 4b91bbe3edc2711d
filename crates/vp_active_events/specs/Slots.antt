-- The active events that are no updates of nonblocking assignments, as they are kept: in slots, each of which is empty or has an event, and a mark
-- whether it waits for an older one.
use Rattle.std.specs.Prelude.{◌≡◌, ℕ, ◌+◌, ◌*◌, ◌/◌, ◌<◌, ◌≤◌, ◌^◌, ◌==◌, Bool, true, false, not, ◌||◌, if◌then◌else◌, List, [], ◌∷◌, ◌++◌, length, Option, None, Some, slice_index_or, slice_set}
use Rattle.std.specs.List.{count_by, flat_map, remove}
use Rattle.vp_active_events.specs.declared.event.Event.{Event}
use Rattle.vp_active_events.specs.declared.event.Event.TheVariants as events
use Rattle.vp_active_events.specs.declared.slot.Slot.{Slot}
use Rattle.vp_active_events.specs.declared.slot.Slot.TheVariants.{Empty, Evaluation, NetUpdate}
use Rattle.vp_active_events.specs.Blocks.{block_of}
use Rattle.vp_active_events.specs.Events.{AreCounted}

-- ---- one slot

-- the event of a slot, if there is one
abbrev pub events_at : Slot → List Event
events_at Empty = []
events_at (Evaluation process) = events.Evaluation process ∷ []
events_at (NetUpdate process value waiting) = events.NetUpdate process value ∷ []

-- a slot has no event
abbrev pub is_empty : Slot → Bool
is_empty Empty = true
is_empty (Evaluation process) = false
is_empty (NetUpdate process value waiting) = false

-- a slot has an event that waits
abbrev pub is_waiting : Slot → Bool
is_waiting Empty = false
is_waiting (Evaluation process) = false
is_waiting (NetUpdate process value waiting) = waiting

-- a slot has an event that waits for none
abbrev pub is_ready : Slot → Bool
is_ready Empty = false
is_ready (Evaluation process) = true
is_ready (NetUpdate process value waiting) = not waiting

-- a slot has an update of the net that a process drives
abbrev pub is_update_of : (process : ℕ) → Slot → Bool
is_update_of process Empty = false
is_update_of process (Evaluation other) = false
is_update_of process (NetUpdate other value waiting) = other == process

-- a slot whose event waits for none
abbrev pub freed : Slot → Slot
freed Empty = Empty
freed (Evaluation process) = Evaluation process
freed (NetUpdate process value waiting) = NetUpdate process value false

-- ---- the slots

-- the events of slots
abbrev pub events_of : List Slot → List Event
events_of slots = flat_map events_at slots

-- how many slots are empty
abbrev pub count_empty : List Slot → ℕ
count_empty slots = count_by is_empty slots

-- a slot has a mark that is right after older updates, which are those of the nets that some processes drive: an update waits for an older one of
-- its net
abbrev pub IsMarked : (older : ℕ → Bool) → Slot → Type 0
IsMarked older Empty = Unit {0}
IsMarked older (Evaluation process) = Unit {0}
IsMarked older (NetUpdate process value waiting) = waiting ≡ older process

-- slots have marks that are right after older updates
abbrev pub AreMarkedAfter : (older : ℕ → Bool) → List Slot → Type 0
AreMarkedAfter older [] = Unit {0}
AreMarkedAfter older (s ∷ ss) = IsMarked older s × AreMarkedAfter (λ process. older process || is_update_of process s) ss

-- the places of the slots whose events wait for none, where the first slot has a place
abbrev pub ready_from : (place : ℕ) → List Slot → List ℕ
ready_from place [] = []
ready_from place (s ∷ ss) = (if is_ready s then place ∷ [] else []) ++ ready_from (place + 1) ss

-- the place of the first update of the net that a process drives, where the first slot has a place
abbrev pub next_from : (place process : ℕ) → List Slot → Option ℕ
next_from place process [] = None
next_from place process (s ∷ ss) = if is_update_of process s then Some place else next_from (place + 1) process ss

-- the first update of the net that a process drives waits for none
abbrev pub released : (process : ℕ) → List Slot → List Slot
released process [] = []
released process (s ∷ ss) = if is_update_of process s then freed s ∷ ss else s ∷ released process ss

-- the first update of the net that a process drives waits, if there is one
abbrev pub does_first_wait : (process : ℕ) → List Slot → Bool
does_first_wait process [] = true
does_first_wait process (s ∷ ss) = if is_update_of process s then is_waiting s else does_first_wait process ss

-- each event that waits is marked, and the updates of nets are counted
pub record AreMarked (slots : List Slot) (updates : List ℕ) : Type 0 where
  pub marks : AreMarkedAfter (λ process. false) slots
  pub counted : AreCounted (events_of slots) updates

-- an event may become active that is no update of a nonblocking assignment, and one of a net is by one of so many processes
abbrev pub IsPushed : (processes : ℕ) → Event → Type 0
IsPushed processes (events.Evaluation process) = Unit {0}
IsPushed processes (events.NetUpdate process value) = process < processes
IsPushed processes (events.Nonblocking update) = ⊥

-- the events without that at a place, if one is given
abbrev pub without_at : Option ℕ → List Event → List Event
without_at None events = events
without_at (Some place) events = remove events place

-- ---- blocks of slots

-- how many slots of each block have an event that waits for none
abbrev pub AreBlocksCounted : List Slot → (counts : List ℕ) → Type 0
AreBlocksCounted slots counts = (number : ℕ) → slice_index_or counts number 0 ≡ count_by is_ready (block_of number slots)

-- the slots that are counted in blocks: all where one is empty, and else none
abbrev pub counted_in_blocks : (empty : ℕ) → List Slot → List Slot
counted_in_blocks empty slots = if empty == 0 then [] else slots

-- the empty slots and those that wait are counted, and those of each block that are ready; there is a count for each block
pub record AreIndexed (slots : List Slot) (empty waiting : ℕ) (counts : List ℕ) : Type 0 where
  pub empty_counted : empty ≡ count_empty slots
  pub waiting_counted : waiting ≡ count_by is_waiting slots
  pub blocks_counted : AreBlocksCounted (counted_in_blocks empty slots) counts
  pub within : length slots ≤ 16 * length counts
  pub few : length counts ≤ 2 ^ 40

-- one more slot, which is ready or not, is counted in its block, where slots are counted in blocks
abbrev pub counted_more : (empty place : ℕ) → (ready : Bool) → (counts : List ℕ) → List ℕ
counted_more empty place ready counts =
    if empty == 0 then counts
    else slice_set counts (place / 16) (slice_index_or counts (place / 16) 0 + (if ready then 1 else 0))

-- slots, and for how many more there is room
pub record SlotsKept : Type 0 where
  pub slots : List Slot
  pub room : ℕ
