-- What a log keeps of its entries: little of a step that takes the first event, as most do.
use Rattle.std.specs.Prelude.{◌<◌, ℕ, [], Bool, List, None, Option, Some, false, slice_index_or}
use Rattle.vp_answer.specs.declared.reply.Reply.TheVariants as reply
use Rattle.vp_expr.specs.declared.change.Change.{Change}
use Rattle.vp_world.specs.declared.event.Event.TheVariants as event
use Rattle.vp_world.specs.declared.log.Record.{Record}
use Rattle.vp_world.specs.declared.log.Record.TheVariants as record_of
use Rattle.vp_world.specs.Entries.{Entry}

-- a log: its entries, and whether there is room for one more
pub record LogState : Type 0 where
  pub entries : List Entry
  pub has_room : Bool

-- all that has happened: the entries, how many of them were handed out, and whether there is room for one more
pub record JournalState : Type 0 where
  pub entries : List Entry
  pub handed_out : ℕ
  pub has_room : Bool

-- in place of an entry where there is none
abbrev pub no_entry : Entry
no_entry = record { event = event.Advance; reply = reply.Done; change = None; time = 0; finished = false }

-- in place of a change where there is none
abbrev pub no_change : Change
no_change = record { object = record { 0 = 0 }; value = [] }

-- the entry of a step that took the first event and changed this, with the time and `$finish` of another entry
abbrev pub first_step_after : Entry → Option Change → Entry
first_step_after e change = record {
  event = event.Step 0;
  reply = reply.Done;
  change = change;
  time = e.time;
  finished = e.finished;
}

-- the entry that a record stands for, beside the entries that are kept whole and the changes
abbrev pub shown : (others : List Entry) → (changes : List Change) → Record → Entry
shown others changes (record_of.Step after) = first_step_after (slice_index_or others after no_entry) None
shown others changes (record_of.StepWithChange after change) =
    first_step_after (slice_index_or others after no_entry) (Some (slice_index_or changes change no_change))
shown others changes (record_of.Other index) = slice_index_or others index no_entry

-- the indexes of a record are of one of so many entries that are kept whole, and of one of so many changes
abbrev pub IsWithin : (others changes : ℕ) → Record → Type 0
IsWithin others changes (record_of.Step after) = after < others
IsWithin others changes (record_of.StepWithChange after change) = (after < others) × (change < changes)
IsWithin others changes (record_of.Other index) = index < others
