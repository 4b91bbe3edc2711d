-- What stands behind the lock of a hub.
use Rattle.std.specs.Prelude.{◌≡◌, ◌≢◌, ◌<◌, ℕ, ◌+◌, ◌-◌, ◌++◌, ◌∷◌, ◌||◌, [], All, AllPairs, Bool, IfErr, IfOk, OnErr, OnOk, if◌then◌else◌, is_some, length, min, nat_le, List, Option, None, Some, option_map, Result, slice_get, sum_by}
use Rattle.std.specs.List.{remove}
use mathlib.Core.List.{IsPrefix}
use Rattle.vp_answer.specs.declared.reply.Reply.{Reply}
use Rattle.vp_answer.specs.declared.request.Call.{Call}
use Rattle.vp_answer.specs.declared.request.SessionId.{SessionId}
use Rattle.vp_text.specs.Refusals.{Explains}
use Rattle.vp_world.specs.declared.event.Event.{Event}
use Rattle.vp_world.specs.declared.event.Event.TheVariants as event
use Rattle.vp_world.specs.Entries.{Entry}
use Rattle.vp_world.specs.declared.error.WorldError.TheVariants as world_error
use Rattle.vp_world.specs.History.{answered_by, held_bytes, most_entries, refused_by, state_after, with_entry}
use Rattle.vp_answer.specs.OpenSessions.{index_of}
use Rattle.vp_policy.specs.Regrants.{is_operator}
use Rattle.vp_world.specs.Worlds.{WorldLog, Opening, State}
use Rattle.vp_world.specs.declared.archive.CountingArchive.{CountingArchive}
use Rattle.vp_hub.specs.declared.archive.LogArchive.{LogArchive}
use Rattle.vp_hub.specs.declared.archive.LogArchive.TheVariants as kinds
use Rattle.vp_hub.specs.declared.error.HubError.{HubError}
use Rattle.vp_hub.specs.declared.error.HubError.TheVariants as hub_error
use Rattle.vp_hub.specs.Calls.{IsOpenedIn, Keeps, Passed, after_call, event_of, session_entries}

-- a desk: its world, the total of its ledger, the parts of it that are left for passes to come, the sessions whose passes are out, the passes
-- that were handed back, and what it hands its log out to
pub record Desked : Type 0 where
  pub world : WorldLog
  pub total : ℕ
  pub parts : ℕ
  pub passes_out : List SessionId
  pub handed_back : List Passed
  pub archive : LogArchive

-- what every desk keeps: its world began as the opening says, the ledger's total is the number of entries of sessions, a part is left for
-- each entry that a log may still get, and one more, and each pass that is out has one of all parts; the calls of the passes that were
-- handed back are the amount of the desk's share
pub record IsDesk (opening : Opening) (all : ℕ) (d : Desked) (amount : ℕ) : Type 0 where
  pub opened : d.world.opening ≡ opening
  pub counted : d.total ≡ session_entries d.world.log
  pub room : most_entries < d.parts + length d.world.log
  pub parts : d.parts + length d.passes_out ≡ all
  pub sum : amount ≡ sum_by (λ p. length p.indexes) d.handed_back

-- whose passes are out, and which were handed back: their sessions were opened in the log, no two are of one session, and what was handed
-- back are passes, of which the log goes on from what they have seen
pub record KeepsPasses (log : List Entry) (out : List SessionId) (back : List Passed) : Type 0 where
  pub out_opened : All (IsOpenedIn log) out
  pub back_opened : All (λ p. IsOpenedIn log p.session) back
  pub kept : All Keeps back
  pub seen : All (λ p. IsPrefix p.seen log) back
  pub out_apart : AllPairs (λ s t. s ≢ t) out
  pub back_apart : AllPairs (λ p q. p.session ≢ q.session) back
  pub apart : All (λ s. All (λ p. p.session ≢ s) back) out

-- and its history has the hub's name, and the log's entries
pub record IsLogOf (history : ℕ) (world : WorldLog) (name : ℕ) (entries : List Entry) : Type 0 where
  pub named : name ≡ history
  pub same : entries ≡ world.log

-- an event that is of no session
abbrev pub IsOther : Event → Type 0
IsOther (event.Open user token) = ⊥
IsOther (event.Ask id r) = ⊥
IsOther (event.Close id) = ⊥
IsOther e = Unit {0}

-- a desk with the entry of such an event more
abbrev pub with_event : Desked → Event → Desked
with_event d e = record d { world = with_entry d.world e }

-- a desk with the entry of an event of a session more, which is counted
abbrev pub with_call : Desked → Event → Desked
with_call d e = record d { world = with_entry d.world e; total = d.total + 1 }

-- a desk with the entry of an opening more, which is counted; the pass of the session is out, and has a part
pub record WithPass (d : Desked) (e : Event) (session : SessionId) (next : Desked) : Type 0 where
  pub world : next.world ≡ with_entry d.world e
  pub total : next.total ≡ d.total + 1
  pub parts : next.parts + 1 ≡ d.parts
  pub passes_out : next.passes_out ≡ d.passes_out ++ session ∷ []
  pub handed_back : next.handed_back ≡ d.handed_back
  pub archive : next.archive ≡ d.archive

-- a desk to which a pass was handed back that was out
pub record WithPassBack (d : Desked) (p : Passed) (next : Desked) : Type 0 where
  pub place : ℕ
  pub out : slice_get d.passes_out place ≡ Some p.session
  pub desk : next ≡ record d {
    parts = d.parts + p.parts;
    passes_out = remove d.passes_out place;
    handed_back = d.handed_back ++ p ∷ [];
  }

-- what a server hands its log out to: to nobody where it keeps it, and else it counts it
abbrev pub archive_of : (keep : Bool) → LogArchive
archive_of keep = if keep then kinds.Keeping else kinds.Counting (record { entries = 0 })

-- a desk holds as many entries of its log, or as many bytes of texts in them, as are handed out at once (profile)
abbrev pub is_due : Desked → Bool
is_due d =
    nat_le 65536 (length d.world.log - d.world.handed_out)
    || nat_le 16777216 (held_bytes d.world.handed_out d.world.log)

-- an archive that counts, with so many entries more, as far as 64 bits go
abbrev pub counted_more : CountingArchive → ℕ → LogArchive
counted_more archive n = kinds.Counting (record { entries = min (archive.entries + n) 18446744073709551615 })

-- a desk whose log is handed out, where it is due, to an archive that takes it
abbrev pub handed_out_to : Desked → LogArchive → Desked
handed_out_to d kinds.Keeping = d
handed_out_to d (kinds.Counting archive) =
    if is_due d
    then record d {
      world = record d.world { handed_out = length d.world.log };
      archive = counted_more archive (length d.world.log - d.world.handed_out);
    }
    else d

-- the same to its own
abbrev pub handed_out : Desked → Desked
handed_out d = handed_out_to d d.archive

-- why a desk's world refuses an event, if it does
abbrev pub refusal_of : Desked → Event → Option HubError
refusal_of d e = option_map hub_error.World (refused_by d.world e)

-- out of memory
abbrev pub out_of_memory : HubError
out_of_memory = hub_error.World world_error.NoMemory

-- another token than the operator's
abbrev pub bad_operator : HubError
bad_operator = hub_error.World world_error.BadOperator

-- a token is that of the operator of a world
abbrev pub is_operators : WorldLog → (token : List ℕ) → Bool
is_operators w token = let s : State = state_after w.opening w.log in is_operator s.policy token

-- a session is open in a world
abbrev pub is_open_in : WorldLog → SessionId → Bool
is_open_in w id = let s : State = state_after w.opening w.log in is_some (index_of s.sessions id)

-- a call of a pass is made: the world accepts its event, the desk has the entry, and the pass has seen it
pub record IsMade (d : Desked) (p : Passed) (c : Call) (next : Desked) (q : Passed) : Type 0 where
  pub accepted : refused_by d.world (event_of p.session c) ≡ None
  pub desk : next ≡ with_call d (event_of p.session c)
  pub pass : q ≡ after_call p (length d.world.log) next.world.log

-- what a call of a pass comes to at a desk, whose log goes on from what the pass has seen: it is made and answered; or it is refused, by
-- the world's first reason (1403) or when out of memory, which leaves desk and pass as they were
pub record Calls (d : Desked) (p : Passed) (c : Call) (result : Result Reply HubError) (next : Desked) (q : Passed) : Type 0 where
  pub seen : IsPrefix p.seen d.world.log
  pub made : OnOk result (IsMade d p c next q)
  pub answer : IfOk result (λ a. a ≡ answered_by d.world (event_of p.session c))
  pub refused : IfErr result (Explains out_of_memory (refusal_of d (event_of p.session c)))
  pub unchanged : OnErr result ((next ≡ d) × (q ≡ p))
