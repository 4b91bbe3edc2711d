-- What is left of a hub that is closed.
use Rattle.std.specs.Prelude.{◌≡◌, ◌≢◌, All, AllPairs, length, List, [], ◌++◌, sum_by}
use mathlib.Core.List.{IsPrefix}
use Rattle.vp_world.specs.Entries.{Entry}
use Rattle.vp_world.specs.History.{IsLegal}
use Rattle.vp_world.specs.Worlds.{Opening}
use Rattle.vp_hub.specs.declared.close.Closed.{Closed}
use Rattle.vp_hub.specs.Calls.{Passed, entry_indexes, session_entries}

-- a pass has just the calls of its session in a log: the log goes on from what the pass has seen, and the indexes of its calls are those of
-- the session's entries
pub record HasAll (log : List Entry) (p : Passed) : Type 0 where
  pub seen : IsPrefix p.seen log
  pub indexes : p.indexes ≡ entry_indexes log p.session

-- these passes have all calls of a log: they are of different sessions, each has just the calls of its own, and these are all that the log
-- has of sessions
pub record HaveAll (log : List Entry) (passes : List Passed) : Type 0 where
  pub whole : All (HasAll log) passes
  pub apart : AllPairs (λ p q. p.session ≢ q.session) passes
  pub counted : sum_by (λ p. length p.indexes) passes ≡ session_entries log

-- these passes are the last of others
abbrev pub IsEnd : List Passed → List Passed → Type 0
IsEnd last passes = (first : List Passed) × (passes ≡ first ++ last)

-- what is left of a hub of an opening: its log is legal, and the passes that were handed back have all its calls
pub record IsClosed (opening : Opening) (closed : Closed) : Type 0 where
  pub opened : closed.world.opening ≡ opening
  pub legal : IsLegal opening [] closed.world.log
  pub passes : HaveAll closed.world.log closed.passes.entries
