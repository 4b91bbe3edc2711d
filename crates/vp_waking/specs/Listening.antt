-- The listeners of an object: processes that have waited for its changes, among which those stand that wait for them.
use Rattle.std.specs.Prelude.{◌≡◌, ℕ, ◌==◌, ◌<◌, nat_lt, if◌then◌else◌, Bool, true, false, List, [], ◌∷◌, All, slice_get, slice_index_or, length, Option, Some, None}
use Rattle.std.specs.List.{AllPairs, list_any}
use Rattle.std.specs.Option.{option_map_or}
use Rattle.vp_elab.specs.Built.{Elaborated}
use Rattle.vp_expr.specs.declared.tables.Process.{Process}
use Rattle.vp_expr.specs.declared.tables.Process.TheVariants.{Procedure, Assignment, Connection}
use Rattle.vp_expr.specs.declared.tables.Tables.{Tables}
use Rattle.vp_expr.specs.declared.change.Change.{Change}
use Rattle.vp_waking.specs.declared.waiting.Waiting.{Waiting}
use Rattle.vp_waking.specs.Waking.{Term, awaited_by, operand_terms, wait_of}

-- a number stands in a list
abbrev pub has : List ℕ → ℕ → Bool
has numbers number = list_any (λ n. n == number) numbers

-- the listeners of an object; an object past the end has none
abbrev pub listeners_of : List (List ℕ) → (object : ℕ) → List ℕ
listeners_of lists object = slice_index_or lists object []

-- what is awaited is a change of an object
abbrev pub is_about : (object : ℕ) → Term → Bool
is_about object term = term.object == object

-- a process may listen to an object: a procedure to any, a continuous process to its operands
abbrev pub listens_to : Tables → (object : ℕ) → Process → Bool
listens_to tables object (Procedure o instance repeats body) = true
listens_to tables object (Assignment o net instance value) = list_any (is_about object) (operand_terms tables (Assignment o net instance value))
listens_to tables object (Connection port net) = port.0 == object

-- the process of a number may listen to an object
abbrev pub may_listen : Tables → (object : ℕ) → (process : ℕ) → Bool
may_listen tables object process = option_map_or (listens_to tables object) (slice_get tables.processes process) false

-- the listeners of an object rise, each once, and each may listen to it
pub record AreListeners (tables : Tables) (object : ℕ) (processes : List ℕ) : Type 0 where
  pub rise : AllPairs (λ x y. x < y) processes
  pub listen : All (λ p. may_listen tables object p ≡ true) processes

-- the listeners of each object
abbrev pub AreAllListeners : Tables → List (List ℕ) → Type 0
AreAllListeners tables lists = (object : ℕ) → AreListeners tables object (listeners_of lists object)

-- a process stands among the listeners of all objects that it awaits
abbrev pub IsHeard : List (List ℕ) → List Term → (process : ℕ) → Type 0
IsHeard lists terms process =
    (object : ℕ) → list_any (is_about object) terms ≡ true → has (listeners_of lists object) process ≡ true

-- all processes, as they wait, are heard
abbrev pub AreHeard : Tables → List (List ℕ) → List Waiting → Type 0
AreHeard tables lists waiting = (process : ℕ) → IsHeard lists (awaited_by tables (wait_of waiting process) process) process

-- no listener is lost
abbrev pub AreKept : (before : List (List ℕ)) → (after : List (List ℕ)) → Type 0
AreKept before after =
    (object : ℕ) → (process : ℕ) → has (listeners_of before object) process ≡ true → has (listeners_of after object) process ≡ true

-- the listeners as they are kept: the design, and of each object its listeners
pub record Listening : Type 0 where
  pub design : Elaborated
  pub lists : List (List ℕ)

-- numbers that rise, with one more at its place, unless it stands there already
abbrev pub with_number : List ℕ → ℕ → List ℕ
with_number [] number = number ∷ []
with_number (n ∷ ns) number =
    if nat_lt number n then number ∷ n ∷ ns else if n == number then n ∷ ns else n ∷ with_number ns number

-- the same, if the number is to stand there
abbrev pub with_number_at : List ℕ → ℕ → Bool → List ℕ
with_number_at numbers number true = with_number numbers number
with_number_at numbers number false = numbers

-- how many may wait for a change, if there is one
abbrev pub count_of : List (List ℕ) → Option Change → ℕ
count_of lists None = 0
count_of lists (Some change) = length (listeners_of lists change.object.0)
