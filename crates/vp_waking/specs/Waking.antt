-- What a process waits for, and the processes that a change wakes (clauses 9.7 and 11.3).
use Rattle.std.specs.Prelude.{ℕ, ◌+◌, ◌==◌, ◌&&◌, Bool, true, false, if◌then◌else◌, List, [], ◌∷◌, ◌++◌, filter, length, map, slice_get, slice_index_or, slice_set}
use Rattle.std.specs.List.{fold, list_any}
use Rattle.std.specs.Option.{option_map_or}
use Rattle.vp_bits.specs.declared.bit.Bit.{Bit}
use Rattle.vp_bits.specs.declared.bit.Bit.TheVariants.{Zero, One, Unknown, HighImpedance}
use Rattle.vp_elab.specs.declared.object.ObjectId.{ObjectId}
use Rattle.vp_elab.specs.Tree.{below}
use Rattle.vp_expr.specs.declared.awaited.Awaited.{Awaited}
use Rattle.vp_source.specs.declared.statement.Edge.{Edge}
use Rattle.vp_source.specs.declared.statement.Edge.TheVariants.{Any, Posedge, Negedge}
use Rattle.vp_expr.specs.declared.tables.Process.{Process}
use Rattle.vp_expr.specs.declared.tables.Process.TheVariants.{Procedure, Assignment, Connection}
use Rattle.vp_expr.specs.declared.tables.Tables.{Tables}
use Rattle.vp_operand.specs.Arena.{term_at}
use Rattle.vp_expr.specs.Tables.{awaited_of}
use Rattle.vp_operand.specs.Reads.{reads}
use Rattle.vp_active_events.specs.declared.event.Event.TheVariants.{Evaluation}
use Rattle.vp_strata.specs.Queues.{Queue, with_active}
use Rattle.vp_expr.specs.declared.change.Change.{Change}
use Rattle.vp_waking.specs.declared.waiting.Waiting.{Waiting}
use Rattle.vp_waking.specs.declared.waiting.Waiting.TheVariants.{Nothing, Statement, Operands}

-- ---- edges

-- a change of a bit from 0 to 1, x or z, or from x or z to 1 (clause 9.7.2, table 9-5)
abbrev pub is_posedge : Bit → Bit → Bool
is_posedge Zero Zero = false
is_posedge Zero One = true
is_posedge Zero Unknown = true
is_posedge Zero HighImpedance = true
is_posedge One new = false
is_posedge Unknown Zero = false
is_posedge Unknown One = true
is_posedge Unknown Unknown = false
is_posedge Unknown HighImpedance = false
is_posedge HighImpedance Zero = false
is_posedge HighImpedance One = true
is_posedge HighImpedance Unknown = false
is_posedge HighImpedance HighImpedance = false

-- a change of a bit from 1 to 0, x or z, or from x or z to 0 (clause 9.7.2, table 9-5)
abbrev pub is_negedge : Bit → Bit → Bool
is_negedge Zero new = false
is_negedge One Zero = true
is_negedge One One = false
is_negedge One Unknown = true
is_negedge One HighImpedance = true
is_negedge Unknown Zero = true
is_negedge Unknown One = false
is_negedge Unknown Unknown = false
is_negedge Unknown HighImpedance = false
is_negedge HighImpedance Zero = true
is_negedge HighImpedance One = false
is_negedge HighImpedance Unknown = false
is_negedge HighImpedance HighImpedance = false

-- the least significant bit, by which an edge of a vector is found (clause 9.7.2)
abbrev pub first_bit : List Bit → Bit
first_bit bits = slice_index_or bits 0 Unknown

-- a change from one value to another counts for an edge
abbrev pub counts : Edge → (old : List Bit) → (new : List Bit) → Bool
counts Any old new = true
counts Posedge old new = is_posedge (first_bit old) (first_bit new)
counts Negedge old new = is_negedge (first_bit old) (first_bit new)

-- ---- what a process awaits

-- what is awaited: of an object, a change that counts for an edge
pub record Term : Type 0 where
  pub edge : Edge
  pub object : ℕ

-- the object of an instance at a slot (clause 12.1.2)
abbrev pub object_at : ObjectId → ℕ → ℕ
object_at instance slot = instance.0 + slot

-- what a statement awaits, in an instance
abbrev pub located : (instance : ObjectId) → Awaited → Term
located instance awaited = record { edge = awaited.edge; object = object_at instance awaited.slot.0 }

-- any change of the object of an instance at a slot
abbrev pub any_of : (instance : ObjectId) → (slot : ℕ) → Term
any_of instance slot = record { edge = Any; object = object_at instance slot }

-- what the statement at a place awaits where it stands in a procedure (clause 9.7)
abbrev pub statement_terms : Tables → (place : ℕ) → Process → List Term
statement_terms tables place (Procedure object instance repeats body) = map (located instance) (awaited_of tables place)
statement_terms tables place (Assignment object net instance value) = []
statement_terms tables place (Connection port net) = []

-- what a continuous process awaits: any change of its operands, which are the objects in an assignment's expression, and the port of a
-- connection (clauses 6.1 and 12.3.9.2)
abbrev pub operand_terms : Tables → Process → List Term
operand_terms tables (Procedure object instance repeats body) = []
operand_terms tables (Assignment object net instance value) =
    map (any_of instance) (reads (term_at tables.operands value.place))
operand_terms tables (Connection port net) = record { edge = Any; object = port.0 } ∷ []

-- what a process awaits, by what it waits for
abbrev pub terms_of : Tables → Waiting → Process → List Term
terms_of tables Nothing process = []
terms_of tables (Statement place) process = statement_terms tables place process
terms_of tables Operands process = operand_terms tables process

-- what the process of a number awaits, if there is one
abbrev pub awaited_by : Tables → Waiting → (process : ℕ) → List Term
awaited_by tables waiting process = option_map_or (terms_of tables waiting) (slice_get tables.processes process) []

-- what a process waits for; nothing past the end
abbrev pub wait_of : List Waiting → (process : ℕ) → Waiting
wait_of waiting process = slice_index_or waiting process Nothing

-- ---- who is woken

-- a change is one that is awaited: of its object, and counted by its edge
abbrev pub is_of : (old : List Bit) → Change → Term → Bool
is_of old change term = (term.object == change.object.0) && counts term.edge old change.value

-- a change wakes a process that waits so
abbrev pub wakes : Tables → (old : List Bit) → Change → Waiting → (process : ℕ) → Bool
wakes tables old change waiting process = list_any (is_of old change) (awaited_by tables waiting process)

-- a change wakes the process of a number
abbrev pub wakes_at : Tables → (old : List Bit) → Change → List Waiting → (process : ℕ) → Bool
wakes_at tables old change waiting process = wakes tables old change (wait_of waiting process) process

-- the processes that a change wakes, by rising number (profile)
abbrev pub woken_by : Tables → (old : List Bit) → Change → List Waiting → List ℕ
woken_by tables old change waiting = filter (wakes_at tables old change waiting) (below (length tables.processes))

-- a process, if a change wakes it
abbrev pub woken_alone : Tables → (old : List Bit) → Change → List Waiting → (process : ℕ) → List ℕ
woken_alone tables old change waiting process = if wakes_at tables old change waiting process then process ∷ [] else []

-- a process waits no more
abbrev pub woken_one : List Waiting → (process : ℕ) → List Waiting
woken_one waiting process = slice_set waiting process Nothing

-- processes wait no more
abbrev pub woken_state : List Waiting → (processes : List ℕ) → List Waiting
woken_state waiting processes = fold woken_one waiting processes

-- the queue after these processes were woken: they are evaluated (clause 11.3)
abbrev pub with_evaluations : Queue → (processes : List ℕ) → Queue
with_evaluations q processes = with_active q (q.active ++ map Evaluation processes)

-- a process is a continuous one
abbrev pub is_continuous : Process → Bool
is_continuous (Procedure object instance repeats body) = false
is_continuous (Assignment object net instance value) = true
is_continuous (Connection port net) = true
