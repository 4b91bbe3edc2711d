-- Where a procedure goes on: where the first event of a statement stands, and what comes after a statement (clauses 9.4 to 9.8.1).
use Rattle.std.specs.Prelude.{ℕ, zero, suc, ◌==◌, Bool, true, false, if◌then◌else◌, List, [], ◌∷◌, length, map, slice_index_or, Option, Some, None}
use Rattle.std.specs.List.{find, flat_map}
use Rattle.std.specs.Option.{option_or}
use Rattle.vp_elab.specs.Tree.{below}
use Rattle.vp_source.specs.declared.source.Source.{Source}
use Rattle.vp_expr.specs.Awaits.{choices_at}
use Rattle.vp_expr.specs.declared.tables.Action.{Action}
use Rattle.vp_expr.specs.declared.tables.Action.TheVariants.{Nothing, Then, Delay, Event, Wait, If, While, For, Case, Forever}
use Rattle.vp_statement.specs.declared.flow.Part.{Part}

-- the statement at a place; nothing past the end
abbrev pub action_at : List Action → ℕ → Action
action_at actions place = slice_index_or actions place Nothing

-- ---- where a statement begins

-- a statement is a block without statements
abbrev pub is_nothing : Action → Bool
is_nothing Nothing = true
is_nothing _ = false

-- the part of a statement with which it begins; none where it is an event itself. A block begins with its first statement, a for
-- with its start, and a forever with its body
abbrev pub first_part : List Action → Action → Option ℕ
first_part actions (Then list last) = Some (if is_nothing (action_at actions list) then last else list)
first_part actions (For start turns) = Some start
first_part actions (Forever body) = Some body
first_part actions _ = None

-- the first event of the statement at a place, if it has a first part by that part
abbrev pub event_in : (ℕ → ℕ) → ℕ → Option ℕ → ℕ
event_in go place None = place
event_in go place (Some part) = go part

-- the place of the first event of the statement at a place, which lies nested at most so deep
abbrev pub first_event : List Action → ℕ → ℕ → ℕ
first_event actions zero place = place
first_event actions (suc n) place = event_in (first_event actions n) place (first_part actions (action_at actions place))

-- the place of the first event of the statement at a place
abbrev pub next_event : List Action → (place : ℕ) → ℕ
next_event actions place = first_event actions (length actions) place

-- ---- what comes after a statement

-- a part of the statement at a place, and what comes after the part, where that is not what comes after the whole
abbrev pub part_of : (whole : ℕ) → (place : ℕ) → (next : Option ℕ) → Part
part_of whole place next = record { whole = whole; place = place; next = next }

-- a part that may be missing, with what comes after it
abbrev pub part_if : (whole : ℕ) → (place : Option ℕ) → (next : Option ℕ) → List Part
part_if whole None next = []
part_if whole (Some place) next = part_of whole place next ∷ []

-- the step of a loop, if there is one, else the loop
abbrev pub step_or : (whole : ℕ) → Option ℕ → ℕ
step_or whole None = whole
step_or whole (Some step) = step

-- the parts of the statement at a place. After the statements of a block comes its last one (clause 9.8.1), after the start of a for
-- its turns, after the body of a loop its step or the loop, and after the step the loop (clause 9.6); after any other part comes
-- what comes after the whole (clauses 9.4, 9.5 and 9.7)
abbrev pub parts_of : Source → (place : ℕ) → Action → List Part
parts_of source place (Then list last) = part_of place list (Some last) ∷ part_of place last None ∷ []
parts_of source place (Delay amount body) = part_of place body None ∷ []
parts_of source place (Event body) = part_of place body None ∷ []
parts_of source place (Wait condition body) = part_of place body None ∷ []
parts_of source place (If condition first second) = part_of place first None ∷ part_if place second None
parts_of source place (While condition body step) =
    part_of place body (Some (step_or place step)) ∷ part_if place step (Some place)
parts_of source place (For start turns) = part_of place start (Some turns) ∷ part_of place turns None ∷ []
parts_of source place (Case is_wild selector choices) = map (λ c. part_of place c.body None) (choices_at source choices)
parts_of source place (Forever body) = part_of place body (Some place) ∷ []
parts_of source place _ = []

-- the parts of all statements
abbrev pub all_parts : Source → List Action → List Part
all_parts source actions = flat_map (λ place. parts_of source place (action_at actions place)) (below (length actions))

-- a part stands at a place
abbrev pub stands_at : (place : ℕ) → Part → Bool
stands_at place part = part.place == place

-- of each statement which part it is, if it is one; the statement of a procedure is none
abbrev pub parts_by_place : Source → List Action → List (Option Part)
parts_by_place source actions = map (λ place. find (stands_at place) (all_parts source actions)) (below (length actions))

-- what comes after a part, by what comes after the whole; nothing comes after what is no part
abbrev pub part_and_rest : (ℕ → Option ℕ) → Option Part → Option ℕ
part_and_rest go None = None
part_and_rest go (Some part) = option_or part.next (go part.whole)

-- the place of the statement that comes after the one at a place, if one does, which lies nested at most so deep
abbrev pub next_after : List (Option Part) → ℕ → (place : ℕ) → Option ℕ
next_after parts zero place = None
next_after parts (suc n) place = part_and_rest (next_after parts n) (slice_index_or parts place None)

-- of each statement the place of the one that comes after it, if one does
unfoldable pub flow_of : Source → List Action → List (Option ℕ)
flow_of source actions =
    let parts = parts_by_place source actions in map (next_after parts (length parts)) (below (length actions))

-- the place of the statement that comes after the one at a place, if one does
abbrev pub after_at : Source → List Action → (place : ℕ) → Option ℕ
after_at source actions place = slice_index_or (flow_of source actions) place None
