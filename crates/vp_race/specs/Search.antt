-- The search for races of a time slot: orders by numbers that a seed begins, and the objects whose values differ after them (profile).
use Rattle.std.specs.Prelude.{◌≡◌, ℕ, ◌+◌, ◌-◌, ◌*◌, ◌/◌, ◌%◌, ◌^◌, ◌==◌, ◌<◌, ◌&&◌, zero, suc, Bool, false, not, if◌then◌else◌, List, [], ◌∷◌, ◌++◌, filter, length, map, min, Option, Some, None, option_map, Result, IfErr, IfOk, OnOk, slice_index_or}
use Rattle.std.specs.List.{list_any}
use Rattle.vp_race.specs.declared.error.RaceError.TheVariants.{NoMemory}
use Rattle.vp_text.specs.Refusals.{MayExplain}
use Rattle.vp_elab.specs.Tree.{below}
use Rattle.vp_elab.specs.declared.object.ObjectId.{ObjectId}
use Rattle.vp_sim.specs.States.{State, eligible, step}
use Rattle.vp_race.specs.declared.error.RaceError.{RaceError}
use Rattle.vp_race.specs.Orders.{after_choices, differs, is_over, reached, sources_of}
use Rattle.vp_race.specs.Segments.{Run, FindingState, check_refusal}

-- the number after one, in the sequence that a seed begins
abbrev pub next_number : ℕ → ℕ
next_number number = (number * 6364136223846793005 + 1442695040888963407) % 2 ^ 64

-- the number so many turns after one
abbrev pub number_after : (turns : ℕ) → ℕ → ℕ
number_after zero number = number
number_after (suc turns) number = number_after turns (next_number number)

-- which of so many events is taken, by the seed and its next number: the seed 0 takes the last of those that a choice of 32 bits can name
abbrev pub choice : (seed : ℕ) → (number : ℕ) → (count : ℕ) → ℕ
choice seed number count = if seed == 0 then min (count - 1) (2 ^ 32 - 1) else (number / 2 ^ 33) % count

-- the choices of a seed from a state on that was reached, whose last number is this, by at most so many steps; none where a step is
-- refused, and where something is left to do after them
abbrev pub tried_from : (limit : ℕ) → (seed : ℕ) → (number : ℕ) → Option State → Option (List ℕ)
tried_from limit seed number None = None
tried_from zero seed number (Some s) = if is_over s then Some [] else None
tried_from (suc limit) seed number (Some s) =
    if is_over s
    then Some []
    else option_map (λ ks. choice seed (next_number number) (length (eligible s)) ∷ ks)
    (tried_from limit seed (next_number number) (reached (step s (choice seed (next_number number) (length (eligible s))))))

-- what is tried after these choices, from them on
abbrev pub tried_after : (choices : List ℕ) → Option (List ℕ) → Option (List ℕ)
tried_after choices rest = option_map (λ ks. choices ++ ks) rest

-- the order of a seed from a state on, if it has one of at most so many steps
abbrev pub tried : (start : State) → (limit : ℕ) → (seed : ℕ) → Option (List ℕ)
tried start limit seed = tried_from limit seed seed (Some start)

-- a number stands among others
abbrev pub is_among : List ℕ → (number : ℕ) → Bool
is_among numbers number = list_any (λ n. n == number) numbers

-- the nets and regs that have different values in two states and are not known yet, rising
abbrev pub differing : (known : List ℕ) → (first second : State) → List ℕ
differing known first second =
    filter (λ o. differs first second o && not (is_among known o)) (below (length first.design.tree.nodes))

-- the objects of some findings
abbrev pub objects_of : List FindingState → List ℕ
objects_of findings = map (λ f. f.object.0) findings

-- the finding of an object, in a segment with an order beside the run's
abbrev pub finding_of : Run → (second : List ℕ) → (object : ℕ) → FindingState
finding_of segment second object = record { segment = segment; object = record { 0 = object }; second = second }

-- what a check of choices at an object answers: the finding where they are a race, and else the refusal
pub record IsChecked (segment : Run) (choices : List ℕ) (object : ℕ) (r : Result FindingState RaceError) : Type 0 where
  pub found : IfOk r (λ f. f ≡ finding_of segment choices object)
  pub accepted : OnOk r (check_refusal segment choices object ≡ None)
  pub refused : IfErr r (MayExplain NoMemory (check_refusal segment choices object))

-- what is found after an order, where the run's order leads to the first state, beside what is known
abbrev pub found_after : Run → (known : List ℕ) → (first : State) → (second : List ℕ) → Option State → List FindingState
found_after segment known first second None = []
found_after segment known first second (Some end) = map (finding_of segment second) (differing known first end)

-- what is found after the order of a seed, if it has one
abbrev pub found_by : Run → (first : State) → (already : List FindingState) → Option (List ℕ) → List FindingState
found_by segment first already None = []
found_by segment first already (Some second) = found_after segment (objects_of already) first second (after_choices segment.start second)

-- what is found by seeds, one after another, beside what is found already: each object once
abbrev pub found_from : Run → (first : State) → (limit : ℕ) → (already : List FindingState) → (seeds : List ℕ) → List FindingState
found_from segment first limit already [] = already
found_from segment first limit already (seed ∷ seeds) =
    found_from segment first limit (already ++ found_by segment first already (tried segment.start limit seed)) seeds

-- what is found in a segment by the seeds below a number, beside the state after the run's order
abbrev pub found_beside : Run → Option State → (limit : ℕ) → (seeds : ℕ) → List FindingState
found_beside segment None limit seeds = []
found_beside segment (Some first) limit seeds = found_from segment first limit [] (below seeds)

-- what is found in a segment by the seeds below a number, by orders of at most so many steps
abbrev pub found : Run → (limit : ℕ) → (seeds : ℕ) → List FindingState
found segment limit seeds = found_beside segment (after_choices segment.start segment.order) limit seeds

-- these are the run's choices in a segment and their sources, and the state to which they lead
pub record IsRunOf (segment : Run) (choices : List ℕ) (sources : List ObjectId) (end : State) : Type 0 where
  pub choices_are : choices ≡ segment.order
  pub sources_are : sources ≡ sources_of segment.start segment.order
  pub leads : after_choices segment.start segment.order ≡ Some end

-- what is found, and among so many objects
pub record Listed : Type 0 where
  pub findings : List FindingState
  pub objects : ℕ

-- the objects of these findings are marked among all
abbrev pub AreMarked : List FindingState → (marks : List Bool) → Type 0
AreMarked findings marks = (object : ℕ) → object < length marks → slice_index_or marks object false ≡ is_among (objects_of findings) object
