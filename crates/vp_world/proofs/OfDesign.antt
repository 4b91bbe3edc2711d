-- All states after a log are of the design with which the world opened, and so are the segments of its run.
use Rattle.std.proofs.Common.{◌≡◌, ◌∙◌, ◌==◌, ℕ, Bool, true, false, if◌then◌else◌, List, [], ◌∷◌, ◌++◌, All, Option, Some, None, IfSome, fold, refl, subst}
use Rattle.std.specs.Prelude.{slice_get}
use Rattle.std.specs.Option.{option_map_or}
use Rattle.std.proofs.lemmas.List.Elements.{All-nil, All-push}
use Rattle.vp_bits.specs.declared.bit.Bit.{Bit}
use Rattle.vp_elab.specs.Built.{Elaborated}
use Rattle.vp_policy.specs.Users.{login_of, user_of}
use Rattle.vp_race.specs.Orders.{is_over}
use Rattle.vp_race.proofs.Within.{all_kept}
use Rattle.vp_race.specs.Recording.{Segments, closed_run, kept_of, next_job, with_anew, with_job, with_step}
use Rattle.vp_race.specs.Segments.{Run}
use Rattle.vp_sim.specs.States as sim
use Rattle.vp_sim.specs.laws.Designs.{Leaves, advance_leaves, put_leaves, step_leaves}
use Rattle.vp_answer.specs.OpenSessions.{OpenSessionState, index_of}
use Rattle.vp_answer.specs.declared.query.Query.{Query}
use Rattle.vp_answer.specs.declared.request.GrantChange.{GrantChange}
use Rattle.vp_world.specs.declared.event.Event.{Event}
use Rattle.vp_world.specs.declared.event.Event.TheVariants as event
use Rattle.vp_world.specs.Entries.{Entry}
use Rattle.vp_world.specs.History.{after, asked_at, closed_at, ended_for, granted_to, opened_by, outcome_of_put, response_of, segments_of_put, state_after, state_asked, stepped}
use Rattle.vp_world.specs.Worlds.{Opening, State, start}
use Rattle.vp_world.proofs.Designs.{found}

-- a simulation and the segments of its run are of a design
record Own (d : Elaborated) (run : sim.State) (segments : Segments) : Type 0 where
  run_of : run.design ≡ d
  opened : segments.opened.start.design ≡ d
  kept : All (λ (r : Run). r.start.design ≡ d) segments.kept

-- and so are a state's
abbrev IsOf : Elaborated → State → Type 0
IsOf d s = Own d s.run s.segments

-- ---- what the simulation does

anew : (d : Elaborated) (run next : sim.State) (segments : Segments) → Own d run segments → next.design ≡ d → Own d next (with_anew segments next)
anew d run next segments h same = record { run_of = same; opened = same; kept = h.kept }

one_of : (d : Elaborated) (next : sim.State) (b : Bool) (x y : Segments) → Own d next x → Own d next y → Own d next (if b then x else y)
one_of d next true x y h k = h
one_of d next false x y h k = k

step_more : (d : Elaborated) (run next : sim.State) (segments : Segments) (k : ℕ) → Own d run segments → next.design ≡ d → Own d next (with_step segments k next)
step_more d run next segments k h same =
    let P : Run → Type 0 = λ r. r.start.design ≡ d in
    let runs = segments.kept ++ closed_run segments k ∷ [] in
    one_of d next (is_over next) _ _
    (record { run_of = same; opened = same; kept = all_kept P runs (All-push P segments.kept (closed_run segments k) h.kept h.opened) })
    (record { run_of = same; opened = h.opened; kept = h.kept })

goes_on : (d : Elaborated) (s : State) (segments : sim.State → Segments) (o : sim.Outcome) → Leaves s.run.design o → ((next : sim.State) → next.design ≡ d → Own d next (segments next)) → IsOf d s → IsOf d (stepped s segments o)
goes_on d s segments (sim.Goes next change) leaves follows h = follows next (leaves ∙ h.run_of)
goes_on d s segments (sim.Refuses e) leaves follows h = h

put_leaves_it : (run : sim.State) (p : Option (ℕ × List Bit)) → Leaves run.design (outcome_of_put run p)
put_leaves_it run None = refl
put_leaves_it run (Some p) = put_leaves run p.0 p.1

put_more : (d : Elaborated) (run next : sim.State) (segments : Segments) (p : Option (ℕ × List Bit)) → Own d run segments → next.design ≡ d → Own d next (segments_of_put segments p next)
put_more d run next segments None h same = record { run_of = same; opened = h.opened; kept = h.kept }
put_more d run next segments (Some p) h same = anew d run next segments h same

-- ---- after an event

asked_of : (d : Elaborated) (s : State) (index : ℕ) (o : Option OpenSessionState) (r : Query) → IsOf d s → IsOf d (state_asked s index o r)
asked_of d s index None r h = h
asked_of d s index (Some session) r h =
    let given = response_of s session.session_state r in
    goes_on d _ (segments_of_put s.segments given.put) (outcome_of_put s.run given.put) (put_leaves_it s.run given.put)
    (λ next same. put_more d s.run next s.segments given.put h same) h

asked_at_of : (d : Elaborated) (s : State) (o : Option ℕ) (r : Query) → IsOf d s → IsOf d (asked_at s o r)
asked_at_of d s None r h = h
asked_at_of d s (Some index) r h = asked_of d s index (slice_get s.sessions index) r h

opened_of : (d : Elaborated) (s : State) (o : Option ℕ) → IsOf d s → IsOf d (option_map_or (opened_by s) o s)
opened_of d s None h = h
opened_of d s (Some u) h = h

closed_of : (d : Elaborated) (s : State) (o : Option ℕ) → IsOf d s → IsOf d (closed_at s o)
closed_of d s None h = h
closed_of d s (Some index) h = h

granted_of : (d : Elaborated) (s : State) (change : GrantChange) (o : Option ℕ) → IsOf d s → IsOf d (option_map_or (granted_to s change) o s)
granted_of d s change None h = h
granted_of d s change (Some u) h = h

ended_of : (d : Elaborated) (s : State) (o : Option ℕ) → IsOf d s → IsOf d (option_map_or (ended_for s) o s)
ended_of d s None h = h
ended_of d s (Some u) h = h

job_of : (d : Elaborated) (s : State) (o : Option Run) → IsOf d s → Own d s.run (option_map_or (with_job s.segments) o s.segments)
job_of d s None h = h
job_of d s (Some run) h = record { run_of = h.run_of; opened = h.opened; kept = h.kept }

after_of : (opening : Opening) (d : Elaborated) (s : State) (e : Event) → IsOf d s → IsOf d (after opening s e)
after_of opening d s (event.Open name token) h = opened_of d s (login_of s.policy.members name token) h
after_of opening d s (event.Ask id query) h = asked_at_of d s (index_of s.sessions id) query h
after_of opening d s (event.Close id) h = closed_of d s (index_of s.sessions id) h
after_of opening d s (event.Grant change) h = granted_of d s change (user_of s.policy.members change.user) h
after_of opening d s (event.End order) h = ended_of d s (user_of s.policy.members order.user) h
after_of opening d s (event.Halt order) h = h
after_of opening d s (event.Step k) h =
    goes_on d s (with_step s.segments k) (sim.step s.run k) (step_leaves s.run k) (λ next same. step_more d s.run next s.segments k h same) h
after_of opening d s event.Advance h =
    goes_on d s (with_anew s.segments) (sim.advance s.run) (advance_leaves s.run) (λ next same. anew d s.run next s.segments h same) h
after_of opening d s event.TakeJob h = job_of d s (next_job s.segments) h
after_of opening d s (event.Book finding) h = h

-- ---- after a log

from_state : (opening : Opening) (d : Elaborated) (s : State) (log : List Entry) → IsOf d s → IsOf d (fold (λ s e. after opening s e.event) s log)
from_state opening d s [] h = h
from_state opening d s (e ∷ log) h = from_state opening d (after opening s e.event) log (after_of opening d s e.event h)

at_start : (opening : Opening) → IsOf opening.design (start opening)
at_start opening = record { run_of = refl; opened = refl; kept = All-nil (λ (r : Run). r.start.design ≡ opening.design) }

-- the kept segment of a number is of the design
pub kept_of_design : (opening : Opening) (log : List Entry) (number : ℕ) (run : Run) → kept_of (state_after opening log).segments number ≡ Some run → run.start.design ≡ opening.design
kept_of_design opening log number run there =
    let own = from_state opening opening.design (start opening) log (at_start opening) in
    let all = found (λ (r : Run). r.start.design ≡ opening.design) (λ (r : Run). r.number == number) (state_after opening log).segments.kept own.kept in
    subst (λ (o : Option Run). IfSome o (λ (r : Run). r.start.design ≡ opening.design)) there all
