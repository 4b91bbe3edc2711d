-- The simulation runs until nothing happens next, at the latest where the log has as many entries as one gets.
use Rattle.std.proofs.Common.{◌≡◌, ◌∙◌, ℕ, zero, suc, ◌+◌, ◌-◌, ◌<◌, ◌≤◌, All, Bool, true, false, List, [], ◌∷◌, ◌++◌, length, Option, Some, None, refl, sym, subst, inl, inr, ap, arith}
use Rattle.std.specs.Prelude.{◌⊎◌, if◌then◌else◌, is_none, nat_le, slice_get, drop}
use Rattle.std.specs.Option.{option_map_or}
use Rattle.std.proofs.lemmas.Bool.{leb-false}
use Rattle.std.proofs.lemmas.List.{length-append}
use Rattle.std.proofs.lemmas.List.Elements.{All-drop}
use Rattle.vp_elab.specs.Built.{Elaborated}
use Rattle.vp_race.specs.Recording.{next_job}
use Rattle.vp_race.specs.Search.{found}
use Rattle.vp_race.specs.Segments.{Run, FindingState}
use Rattle.vp_sim.specs.declared.error.SimError.TheVariants as sim
use Rattle.vp_world.specs.declared.event.Event.{Event}
use Rattle.vp_world.specs.declared.event.Event.TheVariants as event
use Rattle.vp_world.specs.declared.error.WorldError.{WorldError}
use Rattle.vp_world.specs.declared.error.WorldError.TheVariants as error
use Rattle.vp_world.specs.History.{byte_limit_for, is_full_of, is_full_of_bytes, is_log_full, limit_for, most_entries, refusal_of, refusal_of_job, refused_by, state_after, with_entry}
use Rattle.vp_world.specs.Worlds.{WorldLog, Opening, State}
use Rattle.vp_world.proofs.Logs.{second_not}
use Rattle.vp_script.specs.Pending.{ArePending, HappensTo, pending, running_of}
use Rattle.vp_script.specs.Scripts.{Happen, Running, Runs, next_event, next_event_by, searched, step_limit, turned, turned_by, with_event_if}

-- an event of the simulation that is accepted finds the log not full
not_full : (opening : Opening) (s : State) (full : Bool) (stepped : Option WorldError) → refusal_of opening full s (next_event_by stepped) ≡ None → full ≡ false
not_full opening s false stepped none = refl
not_full opening s true None none = cc
not_full opening s true (Some error.BadToken) none = cc
not_full opening s true (Some error.SessionsFull) none = cc
not_full opening s true (Some error.NotOpen) none = cc
not_full opening s true (Some error.BadOperator) none = cc
not_full opening s true (Some error.NoSuchUser) none = cc
not_full opening s true (Some error.NoSuchEnvelope) none = cc
not_full opening s true (Some error.LogFull) none = cc
not_full opening s true (Some error.BeyondGoal) none = cc
not_full opening s true (Some error.NoJob) none = cc
not_full opening s true (Some error.NoMemory) none = cc
not_full opening s true (Some (error.Race e)) none = cc
not_full opening s true (Some (error.Sim sim.Finished)) none = cc
not_full opening s true (Some (error.Sim sim.Idle)) none = cc
not_full opening s true (Some (error.Sim sim.SlotNotDone)) none = cc
not_full opening s true (Some (error.Sim sim.NoSuchChoice)) none = cc
not_full opening s true (Some (error.Sim sim.TimeLimit)) none = cc
not_full opening s true (Some (error.Sim sim.NoMemory)) none = cc

-- and so does a job
job_not_full : (full : Bool) (job : Option Run) → refusal_of_job full job ≡ None → full ≡ false
job_not_full false job none = refl
job_not_full true job none = cc

-- the room in the log of a world: of all entries that a log gets
abbrev pub room : WorldLog → ℕ
room w = most_entries - length w.log

-- an event takes of the room, where the log is not full for it
takes : (w : WorldLog) (e : Event) → is_log_full w e ≡ false → room (with_entry w e) < room w
takes w e open_log =
    let by_bytes = is_full_of_bytes (byte_limit_for w.opening.limits e) w.handed_out w.log in
    let by_entries = second_not by_bytes (is_full_of (limit_for w.opening.limits e) w.handed_out w.log) open_log in
    let few = leb-false most_entries (length w.log) (second_not (nat_le (limit_for w.opening.limits e) (length w.log - w.handed_out)) (nat_le most_entries (length w.log)) by_entries) in
    omega (arith, few, length-append w.log)

-- each event of the simulation takes of the room
pub less_room : (w : WorldLog) → refused_by w (next_event w) ≡ None → room (with_entry w (next_event w)) < room w
less_room w none =
    takes w (next_event w) (not_full w.opening (state_after w.opening w.log) (is_log_full w (next_event w)) (refused_by w (event.Step 0)) none)

-- and so does a job
less_by_job : (w : WorldLog) → refused_by w event.TakeJob ≡ None → room (with_entry w event.TakeJob) < room w
less_by_job w none = takes w event.TakeJob (job_not_full (is_log_full w event.TakeJob) _ none)

-- no event gives any
no_more : (w : WorldLog) (e : Event) → room (with_entry w e) ≤ room w
no_more w e = omega (arith, length-append w.log)

no_more_if : (w : WorldLog) (e : Event) (b : Bool) → room (if b then with_entry w e else w) ≤ room w
no_more_if w e true = no_more w e
no_more_if w e false = omega arith

-- an option of which it is known that there is none
none_of : {A : Type 0} (o : Option A) → is_none o ≡ true → o ≡ None
none_of None h = refl
none_of (Some x) h = cc

is_none_of : {A : Type 0} (o : Option A) → o ≡ None → is_none o ≡ true
is_none_of None h = refl
is_none_of (Some x) h = cc

-- which of two things happens next
pub which : (b c : Bool) (x y q : Running) → (if b then Some x else (if c then Some y else None)) ≡ Some q → ((b ≡ true) × (x ≡ q)) ⊎ ((c ≡ true) × (y ≡ q))
which true c x y q h = let e : x ≡ q = cc in inl (refl, e)
which false true x y q h = let e : y ≡ q = cc in inr (refl, e)
which false false x y q h = absurd (cc)

-- what happens next takes of the room, where no race is still to be booked
turn_less : (seeds : ℕ) (w : WorldLog) (q : Running) → turned_by seeds w [] ≡ Some q → room q.world < room w
turn_less seeds w q h =
    elim (which (is_none (refused_by w event.TakeJob)) (is_none (refused_by w (next_event w))) (record { world = with_entry w event.TakeJob; found = searched seeds w; seeds = seeds }) (record { world = with_entry w (next_event w); found = []; seeds = seeds }) q h) [
      | inl (b, e) ↦ subst (λ (r : Running). room r.world < room w) e (less_by_job w (none_of (refused_by w event.TakeJob) b))
      | inr (c, e) ↦ subst (λ (r : Running). room r.world < room w) e (less_room w (none_of (refused_by w (next_event w)) c))
    ]

-- and gives none where one is
turn_no_more : (seeds : ℕ) (w : WorldLog) (found : List FindingState) (q : Running) → turned_by seeds w found ≡ Some q → room q.world ≤ room w
turn_no_more seeds w [] q h = omega (arith, turn_less seeds w q h)
turn_no_more seeds w (f ∷ fs) q h =
    let e : record { world = with_event_if w (event.Book f); found = fs; seeds = seeds } ≡ q = cc in
    subst (λ (r : Running). room r.world ≤ room w) e (no_more_if w (event.Book f) (is_none (refused_by w (event.Book f))))

-- so much that happens gives none
pub room_kept : (n : ℕ) (r q : Running) → Happen n r q → room q.world ≤ room r.world
room_kept zero r q same = subst (λ (p : Running). room p.world ≤ room r.world) (sym same) (omega arith)
room_kept (suc n) r q (p, before, last) =
    let kept = room_kept n r p before in
    let more = turn_no_more p.seeds p.world p.found q last in
    omega (arith, kept, more)

-- what happens one after another, and what happens after that
pub happen_then : (n m : ℕ) (r p q : Running) → Happen n r p → Happen m p q → Happen (m + n) r q
happen_then n zero r p q h same =
    let none : n ≡ 0 + n = omega arith in
    subst (λ (k : ℕ). Happen k r q) none (subst (Happen n r) (sym same) h)
happen_then n (suc m) r p q h (between, before, last) =
    let more : Happen (suc (m + n)) r q = (between, happen_then n m r p between h before, last) in
    let same : suc (m + n) ≡ suc m + n = omega arith in
    subst (λ (k : ℕ). Happen k r q) same more

-- the next event of the simulation happens, where there is no job
pub turn_next : (seeds : ℕ) (w : WorldLog) → is_none (refused_by w event.TakeJob) ≡ false → refused_by w (next_event w) ≡ None
    → turned (record { world = w; found = []; seeds = seeds }) ≡ Some (record { world = with_entry w (next_event w); found = []; seeds = seeds })
turn_next seeds w no_job none = rw (no_job, is_none_of (refused_by w (next_event w)) none) refl

-- a job is taken and searched
pub turn_job : (seeds : ℕ) (w : WorldLog) → refused_by w event.TakeJob ≡ None
    → turned (record { world = w; found = []; seeds = seeds }) ≡ Some (record { world = with_entry w event.TakeJob; found = searched seeds w; seeds = seeds })
turn_job seeds w none = rw (is_none_of (refused_by w event.TakeJob) none) refl

-- nothing happens where neither is accepted
pub turn_none : (seeds : ℕ) (w : WorldLog) → is_none (refused_by w event.TakeJob) ≡ false → is_none (refused_by w (next_event w)) ≡ false
    → turned (record { world = w; found = []; seeds = seeds }) ≡ None
turn_none seeds w no_job no_event = rw (no_job, no_event) refl

-- ---- what is booked

-- a race is booked where the world takes it, and the world stays where it does not
pub booked : (done : Bool) (w v : WorldLog) (e : Event) → (done ≡ true → (refused_by w e ≡ None) × (v ≡ with_entry w e)) → (done ≡ false → (is_none (refused_by w e) ≡ false) × (v ≡ w)) → v ≡ with_event_if w e
booked true w v e taken refused =
    let by = taken refl in
    let is : with_event_if w e ≡ with_entry w e = rw (is_none_of (refused_by w e) by.0) refl in
    by.1 ∙ sym is
booked false w v e taken refused =
    let by = refused refl in
    let is : with_event_if w e ≡ w = rw by.0 refl in
    by.1 ∙ sym is

-- a list whose first item is known
first_of : {X : Type 0} (xs : List X) (x : X) → Some x ≡ slice_get xs 0 → xs ≡ x ∷ drop 1 xs
first_of [] x h = absurd (cc)
first_of (y ∷ ys) x h = let e : y ≡ x = cc in ap (λ z. z ∷ ys) e

-- the first of some races is booked
pub booked_next :
    (seeds : ℕ) (r : Running) (w v : WorldLog) (found : List FindingState) (f : FindingState)
    → HappensTo r (record { world = w; found = found; seeds = seeds })
    → Some f ≡ slice_get found 0 → v ≡ with_event_if w (event.Book f)
    → HappensTo r (record { world = v; found = drop 1 found; seeds = seeds })
booked_next seeds r w v found f (n, happened) there is =
    let before : Happen n r (record { world = w; found = f ∷ drop 1 found; seeds = seeds }) =
    subst (λ (fs : List FindingState). Happen n r (record { world = w; found = fs; seeds = seeds })) (first_of found f there) happened in
    (suc n, (record { world = w; found = f ∷ drop 1 found; seeds = seeds }, before, ap (λ (u : WorldLog). Some (record { world = u; found = drop 1 found; seeds = seeds })) (sym is)))

-- a race that is booked leaves how the world began
pub opening_if : (w : WorldLog) (e : Event) (b : Bool) → (if b then with_entry w e else w).opening ≡ w.opening
opening_if w e true = refl
opening_if w e false = refl

-- the other races are still of the world's design
pub booked_designs :
    (w v : WorldLog) (e : Event) (found : List FindingState) → v ≡ with_event_if w e → All (λ (f : FindingState). f.segment.start.design ≡ w.opening.design) found
    → All (λ (f : FindingState). f.segment.start.design ≡ v.opening.design) (drop 1 found)
booked_designs w v e found is all =
    let same : w.opening ≡ v.opening = sym (ap (λ (u : WorldLog). u.opening) is ∙ opening_if w e (is_none (refused_by w e))) in
    subst (λ (o : Opening). All (λ (f : FindingState). f.segment.start.design ≡ o.design) (drop 1 found)) same
    (All-drop (λ (f : FindingState). f.segment.start.design ≡ w.opening.design) 1 found all)

-- ---- one thing after another

-- what happens, and what happens after that
pub happens_then : (r p q : Running) → HappensTo r p → HappensTo p q → HappensTo r q
happens_then r p q (n, h) (m, k) = (m + n, happen_then n m r p q h k)

-- one thing happens
pub happens_next : (r p q : Running) → HappensTo r p → turned p ≡ Some q → HappensTo r q
happens_next r p q (n, h) next = (suc n, (p, h, next))

-- what is found in a segment that is taken, where it is the next job
pub searched_is : (seeds : ℕ) (w : WorldLog) (run : Run) → Some run ≡ next_job (state_after w.opening w.log).segments → found run step_limit seeds ≡ searched seeds w
searched_is seeds w run is = ap (λ (o : Option Run). option_map_or (λ r. found r step_limit seeds) o []) is

-- a job is taken
pub job_taken :
    (seeds : ℕ) (w v : WorldLog) (fs : List FindingState) → (refused_by w event.TakeJob ≡ None) × (v ≡ with_entry w event.TakeJob) → fs ≡ searched seeds w
    → turned (record { world = w; found = []; seeds = seeds }) ≡ Some (record { world = v; found = fs; seeds = seeds })
job_taken seeds w v fs (none, entered) is =
    turn_job seeds w none ∙ ap (λ (u : WorldLog). Some (record { world = u; found = searched seeds w; seeds = seeds })) (sym entered)
    ∙ ap (λ (gs : List FindingState). Some (record { world = v; found = gs; seeds = seeds })) (sym is)

-- the next event happens
pub next_happened :
    (seeds : ℕ) (w v : WorldLog) → is_none (refused_by w event.TakeJob) ≡ false → refused_by w (next_event w) ≡ None → v ≡ with_entry w (next_event w)
    → turned (record { world = w; found = []; seeds = seeds }) ≡ Some (record { world = v; found = []; seeds = seeds })
next_happened seeds w v no_job none is = turn_next seeds w no_job none ∙ ap (λ (u : WorldLog). Some (record { world = u; found = []; seeds = seeds })) (sym is)

-- a job takes of the room
pub less_by_turn :
    (seeds : ℕ) (w v : WorldLog) (fs : List FindingState) → turned (record { world = w; found = []; seeds = seeds }) ≡ Some (record { world = v; found = fs; seeds = seeds })
    → room v < room w
less_by_turn seeds w v fs next = turn_less seeds w (record { world = v; found = fs; seeds = seeds }) next

-- ---- a run

-- a run that ends when out of memory
pub run_out_of_memory : (r q : Running) → HappensTo r q → Runs true r q
run_out_of_memory r q (n, happened) = (n, happened, inl refl)

-- a run that the world ends
pub run_over :
    (seeds : ℕ) (r : Running) (w : WorldLog) → HappensTo r (record { world = w; found = []; seeds = seeds })
    → is_none (refused_by w event.TakeJob) ≡ false → is_none (refused_by w (next_event w)) ≡ false
    → Runs false r (record { world = w; found = []; seeds = seeds })
run_over seeds r w (n, happened) no_job no_event = (n, happened, inr (turn_none seeds w no_job no_event))

-- lists one after the other
pub join_one : {X : Type 0} (xs : List X) (x : X) (ys : List X) → (xs ++ x ∷ []) ++ ys ≡ xs ++ x ∷ ys
join_one [] x ys = refl
join_one (y ∷ xs) x ys = ap (λ zs. y ∷ zs) (join_one xs x ys)

-- ---- races that are still to be booked

-- those of a segment are of its design
pub designs_of : (run : Run) (design : Elaborated) (fs : List FindingState) → run.start.design ≡ design → All (λ (f : FindingState). f.segment ≡ run) fs → All (λ (f : FindingState). f.segment.start.design ≡ design) fs
designs_of run design fs same all k f within = ap (λ (r : Run). r.start.design) (all k f within) ∙ same

-- an entry leaves the design
pub pending_entered : (w v : WorldLog) (e : Event) (segment : Option Run) (fs : List FindingState) → v ≡ with_entry w e → ArePending w.opening.design segment fs → ArePending v.opening.design segment fs
pending_entered w v e segment fs entered is = subst (λ (u : WorldLog). ArePending u.opening.design segment fs) (sym entered) is

-- where no segment is to be searched and nothing was found, nothing is to be booked
pub none_pending : (seeds : ℕ) (segment : Option Run) (fs : List FindingState) → segment ≡ None → fs ≡ [] → pending seeds segment fs ≡ []
none_pending seeds segment fs none nothing = ap (λ (o : Option Run). pending seeds o fs) none ∙ nothing

pub nothing_pending : (design : Elaborated) (segment : Option Run) (fs : List FindingState) → segment ≡ None → fs ≡ [] → ArePending design segment fs
nothing_pending design segment fs none nothing =
    subst (λ (o : Option Run). ArePending design o fs) (sym none)
    (subst (λ (gs : List FindingState). All (λ (f : FindingState). f.segment.start.design ≡ design) gs) (sym nothing) (λ k f within. absurd (omega (arith, within))))

-- one thing after another happens, after which all races are booked
pub all_booked :
    (seeds : ℕ) (r q : Running) (w : WorldLog) (segment : Option Run) (fs : List FindingState)
    → HappensTo r q → HappensTo q (running_of seeds w segment fs) → segment ≡ None → fs ≡ []
    → HappensTo r (record { world = w; found = []; seeds = seeds })
all_booked seeds r q w segment fs first last none nothing =
    subst (λ (gs : List FindingState). HappensTo r (record { world = w; found = gs; seeds = seeds })) (none_pending seeds segment fs none nothing)
    (happens_then r q (running_of seeds w segment fs) first last)
