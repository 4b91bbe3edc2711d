-- What is found, object by object and seed by seed.
use Rattle.std.proofs.Common.{◌≡◌, ◌∙◌, ◌+◌, ◌≤◌, ◌<◌, ◌==◌, ◌&&◌, ◌||◌, ◌++◌, ℕ, zero, suc, Bool, true, false, cond, not, if◌then◌else◌, List, [], ◌∷◌, Option, Some, None, filter, length, map, ◌⊎◌, inl, inr, ◌≢◌, refl, sym, ap, arith}
use Rattle.std.specs.List.{All}
use Rattle.std.specs.Prelude.{option_map}
use Rattle.std.proofs.lemmas.List.{append_assoc, map-append}
use Rattle.std.proofs.lemmas.Bool.Decides.{eqb_tells}
use Rattle.std.proofs.lemmas.List.Elements.{All-append, All-cons, All-nil}
use Rattle.std.proofs.lemmas.List.Folds.{list_any-append}
use Rattle.vp_bits.specs.Vector.{same_bits}
use Rattle.vp_bits.specs.laws.Words.{same_bits-Decides}
use Rattle.vp_elab.proofs.Marks.{filter_below_more}
use Rattle.vp_elab.specs.Tree.{below}
use Rattle.vp_sim.specs.States.{State, eligible, step}
use Rattle.vp_race.specs.Orders.{HasEnd, after_choices, differs, followed, has_choice, is_over, is_signal, reached, value_of}
use Rattle.vp_race.specs.Segments.{Run, FindingState}
use Rattle.vp_race.specs.Search.{choice, differing, finding_of, found, found_after, found_beside, found_by, found_from, is_among, next_number, objects_of, tried, tried_from}
use Rattle.vp_race.proofs.Alone.{only}

-- ---- objects below a number

or_of : (a b : Bool) → a ≡ false → b ≡ false → (a || b) ≡ false
or_of a b h k = cc

told_other : (m n : ℕ) → m < n → ((m == n) ≡ true) × (m ≡ n) ⊎ ((m == n) ≡ false) × (m ≢ n) → (m == n) ≡ false
told_other m n h (inl same) = absurd (omega (arith, h, same.1))
told_other m n h (inr other) = other.0

not_equal : (m n : ℕ) → m < n → (m == n) ≡ false
not_equal m n h = told_other m n h (eqb_tells m n)

one_other : (b : Bool) (m n : ℕ) → m < n → is_among (cond b (m ∷ []) []) n ≡ false
one_other true m n h = or_of (m == n) false (not_equal m n h) refl
one_other false m n h = refl

-- no number below another is that
none_below : (p : ℕ → Bool) (m n : ℕ) → m ≤ n → is_among (filter p (below m)) n ≡ false
none_below p zero n h = refl
none_below p (suc m) n h =
    ap (λ xs. is_among xs n) (filter_below_more p m)
    ∙ list_any-append (λ x. x == n) (filter p (below m)) (cond (p m) (m ∷ []) [])
    ∙ or_of (is_among (filter p (below m)) n) (is_among (cond (p m) (m ∷ []) []) n) (none_below p m n (omega (arith, h))) (one_other (p m) m n (omega (arith, h)))

-- the objects of the findings of some objects
objects_back : (segment : Run) (second : List ℕ) (ns : List ℕ) → objects_of (map (finding_of segment second) ns) ≡ ns
objects_back segment second [] = refl
objects_back segment second (n ∷ ns) = ap (λ xs. n ∷ xs) (objects_back segment second ns)

or_right : (a b : Bool) → b ≡ false → (a || b) ≡ a
or_right true b h = refl
or_right false b h = h

-- an object above those looked at is known where it was known before
among_before : (segment : Run) (second : List ℕ) (p : ℕ → Bool) (already : List FindingState) (n : ℕ) → is_among (objects_of (already ++ map (finding_of segment second) (filter p (below n)))) n ≡ is_among (objects_of already) n
among_before segment second p already n =
    let ns = filter p (below n) in
    ap (λ xs. is_among xs n) (map-append (λ (f : FindingState). f.object.0) already (map (finding_of segment second) ns) ∙ ap (λ xs. objects_of already ++ xs) (objects_back segment second ns))
    ∙ list_any-append (λ x. x == n) (objects_of already) ns
    ∙ or_right (is_among (objects_of already) n) (is_among ns n) (none_below p n n (omega arith))

map_one : (segment : Run) (second : List ℕ) (b : Bool) (n : ℕ) → map (finding_of segment second) (cond b (n ∷ []) []) ≡ (if b then finding_of segment second n ∷ [] else [])
map_one segment second true n = refl
map_one segment second false n = refl

-- the next number
pub one_more : (n : ℕ) → suc n ≡ n + 1
one_more n = omega arith

-- one object more
pub found_more :
    (segment : Run) (second : List ℕ) (first end : State) (already : List FindingState) (n : ℕ) (now : List FindingState)
    → now ≡ already ++ map (finding_of segment second) (filter (λ o. differs first end o && not (is_among (objects_of already) o)) (below n))
    → now ++ (if differs first end n && not (is_among (objects_of now) n) then finding_of segment second n ∷ [] else [])
    ≡ already ++ map (finding_of segment second) (filter (λ o. differs first end o && not (is_among (objects_of already) o)) (below (n + 1)))
found_more segment second first end already n now h =
    let p : ℕ → Bool = λ o. differs first end o && not (is_among (objects_of already) o) in
    let at = finding_of segment second in
    let known : is_among (objects_of now) n ≡ is_among (objects_of already) n = ap (λ xs. is_among (objects_of xs) n) h ∙ among_before segment second p already n in
    ap (λ b. now ++ (if differs first end n && not b then at n ∷ [] else [])) known
    ∙ ap (λ xs. xs ++ (if p n then at n ∷ [] else [])) h
    ∙ append_assoc already (map at (filter p (below n))) (if p n then at n ∷ [] else [])
    ∙ ap (λ xs. already ++ (map at (filter p (below n)) ++ xs)) (sym (map_one segment second (p n) n))
    ∙ ap (λ xs. already ++ xs) (sym (map-append at (filter p (below n)) (cond (p n) (n ∷ []) [])))
    ∙ ap (λ xs. already ++ map at xs) (sym (filter_below_more p n))
    ∙ ap (λ m. already ++ map at (filter p (below m))) (one_more n)

-- ---- seeds

-- one seed more
pub seed_more : (segment : Run) (first : State) (limit : ℕ) (already : List FindingState) (seeds : List ℕ) (seed : ℕ) → found_from segment first limit already (seeds ++ seed ∷ []) ≡ found_from segment first limit already seeds ++ found_by segment first (found_from segment first limit already seeds) (tried segment.start limit seed)
seed_more segment first limit already [] seed = refl
seed_more segment first limit already (s ∷ seeds) seed = seed_more segment first limit (already ++ found_by segment first already (tried segment.start limit s)) seeds seed

-- what is found is by the state after the run's order
pub found_by_end : (segment : Run) (first : State) (limit seeds : ℕ) → after_choices segment.start segment.order ≡ Some first → found segment limit seeds ≡ found_from segment first limit [] (below seeds)
found_by_end segment first limit seeds h = ap (λ o. found_beside segment o limit seeds) h

-- what is found after an order is by the state after it
pub found_by_order : (segment : Run) (first end : State) (already : List FindingState) (second : List ℕ) (o : Option (List ℕ)) → o ≡ Some second → after_choices segment.start second ≡ Some end → found_by segment first already o ≡ found_after segment (objects_of already) first second (Some end)
found_by_order segment first end already second o h there =
    ap (λ q. found_by segment first already q) h ∙ ap (λ q. found_after segment (objects_of already) first second q) there

-- ---- all findings are of the segment

all_map : (segment : Run) (second ns : List ℕ) → All (λ f. f.segment ≡ segment) (map (finding_of segment second) ns)
all_map segment second [] = All-nil (λ f. f.segment ≡ segment)
all_map segment second (n ∷ ns) = All-cons (λ f. f.segment ≡ segment) (finding_of segment second n) (map (finding_of segment second) ns) refl (all_map segment second ns)

all_after : (segment : Run) (known : List ℕ) (first : State) (second : List ℕ) (o : Option State) → All (λ f. f.segment ≡ segment) (found_after segment known first second o)
all_after segment known first second None = All-nil (λ f. f.segment ≡ segment)
all_after segment known first second (Some end) = all_map segment second (differing known first end)

all_by : (segment : Run) (first : State) (already : List FindingState) (o : Option (List ℕ)) → All (λ f. f.segment ≡ segment) (found_by segment first already o)
all_by segment first already None = All-nil (λ f. f.segment ≡ segment)
all_by segment first already (Some second) = all_after segment (objects_of already) first second (after_choices segment.start second)

-- what one seed more finds is of the segment
pub all_more : (segment : Run) (first : State) (already : List FindingState) (o : Option (List ℕ)) → All (λ f. f.segment ≡ segment) already → All (λ f. f.segment ≡ segment) (already ++ found_by segment first already o)
all_more segment first already o h = All-append (λ f. f.segment ≡ segment) already (found_by segment first already o) h (all_by segment first already o)

-- ---- a time slot without a choice

none_of : (a b : Bool) → b ≡ true → (a && not b) ≡ false
none_of true b h = ap not h
none_of false b h = refl

-- nothing differs from itself
pub same_differs : (s : State) (object : ℕ) → differs s s object ≡ false
same_differs s object = none_of (is_signal s object) (same_bits (value_of s object) (value_of s object)) ((same_bits-Decides (value_of s object) (value_of s object)).1 refl)

and_false : (a b : Bool) → a ≡ false → (a && b) ≡ false
and_false a b h = cc

none_differ : (known : List ℕ) (s : State) (ns : List ℕ) → filter (λ o. differs s s o && not (is_among known o)) ns ≡ []
none_differ known s [] = refl
none_differ known s (n ∷ ns) =
    ap (λ b. cond b (n ∷ filter (λ o. differs s s o && not (is_among known o)) ns) (filter (λ o. differs s s o && not (is_among known o)) ns))
    (and_false (differs s s n) (not (is_among known n)) (same_differs s n))
    ∙ none_differ known s ns

-- the state after choices, in which nothing is left to do
record EndOf (o : Option State) (choices : List ℕ) : Type 0 where
  end : State
  leads : followed o choices ≡ Some end
  over : is_over end ≡ true

record Mapped (c : ℕ) (o : Option (List ℕ)) (choices : List ℕ) : Type 0 where
  rest : List ℕ
  is : o ≡ Some rest
  whole : choices ≡ c ∷ rest

mapped : (c : ℕ) (o : Option (List ℕ)) (choices : List ℕ) → option_map (λ ks. c ∷ ks) o ≡ Some choices → Mapped c o choices
mapped c None choices h = cc
mapped c (Some ks) choices h = record { rest = ks; is = refl; whole = cc }

ended : (s : State) (choices : List ℕ) → is_over s ≡ true → Some [] ≡ Some choices → EndOf (Some s) choices
ended s choices over h = let none : choices ≡ [] = cc in record { end = s; leads = ap (followed (Some s)) none; over = over }

at_limit : (b : Bool) (s : State) (choices : List ℕ) → is_over s ≡ b → (if b then Some [] else None) ≡ Some choices → EndOf (Some s) choices
at_limit true s choices over h = ended s choices over h
at_limit false s choices over h = cc

goes_on : (s : State) (k : ℕ) (rest choices : List ℕ) → choices ≡ k ∷ rest → EndOf (reached (step s k)) rest → EndOf (Some s) choices
goes_on s k rest choices whole e = record { end = e.end; leads = ap (followed (Some s)) whole ∙ e.leads; over = e.over }

tried_step : (b : Bool) (limit seed number : ℕ) (s : State) (choices : List ℕ)
    → ((k : ℕ) (ks : List ℕ) → tried_from limit seed (next_number number) (reached (step s k)) ≡ Some ks → EndOf (reached (step s k)) ks)
    → is_over s ≡ b
    → (if b then Some [] else option_map (λ ks. choice seed (next_number number) (length (eligible s)) ∷ ks) (tried_from limit seed (next_number number) (reached (step s (choice seed (next_number number) (length (eligible s)))))))
    ≡ Some choices → EndOf (Some s) choices
tried_step true limit seed number s choices rest over h = ended s choices over h
tried_step false limit seed number s choices rest over h =
    let k = choice seed (next_number number) (length (eligible s)) in
    let m = mapped k (tried_from limit seed (next_number number) (reached (step s k))) choices h in
    goes_on s k m.rest choices m.whole (rest k m.rest m.is)

-- what is tried is an order
tried_order : (limit seed number : ℕ) (o : Option State) (choices : List ℕ) → tried_from limit seed number o ≡ Some choices → EndOf o choices
tried_order zero seed number None choices h = cc
tried_order (suc limit) seed number None choices h = cc
tried_order zero seed number (Some s) choices h = at_limit (is_over s) s choices refl h
tried_order (suc limit) seed number (Some s) choices h =
    tried_step (is_over s) limit seed number s choices (λ k ks rest. tried_order limit seed (next_number number) (reached (step s k)) ks rest) refl h

found_alone : (segment : Run) (whole : HasEnd segment.start segment.order) (limit : ℕ) (o : Option (List ℕ)) (seed : ℕ) → has_choice segment.start segment.order ≡ false → tried segment.start limit seed ≡ o → found_by segment whole.end [] o ≡ []
found_alone segment whole limit None seed none h = refl
found_alone segment whole limit (Some second) seed none h =
    let e = tried_order limit seed seed (Some segment.start) second h in
    let same = only segment.start segment.order second e.end whole none (record { leads = e.leads; over = e.over }) in
    let there : after_choices segment.start second ≡ Some whole.end = ap (after_choices segment.start) same ∙ whole.is_order.leads in
    ap (λ o. found_after segment [] whole.end second o) there
    ∙ ap (map (finding_of segment second)) (none_differ [] whole.end (below (length whole.end.design.tree.nodes)))

none_from : (segment : Run) (whole : HasEnd segment.start segment.order) (limit : ℕ) (seeds : List ℕ) → has_choice segment.start segment.order ≡ false → found_from segment whole.end limit [] seeds ≡ []
none_from segment whole limit [] none = refl
none_from segment whole limit (seed ∷ seeds) none =
    ap (λ xs. found_from segment whole.end limit xs seeds) (found_alone segment whole limit (tried segment.start limit seed) seed none refl)
    ∙ none_from segment whole limit seeds none

-- where there was never a choice nothing is found
pub found_none : (segment : Run) (limit seeds : ℕ) → HasEnd segment.start segment.order → has_choice segment.start segment.order ≡ false → [] ≡ found segment limit seeds
found_none segment limit seeds whole none =
    sym (found_by_end segment whole.end limit seeds whole.is_order.leads ∙ none_from segment whole limit (below seeds) none)
