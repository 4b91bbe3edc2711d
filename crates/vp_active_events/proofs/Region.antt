-- The active events that stand in slots: which is eligible, and what is left where one is over.
use Rattle.std.proofs.Common.{◌≡◌, ◌∙◌, ℕ, ◌+◌, ◌-◌, ◌<◌, ◌≤◌, ◌||◌, Bool, true, false, cond, eqb, ltb, not, List, [], ◌∷◌, ◌++◌, Option, None, Some, IfSome, inl, inr, refl, ap, sym, subst, arith, length, length-append, get_or, map, take, drop, set, eq-eqb}
use Rattle.std.specs.Prelude.{◌⊎◌, option_and_then, option_map, slice_get}
use Rattle.std.specs.List.{count_by, filter, list_any, remove}
use Rattle.std.specs.Option.{option_to_list}
use Rattle.std.proofs.lemmas.Bool.{cases_Bool}
use Rattle.std.proofs.lemmas.List.{append-nil, append_assoc, length-map, take_at}
use Rattle.std.proofs.lemmas.List.Concat.{flat_map-append}
use Rattle.std.proofs.lemmas.List.Folds.{list_any-append}
use Rattle.std.proofs.lemmas.List.Sums.{sum_by-cons, sum_by-set, sum_by-take-drop}
use Rattle.std.proofs.lemmas.Option.{same_Some, slice_get-map, slice_get_within, get_or_from_slice_get}
use Rattle.vp_active_events.specs.declared.event.Event.{Event}
use Rattle.vp_active_events.specs.declared.event.Event.TheVariants as events
use Rattle.vp_active_events.specs.declared.slot.Slot.{Slot}
use Rattle.vp_active_events.specs.declared.slot.Slot.TheVariants.{Empty, Evaluation, NetUpdate}
use Rattle.vp_active_events.specs.Events.{AreCounted, drives, eligible_after, eligible_places}
use Rattle.vp_active_events.specs.Slots.{AreMarked, AreMarkedAfter, IsMarked, count_empty, does_first_wait, events_at, events_of, is_empty, is_ready, is_update_of, is_waiting, ready_from, released, without_at}
use Rattle.vp_active_events.specs.laws.Choosing.{first_eligible}
use Rattle.vp_active_events.proofs.Counted.{any_counted, counted_fewer, counted_more, counted_push, counted_same, some_counted}
use Rattle.vp_active_events.proofs.Indexed.{ready_is}
use Rattle.vp_active_events.proofs.Marking.{count_updates, drives_any, evaluation_taken, event_found, events_kept, events_released, events_released_from, events_taken, marked_kept, marked_push, next_waits_after, none_released, update_taken}
use Rattle.vp_active_events.proofs.Places.{ready_place}

abbrev number : Bool → ℕ
number b = cond b 1 0

-- ---- which events are eligible

-- how many events stand before a slot
abbrev rank : List Slot → ℕ → ℕ
rank ss p = length (events_of (take p ss))

place_here : (t : Bool) (f : ℕ → ℕ) (n m : ℕ) (xs ys : List ℕ) → f n ≡ m → xs ≡ map f ys → cond t (m ∷ []) [] ++ xs ≡ map f (cond t (n ∷ []) [] ++ ys)
place_here true f n m xs ys here rest = ap (λ (i : ℕ). i ∷ xs) (sym here) ∙ ap (λ (zs : List ℕ). f n ∷ zs) rest
place_here false f n m xs ys here rest = rest

events_front : (front : List Slot) (s : Slot) → events_of (front ++ s ∷ []) ≡ events_of front ++ events_at s
events_front front s = flat_map-append events_at front (s ∷ []) ∙ ap (λ (es : List Event). events_of front ++ es) (append-nil (events_at s))

rank_here : (front ss : List Slot) → rank (front ++ ss) (length front) ≡ length (events_of front)
rank_here front ss = ap (λ (xs : List Slot). length (events_of xs)) (take_at front ss (length front) refl)

-- what holds of the slots after one
abbrev After : (ℕ → Bool) → List Slot → List Slot → Type 0
After b front ss = AreMarkedAfter b ss → ((n : ℕ) → b n ≡ list_any (drives n) (events_of front)) → eligible_after (events_of front) (events_of ss) ≡ map (rank (front ++ ss)) (ready_from (length front) ss)

after_slot : (b : ℕ → Bool) (front ss : List Slot) (s : Slot) → After (λ n. b n || is_update_of n s) (front ++ s ∷ []) ss → AreMarkedAfter (λ n. b n || is_update_of n s) ss → ((n : ℕ) → b n ≡ list_any (drives n) (events_of front))
    → eligible_after (events_of front ++ events_at s) (events_of ss) ≡ map (rank (front ++ s ∷ ss)) (ready_from (length front + 1) ss)
after_slot b front ss s more h older =
    let es = events_front front s in
    let next : (n : ℕ) → (b n || is_update_of n s) ≡ list_any (drives n) (events_of (front ++ s ∷ [])) = λ n.
    ap (λ t. t || is_update_of n s) (older n) ∙ ap (λ t. list_any (drives n) (events_of front) || t) (sym (drives_any n s)) ∙ sym (list_any-append (drives n) (events_of front) (events_at s)) ∙ ap (list_any (drives n)) (sym es) in
    ap (λ (o : List Event). eligible_after o (events_of ss)) (sym es)
    ∙ more h next
    ∙ ap (λ (n : ℕ). map (rank ((front ++ s ∷ []) ++ ss)) (ready_from n ss)) (length-append front (s ∷ []))
    ∙ ap (λ (xs : List Slot). map (rank xs) (ready_from (length front + 1) ss)) (append_assoc front (s ∷ []) ss)

places_after : (b : ℕ → Bool) (front ss : List Slot) → After b front ss
places_after b front [] h older = refl
places_after b front (Empty ∷ ss) h older =
    ap (λ (o : List Event). eligible_after o (events_of ss)) (sym (append-nil (events_of front)))
    ∙ after_slot b front ss Empty (places_after (λ n. b n || false) (front ++ Empty ∷ []) ss) h.1 older
places_after b front (Evaluation q ∷ ss) h older =
    let s = Evaluation q in
    place_here true (rank (front ++ s ∷ ss)) (length front) (length (events_of front)) _ (ready_from (length front + 1) ss) (rank_here front (s ∷ ss)) (after_slot b front ss s (places_after (λ n. b n || false) (front ++ s ∷ []) ss) h.1 older)
places_after b front (NetUpdate q value waiting ∷ ss) h older =
    let s = NetUpdate q value waiting in
    let rest = eligible_after (events_of front ++ events.NetUpdate q value ∷ []) (events_of ss) in
    ap (λ t. cond (not t) (length (events_of front) ∷ []) [] ++ rest) (sym (h.0 ∙ older q))
    ∙ place_here (not waiting) (rank (front ++ s ∷ ss)) (length front) (length (events_of front)) rest (ready_from (length front + 1) ss) (rank_here front (s ∷ ss)) (after_slot b front ss s (places_after (λ n. b n || eqb q n) (front ++ s ∷ []) ss) h.1 older)

-- the eligible events are those of the slots that are ready
pub eligible_are : (ss : List Slot) → AreMarkedAfter (λ n. false) ss → eligible_places (events_of ss) ≡ map (rank ss) (ready_from 0 ss)
eligible_are ss h = places_after (λ n. false) [] ss h (λ n. refl)

pub count_eligible : (ss : List Slot) → AreMarkedAfter (λ n. false) ss → length (eligible_places (events_of ss)) ≡ length (ready_from 0 ss)
count_eligible ss h = ap length (eligible_are ss h) ∙ length-map (ready_from 0 ss) (rank ss)

-- the k-th of them
pub sought : (ss : List Slot) (k : ℕ) (o : Option ℕ) → AreMarkedAfter (λ n. false) ss → o ≡ slice_get (ready_from 0 ss) k → slice_get (eligible_places (events_of ss)) k ≡ option_map (rank ss) o
sought ss k o h is =
    ap (λ (ps : List ℕ). slice_get ps k) (eligible_are ss h) ∙ slice_get-map (rank ss) (ready_from 0 ss) k ∙ ap (option_map (rank ss)) (sym is)

-- ---- an event is read

-- a slot that is not empty has an event
with_event : {Q : Type 0} (s : Slot) → is_empty s ≡ false → ((e : Event) → events_at s ≡ e ∷ [] → Q) → Q
with_event Empty some f = absurd cc
with_event (Evaluation q) some f = f (events.Evaluation q) refl
with_event (NetUpdate q value waiting) some f = f (events.NetUpdate q value) refl

is_event : (r : Option Event) (e : Event) → option_to_list r ≡ e ∷ [] → r ≡ Some e
is_event None e h = absurd cc
is_event (Some d) e h = cc

ready_slot : (ss : List Slot) (k p : ℕ) (s : Slot) → Some p ≡ slice_get (ready_from 0 ss) k → slice_get ss p ≡ Some s → is_ready s ≡ true
ready_slot ss k p s found is =
    let m = ready_place 0 ss k p (sym found) in
    let at : m.0 ≡ p = let h = m.1 in omega (arith, h) in
    let there : slice_get ss m.0 ≡ Some s = ap (slice_get ss) at ∙ is in
    let ready = m.3 in
    (rw there at ready)

pub ready_within : (ss : List Slot) (k p : ℕ) → Some p ≡ slice_get (ready_from 0 ss) k → p < length ss
ready_within ss k p found = let m = ready_place 0 ss k p (sym found) in let at = m.1 in let inside = m.2 in omega (arith, at, inside)

pub ready_there : (ss : List Slot) (k p : ℕ) → Some p ≡ slice_get (ready_from 0 ss) k → IfSome (slice_get ss p) (λ s. is_ready s ≡ true)
ready_there ss k p found =
    let m = ready_place 0 ss k p (sym found) in
    let at : m.0 ≡ p = let h = m.1 in omega (arith, h) in
    subst (λ (i : ℕ). IfSome (slice_get ss i) (λ s. is_ready s ≡ true)) at m.3

pub peeked_at : (ss : List Slot) (k p : ℕ) (s : Slot) (r : Option Event) → AreMarkedAfter (λ n. false) ss → Some p ≡ slice_get (ready_from 0 ss) k → slice_get ss p ≡ Some s → option_to_list r ≡ events_at s → r ≡ option_and_then (slice_get (events_of ss)) (slice_get (eligible_places (events_of ss)) k)
peeked_at ss k p s r h found is read = with_event s (ready_is s (ready_slot ss k p s found is)).0 (λ e one.
    is_event r e (read ∙ one)
    ∙ sym (event_found ss p s e is one)
    ∙ sym (ap (option_and_then (slice_get (events_of ss))) (sought ss k (Some p) h found)))

pub peeked_none : (ss : List Slot) (k : ℕ) → AreMarkedAfter (λ n. false) ss → None ≡ slice_get (ready_from 0 ss) k → None ≡ option_and_then (slice_get (events_of ss)) (slice_get (eligible_places (events_of ss)) k)
peeked_none ss k h found = sym (ap (option_and_then (slice_get (events_of ss))) (sought ss k None h found))

-- no slot is empty: the first has the oldest event
first_filled : (s : Slot) (ss : List Slot) → count_empty (s ∷ ss) ≡ 0 → is_empty s ≡ false
first_filled s ss full = elim (cases_Bool (is_empty s)) [
  | inl same ↦ (let all = sum_by-cons (λ (x : Slot). number (is_empty x)) s ss in let one = ap number same in absurd (omega (arith, all, one, full)))
  | inr other ↦ other
]

pub front_event : {B : Type 0} (now : B → Slot) (ss : List Slot) (o : Option B) → count_empty ss ≡ 0 → option_map now o ≡ slice_get ss 0 → IfSome o (λ b. events_at (now b) ≡ take 1 (events_of ss))
front_event now ss None full is = tt
front_event now [] (Some b) full is = absurd cc
front_event now (x ∷ ss) (Some b) full is = with_event x (first_filled x ss full) (λ e one.
    ap events_at (same_Some (now b) x is) ∙ one ∙ sym (ap (λ (fs : List Event). take 1 (fs ++ events_of ss)) one))

pub front_some : {B : Type 0} (now : B → Slot) (ss : List Slot) (o : Option B) → count_empty ss ≡ 0 → option_map now o ≡ slice_get ss 0 → IfSome o (λ b. 0 < length (events_of ss))
front_some now ss None full is = tt
front_some now [] (Some b) full is = absurd cc
front_some now (x ∷ ss) (Some b) full is = with_event x (first_filled x ss full) (λ e one. let long = ap length one in omega (arith, long, length-append (events_at x) (events_of ss)))

-- without the oldest event
pub without_first : (es : List Event) (k : ℕ) → k ≡ 0 → drop 1 es ≡ without_at (slice_get (eligible_places es) k) es
without_first [] k first = refl
without_first (e ∷ es) k first =
    sym (ap (λ (n : ℕ). without_at (slice_get (eligible_places (e ∷ es)) n) (e ∷ es)) first ∙ ap (λ (o : Option ℕ). without_at o (e ∷ es)) (first_eligible (e ∷ es) (omega arith)))

-- ---- one more event

pub evaluation_more : (ss : List Slot) (us : List ℕ) (q : ℕ) → AreMarked ss us → AreMarked (ss ++ Evaluation q ∷ []) us
evaluation_more ss us q h =
    let P : List Event → Type 0 = λ es. AreCounted es us in
    record {
      marks = marked_push (λ n. false) ss (Evaluation q) h.marks tt;
      counted = subst P (sym (events_front ss (Evaluation q))) (counted_more (events_of ss) us (events.Evaluation q) h.counted (λ r. refl));
    }

updates_any : (q : ℕ) (ss : List Slot) → list_any (drives q) (events_of ss) ≡ list_any (is_update_of q) ss
updates_any q [] = refl
updates_any q (s ∷ ss) = list_any-append (drives q) (events_at s) (events_of ss) ∙ ap (λ t. t || list_any (drives q) (events_of ss)) (drives_any q s) ∙ ap (λ t. is_update_of q s || t) (updates_any q ss)

pub update_more : (ss : List Slot) (us vs : List ℕ) (q : ℕ) (value : _) (waiting : Bool) → AreMarked ss us → q < length us → waiting ≡ ltb 0 (get_or us q 0) → vs ≡ set us q (get_or us q 0 + 1) → AreMarked (ss ++ NetUpdate q value waiting ∷ []) vs
update_more ss us vs q value waiting h within waits counts =
    let s = NetUpdate q value waiting in
    let e = events.NetUpdate q value in
    let P : List Event → Type 0 = λ es. AreCounted es vs in
    let Q : List ℕ → Type 0 = λ ws. AreCounted (events_of ss ++ e ∷ []) ws in
    record {
      marks = marked_push (λ n. false) ss s h.marks (waits ∙ any_counted (drives q) (events_of ss) (get_or us q 0) (h.counted q) ∙ updates_any q ss);
      counted = subst P (sym (events_front ss s)) (subst Q (sym counts) (counted_push (events_of ss) us q e h.counted within (λ r. refl)));
    }

-- the empty slots go, or stay
pub tidied : (ss ts : List Slot) (us : List ℕ) → AreMarked ss us → (ts ≡ ss) ⊎ (ts ≡ filter (λ (s : Slot). not (is_empty s)) ss) → AreMarked ts us
tidied ss ts us h (inl same) = subst (λ (xs : List Slot). AreMarked xs us) (sym same) h
tidied ss ts us h (inr kept) =
    let P : List Event → Type 0 = λ es. AreCounted es us in
    subst (λ (xs : List Slot). AreMarked xs us) (sym kept) (record { marks = marked_kept (λ n. false) ss h.marks; counted = subst P (sym (events_kept ss)) h.counted })

pub tidied_events : (ss ts : List Slot) → (ts ≡ ss) ⊎ (ts ≡ filter (λ (s : Slot). not (is_empty s)) ss) → events_of ts ≡ events_of ss
tidied_events ss ts (inl same) = ap events_of same
tidied_events ss ts (inr kept) = ap events_of kept ∙ events_kept ss

-- ---- the event at a place is over

count_out : (f : Slot → Bool) (ss : List Slot) (p n : ℕ) (s : Slot) → slice_get ss p ≡ Some s → f s ≡ true → f Empty ≡ false → count_by f ss ≡ n → count_by f (drop p (set ss p Empty)) ≤ n - 1
count_out f ss p n s found passes none all =
    let within = slice_get_within ss p s found in
    let here = ap (λ (x : Slot). number (f x)) (get_or_from_slice_get ss p s s found) ∙ ap number passes in
    let gone = ap number none in
    let fewer = sum_by-set (λ (x : Slot). number (f x)) ss p Empty s within in
    let part = sum_by-take-drop (λ (x : Slot). number (f x)) (set ss p Empty) p in
    omega (arith, here, gone, fewer, part, all)

-- the update of a net that is ready, and so marked
pub update_is : (ss : List Slot) (p q : ℕ) (value : _) (waiting : Bool) → slice_get ss p ≡ Some (NetUpdate q value waiting) → IfSome (slice_get ss p) (λ s. is_ready s ≡ true) → slice_get ss p ≡ Some (NetUpdate q value false)
update_is ss p q value true found ready = let no : false ≡ true = (rw found at ready) in absurd cc
update_is ss p q value false found ready = found

-- what is counted of it
pub update_counted : (ss : List Slot) (us : List ℕ) (p q : ℕ) (value : _) → AreMarked ss us → slice_get ss p ≡ Some (NetUpdate q value false) → 0 < get_or us q 0
update_counted ss us p q value h found =
    let e = events.NetUpdate q value in
    let some = some_counted (drives q) (events_of ss) (rank ss p) e (event_found ss p (NetUpdate q value false) e found refl) (eq-eqb q q refl) in
    let here = h.counted q in
    omega (arith, some, here)

pub none_after : (ss : List Slot) (us : List ℕ) (p q : ℕ) (value : _) → AreMarked ss us → slice_get ss p ≡ Some (NetUpdate q value false) → get_or us q 0 ≡ 1 → released q (drop p (set ss p Empty)) ≡ drop p (set ss p Empty)
none_after ss us p q value h found one =
    let all : count_by (is_update_of q) ss ≡ 1 = sym (count_updates q ss) ∙ sym (h.counted q) ∙ one in
    let none = count_out (is_update_of q) ss p 1 (NetUpdate q value false) found (eq-eqb q q refl) refl all in
    none_released q (drop p (set ss p Empty)) (omega (arith, none))

pub waits_after : (ss : List Slot) (us : List ℕ) (p q : ℕ) (value : _) → AreMarked ss us → slice_get ss p ≡ Some (NetUpdate q value false) → does_first_wait q (drop p (set ss p Empty)) ≡ true
waits_after ss us p q value h found = next_waits_after (λ n. false) ss p q value h.marks found

pub update_over : (ss ts : List Slot) (us vs : List ℕ) (p q : ℕ) (value : _) → AreMarked ss us → slice_get ss p ≡ Some (NetUpdate q value false) → ts ≡ take p (set ss p Empty) ++ released q (drop p (set ss p Empty)) → vs ≡ set us q (get_or us q 0 - 1) → AreMarked ts vs
update_over ss ts us vs p q value h found is counts =
    let s = NetUpdate q value false in
    let e = events.NetUpdate q value in
    let es : events_of ts ≡ remove (events_of ss) (rank ss p) = ap events_of is ∙ events_released_from q p (set ss p Empty) ∙ events_taken ss p s e found refl in
    let P : List Event → Type 0 = λ fs. AreCounted fs vs in
    let Q : List ℕ → Type 0 = λ ws. AreCounted (remove (events_of ss) (rank ss p)) ws in
    record {
      marks = subst (AreMarkedAfter (λ n. false)) (sym is) (update_taken (λ n. false) ss p q value h.marks found);
      counted = subst P (sym es) (subst Q (sym counts) (counted_fewer (events_of ss) us (rank ss p) q e h.counted (event_found ss p s e found refl) (λ r. refl)));
    }

pub update_events : (ss ts : List Slot) (p q : ℕ) (value : _) → slice_get ss p ≡ Some (NetUpdate q value false) → ts ≡ take p (set ss p Empty) ++ released q (drop p (set ss p Empty)) → events_of ts ≡ remove (events_of ss) (rank ss p)
update_events ss ts p q value found is = ap events_of is ∙ events_released_from q p (set ss p Empty) ∙ events_taken ss p (NetUpdate q value false) (events.NetUpdate q value) found refl

pub evaluation_over : (ss : List Slot) (us : List ℕ) (p q : ℕ) → AreMarked ss us → slice_get ss p ≡ Some (Evaluation q) → AreMarked (set ss p Empty) us
evaluation_over ss us p q h found =
    let e = events.Evaluation q in
    let P : List Event → Type 0 = λ fs. AreCounted fs us in
    record {
      marks = evaluation_taken (λ n. false) ss p q h.marks found;
      counted = subst P (sym (events_taken ss p (Evaluation q) e found refl)) (counted_same (events_of ss) us (rank ss p) e h.counted (event_found ss p (Evaluation q) e found refl) (λ r. refl));
    }

pub evaluation_events : (ss : List Slot) (p q : ℕ) → slice_get ss p ≡ Some (Evaluation q) → events_of (set ss p Empty) ≡ remove (events_of ss) (rank ss p)
evaluation_events ss p q found = events_taken ss p (Evaluation q) (events.Evaluation q) found refl

-- ---- the oldest event is over

-- it does not wait
pub oldest_ready : (ss : List Slot) → AreMarkedAfter (λ n. false) ss → IfSome (slice_get ss 0) (λ s. is_waiting s ≡ false)
oldest_ready [] h = tt
oldest_ready (Empty ∷ ss) h = refl
oldest_ready (Evaluation q ∷ ss) h = refl
oldest_ready (NetUpdate q value waiting ∷ ss) h = h.0

front_is : (ss : List Slot) (q : ℕ) (value : _) (waiting : Bool) → AreMarkedAfter (λ n. false) ss → slice_get ss 0 ≡ Some (NetUpdate q value waiting) → slice_get ss 0 ≡ Some (NetUpdate q value false)
front_is [] q value waiting h found = absurd cc
front_is (x ∷ ss) q value waiting h found =
    let is = same_Some x (NetUpdate q value waiting) found in
    let mark : waiting ≡ false = subst (λ (y : Slot). IsMarked (λ n. false) y) is h.0 in
    found ∙ ap (λ t. Some (NetUpdate q value t)) mark

pub front_counted : (ss : List Slot) (us : List ℕ) (q : ℕ) (value : _) (waiting : Bool) → AreMarked ss us → slice_get ss 0 ≡ Some (NetUpdate q value waiting) → 0 < get_or us q 0
front_counted ss us q value waiting h found = update_counted ss us 0 q value h (front_is ss q value waiting h.marks found)

pub front_none : (ss : List Slot) (us : List ℕ) (q : ℕ) (value : _) (waiting : Bool) → AreMarked ss us → slice_get ss 0 ≡ Some (NetUpdate q value waiting) → get_or us q 0 ≡ 1 → released q (drop 1 ss) ≡ drop 1 ss
front_none [] us q value waiting h found one = absurd cc
front_none (x ∷ ss) us q value waiting h found one = ap (drop 1) (none_after (x ∷ ss) us 0 q value h (front_is (x ∷ ss) q value waiting h.marks found) one)

pub front_waits : (ss : List Slot) (us : List ℕ) (q : ℕ) (value : _) (waiting : Bool) → AreMarked ss us → slice_get ss 0 ≡ Some (NetUpdate q value waiting) → does_first_wait q (drop 1 ss) ≡ true
front_waits [] us q value waiting h found = absurd cc
front_waits (x ∷ ss) us q value waiting h found = waits_after (x ∷ ss) us 0 q value h (front_is (x ∷ ss) q value waiting h.marks found)

-- an empty first slot goes
without_empty : (ss : List Slot) (us : List ℕ) → AreMarked (Empty ∷ ss) us → AreMarked ss us
without_empty ss us h = record { marks = h.marks.1; counted = h.counted }

pub front_update_over : (ss ts : List Slot) (us vs : List ℕ) (q : ℕ) (value : _) (waiting : Bool) → AreMarked ss us → slice_get ss 0 ≡ Some (NetUpdate q value waiting) → ts ≡ released q (drop 1 ss) → vs ≡ set us q (get_or us q 0 - 1) → AreMarked ts vs
front_update_over [] ts us vs q value waiting h found is counts = absurd cc
front_update_over (x ∷ ss) ts us vs q value waiting h found is counts =
    without_empty ts vs (update_over (x ∷ ss) (Empty ∷ ts) us vs 0 q value h (front_is (x ∷ ss) q value waiting h.marks found) (ap (λ (xs : List Slot). Empty ∷ xs) is) counts)

pub front_update_events : (ss ts : List Slot) (q : ℕ) (value : _) (waiting : Bool) → slice_get ss 0 ≡ Some (NetUpdate q value waiting) → ts ≡ released q (drop 1 ss) → events_of ts ≡ drop 1 (events_of ss)
front_update_events [] ts q value waiting found is = absurd cc
front_update_events (x ∷ ss) ts q value waiting found is =
    ap events_of is ∙ events_released q ss ∙ sym (ap (λ (y : Slot). drop 1 (events_at y ++ events_of ss)) (same_Some x (NetUpdate q value waiting) found))

pub other_over : (ss : List Slot) (us : List ℕ) (p : ℕ) (s : Slot) → AreMarked ss us → IfSome (slice_get ss p) (λ x. is_ready x ≡ true) → slice_get ss p ≡ Some s → ((q : ℕ) (value : _) (waiting : Bool) → s ≡ NetUpdate q value waiting → ⊥)
    → AreMarked (set ss p Empty) us × (events_of (set ss p Empty) ≡ remove (events_of ss) (length (events_of (take p ss))))
other_over ss us p Empty h ready found other = let no : false ≡ true = (rw found at ready) in absurd cc
other_over ss us p (Evaluation q) h ready found other = (evaluation_over ss us p q h found, evaluation_events ss p q found)
other_over ss us p (NetUpdate q value waiting) h ready found other = absurd (other q value waiting refl)
