-- Active updates of nonblocking assignments, which stand before all other active events.
use Rattle.std.proofs.Common.{◌≡◌, ◌∙◌, ℕ, suc, ◌+◌, ◌-◌, ◌<◌, Bool, true, false, cond, not, List, [], ◌∷◌, ◌++◌, Option, None, Some, refl, ap, sym, arith, length, length-append, map, min}
use Rattle.std.specs.Prelude.{option_and_then, option_map, slice_get}
use Rattle.std.specs.List.{All, list_any, remove}
use Rattle.std.proofs.lemmas.List.{append_assoc, append-nil, length-map}
use Rattle.std.proofs.lemmas.List.Edits.{remove-append_right}
use Rattle.std.proofs.lemmas.List.Elements.{All-head, All-tail}
use Rattle.std.proofs.lemmas.Option.{slice_get-map}
use Rattle.vp_active_events.specs.declared.event.Event.{Event}
use Rattle.vp_active_events.specs.declared.event.Event.TheVariants.{Evaluation, NetUpdate, Nonblocking}
use Rattle.vp_active_events.specs.declared.event.NonblockingUpdate.{NonblockingUpdate}
use Rattle.vp_strata.specs.declared.event.Timed.{Timed}
use Rattle.vp_active_events.specs.Events.{drives, eligible_after, eligible_places, is_eligible, is_nonblocking}
use Rattle.vp_strata.specs.Queues.{Queue, with_active, without}
use Rattle.vp_active_events.specs.Slots.{IsPushed, without_at}
use Rattle.vp_active_events.specs.laws.Choosing.{get_after, oldest}

-- ---- which events are eligible

no_updates : (q : ℕ) (us : List NonblockingUpdate) (older : List Event) → list_any (drives q) (map Nonblocking us ++ older) ≡ list_any (drives q) older
no_updates q [] older = refl
no_updates q (u ∷ us) older = no_updates q us older

eligible_same : (us : List NonblockingUpdate) (older : List Event) (e : Event) → is_nonblocking e ≡ false → is_eligible (map Nonblocking us ++ older) e ≡ is_eligible older e
eligible_same us older (Evaluation q) other = refl
eligible_same us older (NetUpdate q value) other = ap not (no_updates q us older)
eligible_same us older (Nonblocking u) other = absurd cc

map_here : (t : Bool) (f : ℕ → ℕ) (n m : ℕ) (xs ys : List ℕ) → m ≡ f n → xs ≡ map f ys → cond t (m ∷ []) [] ++ xs ≡ map f (cond t (n ∷ []) [] ++ ys)
map_here true f n m xs ys here rest = ap (λ (i : ℕ). i ∷ xs) here ∙ ap (λ (zs : List ℕ). f n ∷ zs) rest
map_here false f n m xs ys here rest = rest

-- events after such updates are eligible as they are without them
after_updates : (us : List NonblockingUpdate) (older es : List Event) → All (λ e. is_nonblocking e ≡ false) es → eligible_after (map Nonblocking us ++ older) es ≡ map (λ n. length us + n) (eligible_after older es)
after_updates us older [] other = refl
after_updates us older (e ∷ es) other =
    let P : Event → Type 0 = λ d. is_nonblocking d ≡ false in
    let front = map Nonblocking us in
    let long : length (front ++ older) ≡ length us + length older = length-append front older ∙ ap (λ (n : ℕ). n + length older) (length-map us Nonblocking) in
    let rest = eligible_after (front ++ older ++ e ∷ []) es in
    ap (λ t. cond t (length (front ++ older) ∷ []) [] ++ rest) (eligible_same us older e (All-head P e es other))
    ∙ map_here (is_eligible older e) (λ n. length us + n) (length older) (length (front ++ older)) rest (eligible_after (older ++ e ∷ []) es) long (
    ap (λ (o : List Event). eligible_after o es) (append_assoc front older (e ∷ [])) ∙ after_updates us (older ++ e ∷ []) es (All-tail P e es other))

eligible-append : (older xs ys : List Event) → eligible_after older (xs ++ ys) ≡ eligible_after older xs ++ eligible_after (older ++ xs) ys
eligible-append older [] ys = ap (λ (o : List Event). eligible_after o ys) (sym (append-nil older))
eligible-append older (x ∷ xs) ys =
    let here = cond (is_eligible older x) (length older ∷ []) [] in
    ap (λ (ps : List ℕ). here ++ ps) (eligible-append (older ++ x ∷ []) xs ys)
    ∙ sym (append_assoc here (eligible_after (older ++ x ∷ []) xs) (eligible_after (older ++ x ∷ [] ++ xs) ys))
    ∙ ap (λ (o : List Event). (here ++ eligible_after (older ++ x ∷ []) xs) ++ eligible_after o ys) (append_assoc older (x ∷ []) xs)

eligible_with : (u : NonblockingUpdate) (us : List NonblockingUpdate) (es : List Event) → All (λ e. is_nonblocking e ≡ false) es → eligible_places (map Nonblocking (u ∷ us) ++ es) ≡ 0 ∷ map (λ n. suc (length us) + n) (eligible_places es)
eligible_with u us es other =
    let front = map Nonblocking (u ∷ us) in
    eligible-append [] front es
    ∙ ap (λ (ps : List ℕ). ps ++ eligible_after front es) (oldest u us)
    ∙ ap (λ (o : List Event). 0 ∷ eligible_after o es) (sym (append-nil front))
    ∙ ap (λ (ps : List ℕ). 0 ∷ ps) (after_updates (u ∷ us) [] es other)

-- how many events are eligible
pub count_with : (us : List NonblockingUpdate) (es : List Event) → All (λ e. is_nonblocking e ≡ false) es → min (length us) 1 + length (eligible_places es) ≡ length (eligible_places (map Nonblocking us ++ es))
count_with [] es other = omega arith
count_with (u ∷ us) es other =
    let all = ap length (eligible_with u us es other) in
    let rest = length-map (eligible_places es) (λ n. suc (length us) + n) in
    omega (arith, all, rest)

-- the k-th but the first
at_with : (us : List NonblockingUpdate) (es : List Event) (k : ℕ) → All (λ e. is_nonblocking e ≡ false) es → 0 < length us → slice_get (eligible_places (map Nonblocking us ++ es)) (suc k) ≡ option_map (λ n. length us + n) (slice_get (eligible_places es) k)
at_with [] es k other some = absurd (omega arith)
at_with (u ∷ us) es k other some =
    ap (λ (ps : List ℕ). slice_get ps (suc k)) (eligible_with u us es other) ∙ slice_get-map (λ n. suc (length us) + n) (eligible_places es) k

get_there : (us : List NonblockingUpdate) (es : List Event) (o : Option ℕ) → option_and_then (slice_get (map Nonblocking us ++ es)) (option_map (λ n. length us + n) o) ≡ option_and_then (slice_get es) o
get_there us es None = refl
get_there us es (Some n) =
    get_after (map Nonblocking us) es (length us + n) n (ap (λ (m : ℕ). m + n) (sym (length-map us Nonblocking)))

pub peeked_with : (us : List NonblockingUpdate) (es : List Event) (k : ℕ) → All (λ e. is_nonblocking e ≡ false) es → 0 < length us → 0 < k
    → option_and_then (slice_get es) (slice_get (eligible_places es) (k - 1)) ≡ option_and_then (slice_get (map Nonblocking us ++ es)) (slice_get (eligible_places (map Nonblocking us ++ es)) k)
peeked_with us es k other some more =
    let back : suc (k - 1) ≡ k = omega (arith, more) in
    sym (
    ap (λ (n : ℕ). option_and_then (slice_get (map Nonblocking us ++ es)) (slice_get (eligible_places (map Nonblocking us ++ es)) n)) (sym back)
    ∙ ap (option_and_then (slice_get (map Nonblocking us ++ es))) (at_with us es (k - 1) other some)
    ∙ get_there us es (slice_get (eligible_places es) (k - 1)))

-- ---- an event is over

remove_there : (us : List NonblockingUpdate) (es : List Event) (o : Option ℕ) → without_at (option_map (λ n. length us + n) o) (map Nonblocking us ++ es) ≡ map Nonblocking us ++ without_at o es
remove_there us es None = refl
remove_there us es (Some n) =
    let front = map Nonblocking us in
    let long : length front ≡ length us = length-map us Nonblocking in
    let at : length us + n - length us ≡ n = omega arith in
    remove-append_right front es (length us) (length us + n) long (omega arith) ∙ ap (λ (m : ℕ). front ++ remove es m) at

with_place : (q : Queue) (o : Option ℕ) → without q o ≡ with_active q (without_at o q.active)
with_place q None = refl
with_place q (Some place) = refl

pub taken_with : (q : Queue) (us : List NonblockingUpdate) (es : List Event) (k : ℕ) → q.active ≡ map Nonblocking us ++ es → All (λ e. is_nonblocking e ≡ false) es → 0 < length us → 0 < k
    → with_active q (map Nonblocking us ++ without_at (slice_get (eligible_places es) (k - 1)) es) ≡ without q (slice_get (eligible_places q.active) k)
taken_with q us es k is other some more =
    let back : suc (k - 1) ≡ k = omega (arith, more) in
    let all = map Nonblocking us ++ es in
    sym (
    with_place q (slice_get (eligible_places q.active) k)
    ∙ ap (λ (xs : List Event). with_active q (without_at (slice_get (eligible_places xs) k) xs)) is
    ∙ ap (λ (n : ℕ). with_active q (without_at (slice_get (eligible_places all) n) all)) (sym back)
    ∙ ap (λ (o : Option ℕ). with_active q (without_at o all)) (at_with us es (k - 1) other some)
    ∙ ap (with_active q) (remove_there us es (slice_get (eligible_places es) (k - 1))))

-- ---- all events in two lists

-- two lists are the same where the events are
pub same_parts : (n m : ℕ) (us vs : List NonblockingUpdate) (xs ys : List Event) → All (λ e. IsPushed n e) xs → All (λ e. IsPushed m e) ys → map Nonblocking us ++ xs ≡ map Nonblocking vs ++ ys → (us ≡ vs) × (xs ≡ ys)
same_parts n m [] [] xs ys a b same = (refl, same)
same_parts n m [] (v ∷ vs) [] ys a b same = absurd cc
same_parts n m [] (v ∷ vs) (x ∷ xs) ys a b same = absurd (pushed x (All-head (λ e. IsPushed n e) x xs a) cc)
  where
    pushed : (e : Event) → IsPushed n e → e ≡ Nonblocking v → ⊥
    pushed (Evaluation q) h is = cc
    pushed (NetUpdate q value) h is = cc
    pushed (Nonblocking u) h is = h
same_parts n m (u ∷ us) [] xs [] a b same = absurd cc
same_parts n m (u ∷ us) [] xs (y ∷ ys) a b same = absurd (pushed y (All-head (λ e. IsPushed m e) y ys b) cc)
  where
    pushed : (e : Event) → IsPushed m e → e ≡ Nonblocking u → ⊥
    pushed (Evaluation q) h is = cc
    pushed (NetUpdate q value) h is = cc
    pushed (Nonblocking t) h is = h
same_parts n m (u ∷ us) (v ∷ vs) xs ys a b same =
    let first : u ≡ v = cc in
    let rest : map Nonblocking us ++ xs ≡ map Nonblocking vs ++ ys = cc in
    let parts = same_parts n m us vs xs ys a b rest in
    let one = parts.0 in
    (cc, parts.1)

-- neither has an event where there is none
pub no_parts : (us : List NonblockingUpdate) (es : List Event) → map Nonblocking us ++ es ≡ [] → (us ≡ []) × (es ≡ [])
no_parts [] es none = (refl, none)
no_parts (u ∷ us) es none = absurd cc

-- queues are the same whose lists are
pub same_queue : (a b : List Event) (i j : List ℕ) (n m : List NonblockingUpdate) (f g : List Timed) → a ≡ b → i ≡ j → n ≡ m → f ≡ g
    → ◌≡◌ {A = Queue} (record { active = a; inactive = i; nonblocking = n; future = f }) (record { active = b; inactive = j; nonblocking = m; future = g })
same_queue a b i j n m f g p q r s =
    ap (λ (x : List Event). record { active = x; inactive = i; nonblocking = n; future = f }) p
    ∙ ap (λ (x : List ℕ). record { active = b; inactive = x; nonblocking = n; future = f }) q
    ∙ ap (λ (x : List NonblockingUpdate). record { active = b; inactive = j; nonblocking = x; future = f }) r
    ∙ ap (λ (x : List Timed). record { active = b; inactive = j; nonblocking = m; future = x }) s
