-- Future events that happen, one after another.
use Rattle.std.proofs.Common.{◌≡◌, ◌∙◌, ℕ, zero, suc, ◌+◌, ◌<◌, ◌≤◌, not, List, [], ◌∷◌, ◌++◌, Option, Some, None, IfNone, IfSome, ap, sym, arith, filter, length, map, take, drop, get_or, refl}
use Rattle.std.specs.Prelude.{slice_get}
use Rattle.std.specs.List.{fold}
use Rattle.std.proofs.lemmas.List.{drop-drop, map_push, take_more}
use Rattle.std.proofs.lemmas.List.Sums.{fold_push}
use Rattle.vp_strata.specs.declared.event.Delayed.{Delayed}
use Rattle.vp_strata.specs.declared.event.Delayed.TheVariants as later
use Rattle.vp_strata.specs.declared.event.Timed.{Timed}
use Rattle.vp_strata.specs.Queues.{Queue, advanced, first_time, is_at, moved, put_in, with_future}

-- what happens leaves the future events alone
put_and_future : (q : Queue) (future : List Timed) (e : Delayed) → put_in (with_future q future) e ≡ with_future (put_in q e) future
put_and_future q future (later.Evaluation process) = refl
put_and_future q future (later.Nonblocking update) = refl

-- the queue after the first of its future events, so many
abbrev pub queue_after : Queue → ℕ → Queue
queue_after q count =
    with_future (fold put_in q (map (λ (e : Timed). e.event) (take count q.future))) (drop count q.future)

-- one more happens
pub one_more : (q : Queue) (count : ℕ) (e : Timed) → count < length q.future → get_or q.future count e ≡ e → put_in (with_future (queue_after q count) (drop (count + 1) q.future)) e.event ≡ queue_after q (count + 1)
one_more q count e within here =
    put_and_future (fold put_in q (map (λ (e : Timed). e.event) (take count q.future))) (drop (count + 1) q.future) e.event
    ∙ ap (λ q2. with_future q2 (drop (count + 1) q.future))
    (sym
    (ap (λ es. fold put_in q (map (λ (e : Timed). e.event) es)) (take_more q.future count e within ∙ ap (λ x. take count q.future ++ x ∷ []) here)
    ∙ ap (fold put_in q) (map_push (λ (e : Timed). e.event) (take count q.future) e)
    ∙ fold_push put_in q (map (λ (e : Timed). e.event) (take count q.future)) e.event))

-- the first of what is left after so many stands after those
first_left : (es : List Timed) (count : ℕ) (e : Timed) → slice_get (drop count es) 0 ≡ Some e → (count < length es) × (get_or es count e ≡ e)
first_left [] zero e h = absurd cc
first_left [] (suc count) e h = absurd cc
first_left (x ∷ es) zero e h = (omega arith, cc)
first_left (x ∷ es) (suc count) e h = let rest = first_left es count e h in (omega (arith, rest.0), rest.1)

-- one more happens, that which is now first
pub next_one : (q now : Queue) (count : ℕ) (e : Timed) → now ≡ queue_after q count → slice_get now.future 0 ≡ Some e → put_in (with_future now (drop 1 now.future)) e.event ≡ queue_after q (count + 1)
next_one q now count e so first =
    let here = first_left q.future count e (sym (ap (λ (n : Queue). slice_get n.future 0) so) ∙ first) in
    ap (λ (n : Queue). put_in (with_future n (drop 1 n.future)) e.event) so
    ∙ ap (λ es. put_in (with_future (queue_after q count) es) e.event) (drop-drop 1 count q.future)
    ∙ one_more q count e here.0 here.1

none_at_end : (es : List Timed) (count : ℕ) → slice_get (drop count es) 0 ≡ None → length es ≤ count
none_at_end [] count h = omega arith
none_at_end (x ∷ es) zero h = absurd cc
none_at_end (x ∷ es) (suc count) h = let rest = none_at_end es count h in omega (arith, rest)

-- where there is no first, all have happened
pub none_left : (q now : Queue) (count : ℕ) → now ≡ queue_after q count → slice_get now.future 0 ≡ None → length q.future ≤ count
none_left q now count so none = none_at_end q.future count (sym (ap (λ (n : Queue). slice_get n.future 0) so) ∙ none)

arrived_at : (q : Queue) (count : ℕ) (first : Option ℕ) → first_time q.future ≡ first → IfSome first (λ time. take count q.future ≡ filter (is_at time) q.future) → IfSome first (λ time. drop count q.future ≡ filter (λ e. not (is_at time e)) q.future) → IfNone first (count ≡ 0) → queue_after q count ≡ moved q first
arrived_at q count None is kept left none = ap (queue_after q) none
arrived_at q count (Some time) is kept left none =
    ap (λ es. with_future (fold put_in q (map (λ (e : Timed). e.event) es)) (drop count q.future)) kept
    ∙ ap (with_future (fold put_in q (map (λ (e : Timed). e.event) (filter (is_at time) q.future)))) left

-- after all events of the first time, the time is that
pub arrived : (q : Queue) (count : ℕ) → IfSome (first_time q.future) (λ time. take count q.future ≡ filter (is_at time) q.future) → IfSome (first_time q.future) (λ time. drop count q.future ≡ filter (λ e. not (is_at time e)) q.future) → IfNone (first_time q.future) (count ≡ 0) → queue_after q count ≡ advanced q
arrived q count kept left none = arrived_at q count (first_time q.future) refl kept left none
