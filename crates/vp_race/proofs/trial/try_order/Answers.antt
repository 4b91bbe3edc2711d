use Rattle.std.proofs.Common.{◌≡◌, ◌∙◌, ◌+◌, ◌-◌, ◌≤◌, ◌<◌, [], ℕ, Bool, true, false, if◌then◌else◌, List, Option, Some, None, Result, Ok, Err, ap, arith, length, refl, replicate, subst, sym}
use Rattle.std.specs.Prelude.{OnOk, is_err, nat_lt}
use Rattle.std.proofs.lemmas.Bool.{ltb-false, ltb-true}
use Rattle.std.proofs.lemmas.List.{append-nil}
use Rattle.vp_elab.specs.declared.object.ObjectId.{ObjectId}
use Rattle.vp_sim.specs.States.{State}
use Rattle.vp_race.specs.Orders.{after_choices, sources_of}
use Rattle.vp_race.specs.Recording.{BeginsWith, Chosen}
use Rattle.vp_race.specs.Search.{number_after, tried, tried_after, tried_from}
use Rattle.vp_race.proofs.Forcing.{forced_beyond, forced_sources, forced_tried, zeros}
use Rattle.vp_race.proofs.Standing.{zeros_lead}
use Rattle.vp_race.proofs.trial.try_order.Goals as goal

below_by : (b : Bool) (m n : ℕ) → nat_lt m n ≡ b → (n ≤ m → ⊥) → m < n
below_by true m n h other = ltb-true m n h
below_by false m n h other = absurd (other (ltb-false m n h))

-- what holds of what is no error
met : {X Y : Type 0} (P : Type 0) (r : Result X Y) → is_err r ≡ false → OnOk r P → P
met P (Ok x) fine h = h
met P (Err e) fine h = cc

pub returns-in_default-clause-tried : goal.returns-in_default-clause-tried
returns-in_default-clause-tried c start begins =
    let k = c.args.choice.now in
    let other = λ (le : length k.sources ≤ c.args.limit). c.in_default.ensures {u = tt} (subst (λ n. n ≤ c.args.limit) (sym (ap length c.sources-forced.ensures)) le) in
    forced_beyond c.args.limit k.sources c.args.seed c.args.seed (Some start) k.state begins.forced
    (below_by (nat_lt c.args.limit (length k.sources)) c.args.limit (length k.sources) refl other)

-- what is tried from the start on, where these are the choices, the number and the state from which it was tried
from_start :
    (start : State) (k : Chosen) (limit left seed number : ℕ) (choices : List ℕ) (s : State) (all : Option (List ℕ)) → BeginsWith start k → limit ≡ length k.sources + left
    → choices ≡ zeros k.sources → number ≡ number_after (length k.sources) seed → s ≡ k.state → tried_after choices (tried_from left seed number (Some s)) ≡ all → tried start limit seed ≡ all
from_start start k limit left seed number choices s all begins is items numbers at h =
    forced_tried k.sources left seed seed limit (Some start) k.state is begins.forced
    ∙ sym (ap (λ xs. tried_after xs (tried_from left seed number (Some s))) items
    ∙ ap (λ m. tried_after (zeros k.sources) (tried_from left seed m (Some s))) numbers
    ∙ ap (λ (x : State). tried_after (zeros k.sources) (tried_from left seed (number_after (length k.sources) seed) (Some x))) at)
    ∙ h

pub returns-then-not-branch-clause-tried : goal.returns-then-not-branch-clause-tried
returns-then-not-branch-clause-tried c start begins =
    let k = c.args.choice.now in
    let count = ap length c.sources-forced.ensures in
    let e = c.in-Some.ensures {u = tt} in
    let at = met (c.restore.new.self ≡ c.state.result.now) c.restore.result (sym c.is_err.ensures.value ∙ c.if-is_err.false) c.restore.ensures.ok ∙ c.state.ensures in
    from_start start k c.args.limit c.in-Some.limit c.args.seed c.number_after-number.result c.in_ok-vec.field-0.items c.restore.new.self None begins
    (omega (arith, e.0, e.1, count)) ((c.in_ok-vec.ensures {u = tt}).items_if_clones_equal (λ y h. h) ∙ ap (λ n. replicate n 0) count)
    (c.number_after-number.ensures ∙ ap (λ n. number_after n c.args.seed) count) at
    ((c.in_ok-try_into.ensures {u = tt}).tried ∙ ap (λ b. if b then Some c.try_into.new.order.choices.items else None) c.if-not-branch.true)

pub returns-clause-tried : goal.returns-clause-tried
returns-clause-tried c start begins =
    let k = c.args.choice.now in
    let count = ap length c.sources-forced.ensures in
    let e = c.in-Some.ensures {u = tt} in
    let at = met (c.restore.new.self ≡ c.state.result.now) c.restore.result (sym c.is_err.ensures.value ∙ c.if-is_err.false) c.restore.ensures.ok ∙ c.state.ensures in
    from_start start k c.args.limit c.in-Some.limit c.args.seed c.number_after-number.result c.in_ok-vec.field-0.items c.restore.new.self (Some c.try_into.new.order.choices.items) begins
    (omega (arith, e.0, e.1, count)) ((c.in_ok-vec.ensures {u = tt}).items_if_clones_equal (λ y h. h) ∙ ap (λ n. replicate n 0) count)
    (c.number_after-number.ensures ∙ ap (λ n. number_after n c.args.seed) count) at
    ((c.in_ok-try_into.ensures {u = tt}).tried ∙ ap (λ b. if b then Some c.try_into.new.order.choices.items else None) c.if-not-branch.false)

pub returns-clause-order : goal.returns-clause-order
returns-clause-order c start begins =
    let k = c.args.choice.now in
    let count = ap length c.sources-forced.ensures in
    let at = met (c.restore.new.self ≡ c.state.result.now) c.restore.result (sym c.is_err.ensures.value ∙ c.if-is_err.false) c.restore.ensures.ok ∙ c.state.ensures in
    let items : c.in_ok-vec.field-0.items ≡ zeros k.sources = (c.in_ok-vec.ensures {u = tt}).items_if_clones_equal (λ y h. h) ∙ ap (λ n. replicate n 0) count in
    (c.in_ok-try_into.ensures {u = tt}).order c.if-not-branch.false start
    (ap (after_choices start) items ∙ zeros_lead (Some start) k.sources k.state begins.forced ∙ ap (λ (s : State). Some s) (sym at))

zeros_sources : (start : State) (k : Chosen) → BeginsWith start k → sources_of start (zeros k.sources) ≡ k.sources
zeros_sources start k begins =
    ap (sources_of start) (sym (append-nil (zeros k.sources))) ∙ forced_sources (Some start) k.sources k.state [] begins.forced ∙ append-nil k.sources

pub returns-clause-sources : goal.returns-clause-sources
returns-clause-sources c start begins =
    let k = c.args.choice.now in
    let count = ap length c.sources-forced.ensures in
    let at = met (c.restore.new.self ≡ c.state.result.now) c.restore.result (sym c.is_err.ensures.value ∙ c.if-is_err.false) c.restore.ensures.ok ∙ c.state.ensures in
    let items : c.in_ok-vec.field-0.items ≡ zeros k.sources = (c.in_ok-vec.ensures {u = tt}).items_if_clones_equal (λ y h. h) ∙ ap (λ n. replicate n 0) count in
    let from : c.in_ok-from_slice.field-0.items ≡ sources_of start c.in_ok-vec.field-0.items =
    (c.in_ok-from_slice.ensures {u = tt}).items ∙ c.sources.ensures ∙ sym (zeros_sources start k begins) ∙ ap (sources_of start) (sym items) in
    (c.in_ok-try_into.ensures {u = tt}).sources c.if-not-branch.false start
    (ap (after_choices start) items ∙ zeros_lead (Some start) k.sources k.state begins.forced ∙ ap (λ (s : State). Some s) (sym at)) from
