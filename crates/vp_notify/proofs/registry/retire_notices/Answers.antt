use Rattle.std.proofs.Common.{◌≡◌, ◌∙◌, ◌+◌, ◌-◌, ℕ, suc, Bool, Option, true, false, Some, not, ap, refl, subst, sym, length, arith, rules}
use Rattle.circular_buffer.specs.Buffer.{Buffer}
use Rattle.vp_notify.specs.declared.notice.Notice.{Notice}
use Rattle.vp_notify.specs.Registry.{is_unwatchable}
use Rattle.vp_notify.proofs.Retiring.{Retires, begun, ended, goes, if_kept, kept_are, kept_if, there, turns}
use Rattle.vp_notify.proofs.registry.retire_notices.Goals.{in-Some+then-not-is_unwatchable, in-Some+else-not-is_unwatchable, in_default}
use Rattle.vp_notify.proofs.registry.retire_notices.Goals as goal

pub loop-turn-init : goal.loop-turn-init
loop-turn-init c =
    let keeps : Notice → Bool = λ n. not (is_unwatchable c.args.rights.now n.object.0) in
    let each : Notice → Option Notice = if_kept keeps in
    let before = c.args.waiting.now in
    let whole : Retires each before before (length before.items) = record {
      retiring = begun each before.items;
      capacity = refl;
      room = omega arith;
    } in
    let all : length before.items ≡ c.len-turn-end.result - 0 = omega arith in
    subst (Retires each before before) all whole

pub loop-turn-preserved : goal.loop-turn-preserved
loop-turn-preserved c =
    let keeps : Notice → Bool = λ n. not (is_unwatchable c.args.rights.now n.object.0) in
    let each : Notice → Option Notice = if_kept keeps in
    let before = c.args.waiting.now in
    let now = c.loop-turn.waiting in
    let count : ℕ = c.len-turn-end.result - c.loop-turn._turn in
    let next : ℕ = c.len-turn-end.result - (c.loop-turn._turn + 1) in
    let one : count ≡ suc next = omega arith in
    elim c.match-pop_front.branch [
      | in-Some+then-not-is_unwatchable w ↦
          subst (λ (b : Buffer Notice). Retires each before b next) (sym w.waiting-is)
          (turns each before now c.pop_front.new.self w.push_back.new.self count next w.in-Some.notice w.in-Some.notice one c.loop-turn.invariant (sym c.pop_front.ensures.value ∙ w.in-Some.is) c.pop_front.ensures.items w.push_back.ensures.items (let h : keeps w.in-Some.notice ≡ true = search rules in ap (λ (b : Bool). kept_if b w.in-Some.notice) h))
      | in-Some+else-not-is_unwatchable w ↦
          subst (λ (b : Buffer Notice). Retires each before b next) (sym w.waiting-is)
          (goes each before now c.pop_front.new.self count next w.in-Some.notice one c.loop-turn.invariant (sym c.pop_front.ensures.value ∙ w.in-Some.is) c.pop_front.ensures.items (let h : keeps w.in-Some.notice ≡ false = search rules in ap (λ (b : Bool). kept_if b w.in-Some.notice) h))
      | in_default w ↦ absurd (there each before.items now.items count next one c.loop-turn.invariant.retiring (sym c.pop_front.ensures.value ∙ w.in_default.is))
    ]

pub returns-clause-waiting : goal.returns-clause-waiting
returns-clause-waiting c =
    let keeps : Notice → Bool = λ n. not (is_unwatchable c.args.rights.now n.object.0) in
    let each : Notice → Option Notice = if_kept keeps in
    let none : c.len-turn-end.result - c.loop-turn._turn ≡ 0 = omega arith in
    ended each c.args.waiting.now.items c.loop-turn.waiting.items (c.len-turn-end.result - c.loop-turn._turn) none c.loop-turn.invariant.retiring ∙ kept_are keeps c.args.waiting.now.items
