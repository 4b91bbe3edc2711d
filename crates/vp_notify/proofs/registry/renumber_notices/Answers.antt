use Rattle.std.proofs.Common.{◌≡◌, ◌∙◌, ◌+◌, ◌-◌, ℕ, suc, Option, Some, ap, refl, subst, sym, length, arith, rules}
use Rattle.circular_buffer.specs.Buffer.{Buffer}
use Rattle.vp_notify.specs.declared.notice.Notice.{Notice}
use Rattle.vp_notify.specs.Renumbered.{moved_notice, number_now}
use Rattle.vp_notify.proofs.Retiring.{Retires, all_become, begun, ended, there, turns}
use Rattle.vp_notify.proofs.registry.renumber_notices.Goals.{in-Some, in_default}
use Rattle.vp_notify.proofs.registry.renumber_notices.Goals as goal

pub loop-turn-init : goal.loop-turn-init
loop-turn-init c =
    let each : Notice → Option Notice = λ n. Some (moved_notice (number_now c.args.numbers.now) n) in
    let before = c.args.waiting.now in
    let whole : Retires each before before (length before.items) = record {
      retiring = begun each before.items;
      capacity = refl;
      room = omega arith;
    } in
    let all : length before.items ≡ c.len-turn-end.result - 0 = omega arith in
    subst (Retires each before before) all whole

pub loop-turn-preserved : goal.loop-turn-preserved
loop-turn-preserved c =
    let each : Notice → Option Notice = λ n. Some (moved_notice (number_now c.args.numbers.now) n) in
    let before = c.args.waiting.now in
    let now = c.loop-turn.waiting in
    let count : ℕ = c.len-turn-end.result - c.loop-turn._turn in
    let next : ℕ = c.len-turn-end.result - (c.loop-turn._turn + 1) in
    let one : count ≡ suc next = omega arith in
    elim c.match-pop_front.branch [
      | in-Some w ↦
          let n = w.in-Some.notice in
          let new : Notice = record { callback = n.callback; object = w.number_now-notice.result; time = n.time; value = n.value } in
          let becomes : each n ≡ Some new = ap (λ (o : ℕ). (let m : Notice = record { callback = n.callback; object = record { 0 = o }; time = n.time; value = n.value } in Some m)) (sym w.number_now-notice.ensures) in
          subst (λ (b : Buffer Notice). Retires each before b next) (sym w.waiting-is)
          (turns each before now c.pop_front.new.self w.push_back.new.self count next n new one c.loop-turn.invariant (sym c.pop_front.ensures.value ∙ w.in-Some.is) c.pop_front.ensures.items w.push_back.ensures.items becomes)
      | in_default w ↦ absurd (there each before.items now.items count next one c.loop-turn.invariant.retiring (sym c.pop_front.ensures.value ∙ w.in_default.is))
    ]

pub returns-clause-waiting : goal.returns-clause-waiting
returns-clause-waiting c =
    let f : Notice → Notice = moved_notice (number_now c.args.numbers.now) in
    let none : c.len-turn-end.result - c.loop-turn._turn ≡ 0 = omega arith in
    ended (λ n. Some (f n)) c.args.waiting.now.items c.loop-turn.waiting.items (c.len-turn-end.result - c.loop-turn._turn) none c.loop-turn.invariant.retiring
    ∙ all_become f c.args.waiting.now.items
