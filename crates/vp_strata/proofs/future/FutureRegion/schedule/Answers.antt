use Rattle.std.proofs.Common.{◌≡◌, ◌∙◌, ◌≤◌, ℕ, List, ap, arith, insert, length, subst, sym}
use Rattle.std.proofs.lemmas.List.Edits.{insert_end, length-insert}
use Rattle.vp_strata.specs.declared.event.Timed.{Timed}
use Rattle.vp_strata.specs.declared.future.FutureRegion.TheInside.{Inside}
use Rattle.vp_text.specs.Lists.{joined}
use Rattle.vp_strata.specs.Chunks.{position}
use Rattle.vp_strata.specs.Queues.{AreOrdered, scheduled}
use Rattle.vp_strata.proofs.Found.{position_all, position_fits}
use Rattle.vp_strata.proofs.Times.{ordered_with, scheduled_at}
use Rattle.vp_strata.proofs.future.FutureRegion.schedule.Goals.{then-number-len+in_ok-insert, else-number-len+in_ok-push}
use Rattle.vp_strata.proofs.future.FutureRegion.schedule.Goals as goal

-- the event is inserted where it is to stand
inserted : (c : goal.After-self-1) → joined c.if-number-len.self-inside.chunks ≡ insert (joined c.self.inside.chunks) (position c.self.inside.chunks c.find-number.result.0 c.find-number.result.1) (record { time = c.args.time; event = c.args.event })
inserted c =
    let ls = c.self.inside.chunks in
    let e : Timed = record { time = c.args.time; event = c.args.event } in
    let number = c.find-number.result.0 in
    let found = c.find-number.ensures in
    elim c.if-number-len.branch [
      | then-number-len+in_ok-insert w ↦ ap (λ (s : Inside). joined s.chunks) w.self-inside-is ∙ (w.in_ok-insert.ensures {u = tt}).inserted
      | else-number-len+in_ok-push w ↦
          (let past : length ls ≤ number = omega (arith, w.if-number-len.false, c.len.ensures) in
          let all = position_all ls number c.find-number.result.1 (omega (arith, past, found.number)) (found.last past) in
          ap (λ (s : Inside). joined s.chunks) w.self-inside-is
          ∙ (w.in_ok-push.ensures {u = tt}).pushed
          ∙ sym (insert_end (joined ls) e)
          ∙ ap (λ (n : ℕ). insert (joined ls) n e) (sym all))
    ]

pub invariant_of-self-2 : goal.invariant_of-self-2
invariant_of-self-2 c =
    let ls = c.self.inside.chunks in
    let e : Timed = record { time = c.args.time; event = c.args.event } in
    let at = position ls c.find-number.result.0 c.find-number.result.1 in
    let found = c.find-number.ensures in
    let fits = position_fits ls c.find-number.result.0 c.find-number.result.1 found.number found.within found.last in
    let P : List Timed → Type 0 = AreOrdered in (
      omega (arith, c.in-Some.ensures {u = tt}, c.self.invariant.0, ap length (inserted c), length-insert (joined ls) at e fits),
      subst P (sym (inserted c)) (ordered_with (joined ls) at e c.self.invariant.1 fits found.parted.0 found.parted.1),
    )

pub returns-clause-scheduled : goal.returns-clause-scheduled
returns-clause-scheduled c =
    let ls = c.self.inside.chunks in
    let e : Timed = record { time = c.args.time; event = c.args.event } in
    let found = c.find-number.ensures in
    let fits = position_fits ls c.find-number.result.0 c.find-number.result.1 found.number found.within found.last in
    inserted c
    ∙ scheduled_at (joined ls) (position ls c.find-number.result.0 c.find-number.result.1) e found.parted.0 found.parted.1 fits
    ∙ ap (scheduled e) c.self.view_is
