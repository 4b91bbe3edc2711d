use Rattle.std.proofs.Common.{rules, ◌≡◌, ◌∙◌, ap, arith, length, Some, None}
use Rattle.std.specs.Prelude.{slice_get}
use Rattle.vp_strata.specs.Queues.{Regions, put_in}
use Rattle.vp_strata.proofs.Moving.{next_one, none_left}
use Rattle.vp_strata.proofs.strata.Strata.advance.Goals.{in-Some+in_ok-put, in_default}
use Rattle.vp_strata.proofs.strata.Strata.advance.Goals as goal

pub loop-preserved : goal.loop-preserved
loop-preserved c =
    let q = c.args.self.now.queue in
    elim c.match-pop_future.branch [
      | in-Some+in_ok-put w ↦
          (let first : slice_get c.loop.self.queue.future 0 ≡ Some w.in-Some.event = search rules in
          record {
            queue =
                ap (λ (s : Regions). s.queue) w.self-is ∙ w.put.ensures.queue
                ∙ ap (λ n. put_in n w.in-Some.event.event) c.pop_future.ensures.queue
                ∙ next_one q c.loop.self.queue c.loop.counter w.in-Some.event c.loop.invariant.queue first;
            room = search rules;
            processes = search rules;
          })
      | in_default w ↦
          (let none : slice_get c.loop.self.queue.future 0 ≡ None = search rules in
          let all = none_left q c.loop.self.queue c.loop.counter c.loop.invariant.queue none in
          let long = ap (λ (s : Regions). length s.queue.future) c.self.view_is in
          absurd (omega (arith, all, long)))
    ]
