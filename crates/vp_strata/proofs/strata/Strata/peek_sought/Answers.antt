use Rattle.std.proofs.Common.{rules, ◌≡◌, ◌∙◌, ◌<◌, None, Some, ap, arith, length, sym}
use Rattle.std.specs.Prelude.{option_map, slice_get}
use Rattle.std.proofs.lemmas.Grind.{common_steps}
use Rattle.std.proofs.lemmas.Option.{gets, slice_get_past}
use Rattle.vp_active_events.specs.declared.event.Event.TheVariants.{Evaluation}
use Rattle.vp_strata.specs.Queues.{Regions}
use Rattle.vp_strata.proofs.Ready.{inactive_peeked, nonblocking_peeked}
use Rattle.vp_strata.proofs.strata.Strata.peek_sought.Goals as goal

pub returns-in_err-process : goal.returns-in_err-process
returns-in_err-process c =
    let q = c.args.self.now.queue in
    let none : length q.active ≡ 0 = search rules in
    let some : 0 < length q.inactive = search rules in
    let long = ap (λ (s : Regions). length s.queue.inactive) c.self.view_is in
    let here : slice_get q.inactive c.args.k ≡ None = slice_get_past q.inactive c.args.k (grind (arith, common_steps, c.in_err-process.ensures.variant, long)) in
    c.from_residual.ensures ∙ sym (inactive_peeked q c.args.k none some ∙ ap (option_map Evaluation) here)

pub returns-then-not-is_empty : goal.returns-then-not-is_empty
returns-then-not-is_empty c =
    let q = c.args.self.now.queue in
    let none : length q.active ≡ 0 = search rules in
    let some : 0 < length q.inactive = search rules in
    let here : slice_get q.inactive c.args.k ≡ Some c.in_ok-process.field-0.now = grind (arith, common_steps, gets) in
    sym (inactive_peeked q c.args.k none some ∙ ap (option_map Evaluation) here)

pub returns-then-k-gt0 : goal.returns-then-k-gt0
returns-then-k-gt0 c =
    let q = c.args.self.now.queue in
    let none : length q.active ≡ 0 = search rules in
    let idle : length q.inactive ≡ 0 = search rules in
    sym (nonblocking_peeked q c.args.k none idle (omega arith))
